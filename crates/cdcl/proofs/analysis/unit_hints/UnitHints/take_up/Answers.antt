use Rattle.std.proofs.Common.{◌≡◌, ◌∙◌, ◌<◌, ◌++◌, ◌∷◌, [], List, ℕ, Option, Some, None, is_some, length, slice_get, take, ap, sym, eqb-true, eq-eqb, nat_eq, arith}
use Rattle.theory.specs.Trails.{Entry}
use Rattle.theory.specs.Literals.{without}
use Rattle.theory.specs.Propagation.{clause_at}
use Rattle.theory.specs.Units.{wide_reason, unit_line}
use Rattle.theory.proofs.literals.LiteralSets.{true_false}
use Rattle.cdcl.specs.Numbers.{is_one_of}
use Rattle.cdcl.specs.Units.{is_against, reasons_at}
use Rattle.cdcl.proofs.BelowLemmas.{entry-reason}
use Rattle.cdcl.proofs.PlaceLemmas.{placed-there, entry-read}
use Rattle.cdcl.proofs.SeenLemmas.{All-one_of}
use Rattle.cdcl.proofs.UnitPlaces.{no-places, reason-whole, against-inside, empty-narrow, filled-wide, hints-gathered}
use Rattle.cdcl.proofs.analysis.unit_hints.UnitHints.take_up.Goals as goal

-- what was read is the entry at the place
entry-is : (c : goal.After-take_places-arg-1) (e : Entry) → slice_get c.args.kernel.now.trail c.args.place ≡ Some e → c.index-trail-place.result ≡ e
entry-is c e at = entry-read c.args.kernel.now.trail c.trail.result.now c.args.place c.index-trail-place.result e c.trail.ensures.trail c.index-trail-place.is at

pub take_places-requires-clause-number : goal.take_places-requires-clause-number
take_places-requires-clause-number c =
    let k = c.args.kernel.now in
    let there = placed-there k.trail c.args.place c.requires in
    let reason : there.0.reason ≡ Some c.in-Some.number = sym (ap (λ (x : Entry). x.reason) (c.entry.view_is ∙ entry-is c there.0 there.1)) ∙ c.in-Some.is in
    (entry-reason k c.args.place there.0 c.in-Some.number c.trail.ensures.lawful there.1 reason).numbered

pub take_places-requires-clause-others : goal.take_places-requires-clause-others
take_places-requires-clause-others c =
    let k = c.args.kernel.now in
    let there = placed-there k.trail c.args.place c.requires in
    let reason : there.0.reason ≡ Some c.in-Some.number = sym (ap (λ (x : Entry). x.reason) (c.entry.view_is ∙ entry-is c there.0 there.1)) ∙ c.in-Some.is in
    let lit : c.entry.inside.lit ≡ there.0.lit = ap (λ (x : Entry). x.lit) (c.entry.view_is ∙ entry-is c there.0 there.1) in
    rw lit (reason-whole k.clauses k.trail c.args.place there.0.lit c.in-Some.number (entry-reason k c.args.place there.0 c.in-Some.number c.trail.ensures.lawful there.1 reason)).others

pub put_reasons-requires : goal.put_reasons-requires
put_reasons-requires c =
    let T = c.args.kernel.now.trail in
    rw c.deref.ensures.value (All-one_of (λ p. p < length T) c.take_places.new.self.places.items (λ p t. against-inside _ T p (sym (c.in_ok-take_places.ensures.places p) ∙ t)))

-- a reason without other literals
narrow : (c : goal.Then-is_empty) (e : Entry) → slice_get c.args.kernel.now.trail c.args.place ≡ Some e → wide_reason c.args.kernel.now.clauses e.reason ≡ None
narrow c e at =
    let k = c.args.kernel.now in
    let one : c.index-trail-place.result ≡ e = entry-read k.trail c.trail.result.now c.args.place c.index-trail-place.result e c.trail.ensures.trail c.index-trail-place.is at in
    let reason : e.reason ≡ Some c.in-Some.number = sym (ap (λ (x : Entry). x.reason) (c.entry.view_is ∙ one)) ∙ c.in-Some.is in
    let lit : c.entry.inside.lit ≡ e.lit = ap (λ (x : Entry). x.lit) (c.entry.view_is ∙ one) in
    let len = eqb-true c.take_places.new.self.places.len 0 (sym c.is_empty.ensures ∙ c.if-is_empty.true) in
    let long = c.take_places.new.self.places.ok.0 in
    let none = no-places c.take_places.new.self.places.items (omega (arith, len, long)) in
    empty-narrow k c.args.place e c.in-Some.number c.take_places.new.self.places.items c.trail.ensures.lawful at reason (rw lit at c.in_ok-take_places.ensures.places) none

pub returns-then-is_empty-clause-wide : goal.returns-then-is_empty-clause-wide
returns-then-is_empty-clause-wide c e at = sym (ap (λ (o : Option ℕ). is_some o) (narrow c e at))

pub returns-then-is_empty-clause-hints : goal.returns-then-is_empty-clause-hints
returns-then-is_empty-clause-hints c e n at wide = let clash : None ≡ Some n = sym (narrow c e at) ∙ wide in absurd (cc)

-- the entry's reason
reason-is : (c : goal.In_ok-put_last) (e : Entry) → slice_get c.args.kernel.now.trail c.args.place ≡ Some e → e.reason ≡ Some c.in-Some.number
reason-is c e at =
    let one : c.index-trail-place.result ≡ e = entry-read c.args.kernel.now.trail c.trail.result.now c.args.place c.index-trail-place.result e c.trail.ensures.trail c.index-trail-place.is at in
    sym (ap (λ (x : Entry). x.reason) (c.entry.view_is ∙ one)) ∙ c.in-Some.is

-- the places of what makes its other literals false
places-are : (c : goal.In_ok-put_last) (e : Entry) → slice_get c.args.kernel.now.trail c.args.place ≡ Some e
    → (q : ℕ) → is_one_of c.take_places.new.self.places.items q ≡ is_against (without (clause_at c.args.kernel.now.clauses c.in-Some.number) e.lit) (slice_get c.args.kernel.now.trail q)
places-are c e at =
    let one : c.index-trail-place.result ≡ e = entry-read c.args.kernel.now.trail c.trail.result.now c.args.place c.index-trail-place.result e c.trail.ensures.trail c.index-trail-place.is at in
    let lit : c.entry.inside.lit ≡ e.lit = ap (λ (x : Entry). x.lit) (c.entry.view_is ∙ one) in
    rw lit at c.in_ok-take_places.ensures.places

wide-is : (c : goal.In_ok-put_last) (e : Entry) → slice_get c.args.kernel.now.trail c.args.place ≡ Some e → wide_reason c.args.kernel.now.clauses e.reason ≡ Some c.in-Some.number
wide-is c e at =
    filled-wide c.args.kernel.now c.args.place e c.in-Some.number c.take_places.new.self.places.items c.trail.ensures.lawful at (reason-is c e at) (places-are c e at)
    (λ none. (let long = c.take_places.new.self.places.ok.0 in let zero = ap (λ (ns : List ℕ). length ns) none in
    true_false (nat_eq c.take_places.new.self.places.len 0) (eq-eqb c.take_places.new.self.places.len 0 (omega (arith, long, zero))) (sym c.is_empty.ensures ∙ c.if-is_empty.false)))

pub returns-clause-wide : goal.returns-clause-wide
returns-clause-wide c e at = sym (ap (λ (o : Option ℕ). is_some o) (wide-is c e at))

pub returns-clause-reason : goal.returns-clause-reason
returns-clause-reason c is e at = ap (λ (o : Option ℕ). is_some o) (reason-is c e at)

pub returns-clause-hints : goal.returns-clause-hints
returns-clause-hints c e n at wide =
    let k = c.args.kernel.now in
    let m = c.in-Some.number in
    let one : Some m ≡ Some n = sym (wide-is c e at) ∙ wide in
    let same : m ≡ n = cc in
    let hints : c.put_last.new.items.items ≡ reasons_at k.trail c.take_places.new.self.places.items ++ m ∷ []
    = c.in_ok-put_last.ensures.ok
    ∙ ap (λ (ns : List ℕ). ns ++ m ∷ [])
    (c.in_ok-put_reasons.ensures ∙ (ap (λ (ns : List ℕ). ns ++ reasons_at k.trail c.deref.result.now) c.clear.ensures.items ∙ ap (reasons_at k.trail) c.deref.ensures.value)) in
    hints
    ∙ (hints-gathered k c.args.place e m c.take_places.new.self.places.items c.trail.ensures.lawful at (reason-is c e at) c.in_ok-take_places.ensures.rising (places-are c e at)
    ∙ ap (λ j. (unit_line k.clauses (take c.args.place k.trail) e.lit j).hints) same)
