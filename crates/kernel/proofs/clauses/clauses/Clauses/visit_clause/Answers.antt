use Rattle.std.proofs.Common.{◌≡◌, ◌≤◌, ◌<◌, ◌-◌, ◌++◌, ◌∙◌, ℕ, List, [], length, get_or, take, drop, set, refl, ap, sym, subst, arith, rules}
use Rattle.std.specs.Vec.{with_items}
use Rattle.std.proofs.lemmas.List.{with_items_is}
use Rattle.std.proofs.lemmas.List.Sorted.{length_permutation}
use Rattle.theory.specs.Literals.{Literal, Clause}
use Rattle.theory.specs.Trails.{literals}
use Rattle.kernel.specs.Watching.{At}
use Rattle.kernel.specs.Seeing.{CanSee, IsSeen}
use Rattle.cnf.specs.Pieces.{pieces, AreEnds, start_at}
use Rattle.kernel.specs.Shown.{shown}
use Rattle.kernel.proofs.Shown.{length-shown, shown-long, shown-set}
use Rattle.cnf.proofs.Pieces.{length-pieces, part-low, part-high, part-read, part-put, part-length, part-size}
use Rattle.kernel.proofs.Places.{At-get}
use Rattle.kernel.proofs.clauses.clauses.Clauses.visit_clause.Goals as goal

-- there are as many ends as clauses
within : (first : ℕ) (xs : List Literal) (ends : List ℕ) (index : ℕ) (clauses : List Clause) → shown first (pieces 0 xs ends) ≡ clauses → index < length clauses → index < length (pieces 0 xs ends)
within first xs ends index clauses are less = subst (λ n. index < n) (sym (ap length are) ∙ length-shown first (pieces 0 xs ends)) less

among : (first : ℕ) (xs : List Literal) (ends : List ℕ) (index : ℕ) (clauses : List Clause) → shown first (pieces 0 xs ends) ≡ clauses → index < length clauses → index < length ends
among first xs ends index clauses are less = subst (λ n. index < n) (length-pieces 0 xs ends) (within first xs ends index clauses are less)

pub start_of-start-requires : goal.start_of-start-requires
start_of-start-requires c =
    let inside = among _ _ _ c.args.index _ c.self.view_is c.requires.within in
    rw c.deref.ensures.value (omega (arith, inside))

pub index-requires : goal.index-requires
index-requires c =
    let inside = among _ _ _ c.args.index _ c.self.view_is c.requires.within in
    omega (arith, inside, c.self.inside.ends.ok.0)

-- where the literals of the clause begin
start : (c : goal.After-deref_mut) → c.start_of-start.result ≡ start_at 0 c.self.inside.ends.items c.args.index
start c = c.start_of-start.ensures ∙ ap (λ ends. start_at 0 ends c.args.index) c.deref.ensures.value

low : (c : goal.After-deref_mut) → c.start_of-start.result ≤ c.index.result.now
low c = part-low c.self.inside.lits.items c.deref_mut.result.now c.self.inside.ends.items (pieces 0 c.self.inside.lits.items c.self.inside.ends.items) c.args.index c.start_of-start.result c.index.result.now refl c.self.invariant.0 (within _ _ _ c.args.index _ c.self.view_is c.requires.within) c.deref_mut.ensures.value (start c) c.index.ensures

high : (c : goal.After-deref_mut) → c.index.result.now ≤ length c.deref_mut.result.now
high c = rw c.deref_mut.ensures.value (part-high c.self.inside.lits.items c.deref_mut.result.now c.self.inside.ends.items (pieces 0 c.self.inside.lits.items c.self.inside.ends.items) c.args.index c.start_of-start.result c.index.result.now refl c.self.invariant.0 (within _ _ _ c.args.index _ c.self.view_is c.requires.within) c.deref_mut.ensures.value (start c) c.index.ensures)

pub offset_bounds-deref_mut-start : goal.offset_bounds-deref_mut-start
offset_bounds-deref_mut-start c =
    let l = low c in
    let h = high c in
    search rules

pub slice_bounds-visit_literals-count : goal.slice_bounds-visit_literals-count
slice_bounds-visit_literals-count c = low c

pub slice_bounds-visit_literals-start : goal.slice_bounds-visit_literals-start
slice_bounds-visit_literals-start c =
    let l = low c in
    let h = high c in
    search rules

pub slice_bounds-visit_literals-end : goal.slice_bounds-visit_literals-end
slice_bounds-visit_literals-end c =
    let h = high c in
    search rules

pub visit_literals-requires-clause-sees : goal.visit_literals-requires-clause-sees
visit_literals-requires-clause-sees c =
    let first = c.self.inside.first in
    let kept = pieces 0 c.self.inside.lits.items c.self.inside.ends.items in
    let d : Clause = get_or c.args.self.now c.args.index [] in
    let at : At c.args.self.now c.args.index d = At-get c.args.self.now c.args.index [] c.requires.within in
    let raw : At kept c.args.index d = shown-long first c.args.index kept d (subst (λ (K : List Clause). At K c.args.index d) (sym c.self.view_is) at) (c.requires.clause d at).0 in
    let start : c.start_of-start.result ≡ start_at 0 c.self.inside.ends.items c.args.index = c.start_of-start.ensures ∙ ap (λ ends. start_at 0 ends c.args.index) c.deref.ensures.value in
    let read : take (c.index.result.now - c.start_of-start.result) (drop c.start_of-start.result c.deref_mut.result.now) ≡ d = part-read c.self.inside.lits.items c.deref_mut.result.now c.self.inside.ends.items kept c.args.index c.start_of-start.result c.index.result.now refl c.self.invariant.0 raw.0 c.deref_mut.ensures.value start c.index.ensures d raw.1 in
    subst (λ (x : Clause). CanSee c.args.truths.trail.now.vars (literals c.args.truths.trail.now.entries) c.args.gone x) (sym read) (c.requires.clause d at).1

pub visit_literals-requires-clause-long : goal.visit_literals-requires-clause-long
visit_literals-requires-clause-long c =
    let first = c.self.inside.first in
    let kept = pieces 0 c.self.inside.lits.items c.self.inside.ends.items in
    let d : Clause = get_or c.args.self.now c.args.index [] in
    let at : At c.args.self.now c.args.index d = At-get c.args.self.now c.args.index [] c.requires.within in
    let raw : At kept c.args.index d = shown-long first c.args.index kept d (subst (λ (K : List Clause). At K c.args.index d) (sym c.self.view_is) at) (c.requires.clause d at).0 in
    let start : c.start_of-start.result ≡ start_at 0 c.self.inside.ends.items c.args.index = c.start_of-start.ensures ∙ ap (λ ends. start_at 0 ends c.args.index) c.deref.ensures.value in
    let read : take (c.index.result.now - c.start_of-start.result) (drop c.start_of-start.result c.deref_mut.result.now) ≡ d = part-read c.self.inside.lits.items c.deref_mut.result.now c.self.inside.ends.items kept c.args.index c.start_of-start.result c.index.result.now refl c.self.invariant.0 raw.0 c.deref_mut.ensures.value start c.index.ensures d raw.1 in
    subst (λ (x : Clause). 2 < length x) (sym read) (c.requires.clause d at).0

begins : (c : goal.After-self-1) → c.start_of-start.result ≡ start_at 0 c.self.inside.ends.items c.args.index
begins c = c.start_of-start.ensures ∙ ap (λ ends. start_at 0 ends c.args.index) c.deref.ensures.value

-- as many literals stand in the clause as before
same-length : (c : goal.After-self-1) → length c.visit_literals.new.lits ≡ c.index.result.now - c.start_of-start.result
same-length c =
    let s = c.start_of-start.result in
    let e = c.index.result.now in
    length_permutation (take (e - s) (drop s c.deref_mut.result.now)) c.visit_literals.new.lits c.visit_literals.ensures.permutes
    ∙ part-size c.self.inside.lits.items c.deref_mut.result.now c.self.inside.ends.items (pieces 0 c.self.inside.lits.items c.self.inside.ends.items) c.args.index s e refl c.self.invariant.0 (within _ _ _ c.args.index _ c.self.view_is c.requires.within) c.deref_mut.ensures.value (begins c) c.index.ensures

-- the literals that are there now
abbrev now : goal.After-self-1 → List Literal
now c =
    let s = c.start_of-start.result in
    let e = c.index.result.now in
    take s c.deref_mut.result.now ++ (c.visit_literals.new.lits ++ drop (e - s) (drop s c.deref_mut.result.now))

as-many : (c : goal.After-self-1) → length (now c) ≡ length c.self.inside.lits.items
as-many c =
    part-length c.self.inside.lits.items c.deref_mut.result.now c.self.inside.ends.items (pieces 0 c.self.inside.lits.items c.self.inside.ends.items) c.args.index c.start_of-start.result c.index.result.now refl c.self.invariant.0 (within _ _ _ c.args.index _ c.self.view_is c.requires.within) c.deref_mut.ensures.value (begins c) c.index.ensures c.visit_literals.new.lits (now c) (same-length c) refl

items : (c : goal.After-self-1) → (with_items c.self.inside.lits (now c)).items ≡ now c
items c = with_items_is c.self.inside.lits (now c) (as-many c ∙ sym c.self.inside.lits.ok.0)

pub invariant_of-self : goal.invariant_of-self
invariant_of-self c = (subst (λ n. AreEnds 0 c.self.inside.ends.items n) (sym (ap length (items c) ∙ as-many c)) c.self.invariant.0, c.self.invariant.1)

pub returns : goal.returns
returns c d at =
    let first = c.self.inside.first in
    let ends = c.self.inside.ends.items in
    let kept = pieces 0 c.self.inside.lits.items ends in
    let s = c.start_of-start.result in
    let e = c.index.result.now in
    let new = c.visit_literals.new.lits in
    let raw : At kept c.args.index d = shown-long first c.args.index kept d (subst (λ (K : List Clause). At K c.args.index d) (sym c.self.view_is) at) (c.requires.clause d at).0 in
    let read : take (e - s) (drop s c.deref_mut.result.now) ≡ d = part-read c.self.inside.lits.items c.deref_mut.result.now ends kept c.args.index s e refl c.self.invariant.0 raw.0 c.deref_mut.ensures.value (begins c) c.index.ensures d raw.1 in
    let put : pieces 0 (now c) ends ≡ set kept c.args.index new = part-put c.self.inside.lits.items c.deref_mut.result.now ends kept c.args.index s e refl c.self.invariant.0 raw.0 c.deref_mut.ensures.value (begins c) c.index.ensures new (now c) (same-length c) refl in
    let long : length new ≡ length d = length_permutation (take (e - s) (drop s c.deref_mut.result.now)) new c.visit_literals.ensures.permutes ∙ ap length read in
    let some : new ≡ [] → ⊥ = λ z. let n = (c.requires.clause d at).0 in let none : length new ≡ 0 = ap length z in omega (arith, long, n, none) in (
      new,
      ap (λ (xs : List Literal). shown first (pieces 0 xs ends)) (items c) ∙ (ap (shown first) put ∙ (shown-set first c.args.index kept new some ∙ ap (λ (K : List Clause). set K c.args.index new) c.self.view_is)),
      subst (λ (x : Clause). IsSeen (literals c.args.truths.trail.now.entries) c.args.gone x new c.visit_literals.result) read c.visit_literals.ensures,
    )
