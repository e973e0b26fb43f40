use Rattle.std.proofs.Common.{◌∙◌, sym, arith, ap, not, nat_eq}
use Rattle.lrat.proofs.CandidateLemmas.{if_ok-map, left-open}
use Rattle.std.specs.List.{list_any}
use Rattle.std.proofs.lemmas.Option.{slice_get_within}
use Rattle.theory.specs.Literals.{has}
use Rattle.theory.specs.Checking.{is_closed}
use Rattle.theory.proofs.literals.LiteralLemmas.{or-left, or-right}
use Rattle.lrat.proofs.groups.is_dealt_with.Goals.{then-not-has-via-then-not-has, then-not-has-via-else-not-has+then-contains}
use Rattle.lrat.proofs.groups.is_dealt_with.Goals as goal

pub returns-clause-no : goal.returns-clause-no
returns-clause-no c = λ L h.
    if_ok-map c.is_closed.result _ _
    (λ b closed fails. left-open c.args.clauses.now.slots c.args.place c.args.held.now.literals c.args.pivot L c.in-Some.id c.in-Some.clause.now (omega arith) c.in-Some.ensures.slot
    (sym c.has.ensures ∙ c.if-not-has.false) (sym (h c.in-Some.id) ∙ (sym c.contains.ensures ∙ c.if-contains.false)) (sym closed ∙ fails))
    c.is_closed.ensures.closed

pub returns-then-place-len-clause-yes : goal.returns-then-place-len-clause-yes
returns-then-place-len-clause-yes c = λ L h e s g t. absurd (let less = slice_get_within c.args.clauses.now.slots c.args.place s g in omega (arith, c.len.ensures))

pub returns-in_default-clause-yes : goal.returns-in_default-clause-yes
returns-in_default-clause-yes c = λ L h e s g t. absurd (cc (c.in_default.ensures.slot s g, t))

pub returns-then-not-has-clause-yes : goal.returns-then-not-has-clause-yes
returns-then-not-has-clause-yes c = λ L h e s g t.
    let q = c.args.pivot in
    let slot = c.in-Some.ensures.slot s g in
    elim c.then-not-has.branch [
      | then-not-has-via-then-not-has w ↦ or-left (not (has s.clause q)) _ (ap not (ap (λ x. has x q) slot.2 ∙ (sym c.has.ensures ∙ w.if-not-has.true)))
      | then-not-has-via-else-not-has+then-contains w ↦ or-right (not (has s.clause q)) _
          (or-right (is_closed c.args.held.now.literals q s.clause) _ (ap (λ n. list_any (nat_eq n) L) slot.1 ∙ (sym (h c.in-Some.id) ∙ (sym w.contains.ensures ∙ w.if-contains.true))))
    ]

pub is_closed-requires-clause-over : goal.is_closed-requires-clause-over
is_closed-requires-clause-over c = λ k d less. let over = c.in-Some.ensures.over k d less in (over.0, let high = over.1 in omega (arith, c.requires))

pub returns-clause-yes : goal.returns-clause-yes
returns-clause-yes c = λ L h.
    let q = c.args.pivot in
    if_ok-map c.is_closed.result _ _
    (λ b closed yes s g t.
    let slot = c.in-Some.ensures.slot s g in
    or-right (not (has s.clause q)) _ (or-left (is_closed c.args.held.now.literals q s.clause) _ (ap (λ x. is_closed c.args.held.now.literals q x) slot.2 ∙ (sym closed ∙ yes))))
    c.is_closed.ensures.closed
