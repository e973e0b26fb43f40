use Rattle.std.proofs.Common.{[], get_or, sym, subst, ◌∙◌}
use Rattle.std.specs.List.Sorted.{IsPermutation}
use Rattle.std.proofs.lemmas.List.Elements.{All-get_or}
use Rattle.theory.specs.Literals.{Clause}
use Rattle.theory.specs.Truth.{IsOver}
use Rattle.theory.specs.Trails.{literals}
use Rattle.kernel.proofs.Places.{At-one, At-get}
use Rattle.kernel.proofs.Reordered.{over-permuted, unit-permuted, last-permuted, place-permuted}
use Rattle.kernel.proofs.propagator.Propagator.waiting.Goals as goal

pub open_literal-lit-requires-clause-over : goal.open_literal-lit-requires-clause-over
open_literal-lit-requires-clause-over c =
    let V = c.args.trail.now.vars in
    let K = c.args.self.now.clauses.given in
    over-permuted V (get_or K c.args.clause []) c.arranged-lits.result.now c.arranged-lits.ensures (All-get_or (IsOver V) K c.args.clause [] c.requires.within c.requires.over)

pub open_literal-lit-requires-clause-was_unit : goal.open_literal-lit-requires-clause-was_unit
open_literal-lit-requires-clause-was_unit c =
    let K = c.args.self.now.clauses.given in
    let was = get_or K c.args.clause [] in
    unit-permuted (literals c.args.trail.now.entries) was c.arranged-lits.result.now c.arranged-lits.ensures (c.requires.unit was (At-get K c.args.clause [] c.requires.within))

pub waiting_place-place-requires : goal.waiting_place-place-requires
waiting_place-place-requires c =
    let V = c.args.trail.now.vars in
    let K = c.args.self.now.clauses.given in
    over-permuted V (get_or K c.args.clause []) c.arranged-lits.result.now c.arranged-lits.ensures (All-get_or (IsOver V) K c.args.clause [] c.requires.within c.requires.over)

pub returns-clause-waits : goal.returns-clause-waits
returns-clause-waits c clause at =
    let K = c.args.self.now.clauses.given in
    let d = c.arranged-lits.result.now in
    let one = At-one K c.args.clause (get_or K c.args.clause []) clause (At-get K c.args.clause [] c.requires.within) at in
    let p : IsPermutation clause d = subst (λ (x : Clause). IsPermutation x d) one c.arranged-lits.ensures in (
      last-permuted (literals c.args.trail.now.entries) clause d c.open_literal-lit.result p c.open_literal-lit.ensures,
      c.waiting_place-place.ensures ∙ sym (place-permuted c.args.order c.args.trail.now.entries clause d p),
    )
