use Rattle.std.proofs.Common.{[], get_or, sym, subst, ◌∙◌}
use Rattle.std.specs.List.Sorted.{IsPermutation}
use Rattle.std.proofs.lemmas.List.Elements.{All-get_or}
use Rattle.std.proofs.lemmas.List.Sorted.{IsPermutation-map}
use Rattle.std.proofs.lemmas.Result.{on_ok_weaker}
use Rattle.theory.specs.Literals.{Clause}
use Rattle.theory.specs.Truth.{IsOver}
use Rattle.kernel.proofs.Places.{At-one, At-get}
use Rattle.kernel.proofs.Placed.{AreInLine-push}
use Rattle.kernel.proofs.Reordered.{over-permuted, last_false-permuted}
use Rattle.kernel.proofs.propagator.Propagator.put_by_last.Goals as goal

pub last_place-place-requires : goal.last_place-place-requires
last_place-place-requires c =
    let V = c.args.trail.now.vars in
    let K = c.args.self.now.clauses.given in
    over-permuted V (get_or K c.args.clause []) c.arranged.result.now c.arranged.ensures (All-get_or (IsOver V) K c.args.clause [] c.requires.within c.requires.over)

pub returns-clause-put : goal.returns-clause-put
returns-clause-put c = on_ok_weaker c.push.result (λ made. IsPermutation-map (λ w. w.clause) _ _ made) c.push.ensures

pub returns-clause-line : goal.returns-clause-line
returns-clause-line c = on_ok_weaker c.push.result
    (λ made o facts h. (
    let T = c.args.trail.now.entries in
    let K = c.args.self.now.clauses.given in
    let d = c.arranged.result.now in
    AreInLine-push o K T c.args.line.now c.push.new.self (record { place = c.last_place-place.result; clause = c.args.clause; lit = c.args.lit })
    (λ clause at. (
    let one = At-one K c.args.clause (get_or K c.args.clause []) clause (At-get K c.args.clause [] c.requires.within) at in
    let p : IsPermutation clause d = subst (λ (x : Clause). IsPermutation x d) one c.arranged.ensures in
    ((facts clause at).1, c.last_place-place.ensures ∙ (sym (last_false-permuted T clause d p) ∙ (facts clause at).0)))) made h))
    c.push.ensures
