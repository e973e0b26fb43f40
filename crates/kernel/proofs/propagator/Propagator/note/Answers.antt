use Rattle.std.proofs.Common.{refl, subst}
use Rattle.std.proofs.lemmas.List.Sorted.{IsPermutation-map}
use Rattle.std.proofs.lemmas.Result.{on_ok_weaker}
use Rattle.kernel.specs.Placing.{HasPlace}
use Rattle.kernel.proofs.Placed.{AreInLine-push}
use Rattle.kernel.proofs.propagator.Propagator.note.Goals as goal

pub returns-in-Some-clause-unit : goal.returns-in-Some-clause-unit
returns-in-Some-clause-unit c = on_ok_weaker c.push.result (λ made h n. (IsPermutation-map (λ w. w.clause) _ _ made, refl)) c.push.ensures

pub returns-in-Some-clause-line : goal.returns-in-Some-clause-line
returns-in-Some-clause-line c = on_ok_weaker c.push.result
    (λ made o facts h. AreInLine-push o c.args.self.now.clauses.given c.args.trail.now.entries c.args.line.now c.push.new.self (record { place = c.in-Some.place; clause = c.args.clause; lit = c.args.lit })
    (λ d a. ((facts d a).1, subst (λ p. HasPlace o c.args.trail.now.entries d p) c.in-Some.is (facts d a).0)) made h)
    c.push.ensures
