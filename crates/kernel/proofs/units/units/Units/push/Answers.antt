use Rattle.std.proofs.lemmas.List.Sorted.{IsPermutation-map}
use Rattle.kernel.proofs.UnitLemmas.{queued-units, heaped-units}
use Rattle.kernel.proofs.units.units.Units.push.Goals as goal

pub returns-in_ok-push : goal.returns-in_ok-push
returns-in_ok-push c = rw (← c.self.view_is, c.in_ok-push.ensures) (queued-units _ _ _)

pub returns-in_ok-push-2 : goal.returns-in_ok-push-2
returns-in_ok-push-2 c = rw (← c.self.view_is) (heaped-units _ _ _ _ (IsPermutation-map (λ r. r.0) _ _ c.in_ok-push-2.ensures.permutation))
