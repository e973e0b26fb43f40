-- What is so of runs, whatever their steps are.
use Rattle.std.proofs.Common.{◌≡◌}
use Rattle.theory.specs.Search.{Outcome, Next, ends, goes_on, RunsFrom, stops, steps}

-- what holds of the state that a run begins with, and passes from each state to what a step makes
-- of it, holds of the outcome
pub RunsFrom-says : {State : Type 0} (IsStep : State → Next State → Type 0) (Says : Next State → Type 0) → ((s : State) (n : Next State) → Says (goes_on s) → IsStep s n → Says n)
    → (s : State) (o : Outcome) → RunsFrom IsStep s o → Says (goes_on s) → Says (ends o)
RunsFrom-says IsStep Says kept s o (stops w) h = kept s (ends o) h w
RunsFrom-says IsStep Says kept s o (steps {t = t} w more) h = RunsFrom-says IsStep Says kept t o more (kept s (goes_on t) h w)

-- where a state has one step, it has one outcome
pub RunsFrom-unique : {State : Type 0} (IsStep : State → Next State → Type 0) → ((s : State) (m n : Next State) → IsStep s m → IsStep s n → m ≡ n)
    → (s : State) (o p : Outcome) → RunsFrom IsStep s o → RunsFrom IsStep s p → o ≡ p
RunsFrom-unique IsStep one s o p (stops h) (stops k) = let n = one s (ends o) (ends p) h k in cc
RunsFrom-unique IsStep one s o p (stops h) (steps {t = t} k more) = absurd (let n = one s (ends o) (goes_on t) h k in cc)
RunsFrom-unique IsStep one s o p (steps {t = t} h more) (stops k) = absurd (let n = one s (goes_on t) (ends p) h k in cc)
RunsFrom-unique IsStep one s o p (steps {t = t} h q) (steps {t = u} k r) =
    let n = one s (goes_on t) (goes_on u) h k in
    let next : t ≡ u = cc in
    RunsFrom-unique IsStep one t o p q (rw next r)
