use Rattle.std.proofs.Common.{◌≡◌, false, All, take}
use Rattle.cubes.proofs.threads.ran_out_of_memory.Given as goal

-- none so far
abbrev pub invariant-loop-worked : goal.invariant-loop-worked
invariant-loop-worked g l = All (λ w. w.short_of_memory ≡ false) (take l.worked-index l.works)
