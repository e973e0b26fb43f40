use Rattle.std.proofs.Common.{◌≡◌, ◌&&◌, ℕ, take, nat_lt}
use Rattle.theory.specs.Trails.{entry_of, level_at}
use Rattle.cdcl.specs.Numbers.{is_one_of}
use Rattle.cdcl.proofs.analysis.seen.see_all.Given as goal

-- those of the variables so far are in
abbrev pub invariant-loop-var : goal.invariant-loop-var
invariant-loop-var l = record {
  bound : l.seen.bound ≡ l.initial.seen.bound;
  seen : (v : ℕ) → is_one_of l.seen.numbers v ≡ (nat_lt 0 (level_at (entry_of l.kernel.trail v)) && is_one_of (take l.var-index l.vars) v);
}
