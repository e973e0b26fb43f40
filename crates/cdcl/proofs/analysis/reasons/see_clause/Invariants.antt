use Rattle.std.proofs.Common.{◌≡◌, ◌&&◌, ◌||◌, ℕ, take, nat_lt}
use Rattle.theory.specs.Literals.{has_var}
use Rattle.theory.specs.Trails.{entry_of, level_at}
use Rattle.cdcl.specs.Numbers.{is_one_of}
use Rattle.cdcl.proofs.analysis.reasons.see_clause.Given as goal

-- the variables of the literals so far are in
abbrev pub invariant-loop-lit : goal.invariant-loop-lit
invariant-loop-lit l = record {
  bound : l.seen.bound ≡ l.initial.seen.bound;
  seen : (v : ℕ) → is_one_of l.seen.numbers v
      ≡ (is_one_of l.initial.seen.numbers v || (nat_lt 0 (level_at (entry_of l.kernel.trail v)) && has_var (take l.lit-index l.clause) v));
}
