use Rattle.std.proofs.Common.{◌≡◌, ◌||◌, ℕ, take}
use Rattle.theory.specs.Scores.{is_seen}
use Rattle.theory.specs.Units.{reasons_against}
use Rattle.cdcl.specs.Numbers.{is_one_of}
use Rattle.cdcl.proofs.analysis.reasons.see_reasons.Given as goal

-- the variables of the reasons against the literals so far are in
abbrev pub invariant-loop-lit : goal.invariant-loop-lit
invariant-loop-lit l = record {
  bound : l.seen.bound ≡ l.initial.seen.bound;
  seen : (v : ℕ) → is_one_of l.seen.numbers v
      ≡ (is_one_of l.initial.seen.numbers v || is_seen l.kernel.clauses l.kernel.trail (reasons_against l.kernel.trail (take l.lit-index l.clause)) v);
}
