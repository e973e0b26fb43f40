use Rattle.std.proofs.Common.{◌≡◌, ℕ, drop}
use Rattle.theory.specs.Looking.{no_choice, Chooses}
use Rattle.lookahead.proofs.choosing.best.Given as goal

-- what the candidates to come lead to, all do
abbrev pub invariant-loop-var : goal.invariant-loop-var
invariant-loop-var l = record {
  kept : l.kernel ≡ l.fn.kernel;
  leads : (x : ℕ) → Chooses l.fn.kernel.clauses l.fn.kernel.trail l.choice (drop l.var-index l.candidates) x
      → Chooses l.fn.kernel.clauses l.fn.kernel.trail no_choice l.candidates x;
}
