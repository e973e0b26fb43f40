use Rattle.std.proofs.Common.{◌≡◌, ◌++◌, map, drop}
use Rattle.theory.specs.Texts.{proof_text}
use Rattle.lrat_text.specs.Steps.{step_of}
use Rattle.join.proofs.proof_text.proof_bytes.Given as goal

-- what is left gives the rest
abbrev pub invariant-loop-step : goal.invariant-loop-step
invariant-loop-step l = l.text.items ++ proof_text (map step_of (drop l.step-index l.steps)) ≡ proof_text (map step_of l.steps)
