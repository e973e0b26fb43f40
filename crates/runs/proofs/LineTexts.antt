-- The text of lines, and how long it may be.
use Rattle.std.proofs.Common.{◌≡◌, ℕ, ◌≤◌, List, [], ◌∷◌, ◌++◌, refl, ap, sym, ◌∙◌, append_assoc, arith}
use Rattle.theory.specs.Reading.{Limits, large}
use Rattle.theory.specs.Steps.{Step}
use Rattle.theory.specs.Texts.{proof_text, step_text}
use Rattle.theory.specs.ProofReading.{max_proof_bytes}
use Rattle.theory.proofs.reading.LimitLemmas.{few-proof_bytes}

-- a proof within limits is within the large ones
pub short-large : (L : Limits) (n : ℕ) → n ≤ max_proof_bytes L → n ≤ max_proof_bytes large
short-large L n short = let few = few-proof_bytes L in omega arith

pub proof_text-append : (ls ms : List Step) → proof_text (ls ++ ms) ≡ proof_text ls ++ proof_text ms
proof_text-append [] ms = refl
proof_text-append (l ∷ ls) ms = ap (λ t. step_text l ++ t) (proof_text-append ls ms) ∙ sym (append_assoc (step_text l) (proof_text ls) (proof_text ms))
