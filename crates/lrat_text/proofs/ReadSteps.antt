-- The steps that were read so far, and what is left of the text.
use Rattle.std.proofs.Common.{◌≡◌, ℕ, ◌≤◌, List, [], ◌∷◌, ◌++◌, map, length, drop, refl, sym, ap, subst, ◌∙◌}
use Rattle.std.proofs.lemmas.List.{map-append, drop_all}
use Rattle.theory.specs.Steps as theory
use Rattle.theory.specs.Tokens.{lines_of}
use Rattle.theory.specs.Reading.{standard}
use Rattle.theory.specs.ProofReading.{TextFault, ProofReading, steps, line_fault, too_long, ProofReads, max_proof_bytes}
use Rattle.theory.specs.ProofReading as faults
use Rattle.lrat_text.specs.declared.step.Step.{Step}
use Rattle.lrat_text.specs.declared.fault.TextFault as declared
use Rattle.lrat_text.specs.declared.fault.TextFault.TheVariants.{BadNumber, LineNotEnded, BadShape, NoMemory, TooLong}
use Rattle.lrat_text.specs.Steps.{step_of}
use Rattle.lrat_text.specs.Faults.{HasFault}
use Rattle.lrat_text.specs.LineMachine.{read_lines, with_step, with_steps}
use Rattle.lrat_text.specs.LineStates.{IsFault}
use Rattle.lrat_text.proofs.ProofTexts.{reading_of_text, reading-ProofReads}

with_steps-push : (ss : List theory.Step) (s : theory.Step) (r : ProofReading) → with_steps (ss ++ s ∷ []) r ≡ with_steps ss (with_step s r)
with_steps-push [] s r = refl
with_steps-push (t ∷ ss) s r = ap (with_step t) (with_steps-push ss s r)

with_steps-end : (ss : List theory.Step) → with_steps ss (steps []) ≡ steps ss
with_steps-end [] = refl
with_steps-end (s ∷ ss) = ap (with_step s) (with_steps-end ss)

with_steps-fault : (ss : List theory.Step) (f : TextFault) (n : ℕ) → with_steps ss (line_fault f n) ≡ line_fault f n
with_steps-fault [] f n = refl
with_steps-fault (s ∷ ss) f n = ap (with_step s) (with_steps-fault ss f n)

with_steps-too_long : (ss : List theory.Step) → with_steps ss too_long ≡ too_long
with_steps-too_long [] = refl
with_steps-too_long (s ∷ ss) = ap (with_step s) (with_steps-too_long ss)

-- one step more
pub steps-more : (ss : List Step) (s : Step) (old r whole : ProofReading) → old ≡ with_step (step_of s) r → with_steps (map step_of ss) old ≡ whole → with_steps (map step_of (ss ++ s ∷ [])) r ≡ whole
steps-more ss s old r whole read h =
    ap (λ x. with_steps x r) (map-append step_of ss (s ∷ [])) ∙ with_steps-push (map step_of ss) (step_of s) r ∙ ap (with_steps (map step_of ss)) (sym read) ∙ h

-- all lines are read
pub steps-all : (bytes : List ℕ) (ss : List Step) (n at : ℕ) → length bytes ≤ max_proof_bytes standard → length bytes ≤ at
    → with_steps (map step_of ss) (read_lines n (lines_of (drop at bytes))) ≡ reading_of_text bytes → ProofReads bytes (steps (map step_of ss))
steps-all bytes ss n at short end h =
    subst (ProofReads bytes)
    (sym h ∙ ap (λ x. with_steps (map step_of ss) (read_lines n (lines_of x))) (drop_all at bytes end) ∙ with_steps-end (map step_of ss))
    (reading-ProofReads standard bytes short)

-- a line is at fault
pub fault-found : (bytes : List ℕ) (ss : List theory.Step) (e : declared.TextFault) (r : ProofReading) → length bytes ≤ max_proof_bytes standard
    → with_steps ss r ≡ reading_of_text bytes → IsFault e r → HasFault standard bytes e
fault-found bytes ss (BadNumber n) r short h f =
    subst (ProofReads bytes) (sym h ∙ ap (with_steps ss) f ∙ with_steps-fault ss faults.bad_number n) (reading-ProofReads standard bytes short)
fault-found bytes ss (LineNotEnded n) r short h f =
    subst (ProofReads bytes) (sym h ∙ ap (with_steps ss) f ∙ with_steps-fault ss faults.line_not_ended n) (reading-ProofReads standard bytes short)
fault-found bytes ss (BadShape n) r short h f =
    subst (ProofReads bytes) (sym h ∙ ap (with_steps ss) f ∙ with_steps-fault ss faults.bad_shape n) (reading-ProofReads standard bytes short)
fault-found bytes ss NoMemory r short h f = tt
fault-found bytes ss TooLong r short h f = subst (ProofReads bytes) (sym h ∙ ap (with_steps ss) f ∙ with_steps-too_long ss) (reading-ProofReads standard bytes short)
