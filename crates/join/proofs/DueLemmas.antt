-- A deletion that is due is the next line.
use Rattle.std.proofs.Common.{◌≡◌, ℕ, ◌-◌, ◌<◌, List, [], ◌∷◌, length, Vec, Global, refl, ap, sym, subst, ◌∙◌, arith}
use Rattle.std.specs.Vec.Iter.{into_iter_items}
use Rattle.theory.specs.Steps.{delete}
use Rattle.theory.specs.Proofs.{forget_steps}
use Rattle.theory.specs.ProofReading.{IsStep}
use Rattle.join.specs.declared.joiner.Joiner.{Joiner}
use Rattle.join.specs.declared.joiner.Stage.TheVariants.{Within}
use Rattle.join.specs.declared.line.ProofLine.{ProofLine}
use Rattle.join.specs.Joining.{behind, from_leaf}
use Rattle.join.specs.Walking.{IsAtStage, IsJoining, IsMade, line_of}
use Rattle.join.proofs.LawLemmas.{IsInLeaf-nothing}
use Rattle.join.proofs.MadeLemmas.{joined-at, joined-within, law-at}
use Rattle.join.proofs.NumberLemmas.{IsStep-deletion}

some-forgotten : (last : ℕ) (ns : List ℕ) → 0 < length ns → forget_steps last ns ≡ delete (record { id = last; ids = ns }) ∷ []
some-forgotten last [] some = absurd (omega arith)
some-forgotten last (n ∷ ns) some = refl

pub made-deletion : (old : Joiner) (due : Vec ℕ Global) (line : ProofLine) → IsJoining old → into_iter_items old.units ≡ [] → old.stage ≡ Within → 0 < length old.due.items → due.items ≡ []
    → line_of line ≡ delete (record { id = old.next - 1; ids = old.due.items }) → IsMade old (record old { due = due; line = line })
made-deletion old due line keeps none at some nothing is =
    let new : Joiner = record old { due = due; line = line } in
    let last = old.next - 1 in
    let fits = keeps.fits in
    let inside = law-at old Within keeps at in
    let rest = from_leaf old.clauses old.first old.next old.place old.deleted.items old.leaf in
    record {
      rest = joined-at old Within none at
          ∙ ap (λ D. behind D rest) (some-forgotten last old.due.items some ∙ ap (λ s. s ∷ []) (sym is))
          ∙ ap (behind (line_of line ∷ [])) (sym (joined-within new none at nothing));
      within = subst IsStep (sym is) (IsStep-deletion last old.due.items (omega arith) some inside.is_due);
      clauses = refl;
      lawful = record {
        clauses = keeps.clauses;
        begun = keeps.begun;
        fits = keeps.fits;
        splits = keeps.splits;
        at = subst (λ ns. IsAtStage old.clauses old.stage old.first old.next ns old.deleted.items old.leaf) (sym nothing)
            (subst (λ s. IsAtStage old.clauses s old.first old.next [] old.deleted.items old.leaf) (sym at) (IsInLeaf-nothing old.clauses old.first old.next old.due.items old.deleted.items old.leaf inside));
        unit = keeps.unit;
        units = keeps.units;
      };
    }
