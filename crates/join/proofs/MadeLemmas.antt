-- Each kind of line is made as the first of those to come, or there is none of its kind.
use Rattle.std.proofs.Common.{◌≡◌, ℕ, ◌+◌, ◌-◌, ◌≤◌, Bool, ◌||◌, List, [], ◌∷◌, map, length, Some, None, Vec, Global, refl, ap, sym, subst, ◌∙◌, arith, ◌<◌, All}
use Rattle.std.proofs.lemmas.List.Elements.{All-weaker}
use Rattle.std.specs.Vec.Iter.{into_iter_items}
use Rattle.theory.specs.Learning.{Line}
use Rattle.theory.specs.Deletions.{is_among}
use Rattle.theory.specs.Proofs.{renumbered, unit_steps}
use Rattle.theory.specs.ProofReading.{IsStep, max_number}
use Rattle.cubes.specs.declared.traversal.Split.{Split}
use Rattle.cubes.specs.Traversal.{path}
use Rattle.join.specs.declared.joiner.Joiner.{Joiner}
use Rattle.join.specs.declared.joiner.Stage.{Stage}
use Rattle.join.specs.declared.joiner.Stage.TheVariants.{Between, Within}
use Rattle.join.specs.declared.line.ProofLine.{ProofLine}
use Rattle.join.specs.Deleted.{is_marked, in_half, due_behind}
use Rattle.join.specs.Joining.{behind, learnt_line, split_line}
use Rattle.join.specs.Numbered.{AreLines, IsLine}
use Rattle.join.specs.Walking.{at_stage, joined, line_of, IsAtStage, IsInLeaf, IsJoining, IsKept, IsMade}
use Rattle.join.proofs.LawLemmas.{IsInLeaf-learnt, IsInLeaf-split, AreHalves-right, AreHalves-split}
use Rattle.join.proofs.NumberLemmas.{AreHalves-later, AreOwn-renumbered, due-below, halves-below}
use Rattle.join.proofs.WalkLemmas.{at-learnt, at-split, at-right}

-- behind the pure literals' lines, where the joiner stands
pub joined-at : (j : Joiner) (s : Stage) → into_iter_items j.units ≡ [] → j.stage ≡ s → joined j ≡ at_stage j.clauses s j.first j.next j.due.items j.deleted.items j.place j.leaf
joined-at j s none at =
    ap (λ us. behind (unit_steps j.unit us) (at_stage j.clauses j.stage j.first j.next j.due.items j.deleted.items j.place j.leaf)) none
    ∙ ap (λ s. at_stage j.clauses s j.first j.next j.due.items j.deleted.items j.place j.leaf) at

-- the same where nothing is due
pub joined-within : (j : Joiner) → into_iter_items j.units ≡ [] → j.stage ≡ Within → j.due.items ≡ [] → joined j ≡ at_stage j.clauses Within j.first j.next [] j.deleted.items j.place j.leaf
joined-within j none at nothing = joined-at j Within none at ∙ ap (λ ns. at_stage j.clauses Within j.first j.next ns j.deleted.items j.place j.leaf) nothing

pub law-at : (j : Joiner) (s : Stage) → IsJoining j → j.stage ≡ s → IsAtStage j.clauses s j.first j.next j.due.items j.deleted.items j.leaf
law-at j s keeps at = subst (λ s. IsAtStage j.clauses s j.first j.next j.due.items j.deleted.items j.leaf) at keeps.at

pub law-within : (j : Joiner) → IsJoining j → j.stage ≡ Within → j.due.items ≡ [] → IsInLeaf j.clauses j.first j.next [] j.deleted.items j.leaf
law-within j keeps at nothing = subst (λ ns. IsInLeaf j.clauses j.first j.next ns j.deleted.items j.leaf) nothing (law-at j Within keeps at)

-- what is known of a leaf's next line
pub line-within : (j : Joiner) (line : Line) (leaf : List Line) → IsJoining j → j.stage ≡ Within → j.due.items ≡ [] → j.leaf ≡ line ∷ leaf → IsLine j.clauses (j.clauses + (j.next - j.first)) line leaf
line-within j line leaf keeps at nothing read = (subst (AreLines j.clauses (j.clauses + (j.next - j.first))) read (law-within j keeps at nothing).are).0

-- each number that it forgets has a mark
pub own-marks : (j : Joiner) (line : Line) (leaf : List Line) → IsJoining j → j.stage ≡ Within → j.due.items ≡ [] → j.leaf ≡ line ∷ leaf
    → All (λ k. (j.first ≤ k) × (k < j.first + length j.deleted.items)) (map (renumbered j.clauses j.first) line.forgets)
own-marks j line leaf keeps at nothing read =
    let inside = law-within j keeps at nothing in
    let long = ap length read in
    let room = inside.marked (omega (arith, long)) in
    All-weaker (λ k. (j.first ≤ k) × (k < j.next)) (λ k. (j.first ≤ k) × (k < j.first + length j.deleted.items)) (λ k w. let low = w.0 in let high = w.1 in (low, omega (arith, room, long, high)))
    (map (renumbered j.clauses j.first) line.forgets)
    (AreOwn-renumbered j.clauses j.first j.next line.forgets inside.begun (line-within j line leaf keeps at nothing read).forgets)

-- a leaf's line
pub made-learnt : (old : Joiner) (leaf : List Line) (due : Vec ℕ Global) (deleted : Vec Bool Global) (learnt : Line) (line : ProofLine) → IsJoining old → into_iter_items old.units ≡ [] → old.stage ≡ Within → old.due.items ≡ []
    → old.next ≤ max_number → old.leaf ≡ learnt ∷ leaf
    → ((k : ℕ) → is_marked old.first deleted.items k ≡ is_marked old.first old.deleted.items k || is_among k (map (renumbered old.clauses old.first) learnt.forgets)) → length deleted.items ≡ length old.deleted.items
    → due.items ≡ due_behind old.clauses old.first old.next (path old.place) deleted.items learnt leaf → line_of line ≡ learnt_line old.clauses old.first old.next (path old.place) learnt → IsStep (line_of line)
    → IsMade old (record old { next = old.next + 1; leaf = leaf; deleted = deleted; due = due; line = line })
made-learnt old leaf due deleted learnt line keeps none at nothing few read marked many behind_it is within =
    let new : Joiner = record old { next = old.next + 1; leaf = leaf; deleted = deleted; due = due; line = line } in
    let begun = keeps.begun in
    let inside = law-within old keeps at nothing in
    let one = line-within old learnt leaf keeps at nothing read in
    let below = subst (All (λ k. (1 ≤ k) × (k < old.next))) (sym behind_it) (due-below old.clauses old.first old.next (path old.place) deleted.items learnt leaf inside.above inside.begun one) in
    record {
      rest = joined-within old none at nothing
          ∙ at-learnt old.clauses old.first old.next old.place old.deleted.items deleted.items due.items old.leaf leaf learnt read one.keeps marked behind_it
          ∙ ap (λ s. behind (s ∷ []) (at_stage old.clauses Within old.first (old.next + 1) due.items deleted.items old.place leaf)) (sym is)
          ∙ ap (behind (line_of line ∷ [])) (sym (joined-at new Within none at));
      within = within;
      clauses = refl;
      lawful = record {
        clauses = keeps.clauses;
        begun = omega arith;
        fits = omega arith;
        splits = AreHalves-later old.next old.place keeps.splits;
        at = subst (λ s. IsAtStage old.clauses s old.first (old.next + 1) due.items deleted.items leaf) (sym at)
            (IsInLeaf-learnt old.clauses old.first old.next due.items old.deleted.items deleted.items old.leaf leaf learnt inside read below many);
        unit = keeps.unit;
        units = keeps.units;
      };
    }

-- the line of a split
pub made-split : (old : Joiner) (x left : ℕ) (place : List (Split ℕ)) (due : Vec ℕ Global) (line : ProofLine) → IsJoining old → into_iter_items old.units ≡ [] → old.stage ≡ Within → old.due.items ≡ [] → old.next ≤ max_number
    → old.leaf ≡ [] → old.place ≡ record { var = x; left = Some left } ∷ place → due.items ≡ in_half (path place) (left ∷ (old.next - 1) ∷ [])
    → line_of line ≡ split_line old.next (path place) left (old.next - 1) → IsStep (line_of line) → IsMade old (record old { next = old.next + 1; place = place; due = due; line = line })
made-split old x left place due line keeps none at nothing few over was behind_it is within =
    let new : Joiner = record old { next = old.next + 1; place = place; due = due; line = line } in
    let begun = keeps.begun in
    let halves = AreHalves-split old.next x left old.place place keeps.splits was in
    let below = subst (All (λ k. (1 ≤ k) × (k < old.next))) (sym behind_it) (halves-below old.next left (path place) halves.1 halves.2) in
    record {
      rest = joined-within old none at nothing
          ∙ at-split old.clauses old.first old.next x left old.place place old.deleted.items due.items old.leaf over was behind_it
          ∙ ap (λ s. behind (s ∷ []) (at_stage old.clauses Within old.first (old.next + 1) due.items old.deleted.items place old.leaf)) (sym is)
          ∙ ap (behind (line_of line ∷ [])) (sym (joined-at new Within none at));
      within = within;
      clauses = refl;
      lawful = record {
        clauses = keeps.clauses;
        begun = omega arith;
        fits = omega arith;
        splits = AreHalves-later old.next place halves.0;
        at = subst (λ s. IsAtStage old.clauses s old.first (old.next + 1) due.items old.deleted.items old.leaf) (sym at)
            (IsInLeaf-split old.clauses old.first old.next due.items old.deleted.items old.leaf (law-within old keeps at nothing) over below);
        unit = keeps.unit;
        units = keeps.units;
      };
    }

-- behind a left half the next node is to come
pub kept-right : (old : Joiner) (x : ℕ) (above place : List (Split ℕ)) → IsJoining old → into_iter_items old.units ≡ [] → old.stage ≡ Within → old.due.items ≡ [] → old.leaf ≡ []
    → old.place ≡ record { var = x; left = None } ∷ above → place ≡ record { var = x; left = Some (old.next - 1) } ∷ above → IsKept old (record old { place = place; stage = Between })
kept-right old x above place keeps none at nothing over was is = record {
  rest = joined-at (record old { place = place; stage = Between }) Between none refl
      ∙ at-right old.clauses old.first old.next x old.place above place old.deleted.items old.due.items old.leaf over was is
      ∙ sym (joined-within old none at nothing);
  clauses = refl;
  lawful = record {
    clauses = keeps.clauses;
    begun = keeps.begun;
    fits = keeps.fits;
    splits = AreHalves-right old.clauses old.first old.next x old.place above place old.deleted.items old.leaf (law-within old keeps at nothing) over keeps.splits was is;
    at = tt;
    unit = keeps.unit;
    units = keeps.units;
  };
}
