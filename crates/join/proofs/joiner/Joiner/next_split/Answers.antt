use Rattle.std.proofs.Common.{◌≡◌, ℕ, ◌-◌, [], ◌∷◌, ◌++◌, length, Vec, Global, ap, ◌∙◌}
use Rattle.std.proofs.lemmas.List.Elements.{All-weaker}
use Rattle.theory.specs.Literals.{IsVariable}
use Rattle.theory.specs.Reading.{large, max_vars}
use Rattle.cubes.specs.Traversal.{path}
use Rattle.join.specs.Deleted.{in_half}
use Rattle.join.specs.Numbered.{IsHalf}
use Rattle.join.proofs.LawLemmas.{AreHalves-split}
use Rattle.join.proofs.MadeLemmas.{made-split, kept-right}
use Rattle.join.proofs.WalkLemmas.{due-split, due-nothing, not-half}
use Rattle.join.proofs.joiner.Joiner.next_split.Goals as goal
use Rattle.join.proofs.joiner.Joiner.next_split.Goals.{then-is_half+in_ok-push-in-Both+in_ok-push-in-Both-2, else-is_half}

pub split-requires-clause-left : goal.split-requires-clause-left
split-requires-clause-left c =
    let l = c.args.self.now in
    let halves = AreHalves-split l.next c.in-Both.var c.in-Both.left l.place c.leave.new.self c.requires.lawful.splits (rw c.in-Both.is at c.in_ok-left.ensures).0 in
    (halves.1, halves.2)

pub split-requires-clause-splits : goal.split-requires-clause-splits
split-requires-clause-splits c =
    let l = c.args.self.now in
    let halves = AreHalves-split l.next c.in-Both.var c.in-Both.left l.place c.leave.new.self c.requires.lawful.splits (rw c.in-Both.is at c.in_ok-left.ensures).0 in
    All-weaker (IsHalf l.next) (λ s. IsVariable (max_vars large) s.var) (λ s w. w.variable) c.leave.new.self halves.0

pub returns-after-is_half-clause-made : goal.returns-after-is_half-clause-made
returns-after-is_half-clause-made c =
    let l = c.args.self.now in
    let place = c.leave.new.self in
    let left = c.in-Both.left in
    let was = (rw c.in-Both.is at c.in_ok-left.ensures).0 in
    let numbers = left ∷ (l.next - 1) ∷ [] in
    let made = λ (due : Vec ℕ Global) (is : due.items ≡ in_half (path place) numbers).
    made-split l c.in-Both.var left place due c.split.new.self c.requires.lawful c.requires.units c.requires.stage c.requires.due c.requires.fits c.requires.leaf was is c.in_ok-split-in-Both.ensures.line
    c.in_ok-split-in-Both.ensures.within in
    elim c.if-is_half.branch [
      | then-is_half+in_ok-push-in-Both+in_ok-push-in-Both-2 w ↦ rw w.self-is
          (made w.push-then-is_half.new.self
          (w.in_ok-push-in-Both-2.ensures.items ∙ ap (λ xs. xs ++ (l.next - 1) ∷ []) (w.in_ok-push-in-Both.ensures.items ∙ ap (λ xs. xs ++ left ∷ []) c.requires.due)
          ∙ due-split place numbers (c.is_half.ensures.0 w.if-is_half.true)))
      | else-is_half w ↦ rw w.self-is (made l.due (c.requires.due ∙ due-nothing place numbers (not-half (length place) c.is_half.result c.is_half.ensures.1 w.if-is_half.false)))
    ]

pub returns-in-Right-clause-made : goal.returns-in-Right-clause-made
returns-in-Right-clause-made c =
    let turn = rw c.in-Right.is at c.in_ok-left.ensures in
    kept-right c.args.self.now c.in-Right.field-0 turn.0 c.leave.new.self c.requires.lawful c.requires.units c.requires.stage c.requires.due c.requires.leaf turn.1 turn.2
