-- What a joiner keeps, behind each kind of line and of node.
use Rattle.std.proofs.Common.{◌≡◌, ℕ, ◌+◌, ◌-◌, ◌<◌, ◌≤◌, Bool, List, [], ◌∷◌, length, Some, None, ap, sym, subst, arith, All}
use Rattle.std.proofs.lemmas.List.Elements.{All-nil, All-cons, All-head, All-tail}
use Rattle.theory.specs.Learning.{Line}
use Rattle.cubes.specs.declared.traversal.Split.{Split}
use Rattle.join.specs.Numbered.{AreLines, IsHalf}
use Rattle.join.specs.Walking.{IsInLeaf}

-- behind a line of a leaf
pub IsInLeaf-learnt : (N first n : ℕ) (due : List ℕ) (marks marks2 : List Bool) (all lines : List Line) (line : Line) → IsInLeaf N first n [] marks all → all ≡ line ∷ lines
    → All (λ k. (1 ≤ k) × (k < n)) due → length marks2 ≡ length marks → IsInLeaf N first (n + 1) due marks2 lines
IsInLeaf-learnt N first n due marks marks2 all lines line keeps is below many =
    let begun = keeps.begun in
    let later : N + (n - first) + 1 ≡ N + (n + 1 - first) = omega arith in
    let last : n ≡ n + 1 - 1 = omega arith in
    let are : AreLines N (N + (n - first)) (line ∷ lines) = subst (AreLines N (N + (n - first))) is keeps.are in
    let same = ap length is in
    let long : length all ≡ length lines + 1 = omega (arith, same) in
    let room = keeps.marked (omega (arith, long)) in
    record {
      above = keeps.above;
      begun = omega arith;
      started = λ e. omega arith;
      are = subst (λ m. AreLines N m lines) later are.1;
      is_due = subst (λ m. All (λ k. (1 ≤ k) × (k < m)) due) last below;
      marked = λ some. omega (arith, room, long, many);
    }

-- behind the line of a split
pub IsInLeaf-split : (N first n : ℕ) (due : List ℕ) (marks : List Bool) (lines : List Line) → IsInLeaf N first n [] marks lines → lines ≡ [] → All (λ k. (1 ≤ k) × (k < n)) due
    → IsInLeaf N first (n + 1) due marks lines
IsInLeaf-split N first n due marks lines keeps over below =
    let begun = keeps.begun in
    let last : n ≡ n + 1 - 1 = omega arith in
    let none = ap length over in
    record {
      above = keeps.above;
      begun = omega arith;
      started = λ e. omega arith;
      are = subst (AreLines N (N + (n + 1 - first))) (sym over) tt;
      is_due = subst (λ m. All (λ k. (1 ≤ k) × (k < m)) due) last below;
      marked = λ some. absurd (omega (arith, none, some));
    }

-- nothing is due any more
pub IsInLeaf-nothing : (N first n : ℕ) (due : List ℕ) (marks : List Bool) (lines : List Line) → IsInLeaf N first n due marks lines → IsInLeaf N first n [] marks lines
IsInLeaf-nothing N first n due marks lines keeps =
    record { above = keeps.above; begun = keeps.begun; started = keeps.started; are = keeps.are; is_due = All-nil (λ k. (1 ≤ k) × (k < n - 1)); marked = keeps.marked }

-- the way goes on in a right half, beside a left one that is done
pub AreHalves-beside : (n x : ℕ) (old above new : List (Split ℕ)) → 2 ≤ n → All (IsHalf n) old → old ≡ record { var = x; left = None } ∷ above → new ≡ record { var = x; left = Some (n - 1) } ∷ above → All (IsHalf n) new
AreHalves-beside n x old above new low halves was is =
    let all : All (IsHalf n) (record { var = x; left = None } ∷ above) = subst (All (IsHalf n)) was halves in
    let one : IsHalf n (record { var = x; left = Some (n - 1) }) = record { variable = (All-head (IsHalf n) _ above all).variable; left = (omega arith, omega arith) } in
    subst (All (IsHalf n)) (sym is) (All-cons (IsHalf n) (record { var = x; left = Some (n - 1) }) above one (All-tail (IsHalf n) _ above all))

pub AreHalves-right : (N first n x : ℕ) (old above new : List (Split ℕ)) (marks : List Bool) (lines : List Line) → IsInLeaf N first n [] marks lines → lines ≡ [] → All (IsHalf n) old → old ≡ record { var = x; left = None } ∷ above
    → new ≡ record { var = x; left = Some (n - 1) } ∷ above → All (IsHalf n) new
AreHalves-right N first n x old above new marks lines keeps over halves was is =
    let low = keeps.above in
    let started = keeps.started (ap length over) in
    AreHalves-beside n x old above new (omega arith) halves was is

-- the split above whose halves are both done, and those above it
pub AreHalves-split : (n x left : ℕ) (old above : List (Split ℕ)) → All (IsHalf n) old → old ≡ record { var = x; left = Some left } ∷ above → All (IsHalf n) above × (1 ≤ left) × (left < n)
AreHalves-split n x left old above halves was =
    let all : All (IsHalf n) (record { var = x; left = Some left } ∷ above) = subst (All (IsHalf n)) was halves in
    let one = (All-head (IsHalf n) _ above all).left in
    (All-tail (IsHalf n) _ above all, one.0, one.1)
