-- The numbers and variables in a proof's lines.
use Rattle.std.proofs.Common.{◌≡◌, ℕ, ◌+◌, ◌-◌, ◌<◌, ◌≤◌, Bool, true, false, not, List, [], ◌∷◌, ◌++◌, map, length, reverse, refl, sym, subst, cond, nat_le, Option, Some, None, arith, All}
use Rattle.std.proofs.lemmas.List.Elements.{All-append, All-cons, All-filter, All-head, All-map, All-weaker, All-nil}
use Rattle.std.proofs.lemmas.Bool.{leb-true, leb-false}
use Rattle.theory.specs.Literals.{Literal, IsVariable, negations}
use Rattle.theory.specs.Truth.{IsOver}
use Rattle.theory.specs.Reading.{large, max_vars}
use Rattle.theory.specs.Learning.{Line}
use Rattle.theory.specs.Proofs.{renumbered, numbers_from}
use Rattle.theory.proofs.checker.DeletedNumbers.{numbers_from-All}
use Rattle.cubes.specs.declared.traversal.Split.{Split}
use Rattle.cubes.specs.Traversal.{path}
use Rattle.join.specs.Joining.{learnt_line, split_line}
use Rattle.theory.specs.Steps.{add, delete}
use Rattle.theory.specs.ProofReading.{IsStep, IsNumber, IsLiteral, IsGroup, IsAddition, max_number}
use Rattle.join.specs.Deleted.{is_gone, in_half, due_behind}
use Rattle.join.specs.Numbered.{IsHalf, IsBefore, IsLine, AreUpTo}
use Rattle.join.proofs.CubeLemmas.{opposite, negations-path, All-reverse}

-- the negations of the cube are over the variables
pub IsOver-negations : (hs : List (Split ℕ)) → All (λ h. IsVariable (max_vars large) h.var) hs → IsOver (max_vars large) (negations (path hs))
IsOver-negations hs h =
    subst (IsOver (max_vars large)) (sym (negations-path hs)) (All-map (λ (l : Literal). IsVariable (max_vars large) l.var) opposite (reverse hs) (All-reverse (λ s. IsVariable (max_vars large) s.var) hs h))

-- a hint's number in the proof, where its line has the number first + k
renumbered-within : (N first k h : ℕ) → N < first → (1 ≤ h) × (h ≤ N + k) → (1 ≤ renumbered N first h) × (renumbered N first h ≤ first + k - 1)
renumbered-within N first k h begun within = go (nat_le h N) refl
  where
    go : (b : Bool) → nat_le h N ≡ b → (1 ≤ cond b h (first + (h - N - 1))) × (cond b h (first + (h - N - 1)) ≤ first + k - 1)
    go true e = let low = leb-true h N e in (within.0, omega arith)
    go false e = let high = leb-false h N e in let most = within.1 in (omega arith, omega arith)

pub AreUpTo-renumbered : (N first k : ℕ) (hints : List ℕ) → N < first → AreUpTo (N + k) hints → AreUpTo (first + k - 1) (map (renumbered N first) hints)
AreUpTo-renumbered N first k hints begun h =
    All-map (λ n. (1 ≤ n) × (n ≤ first + k - 1)) (renumbered N first) hints (All-weaker (λ n. (1 ≤ n) × (n ≤ N + k)) _ (λ n w. renumbered-within N first k n begun w) hints h)

-- a line's numbers and literals are within the limits
pub IsAddition-line : (n : ℕ) (clause : List Literal) (hints : List ℕ) → 1 ≤ n → n ≤ max_number → IsOver (max_vars large) clause → AreUpTo (n - 1) hints
    → IsAddition (record { id = n; clause = clause; hints = hints; groups = [] })
IsAddition-line n clause hints from to over up_to = record {
  id = (from, to);
  clause = All-weaker (λ (l : Literal). IsVariable (max_vars large) l.var) IsLiteral (λ l v. (v.0, omega (arith, v.1))) clause over;
  hints = All-weaker (λ h. (1 ≤ h) × (h ≤ n - 1)) IsNumber (λ h w. (w.0, omega (arith, w.1))) hints up_to;
  groups = All-nil IsGroup;
}

pub IsBefore-later : (n : ℕ) (left : Option ℕ) → IsBefore n left → IsBefore (n + 1) left
IsBefore-later n None h = h
IsBefore-later n (Some left) h = let below = h.1 in (h.0, omega arith)

-- the splits, before one more line
pub AreHalves-later : (n : ℕ) (hs : List (Split ℕ)) → All (IsHalf n) hs → All (IsHalf (n + 1)) hs
AreHalves-later n hs h = All-weaker (IsHalf n) (IsHalf (n + 1)) (λ h w. record { variable = w.variable; left = IsBefore-later n h.left w.left }) hs h

-- the line for a leaf's line, and that of a split, are within the limits
pub IsStep-learnt : (N first n : ℕ) (hs : List (Split ℕ)) (line : Line) → first ≤ n → n ≤ max_number → N < first → All (λ h. IsVariable (max_vars large) h.var) hs → IsOver (max_vars large) line.clause
    → AreUpTo (N + (n - first)) line.hints → IsStep (learnt_line N first n (path hs) line)
IsStep-learnt N first n hs line begun fits low halves over up_to =
    let number : first + (n - first) - 1 ≡ n - 1 = omega arith in
    IsAddition-line n (line.clause ++ negations (path hs)) (map (renumbered N first) line.hints) (omega arith) fits
    (All-append (λ (l : Literal). IsVariable (max_vars large) l.var) line.clause _ over (IsOver-negations hs halves))
    (subst (λ m. AreUpTo m (map (renumbered N first) line.hints)) number (AreUpTo-renumbered N first (n - first) line.hints low up_to))

pub IsStep-split : (n left : ℕ) (hs : List (Split ℕ)) → n ≤ max_number → 1 ≤ left → left < n → All (λ h. IsVariable (max_vars large) h.var) hs → IsStep (split_line n (path hs) left (n - 1))
IsStep-split n left hs fits low before halves =
    IsAddition-line n (negations (path hs)) (left ∷ (n - 1) ∷ []) (omega arith) fits (IsOver-negations hs halves)
    (All-cons (λ h. (1 ≤ h) × (h ≤ n - 1)) left ((n - 1) ∷ []) (low, omega arith) (All-cons (λ h. (1 ≤ h) × (h ≤ n - 1)) (n - 1) [] (omega arith, omega arith) (All-nil (λ h. (1 ≤ h) × (h ≤ n - 1)))))

pub within-learnt : (N first n : ℕ) (hs : List (Split ℕ)) (line : Line) (clause : List Literal) (hints : List ℕ) → first ≤ n → n ≤ max_number → N < first → All (λ h. IsVariable (max_vars large) h.var) hs → IsOver (max_vars large) line.clause
    → AreUpTo (N + (n - first)) line.hints → clause ≡ line.clause ++ negations (path hs) → hints ≡ map (renumbered N first) line.hints
    → IsStep (add (record { id = n; clause = clause; hints = hints; groups = [] }))
within-learnt N first n hs line clause hints begun fits low halves over up_to c h = rw (c, h) (IsStep-learnt N first n hs line begun fits low halves over up_to)

pub within-split : (n left : ℕ) (hs : List (Split ℕ)) (clause : List Literal) (hints : List ℕ) → n ≤ max_number → 1 ≤ left → left < n → All (λ h. IsVariable (max_vars large) h.var) hs
    → clause ≡ negations (path hs) → hints ≡ left ∷ (n - 1) ∷ [] → IsStep (add (record { id = n; clause = clause; hints = hints; groups = [] }))
within-split n left hs clause hints fits low before halves c h = rw (c, h) (IsStep-split n left hs fits low before halves)

-- the number of a cube's own line
renumbered-own : (N first k : ℕ) → N < k → renumbered N first k ≡ first + (k - N - 1)
renumbered-own N first k above = go (nat_le k N) refl
  where
    go : (b : Bool) → nat_le k N ≡ b → cond b k (first + (k - N - 1)) ≡ first + (k - N - 1)
    go true e = let low = leb-true k N e in absurd (omega arith)
    go false e = refl

-- those that the line of number n forgets
pub AreOwn-renumbered : (N first n : ℕ) (ns : List ℕ) → first ≤ n → All (λ k. (N < k) × (k ≤ N + (n - first))) ns → All (λ k. (first ≤ k) × (k < n)) (map (renumbered N first) ns)
AreOwn-renumbered N first n ns begun h =
    All-map (λ k. (first ≤ k) × (k < n)) (renumbered N first) ns (All-weaker (λ k. (N < k) × (k ≤ N + (n - first))) _ (λ k w. one k w.0 w.1) ns h)
  where
    one : (k : ℕ) → N < k → k ≤ N + (n - first) → (first ≤ renumbered N first k) × (renumbered N first k < n)
    one k above below = let e = renumbered-own N first k above in (omega (arith, e), omega (arith, e))

-- the numbers of a leaf's lines but the last one
pub AreBelow-from : (first last : ℕ) → 1 ≤ first → All (λ n. (1 ≤ n) × (n < last)) (numbers_from first (last - first))
AreBelow-from first last low =
    All-weaker (λ n. (first ≤ n) × (n < first + (last - first))) (λ n. (1 ≤ n) × (n < last)) (λ n w. let from = w.0 in let to = w.1 in (omega arith, omega arith)) (numbers_from first (last - first))
    (numbers_from-All first (last - first))

-- a deletion of numbers below its own
pub IsStep-deletion : (last : ℕ) (ns : List ℕ) → last ≤ max_number → 0 < length ns → All (λ n. (1 ≤ n) × (n < last)) ns → IsStep (delete (record { id = last; ids = ns }))
IsStep-deletion last [] fits some h = absurd (omega arith)
IsStep-deletion last (n ∷ ns) fits some h =
    let here = All-head (λ n. (1 ≤ n) × (n < last)) n ns h in
    let low = here.0 in
    let high = here.1 in
    record { id = (omega arith, fits); ids = All-weaker (λ n. (1 ≤ n) × (n < last)) IsNumber (λ n w. let from = w.0 in let to = w.1 in (from, omega arith)) (n ∷ ns) h }

-- the numbers that are due behind the line of number n are below that
pub due-below : (N first n : ℕ) (Q : List Literal) (marks : List Bool) (line : Line) (leaf : List Line) → N < first → first ≤ n → IsLine N (N + (n - first)) line leaf
    → All (λ k. (1 ≤ k) × (k < n)) (due_behind N first n Q marks line leaf)
due-below N first n [] marks line [] low begun is = All-nil (λ k. (1 ≤ k) × (k < n))
due-below N first n (l ∷ Q) marks line [] low begun is =
    All-filter (λ k. not (is_gone N first marks [] k)) (λ k. (1 ≤ k) × (k < n)) (numbers_from first (n - first)) (AreBelow-from first n (omega arith))
due-below N first n Q marks line (next ∷ leaf) low begun is =
    All-weaker (λ k. (first ≤ k) × (k < n)) (λ k. (1 ≤ k) × (k < n)) (λ k w. let from = w.0 in let to = w.1 in (omega arith, omega arith)) (map (renumbered N first) line.forgets)
    (AreOwn-renumbered N first n line.forgets begun is.forgets)

-- so are those of a split's halves
pub halves-below : (n left : ℕ) (Q : List Literal) → 1 ≤ left → left < n → All (λ k. (1 ≤ k) × (k < n)) (in_half Q (left ∷ (n - 1) ∷ []))
halves-below n left [] low before = All-nil (λ k. (1 ≤ k) × (k < n))
halves-below n left (l ∷ Q) low before =
    All-cons (λ k. (1 ≤ k) × (k < n)) left ((n - 1) ∷ []) (low, before) (All-cons (λ k. (1 ≤ k) × (k < n)) (n - 1) [] (omega arith, omega arith) (All-nil (λ k. (1 ≤ k) × (k < n))))
