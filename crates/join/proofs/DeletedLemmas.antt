-- Marks of lines that are deleted, one number after the other, and the numbers that are left.
use Rattle.std.proofs.Common.{◌≡◌, ℕ, zero, suc, ◌+◌, ◌-◌, ◌<◌, ◌≤◌, Bool, true, false, not, ◌&&◌, ◌||◌, nat_eq, nat_le, eq-eqb, List, [], ◌∷◌, ◌++◌, length, take, set, get_or, filter, map, cond, refl, ap, sym, subst, ◌∙◌, inl, inr, arith, append_assoc, replicate}
use Rattle.std.proofs.lemmas.Bool.{cases_eq, ne_eqb, leb-true}
use Rattle.std.proofs.lemmas.List.{map-append, get_or-set_same, get_or-set_other, take_more}
use Rattle.theory.specs.Deletions.{is_among}
use Rattle.theory.specs.Literals.{Literal}
use Rattle.theory.specs.Learning.{Line}
use Rattle.theory.specs.Proofs.{renumbered, forgotten_by, numbers_from, deletion, forget_steps}
use Rattle.theory.proofs.checker.DeletedNumbers.{numbers_from-next}
use Rattle.theory.proofs.literals.LiteralLemmas.{or-right, true_or_false}
use Rattle.theory.proofs.literals.LiteralSets.{and-true}
use Rattle.join.specs.Deleted.{is_marked, is_gone, left_by, in_half}

pub or-false : (b : Bool) → b || false ≡ b
or-false true = refl
or-false false = refl

pub or-assoc : (a b c : Bool) → (a || b) || c ≡ a || (b || c)
or-assoc true b c = refl
or-assoc false b c = refl

pub is_among-append : (k : ℕ) (xs ys : List ℕ) → is_among k (xs ++ ys) ≡ is_among k xs || is_among k ys
is_among-append k [] ys = refl
is_among-append k (x ∷ xs) ys = ap (λ b. nat_eq k x || b) (is_among-append k xs ys) ∙ sym (or-assoc (nat_eq k x) (is_among k xs) (is_among k ys))

-- a line more is marked
marked-set : (first x k : ℕ) (marks : List Bool) → first ≤ x → x < first + length marks → is_marked first (set marks (x - first) true) k ≡ is_marked first marks k || nat_eq k x
marked-set first x k marks low high = elim (cases_eq k x) [
  | inl e ↦
      let here : is_marked first (set marks (x - first) true) x ≡ true
      = and-true (nat_le first x) (get_or (set marks (x - first) true) (x - first) false) (less low) (get_or-set_same marks (x - first) true false (omega arith)) in
      subst (λ n. is_marked first (set marks (x - first) true) n ≡ true) (sym e) here ∙ sym (or-right (is_marked first marks k) (nat_eq k x) (eq-eqb k x e))
  | inr other ↦ beside other ∙ (sym (or-false (is_marked first marks k)) ∙ ap (λ b. is_marked first marks k || b) (sym (ne_eqb k x other)))
]
  where
    less : first ≤ x → nat_le first x ≡ true
    less h = grind arith

    beside : (k ≡ x → ⊥) → is_marked first (set marks (x - first) true) k ≡ is_marked first marks k
    beside other = elim (true_or_false (nat_le first k)) [
      | inl e ↦
          let above : first ≤ k = leb-true first k e in
          ap (λ b. nat_le first k && b) (get_or-set_other marks (x - first) (k - first) true false (λ same. other (omega arith)))
      | inr e ↦ ap (λ b. b && get_or (set marks (x - first) true) (k - first) false) e ∙ sym (ap (λ b. b && get_or marks (k - first) false) e)
    ]

-- so are those of the numbers so far, and one more
pub marked-more : (first i k : ℕ) (old marks : List Bool) (numbers : List ℕ) → i < length numbers → first ≤ get_or numbers i 0 → get_or numbers i 0 < first + length marks
    → is_marked first marks k ≡ is_marked first old k || is_among k (take i numbers)
    → is_marked first (set marks (get_or numbers i 0 - first) true) k ≡ is_marked first old k || is_among k (take (i + 1) numbers)
marked-more first i k old marks numbers inside low high h =
    let x = get_or numbers i 0 in
    marked-set first x k marks low high
    ∙ ap (λ b. b || nat_eq k x) h
    ∙ or-assoc (is_marked first old k) (is_among k (take i numbers)) (nat_eq k x)
    ∙ ap (λ b. is_marked first old k || (is_among k (take i numbers) || b)) (sym (or-false (nat_eq k x)))
    ∙ ap (λ b. is_marked first old k || b) (sym (is_among-append k (take i numbers) (x ∷ [])) ∙ ap (is_among k) (sym (take_more numbers i 0 inside)))

-- the numbers that are left, from the first one on
pub left-next : (p : ℕ → Bool) (n end : ℕ) (out : List ℕ) → n < end → not (p n) ≡ true
    → (out ++ n ∷ []) ++ filter (λ k. not (p k)) (numbers_from (n + 1) (end - (n + 1))) ≡ out ++ filter (λ k. not (p k)) (numbers_from n (end - n))
left-next p n end out inside left =
    let rest = filter (λ k. not (p k)) (numbers_from (n + 1) (end - (n + 1))) in
    append_assoc out (n ∷ []) rest
    ∙ ap (λ xs. out ++ xs) (sym (ap (λ b. cond b (n ∷ rest) rest) left) ∙ ap (filter (λ k. not (p k))) (sym (numbers_from-next n end inside)))

pub left-passed : (p : ℕ → Bool) (n end : ℕ) (out : List ℕ) → n < end → not (p n) ≡ false
    → out ++ filter (λ k. not (p k)) (numbers_from (n + 1) (end - (n + 1))) ≡ out ++ filter (λ k. not (p k)) (numbers_from n (end - n))
left-passed p n end out inside gone =
    let rest = filter (λ k. not (p k)) (numbers_from (n + 1) (end - (n + 1))) in
    ap (λ xs. out ++ xs) (sym (ap (λ b. cond b (n ∷ rest) rest) gone) ∙ ap (filter (λ k. not (p k))) (sym (numbers_from-next n end inside)))

-- the mark of a number that has one
pub mark-at : (first n : ℕ) (marks : List Bool) → first ≤ n → is_marked first marks n ≡ get_or marks (n - first) false
mark-at first n marks low = ap (λ b. b && get_or marks (n - first) false) (less low)
  where
    less : first ≤ n → nat_le first n ≡ true
    less h = grind arith

-- the same numbers are left by tests that say the same
left-same : (p q : ℕ → Bool) (ns : List ℕ) → ((k : ℕ) → p k ≡ q k) → filter (λ k. not (p k)) ns ≡ filter (λ k. not (q k)) ns
left-same p q ns h =
    let same : p ≡ q = (λ i k. h k i) in
    ap (λ (t : ℕ → Bool). filter (λ k. not (t k)) ns) same

-- behind the last line just the marked ones are gone
pub left-last : (N first last : ℕ) (marks : List Bool) → filter (λ k. not (is_marked first marks k)) (numbers_from first (last - first)) ≡ left_by N first last marks []
left-last N first last marks = left-same (is_marked first marks) (is_gone N first marks []) (numbers_from first (last - first)) (λ k. sym (or-false (is_marked first marks k)))

-- what a line forgets is marked behind it
pub left-line : (N first last : ℕ) (marks marks2 : List Bool) (line : Line) (lines : List Line)
    → ((k : ℕ) → is_marked first marks2 k ≡ is_marked first marks k || is_among k (map (renumbered N first) line.forgets)) → left_by N first last marks (line ∷ lines) ≡ left_by N first last marks2 lines
left-line N first last marks marks2 line lines h =
    left-same (is_gone N first marks (line ∷ lines)) (is_gone N first marks2 lines) (numbers_from first (last - first)) (λ k.
    ap (λ ns. is_marked first marks k || is_among k ns) (map-append (renumbered N first) line.forgets (forgotten_by lines))
    ∙ ap (λ b. is_marked first marks k || b) (is_among-append k (map (renumbered N first) line.forgets) (map (renumbered N first) (forgotten_by lines)))
    ∙ sym (or-assoc (is_marked first marks k) (is_among k (map (renumbered N first) line.forgets)) (is_among k (map (renumbered N first) (forgotten_by lines))))
    ∙ ap (λ b. b || is_among k (map (renumbered N first) (forgotten_by lines))) (sym (h k)))

-- before the first line none is marked
pub left-begun : (N first last : ℕ) (marks : List Bool) (lines : List Line) → ((k : ℕ) → is_marked first marks k ≡ false)
    → left_by N first last marks lines ≡ filter (λ k. not (is_among k (map (renumbered N first) (forgotten_by lines)))) (numbers_from first (last - first))
left-begun N first last marks lines none =
    left-same (is_gone N first marks lines) (λ k. is_among k (map (renumbered N first) (forgotten_by lines))) (numbers_from first (last - first)) (λ k. ap (λ b. b || is_among k (map (renumbered N first) (forgotten_by lines))) (none k))

-- marks that are all false mark nothing
pub none-marked : (first count k : ℕ) → is_marked first (replicate count false) k ≡ false
none-marked first count k = ap (λ b. nat_le first k && b) (all-false count (k - first)) ∙ and-false (nat_le first k)
  where
    all-false : (count i : ℕ) → get_or (replicate count false) i false ≡ false
    all-false zero i = refl
    all-false (suc count) zero = refl
    all-false (suc count) (suc i) = all-false count i

    and-false : (b : Bool) → b && false ≡ false
    and-false true = refl
    and-false false = refl

-- the deletion behind a cube's last line
pub deletion-in_half : (Q : List Literal) (n : ℕ) (ns : List ℕ) → deletion Q n ns ≡ forget_steps n (in_half Q ns)
deletion-in_half [] n ns = refl
deletion-in_half (l ∷ Q) n ns = refl

pub in_half-snoc : (Q : List Literal) (l : Literal) (ns : List ℕ) → in_half (Q ++ l ∷ []) ns ≡ ns
in_half-snoc [] l ns = refl
in_half-snoc (k ∷ Q) l ns = refl
