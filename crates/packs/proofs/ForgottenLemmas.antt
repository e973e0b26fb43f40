-- Marks of lines that are forgotten, one number after the other.
use Rattle.std.proofs.Common.{◌≡◌, ◌↔◌, ℕ, zero, suc, ◌+◌, ◌-◌, ◌<◌, ◌≤◌, Bool, true, false, not, ◌&&◌, ◌||◌, nat_eq, nat_lt, eq-eqb, eqb-true, List, [], ◌∷◌, ◌++◌, length, take, set, get_or, refl, ap, sym, subst, ◌∙◌, inl, inr, arith, append_assoc}
use Rattle.std.proofs.lemmas.Bool.{cases_eq, ne_eqb, ltb-true}
use Rattle.std.proofs.lemmas.List.{get_or-set_same, get_or-set_other, length-set, take_more}
use Rattle.theory.specs.Learning.{Line}
use Rattle.theory.specs.Deletions.{is_among, are_different}
use Rattle.theory.specs.Replaying.{IsForgetting}
use Rattle.theory.proofs.literals.LiteralLemmas.{and-left, and-right, or-cases, or-left, or-right, not_true, true_or_false}
use Rattle.theory.proofs.literals.LiteralSets.{true_false, and-true, or-none, or-false_left, or-false_right, false_unless}
use Rattle.packs.specs.Forgotten.{is_marked, AreClear, AreMarked, AreOwn, IsThere}

among-head : (k x : ℕ) (rest : List ℕ) → k ≡ x → is_among k (x ∷ rest) ≡ true
among-head k x rest e = or-left (nat_eq k x) (is_among k rest) (eq-eqb k x e)

among-tail : (k x : ℕ) (rest : List ℕ) → is_among k rest ≡ true → is_among k (x ∷ rest) ≡ true
among-tail k x rest h = or-right (nat_eq k x) (is_among k rest) h

or-assoc : (a b c : Bool) → (a || b) || c ≡ a || (b || c)
or-assoc true b c = refl
or-assoc false b c = refl

pub is_among-append : (k : ℕ) (xs ys : List ℕ) → is_among k (xs ++ ys) ≡ is_among k xs || is_among k ys
is_among-append k [] ys = refl
is_among-append k (x ∷ xs) ys = ap (λ b. nat_eq k x || b) (is_among-append k xs ys) ∙ sym (or-assoc (nat_eq k x) (is_among k xs) (is_among k ys))

-- numbers that are clear, from the first one on
pub clear-cons : (N x : ℕ) (marks : List Bool) (rest : List ℕ) → false ≡ is_marked N marks x → AreClear N marks rest ↔ AreClear N marks (x ∷ rest)
clear-cons N x marks rest free = (
  λ h k m. or-none (nat_eq k x) (is_among k rest)
      (false_unless (nat_eq k x) (λ e. true_false (is_marked N marks x) (subst (λ n. is_marked N marks n ≡ true) (eqb-true k x e) m) (sym free)))
      (h k m),
  λ h k m. or-false_right (nat_eq k x) (is_among k rest) (h k m),
)

pub clear-not : (N x : ℕ) (marks : List Bool) (rest : List ℕ) → true ≡ is_marked N marks x → ¬ (AreClear N marks (x ∷ rest))
clear-not N x marks rest marked h = true_false (is_among x (x ∷ rest)) (among-head x x rest refl) (h x (sym marked))

-- a line more is marked
marked-set : (N x k : ℕ) (marks : List Bool) → N < x → x ≤ N + length marks → is_marked N (set marks (x - N - 1) true) k ≡ is_marked N marks k || nat_eq k x
marked-set N x k marks low high = elim (cases_eq k x) [
  | inl e ↦
      let here : is_marked N (set marks (x - N - 1) true) x ≡ true
      = and-true (nat_lt N x) (get_or (set marks (x - N - 1) true) (x - N - 1) false) (less low) (get_or-set_same marks (x - N - 1) true false (omega arith)) in
      let other : is_marked N marks k || nat_eq k x ≡ true = or-right (is_marked N marks k) (nat_eq k x) (eq-eqb k x e) in
      subst (λ n. is_marked N (set marks (x - N - 1) true) n ≡ true) (sym e) here ∙ sym other
  | inr other ↦
      let none : nat_eq k x ≡ false = ne_eqb k x other in
      beside other ∙ (sym (or-false (is_marked N marks k)) ∙ ap (λ b. is_marked N marks k || b) (sym none))
]
  where
    less : N < x → nat_lt N x ≡ true
    less h = grind arith

    or-false : (b : Bool) → b || false ≡ b
    or-false true = refl
    or-false false = refl

    beside : (k ≡ x → ⊥) → is_marked N (set marks (x - N - 1) true) k ≡ is_marked N marks k
    beside other = elim (true_or_false (nat_lt N k)) [
      | inl e ↦
          let above : N < k = ltb-true N k e in
          ap (λ b. nat_lt N k && b) (get_or-set_other marks (x - N - 1) (k - N - 1) true false (λ same. other (omega arith)))
      | inr e ↦ ap (λ b. b && get_or (set marks (x - N - 1) true) (k - N - 1) false) e ∙ sym (ap (λ b. b && get_or marks (k - N - 1) false) e)
    ]

AreMarked-more : (N x : ℕ) (marks : List Bool) (gone : List ℕ) → N < x → x ≤ N + length marks → AreMarked N marks gone → AreMarked N (set marks (x - N - 1) true) (gone ++ x ∷ [])
AreMarked-more N x marks gone low high h k =
    is_among-append k gone (x ∷ []) ∙ (ap (λ b. b || is_among k (x ∷ [])) (h k) ∙ (ap (λ b. is_marked N marks k || b) (only k) ∙ sym (marked-set N x k marks low high)))
  where
    only : (k : ℕ) → is_among k (x ∷ []) ≡ nat_eq k x
    only k = go (nat_eq k x)
      where
        go : (b : Bool) → b || false ≡ b
        go true = refl
        go false = refl

pub marked-more : (N i : ℕ) (marks : List Bool) (gone numbers : List ℕ) → i < length numbers → IsThere N marks (get_or numbers i 0) → AreMarked N marks (gone ++ take i numbers)
    → AreMarked N (set marks (get_or numbers i 0 - N - 1) true) (gone ++ take (i + 1) numbers)
marked-more N i marks gone numbers inside here h =
    let x = get_or numbers i 0 in
    let all : (gone ++ take i numbers) ++ x ∷ [] ≡ gone ++ take (i + 1) numbers = append_assoc gone (take i numbers) (x ∷ []) ∙ ap (λ xs. gone ++ xs) (sym (take_more numbers i 0 inside)) in
    subst (AreMarked N (set marks (x - N - 1) true)) all (AreMarked-more N x marks (gone ++ take i numbers) here.behind here.before h)

-- numbers that are a cube's own, from the first one on
own-cons : (N x : ℕ) (marks : List Bool) (rest : List ℕ) → IsThere N marks x → AreOwn N (set marks (x - N - 1) true) rest → AreOwn N marks (x ∷ rest)
own-cons N x marks rest here h = record {
  distinct = and-true (not (is_among x rest)) (are_different rest) (ap not alone) h.distinct;
  own = λ k a. elim (or-cases (nat_eq k x) (is_among k rest) a) [
    | inl e ↦ subst (IsThere N marks) (sym (eqb-true k x e)) here
    | inr r ↦ let there = h.own k r in record {
      behind = there.behind;
      before = subst (λ n. k ≤ N + n) (length-set marks (x - N - 1) true) there.before;
      left = or-false_left (is_marked N marks k) (nat_eq k x) (sym (marked-set N x k marks here.behind here.before) ∙ there.left);
    }
  ];
}
  where
    alone : is_among x rest ≡ false
    alone = false_unless (is_among x rest) (λ a.
        true_false (is_marked N marks x || nat_eq x x) (or-right (is_marked N marks x) (nat_eq x x) (eq-eqb x x refl))
        (sym (marked-set N x x marks here.behind here.before) ∙ (h.own x a).left))

own-uncons : (N x : ℕ) (marks : List Bool) (rest : List ℕ) → AreOwn N marks (x ∷ rest) → IsThere N marks x × AreOwn N (set marks (x - N - 1) true) rest
own-uncons N x marks rest h =
    let here = h.own x (among-head x x rest refl) in
    let alone = not_true (is_among x rest) (and-left (not (is_among x rest)) (are_different rest) h.distinct) in (
      here,
      record {
        distinct = and-right (not (is_among x rest)) (are_different rest) h.distinct;
        own = λ k a.
            let there = h.own k (among-tail k x rest a) in
            let other : nat_eq k x ≡ false = false_unless (nat_eq k x) (λ e. true_false (is_among x rest) (subst (λ n. is_among n rest ≡ true) (eqb-true k x e) a) alone) in
            record {
              behind = there.behind;
              before = subst (λ n. k ≤ N + n) (sym (length-set marks (x - N - 1) true)) there.before;
              left = marked-set N x k marks here.behind here.before ∙ or-none (is_marked N marks k) (nat_eq k x) there.left other;
            };
      },
    )

pub own-more : (N x : ℕ) (marks : List Bool) (rest : List ℕ) → IsThere N marks x → AreOwn N marks (x ∷ rest) ↔ AreOwn N (set marks (x - N - 1) true) rest
own-more N x marks rest here = (λ h. (own-uncons N x marks rest h).1, own-cons N x marks rest here)

pub own-not : (N x : ℕ) (marks : List Bool) (rest : List ℕ) → ¬ (IsThere N marks x) → ¬ (AreOwn N marks (x ∷ rest))
own-not N x marks rest none h = none (own-uncons N x marks rest h).0

pub own-nothing : (N : ℕ) (marks : List Bool) → AreOwn N marks []
own-nothing N marks = record { distinct = refl; own = λ k a. absurd (cc) }

-- a line forgets as it may just where its hints are clear and the numbers are the cube's own
pub forgetting-own : (N n : ℕ) (marks : List Bool) (gone : List ℕ) (line : Line) → n ≡ N + length marks + 1 → AreMarked N marks gone → AreClear N marks line.hints × AreOwn N marks line.forgets ↔ IsForgetting N n gone line
forgetting-own N n marks gone line last same = (
  λ h. record {
    clear = λ k a. h.0 k (sym (same k) ∙ a);
    distinct = h.1.distinct;
    own = λ k a. let there = h.1.own k a in let before = there.before in (there.behind, omega arith, same k ∙ there.left);
  },
  λ h. (
    λ k m. h.clear k (same k ∙ m),
    record { distinct = h.distinct; own = λ k a. let there = h.own k a in let before = there.1 in record { behind = there.0; before = omega arith; left = sym (same k) ∙ there.2 } },
  ),
)

-- a line that isn't forgotten, behind the others
pub marked-push : (N : ℕ) (marks : List Bool) (gone : List ℕ) → AreMarked N marks gone → AreMarked N (marks ++ false ∷ []) gone
marked-push N marks gone h k = h k ∙ ap (λ b. nat_lt N k && b) (sym (pushed marks (k - N - 1)))
  where
    pushed : (marks : List Bool) (i : ℕ) → get_or (marks ++ false ∷ []) i false ≡ get_or marks i false
    pushed [] zero = refl
    pushed [] (suc i) = refl
    pushed (m ∷ marks) zero = refl
    pushed (m ∷ marks) (suc i) = pushed marks i
