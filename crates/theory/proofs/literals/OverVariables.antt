-- Lists of literals over the variables of a formula.
use Rattle.std.proofs.Common.{◌≡◌, ℕ, ◌-◌, ◌≤◌, true, List, [], ◌∷◌, ◌++◌, length, subst, sym, All, inl, inr, arith}
use Rattle.std.proofs.lemmas.List.Elements.{All-nil, All-cons, All-head, All-tail, All-get_or}
use Rattle.std.proofs.lemmas.Option.{unwrap_or-slice_get}
use Rattle.theory.specs.Literals.{Literal, Clause, negated, negations, has, IsVariable}
use Rattle.theory.specs.Truth.{IsOver}
use Rattle.theory.specs.Trails.{Entry, Trail, literals}
use Rattle.theory.specs.Propagation.{clause_at}
use Rattle.theory.proofs.literals.LiteralSets.{has-head, has-tail, has-cases, has-append_cases, has-from_negations}
use Rattle.theory.proofs.trails.TrailEntries.{literals-at}

-- each literal of the list is of one of the variables 1 to V
abbrev pub AreOver : ℕ → List Literal → Type 0
AreOver V c = (l : Literal) → has c l ≡ true → IsVariable V l.var

pub AreOver-from_IsOver : (V : ℕ) (c : Clause) → IsOver V c → AreOver V c
AreOver-from_IsOver V [] h l a = absurd (cc)
AreOver-from_IsOver V (k ∷ c) h l a = elim (has-cases k l c a) [
  | inl e ↦ subst (λ (x : Literal). IsVariable V x.var) (sym e) (All-head (λ x. IsVariable V x.var) k c h)
  | inr r ↦ AreOver-from_IsOver V c (All-tail (λ x. IsVariable V x.var) k c h) l r
]

pub IsOver-from_AreOver : (V : ℕ) (c : Clause) → AreOver V c → IsOver V c
IsOver-from_AreOver V [] h = All-nil (λ x. IsVariable V x.var)
IsOver-from_AreOver V (k ∷ c) h = All-cons (λ x. IsVariable V x.var) k c (h k (has-head k c)) (IsOver-from_AreOver V c (λ l a. h l (has-tail k l c a)))

pub clause_at-over : (V : ℕ) (K : List Clause) (n : ℕ) → All (IsOver V) K → 1 ≤ n → n ≤ length K → AreOver V (clause_at K n)
clause_at-over V K n h one end =
    AreOver-from_IsOver V (clause_at K n) (subst (IsOver V) (sym (unwrap_or-slice_get K (n - 1) [])) (All-get_or (IsOver V) K (n - 1) [] (omega arith) h))

-- the literals of a longer trail
pub AreOver-push : (V : ℕ) (T : Trail) (e : Entry) → AreOver V (literals T) → IsVariable V e.lit.var → AreOver V (literals (T ++ e ∷ []))
AreOver-push V T e h v l a = elim (has-append_cases (literals T) (e.lit ∷ []) l (subst (λ c. has c l ≡ true) (literals-at T e []) a)) [
  | inl i ↦ h l i
  | inr i ↦ elim (has-cases e.lit l [] i) [ inl one ↦ subst (λ (x : Literal). IsVariable V x.var) (sym one) v | inr none ↦ absurd (cc) ]
]

pub AreOver-negations : (V : ℕ) (Q : List Literal) → AreOver V Q → AreOver V (negations Q)
AreOver-negations V Q h l a = h (negated l) (has-from_negations Q l a)

-- one literal more
pub AreOver-snoc : (V : ℕ) (Q : List Literal) (l : Literal) → AreOver V Q → IsVariable V l.var → AreOver V (Q ++ l ∷ [])
AreOver-snoc V Q l h v k a = elim (has-append_cases Q (l ∷ []) k a) [
  | inl i ↦ h k i
  | inr i ↦ elim (has-cases l k [] i) [ inl one ↦ subst (λ (y : Literal). IsVariable V y.var) (sym one) v | inr none ↦ absurd (cc) ]
]

pub IsOver-left : (V : ℕ) (c d : Clause) → IsOver V (c ++ d) → IsOver V c
IsOver-left V [] d h = All-nil (λ x. IsVariable V x.var)
IsOver-left V (k ∷ c) d h = All-cons (λ x. IsVariable V x.var) k c (All-head (λ x. IsVariable V x.var) k (c ++ d) h) (IsOver-left V c d (All-tail (λ x. IsVariable V x.var) k (c ++ d) h))
