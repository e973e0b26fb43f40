-- What the tests ask before clauses are forgotten.
use Rattle.std.proofs.Common.{◌≡◌, ℕ, ◌+◌, ◌-◌, ◌<◌, ◌≤◌, Bool, false, List, [], Some, None, All, length, take, get_or, slice_get, unwrap_or, ap, sym, subst, ◌∙◌, inl, inr, IsPermutation, arith}
use Rattle.std.proofs.Math.Nat.{eq-or-lt_of_le}
use Rattle.std.proofs.lemmas.Option.{unwrap_or-slice_get}
use Rattle.std.proofs.lemmas.List.{take_more, get_or_default}
use Rattle.std.proofs.lemmas.List.Elements.{All-push}
use Rattle.theory.specs.Literals.{Literal, Clause, negated, has, has_var}
use Rattle.theory.specs.Status.{is_false}
use Rattle.theory.specs.Trails.{Trail, literals}
use Rattle.theory.specs.Propagation.{least_false, clause_at}
use Rattle.theory.specs.Lawful.{IsLawful}
use Rattle.theory.proofs.literals.LiteralSets.{true_false, false_unless, has_var-has}
use Rattle.theory.proofs.trails.TrailEntries.{literals-consistent}
use Rattle.kernel.specs.Watching.{At}
use Rattle.kernel.proofs.Reordered.{false-permuted}
use Rattle.kernel.proofs.LeastClauses.{least_false-none}
use Rattle.trail.specs.Tables.{value_in}
use Rattle.trail.proofs.Values.{value-none, value-true}

pub all-more : (P : ℕ → Type 0) (ns : List ℕ) (i : ℕ) → i < length ns → All P (take i ns) → P (get_or ns i 0) → All P (take (i + 1) ns)
all-more P ns i inside all next = subst (All P) (sym (take_more ns i 0 inside)) (All-push P (take i ns) (get_or ns i 0) all next)

-- a literal of a variable without a value isn't false
pub not_false-free : (T : Trail) (l : Literal) → value_in T l.var ≡ None → has (literals T) (negated l) ≡ false
not_false-free T l h = false_unless (has (literals T) (negated l)) (λ t. true_false (has_var (literals T) l.var) (has_var-has (literals T) (negated l) t) (value-none T l.var h))

-- nor is one with its own sign as value
pub not_false-true : (K : List Clause) (T : Trail) (l : Literal) (b : Bool) → IsLawful K T → value_in T l.var ≡ Some b → b ≡ l.positive → has (literals T) (negated l) ≡ false
not_false-true K T l b lawful h e = false_unless (has (literals T) (negated l)) (λ t. literals-consistent K T l lawful (value-true T l b h e) t)

-- no clause up to a number is false, nor is the next one, which is told in another order
pub open-more : (P : List Literal) (K : List Clause) (m : ℕ) (d : Clause) → ((n : ℕ) → 1 ≤ n → n ≤ m → is_false P (clause_at K n) ≡ false) → IsPermutation (clause_at K (m + 1)) d → is_false P d ≡ false
    → (n : ℕ) → 1 ≤ n → n ≤ m + 1 → is_false P (clause_at K n) ≡ false
open-more P K m d before p next n low high = elim (eq-or-lt_of_le high) [
  | inl e ↦ subst (λ i. is_false P (clause_at K i) ≡ false) (sym e) (false-permuted P (clause_at K (m + 1)) d p ∙ next)
  | inr less ↦ before n low (omega (arith, less))
]

-- no clause up to the last is false
pub open-all : (P : List Literal) (K : List Clause) (m : ℕ) → length K ≤ m → ((n : ℕ) → 1 ≤ n → n ≤ m → is_false P (clause_at K n) ≡ false) → least_false P K ≡ None
open-all P K m end each = least_false-none P K (λ n c a. subst (λ (d : Clause). is_false P d ≡ false) (at n c a) (each (n + 1) (omega arith) (omega (arith, a.0, end))))
  where
    at : (n : ℕ) (c : Clause) → At K n c → clause_at K (n + 1) ≡ c
    at n c a =
        let down : n + 1 - 1 ≡ n = omega arith in
        ap (λ i. unwrap_or (slice_get K i) []) down ∙ (unwrap_or-slice_get K n [] ∙ (get_or_default K n [] c a.0 ∙ a.1))
