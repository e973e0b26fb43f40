-- A clause all of whose literals are false, but one at most.
use Rattle.std.proofs.Common.{◌≡◌, ℕ, ◌+◌, ◌<◌, ◌≤◌, true, false, ◌||◌, List, length, get_or, take, sym, subst, ◌∙◌, ◌⊎◌, inl, inr}
use Rattle.std.proofs.lemmas.List.{take_all}
use Rattle.theory.specs.Literals.{Literal, Clause, same, has, negated}
use Rattle.theory.specs.Status.{is_false, others_false}
use Rattle.theory.proofs.literals.LiteralLemmas.{same-eq, same-refl, or-left, or-right, true_or_false}
use Rattle.kernel.specs.Watching.{WasUnit}
use Rattle.kernel.specs.Visiting.{IsLast}
use Rattle.kernel.specs.Placing.{IsLastOf}
use Rattle.kernel.proofs.LiteralFacts.{true_false}
use Rattle.kernel.proofs.AtRest.{other-false}
use Rattle.kernel.proofs.Walking.{all-from}
use Rattle.kernel.proofs.WatchChoice.{front-cases}

pub all-false-but : (P : List Literal) (c : Clause) (b : Literal) → IsLast P c b → others_false P c b ≡ true
all-false-but P c b last = all-from (λ l. same b l || has P (negated l)) c (λ l m. by l m (true_or_false (same b l)))
  where
    by : (l : Literal) → has c l ≡ true → (same b l ≡ true) ⊎ (same b l ≡ false) → same b l || has P (negated l) ≡ true
    by l m (inl x) = or-left (same b l) (has P (negated l)) x
    by l m (inr x) = or-right (same b l) (has P (negated l)) (last l m x)

pub all-false : (P : List Literal) (c : Clause) (b : Literal) → IsLast P c b → has P (negated b) ≡ true → is_false P c ≡ true
all-false P c b last gone = all-from (λ l. has P (negated l)) c (λ l m. by l m (true_or_false (same b l)))
  where
    by : (l : Literal) → has c l ≡ true → (same b l ≡ true) ⊎ (same b l ≡ false) → has P (negated l) ≡ true
    by l m (inl x) = subst (λ (y : Literal). has P (negated y) ≡ true) (same-eq b l x) gone
    by l m (inr x) = last l m x

-- one that isn't false, in a clause that was unit
pub last-open : (P : List Literal) (c : Clause) (l : Literal) → WasUnit P c → has c l ≡ true → has P (negated l) ≡ false → IsLastOf P c l
last-open P c l was m free = (m, λ k n ne. go (other-false P c was.0 k was.2 n) (other-false P c was.0 l was.2 m) ne)
  where
    go : {k : Literal} → (was.0 ≡ k) ⊎ (has P (negated k) ≡ true) → (was.0 ≡ l) ⊎ (has P (negated l) ≡ true) → same l k ≡ false → has P (negated k) ≡ true
    go (inr f) e ne = f
    go {k} (inl e) (inl f) ne = absurd (true_false (same l k) (subst (λ (x : Literal). same x k ≡ true) (sym e ∙ f) (same-refl k)) ne)
    go (inl e) (inr f) ne = absurd (true_false (has P (negated l)) f free)

-- the literals so far are false
pub false-more : (P : List Literal) (c : Clause) (i : ℕ) (l : Literal) → l ≡ get_or c i l → i < length c → has P (negated l) ≡ true → ((x : Literal) → has (take i c) x ≡ true → has P (negated x) ≡ true) → (x : Literal) → has (take (i + 1) c) x ≡ true → has P (negated x) ≡ true
false-more P c i l read inside h all x m = go (front-cases c i l x read inside m)
  where
    go : (has (take i c) x ≡ true) ⊎ (x ≡ l) → has P (negated x) ≡ true
    go (inl f) = all x f
    go (inr f) = rw f h

-- where all are false, any one will do
pub last-false : (P : List Literal) (c : Clause) (i : ℕ) (l : Literal) → length c ≤ i → has c l ≡ true → ((x : Literal) → has (take i c) x ≡ true → has P (negated x) ≡ true) → IsLastOf P c l
last-false P c i l end m all = (m, λ k n ne. all k (subst (λ (d : Clause). has d k ≡ true) (sym (take_all i c end)) n))
