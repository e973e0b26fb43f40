-- What the model at hand is where a lowering is stopped; and that a satisfiable formula has a first model.
use Rattle.std.proofs.Common.{◌≡◌, ℕ, zero, suc, ◌+◌, ◌≤◌, Bool, true, false, List, [], ◌∷◌, length, refl, sym, ap, subst, ◌∙◌, ◌⊎◌, inl, inr, arith, IsTrue}
use Rattle.theory.specs.Truth.{Formula, Assignment, IsFormula, Satisfies, value, are_true}
use Rattle.theory.specs.FirstModel.{comes_before, IsFirst}
use Rattle.theory.specs.Pure.{searched}
use Rattle.theory.proofs.searching.PureModels.{Satisfies-searched, searched-IsFirst}
use Rattle.theory.proofs.trees.FirstModelLemmas.{comes_before-total}
use Rattle.strategies.specs.Lowering.{IsFirstBelow}
use Rattle.strategies.specs.Settled.{Agrees, IsFirstUpTo}

-- the first model comes before the one at hand, or is it
pub stopped : (F : Formula) (x k : ℕ) (M : Assignment) → IsFormula F → x ≡ k + 1 → k ≤ F.vars → IsFirstBelow (searched F) x M → IsFirstUpTo F k M
stopped F x k M formed is within h = record { satisfies = Satisfies-searched F M h.satisfies; within = within; settled = λ N first. subst (λ (y : ℕ). Agrees y M N) is (go N (searched-IsFirst F N formed first)) }
  where
    go : (N : Assignment) → IsFirst (searched F) N → Agrees x M N
    go N first = elim (comes_before-total N M (first.satisfies.values ∙ sym h.satisfies.values)) [
      | inl e ↦ (λ u one less. ap (λ (K : Assignment). value K u) e)
      | inr (inl before) ↦ h.agrees N first.satisfies before
      | inr (inr after) ↦ absurd (first.least M h.satisfies after)
    ]

-- of the assignments to n variables for which p holds, N is the first
record IsLeast (n : ℕ) (p : Assignment → Bool) (N : Assignment) : Type 0 where
  pub long : length N ≡ n
  pub holds : p N ≡ true
  pub least : (K : Assignment) → length K ≡ n → p K ≡ true → ¬ (IsTrue (comes_before K N))

-- there is one, or p holds for none
abbrev Found : ℕ → (Assignment → Bool) → Type 0
Found n p = ((N : Assignment) × IsLeast n p N) ⊎ ((K : Assignment) → length K ≡ n → p K ≡ false)

found-none : (p : Assignment → Bool) (b : Bool) → p [] ≡ b → Found zero p
found-none p true e = inl ([], record { long = refl; holds = e; least = never })
  where
    never : (K : Assignment) → length K ≡ zero → p K ≡ true → ¬ (IsTrue (comes_before K []))
    never [] long h = λ before. cc
    never (b ∷ K) long h = absurd (omega arith)
found-none p false e = inr none
  where
    none : (K : Assignment) → length K ≡ zero → p K ≡ false
    none [] long = e
    none (b ∷ K) long = absurd (omega arith)

found-more : (n : ℕ) (p : Assignment → Bool) → Found n (λ K. p (false ∷ K)) → Found n (λ K. p (true ∷ K)) → Found (suc n) p
found-more n p (inl low) high = inl (false ∷ low.0, record { long = ap suc low.1.long; holds = low.1.holds; least = least })
  where
    least : (K : Assignment) → length K ≡ suc n → p K ≡ true → ¬ (IsTrue (comes_before K (false ∷ low.0)))
    least [] long h = absurd (omega arith)
    least (false ∷ K) long h = low.1.least K (omega arith) h
    least (true ∷ K) long h = λ before. cc
found-more n p (inr none) (inl high) = inl (true ∷ high.0, record { long = ap suc high.1.long; holds = high.1.holds; least = least })
  where
    least : (K : Assignment) → length K ≡ suc n → p K ≡ true → ¬ (IsTrue (comes_before K (true ∷ high.0)))
    least [] long h = absurd (omega arith)
    least (false ∷ K) long h = λ before. (let never = none K (omega arith) in cc)
    least (true ∷ K) long h = high.1.least K (omega arith) h
found-more n p (inr none) (inr neither) = inr both
  where
    both : (K : Assignment) → length K ≡ suc n → p K ≡ false
    both [] long = absurd (omega arith)
    both (false ∷ K) long = none K (omega arith)
    both (true ∷ K) long = neither K (omega arith)

find-least : (n : ℕ) (p : Assignment → Bool) → Found n p
find-least zero p = found-none p (p []) refl
find-least (suc n) p = found-more n p (find-least n (λ K. p (false ∷ K))) (find-least n (λ K. p (true ∷ K)))

-- a satisfiable formula has a first model
pub first-there : (F : Formula) (M : Assignment) → Satisfies F M → (N : Assignment) × IsFirst F N
first-there F M h = go (find-least F.vars p)
  where
    p : Assignment → Bool
    p K = are_true (value K) F.clauses

    go : Found F.vars p → (N : Assignment) × IsFirst F N
    go (inl found) = (
      found.0,
      record { satisfies = record { values = found.1.long; clauses = found.1.holds }; least = λ K k. found.1.least K k.values k.clauses },
    )
    go (inr none) = absurd (let holds = h.clauses in let never = none M h.values in cc)
