-- What comes before an assignment, and which values it has below a variable.
use Rattle.std.proofs.Common.{◌≡◌, ℕ, zero, suc, ◌+◌, ◌-◌, ◌<◌, ◌≤◌, Bool, true, false, List, [], ◌∷◌, length, refl, sym, ap, subst, ◌∙◌, ◌⊎◌, inl, inr, arith, IsTrue, get_or, All}
use Rattle.std.proofs.lemmas.Bool.{cases_order, cases_eq}
use Rattle.std.proofs.lemmas.List.Elements.{All-head, All-tail}
use Rattle.theory.specs.Literals.{Literal, IsVariable}
use Rattle.theory.specs.Truth.{Formula, Assignment, IsOver, IsFormula, AreTrue, Satisfies, value, is_true}
use Rattle.theory.specs.FirstModel.{comes_before, IsFirst}
use Rattle.theory.specs.Pure.{searched}
use Rattle.theory.proofs.searching.PureModels.{IsFirst-searched}
use Rattle.theory.proofs.trees.FirstModel.{Differ, differ}
use Rattle.strategies.specs.Lowering.{IsFirstBelow}
use Rattle.strategies.specs.Settled.{Agrees}

-- with the value of one variable more
Agrees-more : (x : ℕ) (M N : Assignment) → Agrees x M N → value N x ≡ value M x → Agrees (x + 1) M N
Agrees-more x M N below here u one less = elim (cases_eq u x) [
  | inl e ↦ subst (λ v. value N v ≡ value M v) (sym e) here
  | inr n ↦ below u one (omega arith)
]

-- literals of variables below x stay true
pub AreTrue-agrees : (V x : ℕ) (M N : Assignment) (P : List Literal) → IsOver V P → All (λ l. l.var < x) P → Agrees x M N → AreTrue (value M) P → AreTrue (value N) P
AreTrue-agrees V x M N [] over below a t = tt
AreTrue-agrees V x M N (l ∷ P) over below a t = (
  ap (λ b. is_true (λ v. b) l) (a l.var (All-head (λ k. IsVariable V k.var) l P over).0 (All-head (λ k. k.var < x) l P below)) ∙ t.0,
  AreTrue-agrees V x M N P (All-tail (λ k. IsVariable V k.var) l P over) (All-tail (λ k. k.var < x) l P below) a t.1,
)

-- what is false where M is true, and has its values before, comes before it
comes-before : (N M : Assignment) (i : ℕ) → i < length N → i < length M → ((j : ℕ) → j < i → get_or N j false ≡ get_or M j false) → get_or N i false ≡ false → get_or M i false ≡ true
    → comes_before N M ≡ true
comes-before [] M i n m a f t = absurd (omega arith)
comes-before (b ∷ N) [] i n m a f t = absurd (omega arith)
comes-before (true ∷ N) (c ∷ M) zero n m a f t = absurd (cc)
comes-before (false ∷ N) (false ∷ M) zero n m a f t = absurd (cc)
comes-before (false ∷ N) (true ∷ M) zero n m a f t = refl
comes-before (b ∷ N) (c ∷ M) (suc i) n m a f t = go b c (a 0 (omega arith)) (comes-before N M i (omega arith) (omega arith) (λ j l. a (suc j) (omega arith)) f t)
  where
    go : (b c : Bool) → b ≡ c → comes_before N M ≡ true → comes_before (b ∷ N) (c ∷ M) ≡ true
    go true true e more = more
    go false false e more = more
    go true false e more = absurd (cc)
    go false true e more = absurd (cc)

-- what comes before M and has its values below x has its value at x too, or M is true there
at-next : (x : ℕ) (M N : Assignment) → 1 ≤ x → Agrees x M N → IsTrue (comes_before N M) → (value N x ≡ value M x) ⊎ ((value N x ≡ false) × (value M x ≡ true))
at-next x M N one a b = go (differ N M b)
  where
    go : Differ N M → (value N x ≡ value M x) ⊎ ((value N x ≡ false) × (value M x ≡ true))
    go d = elim (cases_order d.at (x - 1)) [
      | inl e ↦ inr (subst (λ i. get_or N i false ≡ false) e d.false_there, subst (λ i. get_or M i false ≡ true) e d.true_here)
      | inr (inl l) ↦ absurd (
          let place : suc d.at - 1 ≡ d.at = omega arith in
          let same : get_or N d.at false ≡ get_or M d.at false = subst (λ i. get_or N i false ≡ get_or M i false) place (a (suc d.at) (omega arith) (omega arith)) in
          let low = d.false_there in
          let high = d.true_here in
          cc
          )
      | inr (inr g) ↦ inl (d.agree (x - 1) g)
    ]

-- nothing is below the first variable
pub IsFirstBelow-first : (F : Formula) (M : Assignment) → Satisfies F M → IsFirstBelow F 1 M
IsFirstBelow-first F M s = record { satisfies = s; agrees = λ N n b u one less. absurd (omega arith) }

-- where all that comes before M has its value at x, one variable more is settled
pub IsFirstBelow-more : (F : Formula) (x : ℕ) (M : Assignment) → IsFirstBelow F x M → ((N : Assignment) → Satisfies F N → Agrees x M N → value N x ≡ value M x) → IsFirstBelow F (x + 1) M
IsFirstBelow-more F x M h same = record { satisfies = h.satisfies; agrees = λ N n b. Agrees-more x M N (h.agrees N n b) (same N n (h.agrees N n b)) }

-- where M is false at x
pub IsFirstBelow-false : (F : Formula) (x : ℕ) (M : Assignment) → 1 ≤ x → IsFirstBelow F x M → value M x ≡ false → IsFirstBelow F (x + 1) M
IsFirstBelow-false F x M one h low = record { satisfies = h.satisfies; agrees = λ N n b. Agrees-more x M N (h.agrees N n b) (go N (at-next x M N one (h.agrees N n b) b)) }
  where
    go : (N : Assignment) → (value N x ≡ value M x) ⊎ ((value N x ≡ false) × (value M x ≡ true)) → value N x ≡ value M x
    go N (inl e) = e
    go N (inr f) = absurd (let high = f.1 in cc)

-- where M is true at x, and K has its values below x and is false there
pub IsFirstBelow-lower : (F : Formula) (x : ℕ) (M K : Assignment) → 1 ≤ x → IsFirstBelow F x M → Satisfies F K → Agrees x M K → value K x ≡ false → IsFirstBelow F (x + 1) K
IsFirstBelow-lower F x M K one h s a low = record { satisfies = s; agrees = λ N n b. Agrees-more x K N (below N n b (differ N K b)) (at N b (below N n b (differ N K b))) }
  where
    at : (N : Assignment) → IsTrue (comes_before N K) → Agrees x K N → value N x ≡ value K x
    at N b g = elim (at-next x K N one g b) [ inl e ↦ e | inr f ↦ absurd (let high = f.1 in cc) ]

    -- a place below x where they first differ is one where N and M do
    earlier : (N : Assignment) → Satisfies F N → (d : Differ N K) → d.at < x - 1 → ⊥
    earlier N n d less =
        let same : (i : ℕ) → i < x - 1 → get_or K i false ≡ get_or M i false = λ i l. (let place : suc i - 1 ≡ i = omega arith in subst (λ j. get_or K j false ≡ get_or M j false) place (a (suc i) (omega arith) (omega arith))) in
        let long = n.values in
        let long_too = h.satisfies.values in
        let lengths = s.values in
        let inside = d.within in
        let before : comes_before N M ≡ true = comes-before N M d.at (omega arith) (omega arith) (λ j l. d.agree j l ∙ same j (omega arith)) d.false_there (sym (same d.at less) ∙ d.true_here) in
        let place : suc d.at - 1 ≡ d.at = omega arith in
        let there : get_or N d.at false ≡ get_or M d.at false = subst (λ j. get_or N j false ≡ get_or M j false) place (h.agrees N n before (suc d.at) (omega arith) (omega arith)) in
        let f = d.false_there in
        let t = d.true_here in
        let here = same d.at less in
        cc

    below : (N : Assignment) → Satisfies F N → IsTrue (comes_before N K) → Differ N K → Agrees x K N
    below N n b d u first less = elim (cases_order d.at (u - 1)) [
      | inl e ↦ absurd (earlier N n d (omega arith))
      | inr (inl l) ↦ absurd (earlier N n d (omega arith))
      | inr (inr g) ↦ d.agree (u - 1) g
    ]

-- where M is true at x, and nothing that has its values below x is false there
pub IsFirstBelow-true : (F : Formula) (x : ℕ) (M : Assignment) → IsFirstBelow F x M → value M x ≡ true → ((N : Assignment) → Satisfies F N → Agrees x M N → value N x ≡ false → ⊥)
    → IsFirstBelow F (x + 1) M
IsFirstBelow-true F x M h high none = IsFirstBelow-more F x M h (λ N n a. go (value N x) (none N n a) ∙ sym high)
  where
    go : (b : Bool) → (b ≡ false → ⊥) → b ≡ true
    go true _ = refl
    go false never = absurd (never refl)

-- once all variables are settled, it is the first model
pub IsFirstBelow-whole : (F : Formula) (M : Assignment) → IsFirstBelow F (F.vars + 1) M → IsFirst F M
IsFirstBelow-whole F M h = record { satisfies = h.satisfies; least = λ N n b. none N n b (differ N M b) }
  where
    none : (N : Assignment) → Satisfies F N → IsTrue (comes_before N M) → Differ N M → ⊥
    none N n b d =
        let long = h.satisfies.values in
        let inside = d.within in
        let place : suc d.at - 1 ≡ d.at = omega arith in
        let there : get_or N d.at false ≡ get_or M d.at false = subst (λ j. get_or N j false ≡ get_or M j false) place (h.agrees N n b (suc d.at) (omega arith) (omega arith)) in
        let f = d.false_there in
        let t = d.true_here in
        cc

-- so the formula's, of which the units of its pure variables change nothing
pub IsFirstBelow-last : (F : Formula) (x : ℕ) (M : Assignment) → IsFormula F → x ≡ F.vars + 1 → IsFirstBelow (searched F) x M → IsFirst F M
IsFirstBelow-last F x M formed end h = IsFirst-searched F M formed (IsFirstBelow-whole (searched F) M (subst (λ v. IsFirstBelow (searched F) v M) end h))
