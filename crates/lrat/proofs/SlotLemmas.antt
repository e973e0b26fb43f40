-- The clauses that are there, by the slots: one more, one found by its number, one taken away.
use Rattle.std.proofs.Common.{◌≡◌, ℕ, zero, suc, Bool, true, false, not, List, [], ◌∷◌, ◌++◌, Some, cond, eq-eqb, refl, ap, sym, ◌∙◌, slice_get, slice_set, arith, ne_eqb}
use Rattle.std.specs.List.{list_all}
use Rattle.theory.specs.Literals.{Clause}
use Rattle.theory.specs.Checking.{Numbered, clause_of, without_number}
use Rattle.theory.proofs.literals.LiteralLemmas.{and-left, and-right}
use Rattle.theory.proofs.literals.LiteralSets.{true_false, false_unless}
use Rattle.lrat.specs.Slots.{Slot, put, there_before}

-- none of the slots has a clause with the number n
abbrev pub NoneHas : ℕ → List Slot → Type 0
NoneHas n [] = Unit {0}
NoneHas n (s ∷ ss) = (s.is_there ≡ true → s.id ≡ n → ⊥) × NoneHas n ss

pub NoneHas-from_places : (n : ℕ) (ss : List Slot) → ((j : ℕ) (t : Slot) → slice_get ss j ≡ Some t → t.is_there ≡ true → t.id ≡ n → ⊥) → NoneHas n ss
NoneHas-from_places n [] h = tt
NoneHas-from_places n (s ∷ ss) h = (h zero s refl, NoneHas-from_places n ss (λ j t. h (suc j) t))

put-other : (s : Slot) (K : Numbered) (n : ℕ) → (s.is_there ≡ true → s.id ≡ n → ⊥) → clause_of (put s K) n ≡ clause_of K n
put-other s K n h = go s.is_there refl
  where
    go : (b : Bool) → s.is_there ≡ b → clause_of (cond b ((s.id, s.clause) ∷ K) K) n ≡ clause_of K n
    go true e = ap (λ b. cond b (Some s.clause) (clause_of K n)) (ne_eqb s.id n (h e))
    go false e = refl

put-here : (s : Slot) (K : Numbered) (n : ℕ) → s.is_there ≡ true → s.id ≡ n → clause_of (put s K) n ≡ Some s.clause
put-here s K n t e = ap (λ b. clause_of (cond b ((s.id, s.clause) ∷ K) K) n) t ∙ ap (λ b. cond b (Some s.clause) (clause_of K n)) (eq-eqb s.id n e)

pub clause_of-none : (n : ℕ) (ss : List Slot) (K : Numbered) → NoneHas n ss → clause_of (there_before K ss) n ≡ clause_of K n
clause_of-none n [] K h = refl
clause_of-none n (s ∷ ss) K h = clause_of-none n ss (put s K) h.1 ∙ put-other s K n h.0

-- no other slot has a clause with the number
abbrev pub IsOnly : List Slot → ℕ → ℕ → Type 0
IsOnly ss i n = (j : ℕ) (t : Slot) → slice_get ss j ≡ Some t → t.is_there ≡ true → t.id ≡ n → j ≡ i

some_same : (s t : Slot) → Some s ≡ Some t → s ≡ t
some_same s t e = cc

pub clause_of-slot : (ss : List Slot) (K : Numbered) (i : ℕ) (s : Slot) (n : ℕ) → slice_get ss i ≡ Some s → s.id ≡ n → s.is_there ≡ true → IsOnly ss i n
    → clause_of (there_before K ss) n ≡ Some s.clause
clause_of-slot [] K i s n g e t only = absurd (cc)
clause_of-slot (r ∷ ss) K zero s n g e t only =
    let same : r ≡ s = some_same r s g in
    clause_of-none n ss (put r K) (NoneHas-from_places n ss (λ j u a b d. let k : suc j ≡ zero = only (suc j) u a b d in absurd (omega arith)))
    ∙ ap (λ (x : Slot). clause_of (put x K) n) same ∙ put-here s K n t e
clause_of-slot (r ∷ ss) K (suc i) s n g e t only =
    clause_of-slot ss (put r K) i s n g e t (λ j u a b d. let k : suc j ≡ suc i = only (suc j) u a b d in omega arith)

without-other : (s : Slot) (K : Numbered) (n : ℕ) → (s.is_there ≡ true → s.id ≡ n → ⊥) → without_number (put s K) n ≡ put s (without_number K n)
without-other s K n h = go s.is_there refl
  where
    go : (b : Bool) → s.is_there ≡ b → without_number (cond b ((s.id, s.clause) ∷ K) K) n ≡ cond b ((s.id, s.clause) ∷ without_number K n) (without_number K n)
    go true e = ap (λ b. cond (not b) ((s.id, s.clause) ∷ without_number K n) (without_number K n)) (ne_eqb s.id n (h e))
    go false e = refl

without-here : (s : Slot) (K : Numbered) (n : ℕ) → s.is_there ≡ true → s.id ≡ n → without_number (put s K) n ≡ without_number K n
without-here s K n t e =
    ap (λ b. without_number (cond b ((s.id, s.clause) ∷ K) K) n) t
    ∙ ap (λ b. cond (not b) ((s.id, s.clause) ∷ without_number K n) (without_number K n)) (eq-eqb s.id n e)

without-none : (n : ℕ) (ss : List Slot) (K : Numbered) → NoneHas n ss → without_number (there_before K ss) n ≡ there_before (without_number K n) ss
without-none n [] K h = refl
without-none n (s ∷ ss) K h = without-none n ss (put s K) h.1 ∙ ap (λ k. there_before k ss) (without-other s K n h.0)

pub without-slot : (ss : List Slot) (K : Numbered) (i : ℕ) (s : Slot) (n : ℕ) → slice_get ss i ≡ Some s → s.id ≡ n → s.is_there ≡ true → IsOnly ss i n
    → there_before (without_number K n) (slice_set ss i (record s { is_there = false })) ≡ without_number (there_before K ss) n
without-slot [] K i s n g e t only = absurd (cc)
without-slot (r ∷ ss) K zero s n g e t only =
    let same : r ≡ s = some_same r s g in
    sym (without-none n ss (put r K) (NoneHas-from_places n ss (λ j u a b d. let k : suc j ≡ zero = only (suc j) u a b d in absurd (omega arith)))
    ∙ ap (λ (x : Slot). there_before (without_number (put x K) n) ss) same ∙ ap (λ k. there_before k ss) (without-here s K n t e))
without-slot (r ∷ ss) K (suc i) s n g e t only =
    ap (λ k. there_before k (slice_set ss i (record s { is_there = false }))) (sym (without-other r K n (λ a b. let k : zero ≡ suc i = only zero r refl a b in absurd (omega arith))))
    ∙ without-slot ss (put r K) i s n g e t (λ j u a b d. let k : suc j ≡ suc i = only (suc j) u a b d in omega arith)

-- one slot more
pub there_before-push : (ss : List Slot) (K : Numbered) (s : Slot) → there_before K (ss ++ s ∷ []) ≡ put s (there_before K ss)
there_before-push [] K s = refl
there_before-push (r ∷ ss) K s = there_before-push ss (put r K) s

-- what holds of the clauses there holds of each slot that is there
pub slot-holds : (p : ℕ × Clause → Bool) (ss : List Slot) (K : Numbered) (i : ℕ) (s : Slot) → list_all p (there_before K ss) ≡ true → slice_get ss i ≡ Some s → s.is_there ≡ true
    → p (s.id, s.clause) ≡ true
slot-holds p [] K i s h g t = absurd (cc)
slot-holds p (r ∷ ss) K zero s h g t =
    let first = rest p ss (put r K) h in
    let same : r ≡ s = some_same r s g in
    and-left (p (s.id, s.clause)) (list_all p K) (ap (λ b. list_all p (cond b ((s.id, s.clause) ∷ K) K)) (sym t) ∙ (ap (λ (x : Slot). list_all p (put x K)) (sym same) ∙ first))
  where
    rest : (p : ℕ × Clause → Bool) (ss : List Slot) (K : Numbered) → list_all p (there_before K ss) ≡ true → list_all p K ≡ true
    rest p [] K h = h
    rest p (s ∷ ss) K h = go s.is_there (rest p ss (put s K) h)
      where
        go : (b : Bool) → list_all p (cond b ((s.id, s.clause) ∷ K) K) ≡ true → list_all p K ≡ true
        go true t = and-right (p (s.id, s.clause)) (list_all p K) t
        go false t = t
slot-holds p (r ∷ ss) K (suc i) s h g t = slot-holds p ss (put r K) i s h g t

pub not_all : (p : ℕ × Clause → Bool) (ss : List Slot) (i : ℕ) (s : Slot) → slice_get ss i ≡ Some s → s.is_there ≡ true → p (s.id, s.clause) ≡ false → list_all p (there_before [] ss) ≡ false
not_all p ss i s g t fails = false_unless (list_all p (there_before [] ss)) (λ h. true_false (p (s.id, s.clause)) (slot-holds p ss [] i s h g t) fails)
