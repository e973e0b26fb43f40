-- Slots of clauses that are entered in chains.
use Rattle.std.proofs.Common.{◌≡◌, ℕ, zero, suc, ◌+◌, ◌*◌, ◌<◌, ◌≤◌, inl, inr, Bool, true, false, List, [], ◌∷◌, ◌||◌, length, take, get_or, ap, Some, cond, nat_eq, eqb-true, eq-eqb, refl, sym, subst, ◌∙◌, slice_get, arith}
use Rattle.std.specs.List.{list_all}
use Rattle.theory.specs.Literals.{Literal, Clause, has, same}
use Rattle.theory.specs.Truth.{IsOver}
use Rattle.theory.proofs.trees.FirstModel.{has-append}
use Rattle.theory.proofs.literals.LiteralLemmas.{same-eq}
use Rattle.std.proofs.lemmas.List.{take_more, take_all}
use Rattle.theory.specs.Checking.{Numbered}
use Rattle.theory.proofs.literals.LiteralSets.{and-true}
use Rattle.lrat.specs.declared.chains.Chains.{Chains}
use Rattle.lrat.specs.declared.counts.Counts.{Counts}
use Rattle.lrat.specs.declared.occurrences.Occurrences.{Occurrences}
use Rattle.lrat.specs.Chained.{IsIn}
use Rattle.lrat.specs.Indexed.{AreCounted, IsIndexed}
use Rattle.lrat.specs.Slots.{Slot, put, there_before}
use Rattle.cnf.specs.Lits.{code}
use Rattle.lrat.specs.Occurrences.{AreEntered, StayThere}
use Rattle.lrat.proofs.CountLemmas.{slots-stay}

-- slots that come or go
AreEntered-stay : (old new : List Slot) (c : Chains) (n : ℕ) → n ≤ length old → StayThere old new → AreEntered old c n → AreEntered new c n
AreEntered-stay old new c n within stay h i s l less g t a = h i s l less (stay.there i s (omega arith) g t) t a

-- one slot more is entered
pub AreEntered-more : (ss : List Slot) (c d : Chains) (n : ℕ) → ((k i : ℕ) → IsIn c k i → IsIn d k i)
    → ((s : Slot) (l : Literal) → slice_get ss n ≡ Some s → s.is_there ≡ true → has s.clause l ≡ true → IsIn d (code l) n) → AreEntered ss c n → AreEntered ss d (n + 1)
AreEntered-more ss c d n keeps here entered i s l less g t a = go (nat_eq i n) refl
  where
    go : (b : Bool) → nat_eq i n ≡ b → IsIn d (code l) i
    go true e = let same : i ≡ n = eqb-true i n e in subst (λ j. IsIn d (code l) j) (sym same) (here s l (subst (λ j. slice_get ss j ≡ Some s) same g) t a)
    go false e = let apart : i ≡ n → ⊥ = (λ f. let x : true ≡ false = sym (eq-eqb i n f) ∙ e in cc) in keeps (code l) i (entered i s l (omega arith) g t a)

-- what holds of each slot that is there holds of the clauses there
pub all-slots : (p : ℕ × Clause → Bool) (ss : List Slot) (K : Numbered) → ((i : ℕ) (s : Slot) → slice_get ss i ≡ Some s → s.is_there ≡ true → p (s.id, s.clause) ≡ true)
    → list_all p K ≡ true → list_all p (there_before K ss) ≡ true
all-slots p [] K h k = k
all-slots p (s ∷ ss) K h k = all-slots p ss (put s K) (λ i t g b. h (suc i) t g b) (go s.is_there refl)
  where
    go : (b : Bool) → s.is_there ≡ b → list_all p (cond b ((s.id, s.clause) ∷ K) K) ≡ true
    go true e = and-true (p (s.id, s.clause)) (list_all p K) (h zero s refl e) k
    go false e = k

AreCounted-stay : (old new : List Slot) (o : Counts) → StayThere old new → AreCounted old o → AreCounted new o
AreCounted-stay old new o stay h = record {
  within = (let n = stay.longer in let m = h.within in omega arith);
  most = λ l. let most = h.most l in let less = slots-stay l o.counted old new stay h.within in omega arith;
}

pub IsIndexed-stay : (old new : List Slot) (o : Occurrences) → StayThere old new → IsIndexed old o → IsIndexed new o
IsIndexed-stay old new o stay h = record {
  counted = AreCounted-stay old new o.counts stay h.counted;
  within = (let n = stay.longer in let m = h.within in omega arith);
  chains = h.chains;
  entered = AreEntered-stay old new o.chains o.entered h.within stay h.entered;
}

pub StayThere-none : (ss : List Slot) → StayThere [] ss
StayThere-none ss = record { there = λ i s less g t. absurd (omega arith); longer = omega arith }

-- the code of a literal of a clause is within the room
pub code-below : (d : Clause) (i : ℕ) (x : Literal) (vars n : ℕ) → IsOver vars d → i < length d → x ≡ get_or d i x → 2 * vars + 2 ≤ n → code x < n
code-below d i x vars n over less is room = go x.positive
  where
    low : x.var ≤ vars
    low = let most = (over i x less).1 in let same = ap (λ (l : Literal). l.var) is in omega arith

    go : (b : Bool) → 2 * x.var + cond b 1 0 < n
    go true = let most = low in omega arith
    go false = let most = low in omega arith

-- one literal more is entered
pub enter-more : (old new : Chains) (place : ℕ) (d : Clause) (i : ℕ) (x : Literal) → i < length d → x ≡ get_or d i x → ((k : Literal) → has (take i d) k ≡ true → IsIn old (code k) place)
    → ((n j : ℕ) → IsIn old n j → IsIn new n j) → IsIn new (code x) place → (k : Literal) → has (take (i + 1) d) k ≡ true → IsIn new (code k) place
enter-more old new place d i x less is before keeps one k h =
    elim (has-append (take i d) (get_or d i x ∷ []) k (subst (λ t. has t k ≡ true) (take_more d i x less) h)) [
      | inl a ↦ keeps (code k) place (before k a)
      | inr b ↦ subst (λ (l : Literal). IsIn new (code l) place) (is ∙ sym (same-eq k (get_or d i x) (alone (same k (get_or d i x)) b))) one
    ]
  where
    alone : (b : Bool) → b || false ≡ true → b ≡ true
    alone true e = refl
    alone false e = e

-- no literal is left
pub enter-all : (c : Chains) (place : ℕ) (d : Clause) (i : ℕ) → length d ≤ i → ((k : Literal) → has (take i d) k ≡ true → IsIn c (code k) place) → (k : Literal) → has d k ≡ true → IsIn c (code k) place
enter-all c place d i end entered k h = entered k (subst (λ t. has t k ≡ true) (sym (take_all i d end)) h)
