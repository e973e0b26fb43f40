-- A clause's literals in another order are the same set, and resolution gives the same with them.
use Rattle.std.proofs.Common.{◌≡◌, ℕ, Bool, true, false, List, [], ◌∷◌, take, refl, ap, sym, subst, ◌∙◌, arith, ◌⊎◌, inl, inr, IsPermutation}
use Rattle.theory.specs.Literals.{Literal, Clause, has, has_var, negated, without}
use Rattle.theory.specs.Status.{is_false}
use Rattle.theory.specs.Trails.{Entry, literals}
use Rattle.theory.specs.Lawful.{IsLawful}
use Rattle.theory.specs.Learning.{with_literals, resolved}
use Rattle.theory.proofs.literals.LiteralSets.{Refutes, has-head, has-tail, has-cases, has-without, has-from_without, has-with_literals, has-from_with_literals, Refutes-from_is_false, is_false-from_Refutes, literal_of_var, has_var-has}
use Rattle.theory.proofs.literals.RisingSets.{IsRising, IsOneSigned, IsRising-filter, IsRising-with_literals}
use Rattle.theory.proofs.trails.TrailEntries.{literals-distinct}
use Rattle.kernel.specs.State.{State}
use Rattle.kernel.proofs.Arranged.{has-permuted}
use Rattle.cdcl.specs.declared.analysis.marks.Marks.{Marks}
use Rattle.cdcl.specs.Marks.{IsSet, CanResolve}
use Rattle.cdcl.proofs.PlaceLemmas.{false-below}

-- one clause has each literal of another
abbrev pub Covers : Clause → Clause → Type 0
Covers c d = (l : Literal) → has c l ≡ true → has d l ≡ true

pub both : (a b : Bool) → (a ≡ true → b ≡ true) → (b ≡ true → a ≡ true) → a ≡ b
both true b to from = sym (to refl)
both false true to from = from refl
both false false to from = refl

-- two sets by rising variable that have the same literals are one
first-one : (k l : Literal) (S R : Clause) → IsRising (k ∷ S) → IsRising (l ∷ R) → Covers (k ∷ S) (l ∷ R) → Covers (l ∷ R) (k ∷ S) → k ≡ l
first-one k l S R s r to from = elim (has-cases l k R (to k (has-head k S))) [
  | inl e ↦ e
  | inr a ↦ elim (has-cases k l S (from l (has-head l R))) [
    | inl e ↦ sym e
    | inr b ↦ (let more = r.0 k a in let less = s.0 l b in absurd (omega (arith, more, less)))
  ]
]

rest-covers : (k l : Literal) (S R : Clause) → k ≡ l → IsRising (k ∷ S) → Covers (k ∷ S) (l ∷ R) → Covers S R
rest-covers k l S R e s to x a = elim (has-cases l x R (to x (has-tail k x S a))) [
  | inl f ↦ (let more = s.0 x a in let one : k.var ≡ x.var = ap (λ (y : Literal). y.var) (e ∙ sym f) in absurd (omega (arith, more, one)))
  | inr b ↦ b
]

rising-one : (S R : Clause) → IsRising S → IsRising R → Covers S R → Covers R S → S ≡ R
rising-one [] [] s r to from = refl
rising-one [] (l ∷ R) s r to from = absurd (cc (from l (has-head l R)))
rising-one (k ∷ S) [] s r to from = absurd (cc (to k (has-head k S)))
rising-one (k ∷ S) (l ∷ R) s r to from =
    let one = first-one k l S R s r to from in
    let rest = rising-one S R s.1 r.1 (rest-covers k l S R one s to) (rest-covers l k R S (sym one) r from) in
    λ i. one i ∷ rest i

-- so joining a set with either of two clauses gives the same
joined-covers : (c d S : Clause) → Covers c d → Covers (with_literals c S) (with_literals d S)
joined-covers c d S to l a = has-with_literals d S l (either (has-from_with_literals c S l a))
  where
    either : (has c l ≡ true) ⊎ (has S l ≡ true) → (has d l ≡ true) ⊎ (has S l ≡ true)
    either (inl h) = inl (to l h)
    either (inr h) = inr h

pub joined-same : (P : List Literal) (c d S : Clause) → IsOneSigned P → Covers c d → Covers d c → Refutes P c → Refutes P S → IsRising S → with_literals d S ≡ with_literals c S
joined-same P c d S one to from false_clause false_set rising =
    rising-one (with_literals d S) (with_literals c S)
    (IsRising-with_literals P d S one (λ l a. false_clause l (from l a)) false_set rising) (IsRising-with_literals P c S one false_clause false_set rising)
    (joined-covers d c S from) (joined-covers c d S to)

-- a permutation has the same literals
pub covers : (c d : Clause) → IsPermutation c d → Covers c d
covers c d p l a = sym (has-permuted c d l p) ∙ a

pub covered : (c d : Clause) → IsPermutation c d → Covers d c
covered c d p l a = has-permuted c d l p ∙ a

pub without-covers : (c d : Clause) (x : Literal) → Covers c d → Covers (without c x) (without d x)
without-covers c d x to l a = let h = has-from_without c x l a in has-without d x l (to l h.0) h.1

var-covers : (c d : Clause) (v : ℕ) → Covers c d → has_var c v ≡ true → has_var d v ≡ true
var-covers c d v to h = let m = literal_of_var c v h in subst (λ w. has_var d w ≡ true) m.2 (has_var-has d m.0 (to m.0 m.1))

pub false-arranged : (P : List Literal) (c d : Clause) → IsPermutation c d → is_false P c ≡ true → is_false P d ≡ true
false-arranged P c d p h = is_false-from_Refutes P d (λ l a. Refutes-from_is_false P c h l (covered c d p l a))

pub others-arranged : (P : List Literal) (c d : Clause) (x : Literal) → IsPermutation c d → is_false P (without c x) ≡ true → is_false P (without d x) ≡ true
others-arranged P c d x p h = is_false-from_Refutes P (without d x) (λ l a. Refutes-from_is_false P (without c x) h l (without-covers d c x (covered c d p) l a))

one_signed : (k : State) → IsLawful k.clauses k.trail → IsOneSigned (literals k.trail)
one_signed k lawful x y a b v = literals-distinct k.clauses k.trail x y lawful a b v

-- the set of a conflict's literals
pub begun-arranged : (k : State) (c d : Clause) → IsLawful k.clauses k.trail → IsPermutation c d → is_false (literals k.trail) c ≡ true → with_literals d [] ≡ with_literals c []
begun-arranged k c d lawful p h =
    joined-same (literals k.trail) c d [] (one_signed k lawful) (covers c d p) (covered c d p) (Refutes-from_is_false (literals k.trail) c h) (λ l a. absurd (cc a)) tt

-- a resolvent
pub resolved-arranged : {R : List Literal} (k : State) (S c d : Clause) (x : Literal) (bound : ℕ) (m : Marks) → IsLawful k.clauses k.trail → IsPermutation c d → IsSet k R S bound m
    → is_false (literals (take bound k.trail)) (without c x) ≡ true → resolved S x d ≡ resolved S x c
resolved-arranged k S c d x bound m lawful p h f =
    joined-same (literals k.trail) (without c x) (without d x) (without S (negated x)) (one_signed k lawful)
    (without-covers c d x (covers c d p)) (without-covers d c x (covered c d p))
    (λ l a. false-below k.trail bound l (Refutes-from_is_false (literals (take bound k.trail)) (without c x) f l a))
    (λ l a. h.is.false_on l (has-from_without S (negated x) l a).0) (IsRising-filter _ S h.is.rising)

-- the variables that are met
pub vars-arranged : (c d : Clause) (v : ℕ) → IsPermutation c d → has_var d v ≡ has_var c v
vars-arranged c d v p = both (has_var d v) (has_var c v) (var-covers d c v (covered c d p)) (var-covers c d v (covers c d p))

pub others-vars : (c d : Clause) (x : Literal) (v : ℕ) → IsPermutation c d → has_var (without d x) v ≡ has_var (without c x) v
others-vars c d x v p =
    both (has_var (without d x) v) (has_var (without c x) v)
    (var-covers (without d x) (without c x) v (without-covers d c x (covered c d p))) (var-covers (without c x) (without d x) v (without-covers c d x (covers c d p)))

pub CanResolve-arranged : (k : State) (e : Entry) (c d : Clause) (m : Marks) → IsPermutation c d → CanResolve k e (without c e.lit) m → CanResolve k e (without d e.lit) m
CanResolve-arranged k e c d m p h = record {
  joins = record {
    lawful = h.joins.lawful;
    over = h.joins.over;
    few = h.joins.few;
    set = h.joins.set;
    bound = h.joins.bound;
    is = h.joins.is;
    below = others-arranged (literals (take h.joins.bound k.trail)) c d e.lit p h.joins.below;
  };
  at = h.at;
  is_in = h.is_in;
}
