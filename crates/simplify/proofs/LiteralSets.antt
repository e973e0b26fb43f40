-- The literals of a clause by rising variable, each once: what they have is what the clause has, and
-- where no variable is in both signs they are the only such list.
use Rattle.std.proofs.Common.{◌≡◌, ℕ, ◌<◌, Bool, true, false, ◌&&◌, [], ◌∷◌, length, refl, ap, ap₂, sym, subst, ◌∙◌, ◌⊎◌, inl, inr, arith}
use Rattle.std.specs.List.{list_any, list_all}
use Rattle.theory.specs.Literals.{Literal, Clause, negated, negations, same, has, has_var, has_both_signs, without}
use Rattle.theory.specs.Truth.{IsOver}
use Rattle.theory.specs.Learning.{IsRising}
use Rattle.theory.specs.Checking.{is_empty}
use Rattle.theory.specs.Eliminating.{is_alone}
use Rattle.theory.specs.Simplifying.{resolvent}
use Rattle.theory.proofs.literals.LiteralLemmas.{or-left, or-right}
use Rattle.theory.proofs.literals.LiteralSets.{true_false, false_unless, has-head, has-tail, has-cases, has-append_left, has-append_right, has-append_cases, has-without, has-from_without, has-from_negations, has-with_literals, has-from_with_literals, has_var-has, literal_of_var, list_all-has, Refutes-negations, has_both_signs-none, same_variable, negated-other}
use Rattle.theory.proofs.literals.OverVariables.{AreOver-from_IsOver, IsOver-from_AreOver}
use Rattle.theory.proofs.literals.RisingSets.{IsOneSigned, IsRising-with_literals}
use Rattle.theory.proofs.checker.Hints.{list_all-from}
use Rattle.theory.proofs.simplifying.Resolvents.{has_both_signs-more}
use Rattle.simplify.specs.Entries.{set, IsSet}

-- two tests that follow from each other
pub both : (a b : Bool) → (a ≡ true → b ≡ true) → (b ≡ true → a ≡ true) → a ≡ b
both true b h k = sym (h refl)
both false true h k = k refl
both false false h k = refl

-- each literal of c is one of d
abbrev pub IsWithin : Clause → Clause → Type 0
IsWithin c d = (l : Literal) → has c l ≡ true → has d l ≡ true

-- c and d have the same literals
abbrev pub HaveSame : Clause → Clause → Type 0
HaveSame c d = (l : Literal) → has c l ≡ has d l

pub within-left : (c d : Clause) → HaveSame c d → IsWithin c d
within-left c d h l a = sym (h l) ∙ a

pub within-right : (c d : Clause) → HaveSame c d → IsWithin d c
within-right c d h l a = h l ∙ a

pub HaveSame-from : (c d : Clause) → IsWithin c d → IsWithin d c → HaveSame c d
HaveSame-from c d h k l = both (has c l) (has d l) (h l) (k l)

pub HaveSame-sym : (c d : Clause) → HaveSame c d → HaveSame d c
HaveSame-sym c d h l = sym (h l)

pub HaveSame-trans : (c d e : Clause) → HaveSame c d → HaveSame d e → HaveSame c e
HaveSame-trans c d e h k l = h l ∙ k l

-- what clauses with the same literals say alike
pub has_var-same : (c d : Clause) (v : ℕ) → HaveSame c d → has_var c v ≡ has_var d v
has_var-same c d v h = both (has_var c v) (has_var d v) (more c d (within-left c d h)) (more d c (within-right c d h))
  where
    more : (a b : Clause) → IsWithin a b → has_var a v ≡ true → has_var b v ≡ true
    more a b w t = let one = literal_of_var a v t in subst (λ x. has_var b x ≡ true) one.2 (has_var-has b one.0 (w one.0 one.1))

pub has_both_signs-same : (c d : Clause) → HaveSame c d → has_both_signs c ≡ has_both_signs d
has_both_signs-same c d h = both (has_both_signs c) (has_both_signs d) (has_both_signs-more c d (within-left c d h)) (has_both_signs-more d c (within-right c d h))

pub list_all-same : (p : Literal → Bool) (c d : Clause) → HaveSame c d → list_all p c ≡ list_all p d
list_all-same p c d h = both (list_all p c) (list_all p d) (more c d (within-right c d h)) (more d c (within-left c d h))
  where
    more : (a b : Clause) → IsWithin b a → list_all p a ≡ true → list_all p b ≡ true
    more a b w t = list_all-from p b (λ l k. list_all-has p a l t (w l k))

pub is_alone-same : (l : Literal) (c d : Clause) → HaveSame c d → is_alone l c ≡ is_alone l d
is_alone-same l c d h = ap₂ (λ a b. a && b) (h l) (list_all-same (same l) c d h)

pub is_empty-same : (c d : Clause) → HaveSame c d → is_empty c ≡ is_empty d
is_empty-same [] [] h = refl
is_empty-same [] (l ∷ d) h = true_false (has [] l) (h l ∙ has-head l d) refl
is_empty-same (l ∷ c) [] h = true_false (has [] l) (sym (h l) ∙ has-head l c) refl
is_empty-same (k ∷ c) (l ∷ d) h = refl

pub IsOver-same : (V : ℕ) (c d : Clause) → HaveSame c d → IsOver V c → IsOver V d
IsOver-same V c d h o = IsOver-from_AreOver V d (λ l a. AreOver-from_IsOver V c o l (within-right c d h l a))

pub resolvent-within : (l : Literal) (c d a b : Clause) → IsWithin c a → IsWithin d b → IsWithin (resolvent l c d) (resolvent l a b)
resolvent-within l c d a b h k j t = elim (has-append_cases (without c l) (without d (negated l)) j t) [
  | inl i ↦ (let one = has-from_without c l j i in has-append_left (without a l) (without b (negated l)) j (has-without a l j (h j one.0) one.1))
  | inr i ↦ (let one = has-from_without d (negated l) j i in has-append_right (without a l) (without b (negated l)) j (has-without b (negated l) j (k j one.0) one.1))
]

pub resolvent-same : (l : Literal) (c d a b : Clause) → HaveSame c a → HaveSame d b → HaveSame (resolvent l c d) (resolvent l a b)
resolvent-same l c d a b h k =
    HaveSame-from (resolvent l c d) (resolvent l a b) (resolvent-within l c d a b (within-left c a h) (within-left d b k)) (resolvent-within l a b c d (within-right c a h) (within-right d b k))

-- the set of a clause's literals
pub has-set : (c : Clause) (l : Literal) → has (set c) l ≡ has c l
has-set c l = both (has (set c) l) (has c l) from (λ a. has-with_literals c [] l (inl a))
  where
    from : has (set c) l ≡ true → has c l ≡ true
    from a = elim (has-from_with_literals c [] l a) [ inl i ↦ i | inr i ↦ absurd (cc) ]

pub has_var-set : (c : Clause) (v : ℕ) → has_var (set c) v ≡ has_var c v
has_var-set c v = has_var-same (set c) c v (has-set c)

pub has_both_signs-set : (c : Clause) → has_both_signs (set c) ≡ has_both_signs c
has_both_signs-set c = has_both_signs-same (set c) c (has-set c)

pub is_alone-set : (l : Literal) (c : Clause) → is_alone l (set c) ≡ is_alone l c
is_alone-set l c = is_alone-same l (set c) c (has-set c)

pub is_empty-set : (c : Clause) → is_empty (set c) ≡ is_empty c
is_empty-set c = is_empty-same (set c) c (has-set c)

pub IsOver-set : (V : ℕ) (c : Clause) → IsOver V c → IsOver V (set c)
IsOver-set V c o = IsOver-same V c (set c) (HaveSame-sym (set c) c (has-set c)) o

-- a clause with a literal and its negation
pub has_both_signs-both : (c : Clause) (l : Literal) → has c l ≡ true → has c (negated l) ≡ true → has_both_signs c ≡ true
has_both_signs-both c l a b = go c a
  where
    go : (d : Clause) → has d l ≡ true → list_any (λ k. has c (negated k)) d ≡ true
    go [] t = absurd (cc)
    go (k ∷ d) t = elim (has-cases k l d t) [
      | inl e ↦ or-left (has c (negated k)) (list_any (λ k. has c (negated k)) d) (subst (λ (x : Literal). has c (negated x) ≡ true) e b)
      | inr r ↦ or-right (has c (negated k)) (list_any (λ k. has c (negated k)) d) (go d r)
    ]

-- one without such a literal
pub one_sign : (c : Clause) (l : Literal) → has_both_signs c ≡ false → has c l ≡ true → has c (negated l) ≡ false
one_sign c l h a = false_unless (has c (negated l)) (λ b. true_false (has_both_signs c) (has_both_signs-both c l a b) h)

IsOneSigned-negations : (c : Clause) → has_both_signs c ≡ false → IsOneSigned (negations c)
IsOneSigned-negations c h k l a b v = elim (same_variable k l v) [
  | inl e ↦ e
  | inr e ↦ true_false (has c (negated (negated l))) (subst (λ (x : Literal). has c (negated x) ≡ true) e (has-from_negations c k a)) (one_sign c (negated l) h (has-from_negations c l b))
]

-- where no variable is in both signs the literals rise
pub set-rising : (c : Clause) → has_both_signs c ≡ false → IsRising (set c)
set-rising c h = IsRising-with_literals (negations c) c [] (IsOneSigned-negations c h) (Refutes-negations c) (λ l a. absurd (cc)) tt

-- what rises has no variable in both signs
pub rising-one_sign : (S : Clause) → IsRising S → has_both_signs S ≡ false
rising-one_sign S r = has_both_signs-none S (go S r)
  where
    go : (T : Clause) → IsRising T → (l : Literal) → has T l ≡ true → has T (negated l) ≡ true → ⊥
    go [] q l a b = absurd (cc)
    go (k ∷ T) q l a b = cases (go T q.1 l) (has-cases k l T a) (has-cases k (negated l) T b)
      where
        cases : (has T l ≡ true → has T (negated l) ≡ true → ⊥) → (l ≡ k) ⊎ (has T l ≡ true) → (negated l ≡ k) ⊎ (has T (negated l) ≡ true) → ⊥
        cases more (inl i) (inl j) = negated-other l (i ∙ sym j)
        cases more (inl i) (inr j) = let less : k.var < l.var = q.0 (negated l) j in let e : l.var ≡ k.var = ap (λ (x : Literal). x.var) i in absurd (omega arith)
        cases more (inr i) (inl j) = let less : k.var < l.var = q.0 l i in let e : l.var ≡ k.var = ap (λ (x : Literal). x.var) j in absurd (omega arith)
        cases more (inr i) (inr j) = more i j

-- rising lists with the same literals are one
pub rising-equal : (S T : Clause) → IsRising S → IsRising T → HaveSame S T → S ≡ T
rising-equal [] [] r s h = refl
rising-equal [] (l ∷ d) r s h = true_false (has [] l) (h l ∙ has-head l d) refl
rising-equal (l ∷ c) [] r s h = true_false (has [] l) (sym (h l) ∙ has-head l c) refl
rising-equal (j ∷ S) (k ∷ T) r s h = ap₂ (λ x xs. x ∷ xs) first (rising-equal S T r.1 s.1 (HaveSame-from S T there back))
  where
    first : j ≡ k
    first = go (has-cases k j T (sym (h j) ∙ has-head j S)) (has-cases j k S (h k ∙ has-head k T))
      where
        go : (j ≡ k) ⊎ (has T j ≡ true) → (k ≡ j) ⊎ (has S k ≡ true) → j ≡ k
        go (inl e) m = e
        go (inr a) (inl e) = sym e
        go (inr a) (inr b) = let more = s.0 j a in let less = r.0 k b in absurd (omega arith)

    there : IsWithin S T
    there l a = elim (has-cases k l T (sym (h l) ∙ has-tail j l S a)) [
      | inl e ↦ (let v : l.var ≡ j.var = ap (λ (x : Literal). x.var) (e ∙ sym first) in let less = r.0 l a in absurd (omega arith))
      | inr t ↦ t
    ]

    back : IsWithin T S
    back l a = elim (has-cases j l S (h l ∙ has-tail k l T a)) [
      | inl e ↦ (let v : l.var ≡ k.var = ap (λ (x : Literal). x.var) (e ∙ first) in let less = s.0 l a in absurd (omega arith))
      | inr t ↦ t
    ]

-- a rising list is the set of what it has
pub set-of : (c S : Clause) → IsRising S → HaveSame S c → set c ≡ S
set-of c S r h =
    rising-equal (set c) S (set-rising c (sym (has_both_signs-same S c h) ∙ rising-one_sign S r)) r (HaveSame-trans (set c) c S (has-set c) (HaveSame-sym S c h))

-- clauses with the same literals have one set
pub set-same : (c d : Clause) → has_both_signs d ≡ false → HaveSame c d → set c ≡ set d
set-same c d h k = set-of c (set d) (set-rising d h) (HaveSame-trans (set d) d c (has-set d) (HaveSame-sym c d k))

pub set-set : (c : Clause) → has_both_signs c ≡ false → set (set c) ≡ set c
set-set c h = set-same (set c) c h (has-set c)

-- a resolvent of sets
pub has_both_signs-resolvent : (l : Literal) (c d : Clause) → has_both_signs (set (resolvent l (set c) (set d))) ≡ has_both_signs (resolvent l c d)
has_both_signs-resolvent l c d =
    has_both_signs-set (resolvent l (set c) (set d)) ∙ has_both_signs-same (resolvent l (set c) (set d)) (resolvent l c d) (resolvent-same l (set c) (set d) c d (has-set c) (has-set d))

pub set-resolvent : (l : Literal) (c d : Clause) → has_both_signs (resolvent l c d) ≡ false → set (resolvent l (set c) (set d)) ≡ set (resolvent l c d)
set-resolvent l c d h = set-same (resolvent l (set c) (set d)) (resolvent l c d) h (resolvent-same l (set c) (set d) c d (has-set c) (has-set d))

-- sets over the variables 1 to V
pub IsSet-rising : (V : ℕ) (c : Clause) → IsSet V c → IsRising c
IsSet-rising V c s = subst IsRising s.set (set-rising c s.one_sign)

pub IsSet-from_rising : (V : ℕ) (c : Clause) → IsRising c → IsOver V c → IsSet V c
IsSet-from_rising V c r o = record { set = set-of c c r (λ l. refl); one_sign = rising-one_sign c r; over = o }

pub IsSet-set : (V : ℕ) (c : Clause) → has_both_signs c ≡ false → IsOver V c → IsSet V (set c)
IsSet-set V c h o = IsSet-from_rising V (set c) (set-rising c h) (IsOver-set V c o)

pub IsSet-equal : (V : ℕ) (c d : Clause) → IsSet V c → IsSet V d → HaveSame c d → c ≡ d
IsSet-equal V c d s t h = rising-equal c d (IsSet-rising V c s) (IsSet-rising V d t) h

-- the set of a resolvent of two sets is one
pub IsOver-resolvent : (V : ℕ) (l : Literal) (c d : Clause) → IsOver V c → IsOver V d → IsOver V (resolvent l c d)
IsOver-resolvent V l c d a b = IsOver-from_AreOver V (resolvent l c d) (λ k t. elim (has-append_cases (without c l) (without d (negated l)) k t) [
  | inl i ↦ AreOver-from_IsOver V c a k (has-from_without c l k i).0
  | inr i ↦ AreOver-from_IsOver V d b k (has-from_without d (negated l) k i).0
])

pub IsSet-resolvent : (V : ℕ) (l : Literal) (c d : Clause) → IsOver V c → IsOver V d → has_both_signs (set (resolvent l c d)) ≡ false → IsSet V (set (resolvent l c d))
IsSet-resolvent V l c d a b h = IsSet-set V (resolvent l c d) (sym (has_both_signs-set (resolvent l c d)) ∙ h) (IsOver-resolvent V l c d a b)
