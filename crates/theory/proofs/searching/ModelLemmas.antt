-- What a model says is true: it satisfies the formula, and no satisfying assignment comes before
-- it.
use Rattle.std.proofs.Common.{◌≡◌, ℕ, zero, suc, ◌+◌, ◌-◌, ◌<◌, Bool, true, false, not, ◌&&◌, List, [], ◌∷◌, ◌++◌, length, map, nat_eq, refl, sym, ap, subst, ◌∙◌, ◌≢◌, ◌⊎◌, inl, inr, arith, cond, Option, Some, None, find, get_or, All, length-append, eqb-true, eq-eqb, option_map}
use Rattle.theory.specs.Literals.{Literal, Clause, negated, positive, same, same_sign, has, has_var, IsVariable}
use Rattle.theory.specs.Truth.{value, is_true, is_true_clause, are_true, IsOver}
use Rattle.theory.specs.Status.{is_false}
use Rattle.theory.specs.Trails.{Trail, literals, least_free, variables}
use Rattle.theory.specs.Propagation.{least_false}
use Rattle.theory.specs.Search.{values}
use Rattle.theory.proofs.literals.LiteralLemmas.{or-cases, or-left, or-right}
use Rattle.theory.proofs.literals.LiteralSets.{and-true}

pub length-variables : (V : ℕ) → length (variables V) ≡ V
length-variables zero = refl
length-variables (suc V) = length-append (variables V) (suc V ∷ []) ∙ (let ih = length-variables V in omega arith)

length-map' : {X Y : Type 0} (f : X → Y) (xs : List X) → length (map f xs) ≡ length xs
length-map' f [] = refl
length-map' f (x ∷ xs) = ap suc (length-map' f xs)

get_or-left : {X : Type 0} (xs ys : List X) (i : ℕ) (d : X) → i < length xs → get_or (xs ++ ys) i d ≡ get_or xs i d
get_or-left [] ys i d h = absurd (omega arith)
get_or-left (x ∷ xs) ys zero d h = refl
get_or-left (x ∷ xs) ys (suc i) d h = get_or-left xs ys i d (omega arith)

get_or-end : {X : Type 0} (xs : List X) (y d : X) → get_or (xs ++ y ∷ []) (length xs) d ≡ y
get_or-end [] y d = refl
get_or-end (x ∷ xs) y d = get_or-end xs y d

map-push : {X Y : Type 0} (f : X → Y) (xs : List X) (x : X) → map f (xs ++ x ∷ []) ≡ map f xs ++ f x ∷ []
map-push f [] x = refl
map-push f (y ∷ xs) x = ap (λ r. f y ∷ r) (map-push f xs x)

-- the value of a variable is what stands at its place
at-variable : {X : Type 0} (f : ℕ → X) (V i : ℕ) (d : X) → i < V → get_or (map f (variables V)) i d ≡ f (suc i)
at-variable f zero i d h = absurd (omega arith)
at-variable f (suc V) i d h = go (nat_eq i V) refl (at-variable f V i d)
  where
    len : length (map f (variables V)) ≡ V
    len = length-map' f (variables V) ∙ length-variables V

    go : (b : Bool) → nat_eq i V ≡ b → (i < V → get_or (map f (variables V)) i d ≡ f (suc i)) → get_or (map f (variables V ++ suc V ∷ [])) i d ≡ f (suc i)
    go true e more =
        let there : i ≡ length (map f (variables V)) = eqb-true i V e ∙ sym len in
        let here : get_or (map f (variables V) ++ f (suc V) ∷ []) i d ≡ f (suc V) = subst (λ k. get_or (map f (variables V) ++ f (suc V) ∷ []) k d ≡ f (suc V)) (sym there) (get_or-end (map f (variables V)) (f (suc V)) d) in
        ap (λ (r : List _). get_or r i d) (map-push f (variables V) (suc V)) ∙ here ∙ ap (λ k. f (suc k)) (sym (eqb-true i V e))
    go false e more =
        let less : i < V = differs i V e h in
        ap (λ (r : List _). get_or r i d) (map-push f (variables V) (suc V)) ∙ get_or-left (map f (variables V)) (f (suc V) ∷ []) i d (rw len less) ∙ more less
      where
        differs : (a b : ℕ) → nat_eq a b ≡ false → a < suc b → a < b
        differs a b q l = let ne : a ≢ b = λ e. (let y = eq-eqb a b e in cc) in omega arith

pub value-values : (V : ℕ) (T : Trail) (v : ℕ) → IsVariable V v → value (values V T) v ≡ has (literals T) (positive v)
value-values V T zero h = absurd (let z = h.0 in omega arith)
value-values V T (suc v) h =
    let i : suc v - 1 ≡ v = omega arith in
    ap (λ k. get_or (values V T) k false) i ∙ at-variable (λ v. has (literals T) (positive v)) V v false (let l = h.1 in omega arith)

-- where no variable is free each has its literal
pub find-none : {X : Type 0} (p : X → Bool) (xs ys : List X) → find p (xs ++ ys) ≡ None → (find p xs ≡ None) × (find p ys ≡ None)
find-none p [] ys h = (refl, h)
find-none p (x ∷ xs) ys h = go (p x) h (find-none p xs ys)
  where
    go : (b : Bool) → cond b (Some x) (find p (xs ++ ys)) ≡ None → (find p (xs ++ ys) ≡ None → (find p xs ≡ None) × (find p ys ≡ None)) → (cond b (Some x) (find p xs) ≡ None) × (find p ys ≡ None)
    go true e more = absurd (cc)
    go false e more = more e

pub none-passes : (p : ℕ → Bool) (V v : ℕ) → find p (variables V) ≡ None → IsVariable V v → p v ≡ false
none-passes p zero v h r = absurd (let a = r.0 in let b = r.1 in omega arith)
none-passes p (suc V) v h r = go (nat_eq v (suc V)) refl (none-passes p V v)
  where
    parts : (find p (variables V) ≡ None) × (find p (suc V ∷ []) ≡ None)
    parts = find-none p (variables V) (suc V ∷ []) h

    last : (b : Bool) → p (suc V) ≡ b → ◌≡◌ {A = Option ℕ} (cond b (Some (suc V)) None) None → p (suc V) ≡ false
    last true q e = absurd (cc)
    last false q e = q

    less : nat_eq v (suc V) ≡ false → IsVariable V v
    less q = let ne : v ≢ suc V = λ e. (let y = eq-eqb v (suc V) e in cc) in let a = r.0 in let b = r.1 in (a, omega arith)

    go : (b : Bool) → nat_eq v (suc V) ≡ b → (find p (variables V) ≡ None → IsVariable V v → p v ≡ false) → p v ≡ false
    go true q more = ap p (eqb-true v (suc V) q) ∙ last (p (suc V)) refl parts.1
    go false q more = more parts.0 (less q)

all_assigned : (V : ℕ) (T : Trail) (v : ℕ) → least_free V T ≡ None → IsVariable V v → has_var (literals T) v ≡ true
all_assigned V T v h r = go (has_var (literals T) v) (none-passes (λ x. not (has_var (literals T) x)) V v h r)
  where
    go : (b : Bool) → not b ≡ false → b ≡ true
    go true q = refl
    go false q = sym q

-- a literal of an assigned variable is there, or its negation is
sign-cases : (P : List Literal) (l : Literal) → has_var P l.var ≡ true → (has P l ≡ true) ⊎ (has P (negated l) ≡ true)
sign-cases [] l h = absurd (cc)
sign-cases (k ∷ P) l h = elim (or-cases (nat_eq l.var k.var) (has_var P l.var) h) [
  | inl here ↦ one here
  | inr rest ↦ elim (sign-cases P l rest) [
    | inl a ↦ inl (or-right (same l k) (has P l) a)
    | inr b ↦ inr (or-right (same (negated l) k) (has P (negated l)) b)
  ]
]
  where
    signs : (a b : Bool) → (same_sign a b ≡ true) ⊎ (same_sign (not a) b ≡ true)
    signs true true = inl refl
    signs true false = inr refl
    signs false true = inr refl
    signs false false = inl refl

    one : nat_eq l.var k.var ≡ true → (has (k ∷ P) l ≡ true) ⊎ (has (k ∷ P) (negated l) ≡ true)
    one e = elim (signs l.positive k.positive) [
      | inl a ↦ inl (or-left (same l k) (has P l) (and-true (nat_eq l.var k.var) (same_sign l.positive k.positive) e a))
      | inr b ↦ inr (or-left (same (negated l) k) (has P (negated l)) (and-true (nat_eq l.var k.var) (same_sign (not l.positive) k.positive) e b))
    ]

-- a literal that is there, and whose negation isn't, is true
pub there-true : (V : ℕ) (T : Trail) (l : Literal) → IsVariable V l.var → has (literals T) l ≡ true → has (literals T) (negated l) ≡ false → is_true (value (values V T)) l ≡ true
there-true V T l r h n = ap (same_sign l.positive) (value-values V T l.var r) ∙ go l.positive refl
  where
    go : (b : Bool) → l.positive ≡ b → same_sign b (has (literals T) (positive l.var)) ≡ true
    go true e = (let one : positive l.var ≡ l = λ i. record { var = l.var; positive = sym e i } in rw one h)
    go false e = (let one : positive l.var ≡ negated l = λ i. record { var = l.var; positive = sym (ap not e) i } in rw one (ap not n))

pub clause-assigned : (V : ℕ) (T : Trail) (c : Clause) → ((v : ℕ) → IsVariable V v → has_var c v ≡ true → has_var (literals T) v ≡ true) → IsOver V c → is_false (literals T) c ≡ false → is_true_clause (value (values V T)) c ≡ true
clause-assigned V T [] f o h = absurd (cc)
clause-assigned V T (l ∷ c) f o h = go (has (literals T) (negated l)) refl h (clause-assigned V T c (λ v r a. f v r (or-right (nat_eq v l.var) (has_var c v) a)) (λ k d i. o (suc k) d (omega arith)))
  where
    r : IsVariable V l.var
    r = o 0 l (omega arith)

    here : has (literals T) (negated l) ≡ false → is_true (value (values V T)) l ≡ true
    here n = elim (sign-cases (literals T) l (f l.var r (or-left (nat_eq l.var l.var) (has_var c l.var) (eq-eqb l.var l.var refl)))) [ inl a ↦ there-true V T l r a n | inr b ↦ absurd (cc) ]

    go : (b : Bool) → has (literals T) (negated l) ≡ b → b && is_false (literals T) c ≡ false → (is_false (literals T) c ≡ false → is_true_clause (value (values V T)) c ≡ true) → is_true_clause (value (values V T)) (l ∷ c) ≡ true
    go true e k more = or-right (is_true (value (values V T)) l) (is_true_clause (value (values V T)) c) (more k)
    go false e k more = or-left (is_true (value (values V T)) l) (is_true_clause (value (values V T)) c) (here e)

clause-true : (V : ℕ) (T : Trail) (c : Clause) → least_free V T ≡ None → IsOver V c → is_false (literals T) c ≡ false → is_true_clause (value (values V T)) c ≡ true
clause-true V T c f o h = clause-assigned V T c (λ v r a. all_assigned V T v f r) o h

-- where no clause is false and no variable is free, all clauses are true
pub quiet-true : (V : ℕ) (T : Trail) (K : List Clause) → least_free V T ≡ None → All (IsOver V) K → least_false (literals T) K ≡ None → are_true (value (values V T)) K ≡ true
quiet-true V T [] f o h = refl
quiet-true V T (c ∷ K) f o h = go (is_false (literals T) c) refl h (quiet-true V T K f (λ k d i. o (suc k) d (omega arith)))
  where
    none : (x : Option ℕ) → option_map (λ n. n + 1) x ≡ None → x ≡ None
    none None q = refl
    none (Some n) q = absurd (cc)

    go : (b : Bool) → is_false (literals T) c ≡ b → ◌≡◌ {A = Option ℕ} (elim b [ true ↦ Some 1 | false ↦ option_map (λ n. n + 1) (least_false (literals T) K) ]) None
        → (least_false (literals T) K ≡ None → are_true (value (values V T)) K ≡ true) → are_true (value (values V T)) (c ∷ K) ≡ true
    go true e q more = absurd (cc)
    go false e q more = and-true (is_true_clause (value (values V T)) c) (are_true (value (values V T)) K) (clause-true V T c f (o 0 c (omega arith)) e) (more (none (least_false (literals T) K) q))

pub length-values : (V : ℕ) (T : Trail) → length (values V T) ≡ V
length-values V T = length-map' (λ v. has (literals T) (positive v)) (variables V) ∙ length-variables V
