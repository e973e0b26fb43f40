-- Cubes of a tree: what lies below what, and what a smaller place says.
use Rattle.std.proofs.Common.{◌≡◌, ℕ, suc, zero, ◌+◌, ◌^◌, ◌<◌, Bool, true, false, not, ◌&&◌, nat_eq, eq-eqb, List, [], ◌∷◌, ◌++◌, refl, sym, ap, ◌∙◌, subst, arith, append_assoc, append-nil, if◌then◌else◌, pow_pos, pow-suc}
use Rattle.theory.specs.Literals.{Literal, same, same_sign}
use Rattle.theory.specs.Truth.{Formula, Assignment}
use Rattle.theory.specs.Plans.{Plan}
use Rattle.theory.specs.Search.{model, exhausted}
use Rattle.theory.specs.Runs.{Runs}
use Rattle.theory.specs.Trees.{LeadsOn, IsCubeOf}
use Rattle.theory.specs.Places.{place_in, lies_right}
use Rattle.theory.specs.Ledger.{same_cube}
use Rattle.theory.proofs.literals.LiteralLemmas.{and-left, and-right, same-eq, same-refl}
use Rattle.theory.proofs.trees.SearchLemmas.{Runs-unique}

pub same_cube-eq : (Q R : List Literal) → same_cube Q R ≡ true → Q ≡ R
same_cube-eq [] [] h = refl
same_cube-eq [] (k ∷ R) h = absurd (cc)
same_cube-eq (l ∷ Q) [] h = absurd (cc)
same_cube-eq (l ∷ Q) (k ∷ R) h =
    let one : l ≡ k = same-eq l k (and-left (same l k) (same_cube Q R) h) in
    let rest : Q ≡ R = same_cube-eq Q R (and-right (same l k) (same_cube Q R) h) in
    cc

pub same_cube-refl : (Q : List Literal) → same_cube Q Q ≡ true
same_cube-refl [] = refl
same_cube-refl (l ∷ Q) = let s = same-refl l in rw s (same_cube-refl Q)

-- the way to a cube, and on from there
pub LeadsOn-append : (F : Formula) (plan : Plan) (R ls ms : List Literal) → LeadsOn F plan R ls → LeadsOn F plan (R ++ ls) ms → LeadsOn F plan R (ls ++ ms)
LeadsOn-append F plan R [] ms h i = subst (λ Q. LeadsOn F plan Q ms) (append-nil R) i
LeadsOn-append F plan R (l ∷ ls) ms h i = (h.0, LeadsOn-append F plan (R ++ l ∷ []) ls ms h.1 (subst (λ Q. LeadsOn F plan Q ms) (sym (append_assoc R (l ∷ []) ls)) i))

pub IsCubeOf-trans : (F : Formula) (plan : Plan) (P Q R : List Literal) → IsCubeOf F plan P Q → IsCubeOf F plan Q R → IsCubeOf F plan P R
IsCubeOf-trans F plan P Q R c d = record {
  path = c.path ++ d.path;
  reached = d.reached ∙ ap (λ (S : List Literal). S ++ d.path) c.reached ∙ append_assoc P c.path d.path;
  splits = LeadsOn-append F plan P c.path d.path c.splits (subst (λ S. LeadsOn F plan S d.path) c.reached d.splits);
}

pub IsCubeOf-itself : (F : Formula) (plan : Plan) (Q : List Literal) → IsCubeOf F plan Q Q
IsCubeOf-itself F plan Q = record { path = []; reached = sym (append-nil Q); splits = tt }

pub IsCubeOf-half : (F : Formula) (plan : Plan) (Q : List Literal) (k : Literal) → Runs F plan Q (exhausted k.var) → IsCubeOf F plan Q (Q ++ k ∷ [])
IsCubeOf-half F plan Q k h = record { path = k ∷ []; reached = refl; splits = (h, tt) }

-- what lies right of a cube does so with all that is below it
pub lies_right-append : (ls ms ks : List Literal) → lies_right ls ks ≡ true → lies_right (ls ++ ms) ks ≡ true
lies_right-append [] ms ks h = absurd (cc)
lies_right-append (l ∷ ls) ms [] h = absurd (cc)
lies_right-append (l ∷ ls) ms (k ∷ ks) h = go (same l k) h (lies_right-append ls ms ks)
  where
    go : (b : Bool) → (if b then lies_right ls ks else l.positive && not k.positive) ≡ true → (lies_right ls ks ≡ true → lies_right (ls ++ ms) ks ≡ true)
        → (if b then lies_right (ls ++ ms) ks else l.positive && not k.positive) ≡ true
    go true h more = more h
    go false h more = h

place_in-below : (k : ℕ) (Q : List Literal) → place_in k Q < 2 ^ k
place_in-below zero Q = omega arith
place_in-below (suc k) [] = pow_pos (suc k)
place_in-below (suc k) (l ∷ Q) = go l.positive (place_in-below k Q)
  where
    go : (b : Bool) → place_in k Q < 2 ^ k → (if b then 2 ^ k else 0) + place_in k Q < 2 ^ suc k
    go true h = let p = pow-suc 2 k in omega arith
    go false h = let p = pow-suc 2 k in omega arith

-- of two cubes of a tree of which one is a model's, the other lies right of it if its place is
-- greater
pub right-by-place : (F : Formula) (plan : Plan) (k : ℕ) (P ls ks : List Literal) (M : Assignment) → LeadsOn F plan P ls → LeadsOn F plan P ks → Runs F plan (P ++ ks) (model M)
    → place_in k ks < place_in k ls → lies_right ls ks ≡ true
right-by-place F plan zero P ls ks M s t r h = absurd (omega arith)
right-by-place F plan (suc k) P [] ks M s t r h = absurd (omega arith)
right-by-place F plan (suc k) P (l ∷ ls) [] M s t r h =
    let m : Runs F plan P (model M) = subst (λ Q. Runs F plan Q (model M)) (append-nil P) r in
    absurd (let o = Runs-unique F plan P _ _ s.0 m in cc)
right-by-place F plan (suc k) P (l ∷ ls) (j ∷ ks) M s t r h = go (same l j) refl (right-by-place F plan k (P ++ l ∷ []) ls ks M s.1)
  where
    one : l.var ≡ j.var
    one = let o = Runs-unique F plan P _ _ s.0 t.0 in cc

    ends : Runs F plan (P ++ j ∷ [] ++ ks) (model M)
    ends = subst (λ Q. Runs F plan Q (model M)) (sym (append_assoc P (j ∷ []) ks)) r

    below : (a b : Bool) → a ≡ b → (if b then 2 ^ k else 0) + place_in k ks < (if a then 2 ^ k else 0) + place_in k ls → place_in k ks < place_in k ls
    below true true e i = omega arith
    below true false e i = absurd (cc)
    below false true e i = absurd (cc)
    below false false e i = omega arith

    apart : (a b : Bool) → same_sign a b ≡ false → (if b then 2 ^ k else 0) + place_in k ks < (if a then 2 ^ k else 0) + place_in k ls → a && not b ≡ true
    apart true false e i = refl
    apart false true e i = let p = place_in-below k ls in absurd (omega arith)
    apart true true e i = absurd (cc)
    apart false false e i = absurd (cc)

    go : (b : Bool) → same l j ≡ b
        → (LeadsOn F plan (P ++ l ∷ []) ks → Runs F plan (P ++ l ∷ [] ++ ks) (model M) → place_in k ks < place_in k ls → lies_right ls ks ≡ true)
        → (if b then lies_right ls ks else l.positive && not j.positive) ≡ true
    go true e more =
        let q : j ≡ l = sym (same-eq l j e) in
        more (subst (λ i. LeadsOn F plan (P ++ i ∷ []) ks) q t.1) (subst (λ i. Runs F plan (P ++ i ∷ [] ++ ks) (model M)) q ends)
        (below l.positive j.positive (ap (λ (i : Literal). i.positive) (sym q)) h)
    go false e more = apart l.positive j.positive (let v : nat_eq l.var j.var ≡ true = eq-eqb l.var j.var one in let f : nat_eq l.var j.var && same_sign l.positive j.positive ≡ false = e in rw v at f) h
