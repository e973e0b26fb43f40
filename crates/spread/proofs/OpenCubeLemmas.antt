-- Steps along the way of open cubes.
use Rattle.std.proofs.Common.{◌≡◌, ℕ, Bool, true, false, cond, List, [], ◌∷◌, ◌++◌, Option, Some, length, reverse, refl, arith, sym, ap, subst, ◌∙◌, append_assoc}
use Rattle.std.proofs.lemmas.List.{append-nil, reverse-append}
use Rattle.theory.specs.Literals.{Literal}
use Rattle.theory.specs.Truth.{Formula}
use Rattle.theory.specs.Trees.{false_half, true_half}
use Rattle.theory.specs.Checked.{IsFitSplit}
use Rattle.spread.specs.declared.open_cubes.Word.{Word}
use Rattle.spread.specs.declared.open_cubes.Word.TheVariants.{Split, Refuted, Model}
use Rattle.spread.specs.OpenCubes.{IsNoWord, LeavesOpen, at_end, at_refuted, at_model, at_split, at_open, IsOnTheWay}

pub if-true : {A : Type 0} (b : Bool) (xs ys zs : List A) → zs ≡ cond b xs ys → b ≡ true → zs ≡ xs
if-true b xs ys zs e h = e ∙ ap (λ (c : Bool). cond c xs ys) h

pub if-false : {A : Type 0} (b : Bool) (xs ys zs : List A) → zs ≡ cond b xs ys → b ≡ false → zs ≡ ys
if-false b xs ys zs e h = e ∙ ap (λ (c : Bool). cond c xs ys) h

pub is-empty : {A : Type 0} (xs : List A) (n : ℕ) → n ≡ length xs → n ≡ 0 → xs ≡ []
is-empty [] n e z = refl
is-empty (x ∷ xs) n e z = absurd (omega arith)

-- the last of a list comes first in the reversed one
pub last-first : {A : Type 0} (xs ys : List A) (x : A) → ys ≡ xs ++ x ∷ [] → reverse ys ≡ x ∷ reverse xs
last-first xs ys x e = ap reverse e ∙ reverse-append xs (x ∷ [])

pub two-first : {A : Type 0} (xs ys : List A) (x y : A) → ys ≡ xs ++ y ∷ x ∷ [] → reverse ys ≡ x ∷ y ∷ reverse xs
two-first xs ys x y e = ap reverse e ∙ reverse-append xs (y ∷ x ∷ [])

module _ (F : Formula) (said : List Literal → Option Word) (cubes left : List (List Literal)) where
  module _ (Q : List Literal) (way : List (List Literal)) (before : IsOnTheWay F said cubes left (Q ∷ way)) where
    pub refuted-on : said Q ≡ Some Refuted → IsOnTheWay F said cubes left way
    refuted-on e rest m h = before rest m (at_refuted e h)

    pub model-on : said Q ≡ Some Model → LeavesOpen F said cubes left true
    model-on e = subst (λ (xs : List (List Literal)). LeavesOpen F said cubes xs true) (append-nil left) (before [] true (at_model e))

    pub split-on : (x : ℕ) (on : List (List Literal)) → said Q ≡ Some (Split x) → IsFitSplit F Q x → on ≡ false_half Q x ∷ true_half Q x ∷ way → IsOnTheWay F said cubes left on
    split-on x on e fit same rest m h = before rest m (at_split x e fit (subst (λ (xs : List (List Literal)). LeavesOpen F said xs rest m) same h))

    pub open-on : (word : Option Word) (on new : List (List Literal)) → said Q ≡ word → IsNoWord F Q word → on ≡ way → new ≡ left ++ Q ∷ [] → IsOnTheWay F said cubes new on
    open-on word on new e none same put rest m h =
        let here : IsNoWord F Q (said Q) = subst (λ (w : Option Word). IsNoWord F Q w) (sym e) none in
        let all : left ++ (Q ∷ rest) ≡ new ++ rest = sym (append_assoc left (Q ∷ []) rest) ∙ ap (λ xs. xs ++ rest) (sym put) in
        subst (λ (xs : List (List Literal)). LeavesOpen F said cubes xs m) all (before (Q ∷ rest) m (at_open here (subst (λ (xs : List (List Literal)). LeavesOpen F said xs rest m) same h)))

  -- with the way in another form
  pub same-way : (way on : List (List Literal)) → way ≡ on → IsOnTheWay F said cubes left way → IsOnTheWay F said cubes left on
  same-way way on e before = subst (λ (xs : List (List Literal)). IsOnTheWay F said cubes left xs) e before

  -- nothing is on the way
  pub end-on : (way : List (List Literal)) → way ≡ [] → IsOnTheWay F said cubes left way → LeavesOpen F said cubes left false
  end-on way e before = subst (λ (xs : List (List Literal)). LeavesOpen F said cubes xs false) (append-nil left) (same-way way [] e before [] false at_end)
