-- The walk over a whole list of results ends, and gives the result of the formula and the plan.
use Rattle.std.proofs.Common.{◌≡◌, ℕ, suc, zero, ◌+◌, ◌<◌, ◌≤◌, Bool, true, false, List, [], ◌∷◌, ◌++◌, length, length-append, Some, None, All, Contains, sum_by, refl, sym, ap, ◌∙◌, subst, arith, if◌then◌else◌, append-nil, append_assoc, inl, inr}
use Rattle.std.proofs.lemmas.List.Sums.{sum_by-cons}
use Rattle.theory.specs.Literals.{Literal, positive, negative}
use Rattle.theory.specs.Truth.{Formula}
use Rattle.theory.specs.Plans.{Plan}
use Rattle.theory.specs.Search.{Outcome, model, refuted, exhausted}
use Rattle.theory.specs.Runs.{Runs}
use Rattle.theory.specs.Trees.{Tree, refutation, split, IsTree, false_half, true_half, first_model, IsFirstLeaf, here, on_left, on_right, Result, model_of, tree_of, IsResult, LeadsOn}
use Rattle.theory.specs.Results.{What, done, skipped, Solved, IsTrueOf, IsDone, IsWhole}
use Rattle.theory.specs.Ledger.{same_cube}
use Rattle.theory.specs.Assembly.{or_outcome, outcome_in, IsAssembled, at_model, at_refutation, left_model, right_model, no_model}
use Rattle.theory.proofs.trees.OneResult.{IsResult-unique}
use Rattle.theory.proofs.literals.Membership.{Contains-here, Contains-there, Contains-cases, Contains-none, All-at}
use Rattle.theory.proofs.trees.CubePlaces.{same_cube-eq, same_cube-refl, LeadsOn-append}
use Rattle.theory.proofs.trees.WholeLists.{NoneLeft, IsWhole-done}

-- an outcome in the list is that of one of its results
pub outcome_in-result : (results : List Solved) (Q : List Literal) (o : Outcome) → outcome_in results Q ≡ Some o → Contains results (record { cube = Q; what = done o })
outcome_in-result [] Q o e = absurd (cc)
outcome_in-result (r ∷ results) Q o e = go (same_cube r.cube Q) refl e (outcome_in-result results Q o)
  where
    what : (w : What) → r.what ≡ w → r.cube ≡ Q → or_outcome w (outcome_in results Q) ≡ Some o → (outcome_in results Q ≡ Some o → Contains results (record { cube = Q; what = done o }))
        → Contains (r ∷ results) (record { cube = Q; what = done o })
    what (done p) f q e more =
        let one : p ≡ o = cc in
        let w : r.what ≡ done o = f ∙ ap done one in
        subst (λ s. Contains (r ∷ results) s) (λ i. record { cube = q i; what = w i }) (Contains-here r results)
    what (skipped place) f q e more = Contains-there r results (record { cube = Q; what = done o }) (more e)

    go : (b : Bool) → same_cube r.cube Q ≡ b → (if b then or_outcome r.what (outcome_in results Q) else outcome_in results Q) ≡ Some o
        → (outcome_in results Q ≡ Some o → Contains results (record { cube = Q; what = done o })) → Contains (r ∷ results) (record { cube = Q; what = done o })
    go true s e more = what r.what refl (same_cube-eq r.cube Q s) e more
    go false s e more = Contains-there r results (record { cube = Q; what = done o }) (more e)

-- a cube that is done in the list has an outcome there
pub done-outcome_in : (results : List Solved) (Q : List Literal) (r : Solved) → Contains results r → r.cube ≡ Q → IsDone r.what → (o : Outcome) × (outcome_in results Q ≡ Some o)
done-outcome_in [] Q r h q d = absurd (Contains-none r h)
done-outcome_in (t ∷ results) Q r h q d = go (same_cube t.cube Q) refl (λ c. done-outcome_in results Q r c q d)
  where
    first : (w : What) → IsDone w → (o : Outcome) × (or_outcome w (outcome_in results Q) ≡ Some o)
    first (done o) d = (o, refl)
    first (skipped place) d = absurd d

    either : (w : What) → (o : Outcome) × (outcome_in results Q ≡ Some o) → (o : Outcome) × (or_outcome w (outcome_in results Q) ≡ Some o)
    either (done o) more = (o, refl)
    either (skipped place) more = more

    go : (b : Bool) → same_cube t.cube Q ≡ b → (Contains results r → (o : Outcome) × (outcome_in results Q ≡ Some o))
        → (o : Outcome) × ((if b then or_outcome t.what (outcome_in results Q) else outcome_in results Q) ≡ Some o)
    go true s more = elim (Contains-cases t results r h) [
      | inl e ↦ first t.what (subst (λ (u : Solved). IsDone u.what) (sym e) d)
      | inr c ↦ either t.what (more c)
    ]
    go false s more = elim (Contains-cases t results r h) [
      | inl e ↦ absurd (let a : same_cube t.cube Q ≡ true = ap (same_cube t.cube) (sym (ap (λ (u : Solved). u.cube) e ∙ q)) ∙ same_cube-refl t.cube in cc)
      | inr c ↦ more c
    ]

-- what a result says of the cube from which the walk began
abbrev pub IsResultAt : Formula → Plan → List Literal → Result → Type 0
IsResultAt F plan Q (model_of M) = IsFirstLeaf F plan Q M
IsResultAt F plan Q (tree_of t) = IsTree F plan Q t × (first_model t ≡ None)

pub outcome_in-Runs : (F : Formula) (plan : Plan) (results : List Solved) (Q : List Literal) (o : Outcome) → All (λ r. IsTrueOf F plan r.cube r.what) results → outcome_in results Q ≡ Some o → Runs F plan Q o
outcome_in-Runs F plan results Q o t e = All-at (λ r. IsTrueOf F plan r.cube r.what) results (record { cube = Q; what = done o }) t (outcome_in-result results Q o e)

-- Where all results are true, the walk gives the result.
pub IsAssembled-IsResultAt : (F : Formula) (plan : Plan) (results : List Solved) (Q : List Literal) (r : Result) → All (λ r. IsTrueOf F plan r.cube r.what) results → IsAssembled results Q r → IsResultAt F plan Q r
IsAssembled-IsResultAt F plan results Q r t (at_model {M = M} e) = here (outcome_in-Runs F plan results Q (model M) t e)
IsAssembled-IsResultAt F plan results Q r t (at_refutation {lines = lines} e) = (outcome_in-Runs F plan results Q (refuted lines) t e, refl)
IsAssembled-IsResultAt F plan results Q r t (left_model {M = M} {x = x} e a) =
    on_left (outcome_in-Runs F plan results Q (exhausted x) t e) (IsAssembled-IsResultAt F plan results (false_half Q x) (model_of M) t a)
IsAssembled-IsResultAt F plan results Q r t (right_model {M = M} {x = x} left e a b) =
    let l = IsAssembled-IsResultAt F plan results (false_half Q x) (tree_of left) t a in
    on_right left (outcome_in-Runs F plan results Q (exhausted x) t e) l.0 l.1 (IsAssembled-IsResultAt F plan results (true_half Q x) (model_of M) t b)
IsAssembled-IsResultAt F plan results Q r t (no_model {x = x} {left = left} {right = right} e a b) =
    let l = IsAssembled-IsResultAt F plan results (false_half Q x) (tree_of left) t a in
    let m = IsAssembled-IsResultAt F plan results (true_half Q x) (tree_of right) t b in
    ((outcome_in-Runs F plan results Q (exhausted x) t e, l.0, m.0), rw l.1 m.1)

-- the way to a half
NoneLeft-append : (F : Formula) (plan : Plan) (R ls ms : List Literal) → NoneLeft F plan R ls → NoneLeft F plan (R ++ ls) ms → NoneLeft F plan R (ls ++ ms)
NoneLeft-append F plan R [] ms h i = subst (λ Q. NoneLeft F plan Q ms) (append-nil R) i
NoneLeft-append F plan R (l ∷ ls) ms h i = (h.0, NoneLeft-append F plan (R ++ l ∷ []) ls ms h.1 (subst (λ Q. NoneLeft F plan Q ms) (sym (append_assoc R (l ∷ []) ls)) i))

-- a cube on the walk is of the tree, and no model lies left of it
pub record IsComeTo (F : Formula) (plan : Plan) (Q : List Literal) : Type 0 where
  pub of_tree : LeadsOn F plan [] Q
  pub none_left : NoneLeft F plan [] Q

pub IsComeTo-root : (F : Formula) (plan : Plan) → IsComeTo F plan []
IsComeTo-root F plan = record { of_tree = tt; none_left = tt }

pub IsComeTo-left : (F : Formula) (plan : Plan) (Q : List Literal) (x : ℕ) → IsComeTo F plan Q → Runs F plan Q (exhausted x) → IsComeTo F plan (false_half Q x)
IsComeTo-left F plan Q x c h = record {
  of_tree = LeadsOn-append F plan [] Q (negative x ∷ []) c.of_tree (h, tt);
  none_left = NoneLeft-append F plan [] Q (negative x ∷ []) c.none_left ((λ e. absurd (cc)), tt);
}

pub IsComeTo-right : (F : Formula) (plan : Plan) (Q : List Literal) (x : ℕ) (left : Tree) → IsComeTo F plan Q → Runs F plan Q (exhausted x) → IsTree F plan (false_half Q x) left → first_model left ≡ None
    → IsComeTo F plan (true_half Q x)
IsComeTo-right F plan Q x left c h t n = record {
  of_tree = LeadsOn-append F plan [] Q (positive x ∷ []) c.of_tree (h, tt);
  none_left = NoneLeft-append F plan [] Q (positive x ∷ []) c.none_left ((λ e. (left, t, n)), tt);
}

-- such a cube has its outcome in a whole list
pub IsComeTo-outcome : (F : Formula) (plan : Plan) (results : List Solved) (Q : List Literal) → IsWhole F plan results → IsComeTo F plan Q → (o : Outcome) × (outcome_in results Q ≡ Some o)
IsComeTo-outcome F plan results Q w c =
    let d = IsWhole-done F plan results Q w c.of_tree c.none_left in
    done-outcome_in results Q d.1 (d.0, d.2, d.3) d.4.0 d.4.1

-- no cube of the list is longer than all of them together
length-within : (results : List Solved) (r : Solved) → Contains results r → length r.cube ≤ sum_by (λ r. length r.cube) results
length-within [] r h = absurd (Contains-none r h)
length-within (t ∷ results) r h =
    let s = sum_by-cons (λ (u : Solved). length u.cube) t results in
    elim (Contains-cases t results r h) [
      | inl e ↦ (let l : length t.cube ≡ length r.cube = ap (λ (u : Solved). length u.cube) e in omega arith)
      | inr c ↦ (let l = length-within results r c in omega arith)
    ]

record Walked (results : List Solved) (Q : List Literal) : Type 0 where
  result : Result
  walked : IsAssembled results Q result

-- so the walk ends
module _ (F : Formula) (plan : Plan) (results : List Solved) (whole : IsWhole F plan results) where
  walk-on : (Q : List Literal) → IsComeTo F plan Q → ((l : Literal) → length (Q ++ l ∷ []) ≤ sum_by (λ r. length r.cube) results + 1 → IsComeTo F plan (Q ++ l ∷ []) → Walked results (Q ++ l ∷ []))
      → Walked results Q
  walk-on Q c more = go (IsComeTo-outcome F plan results Q whole c).0 (IsComeTo-outcome F plan results Q whole c).1
    where
      short : (o : Outcome) → outcome_in results Q ≡ Some o → (l : Literal) → length (Q ++ l ∷ []) ≤ sum_by (λ r. length r.cube) results + 1
      short o e l =
          let a = length-within results (record { cube = Q; what = done o }) (outcome_in-result results Q o e) in
          let b = length-append Q (l ∷ []) in
          omega arith

      on_model : (x : ℕ) (left : Tree) → outcome_in results Q ≡ Some (exhausted x) → IsAssembled results (false_half Q x) (tree_of left) → Walked results (true_half Q x) → Walked results Q
      on_model x left e a w = both w.result w.walked
        where
          both : (r : Result) → IsAssembled results (true_half Q x) r → Walked results Q
          both (model_of M) b = record { result = model_of M; walked = right_model left e a b }
          both (tree_of right) b = record { result = tree_of (split x left right); walked = no_model e a b }

      halves : (x : ℕ) → outcome_in results Q ≡ Some (exhausted x) → (r : Result) → IsAssembled results (false_half Q x) r → Walked results Q
      halves x e (model_of M) a = record { result = model_of M; walked = left_model e a }
      halves x e (tree_of left) a =
          let runs = outcome_in-Runs F plan results Q (exhausted x) whole.true_of e in
          let t = IsAssembled-IsResultAt F plan results (false_half Q x) (tree_of left) whole.true_of a in
          on_model x left e a (more (positive x) (short (exhausted x) e (positive x)) (IsComeTo-right F plan Q x left c runs t.0 t.1))

      go : (o : Outcome) → outcome_in results Q ≡ Some o → Walked results Q
      go (model M) e = record { result = model_of M; walked = at_model e }
      go (refuted lines) e = record { result = tree_of (refutation lines); walked = at_refutation e }
      go (exhausted x) e =
          let w = more (negative x) (short (exhausted x) e (negative x)) (IsComeTo-left F plan Q x c (outcome_in-Runs F plan results Q (exhausted x) whole.true_of e)) in
          halves x e w.result w.walked

  walk-within : (n : ℕ) (Q : List Literal) → sum_by (λ r. length r.cube) results + 1 < length Q + n → length Q ≤ sum_by (λ r. length r.cube) results + 1 → IsComeTo F plan Q → Walked results Q
  walk-within zero Q l s c = absurd (omega arith)
  walk-within (suc n) Q l s c = walk-on Q c (λ k t d. walk-within n (Q ++ k ∷ []) (let a = length-append Q (k ∷ []) in omega arith) t d)

  walk : Walked results []
  walk = walk-within (sum_by (λ r. length r.cube) results + 2) [] (omega arith) (omega arith) (IsComeTo-root F plan)

-- A walk over a whole list comes to a result.
pub IsWhole-IsAssembled : (F : Formula) (plan : Plan) (results : List Solved) → IsWhole F plan results → (r : Result) × IsAssembled results [] r
IsWhole-IsAssembled F plan results whole = let w = walk F plan results whole in (w.result, w.walked)

-- It is the formula's.
pub IsAssembled-IsResult : (F : Formula) (plan : Plan) (results : List Solved) (r : Result) → IsWhole F plan results → IsAssembled results [] r → IsResult F plan r
IsAssembled-IsResult F plan results (model_of M) whole a = IsAssembled-IsResultAt F plan results [] (model_of M) whole.true_of a
IsAssembled-IsResult F plan results (tree_of t) whole a = IsAssembled-IsResultAt F plan results [] (tree_of t) whole.true_of a

-- There is one.
pub IsAssembled-unique : (results : List Solved) (Q : List Literal) (r s : Result) → IsAssembled results Q r → IsAssembled results Q s → r ≡ s
IsAssembled-unique results Q r s (at_model e) (at_model f) = cc
IsAssembled-unique results Q r s (at_model e) (at_refutation f) = absurd (cc)
IsAssembled-unique results Q r s (at_model e) (left_model f b) = absurd (cc)
IsAssembled-unique results Q r s (at_model e) (right_model m f b c) = absurd (cc)
IsAssembled-unique results Q r s (at_model e) (no_model f b c) = absurd (cc)
IsAssembled-unique results Q r s (at_refutation e) (at_model f) = absurd (cc)
IsAssembled-unique results Q r s (at_refutation e) (at_refutation f) = cc
IsAssembled-unique results Q r s (at_refutation e) (left_model f b) = absurd (cc)
IsAssembled-unique results Q r s (at_refutation e) (right_model m f b c) = absurd (cc)
IsAssembled-unique results Q r s (at_refutation e) (no_model f b c) = absurd (cc)
IsAssembled-unique results Q r s (left_model e a) (at_model f) = absurd (cc)
IsAssembled-unique results Q r s (left_model e a) (at_refutation f) = absurd (cc)
IsAssembled-unique results Q r s (left_model {x = x} e a) (left_model {x = y} f b) = let v : x ≡ y = cc in IsAssembled-unique results (false_half Q x) r s a (rw v b)
IsAssembled-unique results Q r s (left_model {M = M} {x = x} e a) (right_model {x = y} m f b c) =
    let v : x ≡ y = cc in absurd (let o = IsAssembled-unique results (false_half Q x) (model_of M) (tree_of m) a (rw v b) in cc)
IsAssembled-unique results Q r s (left_model {M = M} {x = x} e a) (no_model {x = y} {left = m} f b c) =
    let v : x ≡ y = cc in absurd (let o = IsAssembled-unique results (false_half Q x) (model_of M) (tree_of m) a (rw v b) in cc)
IsAssembled-unique results Q r s (right_model l e a d) (at_model f) = absurd (cc)
IsAssembled-unique results Q r s (right_model l e a d) (at_refutation f) = absurd (cc)
IsAssembled-unique results Q r s (right_model {x = x} l e a d) (left_model {M = M} {x = y} f b) =
    let v : x ≡ y = cc in absurd (let o = IsAssembled-unique results (false_half Q x) (tree_of l) (model_of M) a (rw v b) in cc)
IsAssembled-unique results Q r s (right_model {x = x} l e a d) (right_model {x = y} m f b c) = let v : x ≡ y = cc in IsAssembled-unique results (true_half Q x) r s d (rw v c)
IsAssembled-unique results Q r s (right_model {M = M} {x = x} l e a d) (no_model {x = y} {right = u} f b c) =
    let v : x ≡ y = cc in absurd (let o = IsAssembled-unique results (true_half Q x) (model_of M) (tree_of u) d (rw v c) in cc)
IsAssembled-unique results Q r s (no_model e a d) (at_model f) = absurd (cc)
IsAssembled-unique results Q r s (no_model e a d) (at_refutation f) = absurd (cc)
IsAssembled-unique results Q r s (no_model {x = x} {left = l} e a d) (left_model {M = M} {x = y} f b) =
    let v : x ≡ y = cc in absurd (let o = IsAssembled-unique results (false_half Q x) (tree_of l) (model_of M) a (rw v b) in cc)
IsAssembled-unique results Q r s (no_model {x = x} {right = u} e a d) (right_model {M = M} {x = y} m f b c) =
    let v : x ≡ y = cc in absurd (let o = IsAssembled-unique results (true_half Q x) (tree_of u) (model_of M) d (rw v c) in cc)
IsAssembled-unique results Q r s (no_model {x = x} {left = l} {right = u} e a d) (no_model {x = y} {left = m} {right = w} f b c) =
    let v : x ≡ y = cc in
    let o = IsAssembled-unique results (false_half Q x) (tree_of l) (tree_of m) a (rw v b) in
    let p = IsAssembled-unique results (true_half Q x) (tree_of u) (tree_of w) d (rw v c) in
    let lm : l ≡ m = cc in
    let uw : u ≡ w = cc in
    cc

-- The list alone decides: whatever the formula and the plan are for which it is whole, the result
-- is one.
pub IsWhole-one_result : (F G : Formula) (plan other : Plan) (results : List Solved) (r s : Result) → IsWhole F plan results → IsWhole G other results → IsResult F plan r → IsResult G other s → r ≡ s
IsWhole-one_result F G plan other results r s w v h k =
    let a = IsWhole-IsAssembled F plan results w in
    IsResult-unique F plan r a.0 h (IsAssembled-IsResult F plan results a.0 w a.1) ∙ IsResult-unique G other a.0 s (IsAssembled-IsResult G other results a.0 v a.1) k
