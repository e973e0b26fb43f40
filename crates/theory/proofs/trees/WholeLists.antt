-- In a whole list of results each cube is done that is come to from the left with no model before
-- it.
use Rattle.std.proofs.Common.{◌≡◌, Bool, true, false, not, ◌&&◌, List, [], ◌∷◌, ◌++◌, refl, ap, sym, ◌∙◌, None, inl, inr, Any, subst, append_assoc, append-nil, if◌then◌else◌, IsTrue}
use Rattle.theory.specs.Literals.{Literal, same, positive, negative}
use Rattle.theory.specs.Truth.{Formula, Assignment}
use Rattle.theory.specs.Plans.{Plan}
use Rattle.theory.specs.Search.{model, refuted, exhausted}
use Rattle.theory.specs.Runs.{Runs}
use Rattle.theory.specs.Trees.{Tree, satisfied, refutation, split, IsTree, false_half, true_half, first_model, LeadsOn, IsCubeOf}
use Rattle.theory.specs.Places.{lies_right}
use Rattle.theory.specs.Results.{What, done, skipped, Solved, IsTrueOf, IsDone, IsModel, IsSettled, IsWhole}
use Rattle.theory.proofs.literals.LiteralLemmas.{and-left, and-right, not_true, same-eq}
use Rattle.theory.proofs.trees.SearchLemmas.{Runs-unique}
use Rattle.theory.proofs.checker.AcceptedProofs.{or_else-none}

-- from the cube P along the literals ls: where they go to the true half, the false half's tree has
-- no model
abbrev pub NoneLeft : Formula → Plan → List Literal → List Literal → Type 0
NoneLeft F plan P [] = Unit {0}
NoneLeft F plan P (l ∷ ls) = (l.positive ≡ true → (t : Tree) × IsTree F plan (false_half P l.var) t × (first_model t ≡ None)) × NoneLeft F plan (P ++ l ∷ []) ls

-- a literal of a sign
pub sign_positive : (l : Literal) → l.positive ≡ true → l ≡ positive l.var
sign_positive l e = λ i. record { var = l.var; positive = e i }

pub sign_negative : (l : Literal) → l.positive ≡ false → l ≡ negative l.var
sign_negative l e = λ i. record { var = l.var; positive = e i }

-- a cube of a tree without a model isn't a model
pub no_model_in : (F : Formula) (plan : Plan) (P ls : List Literal) (t : Tree) (M : Assignment) → IsTree F plan P t → first_model t ≡ None → LeadsOn F plan P ls → Runs F plan (P ++ ls) (model M) → ⊥
no_model_in F plan P [] (satisfied N) M h n s r = cc
no_model_in F plan P [] (refutation lines) M h n s r = let m : Runs F plan P (model M) = (let e = append-nil P in rw e at r) in let o = Runs-unique F plan P _ _ h m in cc
no_model_in F plan P [] (split x left right) M h n s r = let m : Runs F plan P (model M) = (let e = append-nil P in rw e at r) in let o = Runs-unique F plan P _ _ h.0 m in cc
no_model_in F plan P (l ∷ ls) (satisfied N) M h n s r = cc
no_model_in F plan P (l ∷ ls) (refutation lines) M h n s r = let o = Runs-unique F plan P _ _ h s.0 in cc
no_model_in F plan P (l ∷ ls) (split x left right) M h n s r =
    go l.positive refl (no_model_in F plan (P ++ l ∷ []) ls left M) (no_model_in F plan (P ++ l ∷ []) ls right M)
  where
    none : (first_model left ≡ None) × (first_model right ≡ None)
    none = or_else-none (first_model left) (first_model right) n

    one : x ≡ l.var
    one = let o = Runs-unique F plan P _ _ h.0 s.0 in cc

    ends : Runs F plan (P ++ l ∷ [] ++ ls) (model M)
    ends = subst (λ Q. Runs F plan Q (model M)) (sym (append_assoc P (l ∷ []) ls)) r

    is_false_half : l.positive ≡ false → false_half P x ≡ P ++ l ∷ []
    is_false_half e = ap (λ k. P ++ k ∷ []) (ap negative one ∙ sym (sign_negative l e))

    is_true_half : l.positive ≡ true → true_half P x ≡ P ++ l ∷ []
    is_true_half e = ap (λ k. P ++ k ∷ []) (ap positive one ∙ sym (sign_positive l e))

    go : (b : Bool) → l.positive ≡ b
        → (IsTree F plan (P ++ l ∷ []) left → first_model left ≡ None → LeadsOn F plan (P ++ l ∷ []) ls → Runs F plan (P ++ l ∷ [] ++ ls) (model M) → ⊥)
        → (IsTree F plan (P ++ l ∷ []) right → first_model right ≡ None → LeadsOn F plan (P ++ l ∷ []) ls → Runs F plan (P ++ l ∷ [] ++ ls) (model M) → ⊥) → ⊥
    go false e on_left on_right = on_left (subst (λ Q. IsTree F plan Q left) (is_false_half e) h.1) none.0 s.1 ends
    go true e on_left on_right = on_right (subst (λ Q. IsTree F plan Q right) (is_true_half e) h.2) none.1 s.1 ends

-- no model's cube lies left of such a cube
pub no_model_left : (F : Formula) (plan : Plan) (P ls ks : List Literal) (M : Assignment) → NoneLeft F plan P ls → LeadsOn F plan P ls → LeadsOn F plan P ks → Runs F plan (P ++ ks) (model M) → lies_right ls ks ≡ true → ⊥
no_model_left F plan P [] ks M n s t r h = cc
no_model_left F plan P (l ∷ ls) [] M n s t r h = cc
no_model_left F plan P (l ∷ ls) (k ∷ ks) M n s t r h = go (same l k) refl h (no_model_left F plan (P ++ l ∷ []) ls ks M n.1 s.1)
  where
    one : l.var ≡ k.var
    one = let o = Runs-unique F plan P _ _ s.0 t.0 in cc

    ends : Runs F plan (P ++ k ∷ [] ++ ks) (model M)
    ends = subst (λ Q. Runs F plan Q (model M)) (sym (append_assoc P (k ∷ []) ks)) r

    apart : l.positive ≡ true → k.positive ≡ false → ⊥
    apart p q =
        let f = n.0 p in
        let half : false_half P l.var ≡ P ++ k ∷ [] = ap (λ j. P ++ j ∷ []) (ap negative one ∙ sym (sign_negative k q)) in
        no_model_in F plan (P ++ k ∷ []) ks f.0 M (subst (λ Q. IsTree F plan Q f.0) half f.1) f.2 t.1 ends

    go : (b : Bool) → same l k ≡ b → (if b then lies_right ls ks else l.positive && not k.positive) ≡ true
        → (LeadsOn F plan (P ++ l ∷ []) ks → Runs F plan (P ++ l ∷ [] ++ ks) (model M) → lies_right ls ks ≡ true → ⊥) → ⊥
    go true e i more =
        let q : k ≡ l = sym (same-eq l k e) in
        more (subst (λ j. LeadsOn F plan (P ++ j ∷ []) ks) q t.1) (subst (λ j. Runs F plan (P ++ j ∷ [] ++ ks) (model M)) q ends) i
    go false e i more = apart (and-left l.positive (not k.positive) i) (not_true k.positive (and-right l.positive (not k.positive) i))

-- so in a whole list such a cube is done
pub model-of : (F : Formula) (plan : Plan) (Q : List Literal) (w : What) → IsTrueOf F plan Q w → IsModel w → (M : Assignment) × Runs F plan Q (model M)
model-of F plan Q (done (model M)) r m = (M, r)
model-of F plan Q (done (refuted lines)) r m = absurd m
model-of F plan Q (done (exhausted x)) r m = absurd m
model-of F plan Q (skipped place) r m = absurd m

pub IsWhole-done : (F : Formula) (plan : Plan) (results : List Solved) (Q : List Literal) → IsWhole F plan results → LeadsOn F plan [] Q → NoneLeft F plan [] Q → Any (λ r. (r.cube ≡ Q) × IsDone r.what) results
IsWhole-done F plan results Q w s n = go (w.settles Q (record { path = Q; reached = refl; splits = s }))
  where
    go : IsSettled results Q → Any (λ r. (r.cube ≡ Q) × IsDone r.what) results
    go (inl d) = d
    go (inr a) = absurd (never a.1 (subst (λ y. IsCubeOf F plan [] y.cube) a.3 (w.of_tree a.0 a.1 a.2)) (subst (λ y. IsTrueOf F plan y.cube y.what) a.3 (w.true_of a.0 a.1 a.2)) a.4.0 a.4.1)
      where
        never : (x : Solved) → IsCubeOf F plan [] x.cube → IsTrueOf F plan x.cube x.what → IsTrue (lies_right Q x.cube) → IsModel x.what → ⊥
        never x c r l m =
            let p = model-of F plan x.cube x.what r m in
            no_model_left F plan [] Q c.path p.0 n s c.splits (subst (λ y. Runs F plan y (model p.0)) c.reached p.1) (subst (λ y. lies_right Q y ≡ true) c.reached l)
