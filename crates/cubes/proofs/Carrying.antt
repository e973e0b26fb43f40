-- A half that is carried on, from left to right, is settled: each of its cubes has its result, or
-- lies right of a model.
use Rattle.std.proofs.Common.{◌≡◌, ◌≢◌, ℕ, Bool, true, false, nat_eq, eq-eqb, List, [], ◌∷◌, ◌++◌, Option, Some, None, Contains, All, refl, sym, ap, ◌∙◌, subst, inl, inr, ◌⊎◌, append_assoc, append-nil, zero-le, IsTrue}
use Rattle.std.proofs.lemmas.List.Elements.{All-append, All-cons, All-nil, All-push, All-weaker, Contains-append_left, Contains-append_right}
use Rattle.theory.specs.Literals.{Literal, positive, negative}
use Rattle.theory.specs.Truth.{Formula, Assignment}
use Rattle.theory.specs.Plans.{Plan}
use Rattle.theory.specs.Search.{Outcome, model, refuted, exhausted}
use Rattle.theory.specs.Runs.{Runs}
use Rattle.theory.specs.Trees.{Tree, satisfied, refutation, split, IsTree, first_model, LeadsOn, IsCubeOf, false_half, true_half}
use Rattle.theory.specs.Places.{place_of, lies_right}
use Rattle.theory.specs.Results.{done, Solved, IsTrueOf, IsModel, IsSettled}
use Rattle.theory.specs.Results as results
use Rattle.theory.specs.Ledger.{offer, halt}
use Rattle.theory.specs.Work.{IsFoundedOn}
use Rattle.theory.specs.Round.{IsHandOn}
use Rattle.theory.proofs.checker.AcceptedProofs.{or_else-none}
use Rattle.theory.proofs.literals.LiteralLemmas.{same-refl, true_or_false}
use Rattle.theory.proofs.trees.SearchLemmas.{Runs-unique}
use Rattle.theory.proofs.literals.Membership.{Contains-here, Contains-there, Contains-none, Any-from}
use Rattle.theory.proofs.trees.CubePlaces.{LeadsOn-append}
use Rattle.theory.proofs.hands.RoundEnds.{All-one, only_calls, not-halt}
use Rattle.theory.proofs.trees.WholeLists.{sign_positive, sign_negative}
use Rattle.cubes.specs.declared.traversal.Split.{Split}
use Rattle.cubes.specs.Traversal.{half, path}
use Rattle.cubes.proofs.Walks.{by_plan, results_of, IsDone, IsLeftDone, IsReached, IsReached-leads}

-- the true half lies right of the false one
right-of-half : (Q ls ks : List Literal) (x : ℕ) → lies_right (Q ++ positive x ∷ ls) (Q ++ negative x ∷ ks) ≡ true
right-of-half [] ls ks x = let v : nat_eq x x ≡ true = eq-eqb x x refl in rw v refl
right-of-half (l ∷ Q) ls ks x = let s = same-refl l in rw s (right-of-half Q ls ks x)

module _ (F : Formula) (plan : Plan) where
  -- each cube of a tree without a model has its result
  tree-settled : (P ls : List Literal) (t : Tree) → LeadsOn F plan P ls → IsTree F plan P t → first_model t ≡ None → (o : Outcome) × Contains (results_of P t) (record { cube = P ++ ls; what = done o })
  tree-settled P [] (satisfied M) s h n = absurd (cc)
  tree-settled P [] (refutation lines) s h n = rw append-nil (refuted lines, Contains-here (record { cube = P; what = done (refuted lines) }) [])
  tree-settled P [] (split x l r) s h n = rw append-nil (exhausted x, Contains-here (record { cube = P; what = done (exhausted x) }) (results_of (false_half P x) l ++ results_of (true_half P x) r))
  tree-settled P (k ∷ ks) (satisfied M) s h n = absurd (cc)
  tree-settled P (k ∷ ks) (refutation lines) s h n = absurd (let o = Runs-unique F plan P _ _ h s.0 in cc)
  tree-settled P (k ∷ ks) (split x l r) s h n =
      on (true_or_false k.positive) (tree-settled (P ++ k ∷ []) ks l s.1) (tree-settled (P ++ k ∷ []) ks r s.1)
    where
      none : (first_model l ≡ None) × (first_model r ≡ None)
      none = or_else-none (first_model l) (first_model r) n

      one : x ≡ k.var
      one = let o = Runs-unique F plan P _ _ h.0 s.0 in cc

      here : Solved
      here = record { cube = P; what = done (exhausted x) }

      is_left : k.positive ≡ false → P ++ k ∷ [] ≡ false_half P x
      is_left e = ap (λ j. P ++ j ∷ []) (sign_negative k e ∙ ap negative (sym one))

      is_right : k.positive ≡ true → P ++ k ∷ [] ≡ true_half P x
      is_right e = ap (λ j. P ++ j ∷ []) (sign_positive k e ∙ ap positive (sym one))

      on : (k.positive ≡ true) ⊎ (k.positive ≡ false) → (IsTree F plan (P ++ k ∷ []) l → first_model l ≡ None → (o : Outcome) × Contains (results_of (P ++ k ∷ []) l) (record { cube = P ++ k ∷ [] ++ ks; what = done o }))
          → (IsTree F plan (P ++ k ∷ []) r → first_model r ≡ None → (o : Outcome) × Contains (results_of (P ++ k ∷ []) r) (record { cube = P ++ k ∷ [] ++ ks; what = done o }))
          → (o : Outcome) × Contains (results_of P (split x l r)) (record { cube = P ++ k ∷ ks; what = done o })
      on (inl e) left right =
          let found = right (subst (λ Q. IsTree F plan Q r) (sym (is_right e)) h.2) none.1 in
          let there : Solved = record { cube = P ++ k ∷ [] ++ ks; what = done found.0 } in
          let inside : Contains (results_of (true_half P x) r) there = subst (λ Q. Contains (results_of Q r) there) (is_right e) found.1 in (
            found.0,
            subst (λ Q. Contains (results_of P (split x l r)) (record { cube = Q; what = done found.0 })) (append_assoc P (k ∷ []) ks)
                (Contains-there here (results_of (false_half P x) l ++ results_of (true_half P x) r) there (Contains-append_right (results_of (false_half P x) l) (results_of (true_half P x) r) there inside)),
          )
      on (inr e) left right =
          let found = left (subst (λ Q. IsTree F plan Q l) (sym (is_left e)) h.1) none.0 in
          let there : Solved = record { cube = P ++ k ∷ [] ++ ks; what = done found.0 } in
          let inside : Contains (results_of (false_half P x) l) there = subst (λ Q. Contains (results_of Q l) there) (is_left e) found.1 in (
            found.0,
            subst (λ Q. Contains (results_of P (split x l r)) (record { cube = Q; what = done found.0 })) (append_assoc P (k ∷ []) ks)
                (Contains-there here (results_of (false_half P x) l ++ results_of (true_half P x) r) there (Contains-append_left (results_of (false_half P x) l) (results_of (true_half P x) r) there inside)),
          )

  -- a cube has its result among these
  has-result : (all : List Solved) (Q : List Literal) (o : Outcome) → Contains all (record { cube = Q; what = done o }) → IsSettled all Q
  has-result all Q o c = inl (Any-from (λ r. (r.cube ≡ Q) × results.IsDone r.what) all (record { cube = Q; what = done o }) c (refl, tt))

  done-settled : (Q : List Literal) (rs all : List Solved) → IsDone F (by_plan F plan) Q rs → ((r : Solved) → Contains rs r → Contains all r) → (R : List Literal) → IsCubeOf F plan Q R → IsSettled all R
  done-settled Q rs all d among R c =
      let found = tree-settled Q c.path d.tree c.splits d.of_cube d.none in
      let there : Solved = record { cube = Q ++ c.path; what = done found.0 } in
      subst (IsSettled all) (sym c.reached) (has-result all (Q ++ c.path) found.0 (among there (subst (λ s. Contains s there) (sym d.results) found.1)))

  module _ (H : List Literal) where
    -- a result is true, its cube is one of H's tree, and no model
    pub record IsFair (r : Solved) : Type 0 where
      pub true_of : IsTrueOf F plan r.cube r.what
      pub of_half : IsCubeOf F plan H r.cube
      pub no_model : ¬ (IsModel r.what)

    pub fair : (p : List Literal) (o : Outcome) → LeadsOn F plan H p → Runs F plan (H ++ p) o → ¬ (IsModel (done o)) → IsFair (record { cube = H ++ p; what = done o })
    fair p o leads runs none = record { true_of = runs; of_half = record { path = p; reached = refl; splits = leads }; no_model = none }

    tree-fair : (p : List Literal) (t : Tree) → LeadsOn F plan H p → IsTree F plan (H ++ p) t → first_model t ≡ None → All IsFair (results_of (H ++ p) t)
    tree-fair p (satisfied M) leads h n = absurd (cc)
    tree-fair p (refutation lines) leads h n = All-one IsFair (record { cube = H ++ p; what = done (refuted lines) }) (fair p (refuted lines) leads h (λ m. m))
    tree-fair p (split x l r) leads h n =
        let none = or_else-none (first_model l) (first_model r) n in
        let left = tree-fair (p ++ negative x ∷ []) l (LeadsOn-append F plan H p (negative x ∷ []) leads (h.0, tt)) (subst (λ Q. IsTree F plan Q l) (append_assoc H p (negative x ∷ [])) h.1) none.0 in
        let right = tree-fair (p ++ positive x ∷ []) r (LeadsOn-append F plan H p (positive x ∷ []) leads (h.0, tt)) (subst (λ Q. IsTree F plan Q r) (append_assoc H p (positive x ∷ [])) h.2) none.1 in
        All-cons IsFair (record { cube = H ++ p; what = done (exhausted x) }) (results_of (false_half (H ++ p) x) l ++ results_of (true_half (H ++ p) x) r) (fair p (exhausted x) leads h.0 (λ m. m))
        (All-append IsFair (results_of (false_half (H ++ p) x) l) (results_of (true_half (H ++ p) x) r)
        (subst (λ Q. All IsFair (results_of Q l)) (sym (append_assoc H p (negative x ∷ []))) left)
        (subst (λ Q. All IsFair (results_of Q r)) (sym (append_assoc H p (positive x ∷ []))) right))

    done-fair : (rs : List Solved) → IsDone F (by_plan F plan) H rs → All IsFair rs
    done-fair rs d =
        subst (All IsFair) (sym d.results)
        (subst (λ Q. All IsFair (results_of Q d.tree)) (append-nil H) (tree-fair [] d.tree tt (subst (λ Q. IsTree F plan Q d.tree) (sym (append-nil H)) d.of_cube) d.none))

    pub reached-fair : {T : Type 0} (ss : List (Split T)) (rs : List Solved) → IsReached F (by_plan F plan) H ss rs → All IsFair rs
    reached-fair [] rs h = rw h (All-nil IsFair)
    reached-fair {T} (s ∷ ss) rs h =
        subst (All IsFair) (sym h.2.results)
        (All-append IsFair h.0 (here ∷ h.1) (reached-fair ss h.0 h.3) (All-cons IsFair here h.1 (fair (path ss) (exhausted s.var) leads h.2.splits (λ m. m)) (left s.left h.2.is_left)))
      where
        here : Solved
        here = record { cube = H ++ path ss; what = done (exhausted s.var) }

        leads : LeadsOn F plan H (path ss)
        leads = IsReached-leads F plan H ss h.0 h.3

        left : (o : Option T) → IsLeftDone F (by_plan F plan) (H ++ path ss) s.var o h.1 → All IsFair h.1
        left None e = rw e (All-nil IsFair)
        left (Some d) l =
            subst (All IsFair) (sym l.results)
            (subst (λ Q. All IsFair (results_of Q l.tree)) (sym (append_assoc H (path ss) (negative s.var ∷ [])))
            (tree-fair (path ss ++ negative s.var ∷ []) l.tree (LeadsOn-append F plan H (path ss) (negative s.var ∷ []) leads (h.2.splits, tt))
            (subst (λ Q. IsTree F plan Q l.tree) (append_assoc H (path ss) (negative s.var ∷ [])) l.of_cube) l.none))

    -- where all of a place's cubes are settled, and a model lies there, all of H's are
    above-settled : {T : Type 0} (ss : List (Split T)) (rs all : List Solved) (m : Solved) (ls : List Literal) → IsReached F (by_plan F plan) H ss rs → ((r : Solved) → Contains rs r → Contains all r) → Contains all m → IsModel m.what
        → m.cube ≡ H ++ path ss ++ ls → ((R : List Literal) → IsCubeOf F plan (H ++ path ss) R → IsSettled all R) → (R : List Literal) → IsCubeOf F plan H R → IsSettled all R
    above-settled [] rs all m ls h among there is_model at here = λ R c. here R (subst (λ Q. IsCubeOf F plan Q R) (sym (append-nil H)) c)
    above-settled {T} (s ∷ ss) rs all m ls h among there is_model at here =
        above-settled ss h.0 all m (half s.var s.left ∷ ls) h.3 (λ r c. inside r (Contains-append_left h.0 (split_here ∷ h.1) r c)) there is_model
        (at ∙ ap (λ Q. Q ++ ls) (sym (append_assoc H (path ss) (half s.var s.left ∷ []))) ∙ append_assoc (H ++ path ss) (half s.var s.left ∷ []) ls)
        (λ R c. on R c.path c.reached c.splits)
      where
        split_here : Solved
        split_here = record { cube = H ++ path ss; what = done (exhausted s.var) }

        inside : (r : Solved) → Contains (h.0 ++ split_here ∷ h.1) r → Contains all r
        inside r c = among r (subst (λ t. Contains t r) (sym h.2.results) c)

        left_inside : (r : Solved) → Contains h.1 r → Contains all r
        left_inside r c = inside r (Contains-append_right h.0 (split_here ∷ h.1) r (Contains-there split_here h.1 r c))

        below : (R ks : List Literal) (k l : Literal) → k ≡ l → R ≡ H ++ path ss ++ k ∷ ks → LeadsOn F plan (H ++ path ss ++ k ∷ []) ks → IsCubeOf F plan (H ++ path ss ++ l ∷ []) R
        below R ks k l q e t = record {
          path = ks;
          reached = e ∙ ap (λ j. H ++ path ss ++ j ∷ ks) q ∙ sym (append_assoc (H ++ path ss) (l ∷ []) ks);
          splits = subst (λ j. LeadsOn F plan (H ++ path ss ++ j ∷ []) ks) q t;
        }

        at_place : (R : List Literal) (o : Option T) → s.left ≡ o → IsCubeOf F plan (H ++ path ss ++ half s.var o ∷ []) R → IsSettled all R
        at_place R o e c = here R (subst (λ Q. IsCubeOf F plan Q R) (append_assoc H (path ss) (half s.var s.left ∷ [])) (subst (λ p. IsCubeOf F plan (H ++ path ss ++ half s.var p ∷ []) R) (sym e) c))

        by_side : (R ks : List Literal) (k : Literal) (o : Option T) → s.left ≡ o → IsLeftDone F (by_plan F plan) (H ++ path ss) s.var o h.1 → s.var ≡ k.var → (k.positive ≡ true) ⊎ (k.positive ≡ false) → R ≡ H ++ path ss ++ k ∷ ks
            → LeadsOn F plan (H ++ path ss ++ k ∷ []) ks → IsSettled all R
        by_side R ks k None f l v (inl p) e t =
            let right = right-of-half (H ++ path ss) ks ls s.var in
            let is_right : R ≡ H ++ path ss ++ positive s.var ∷ ks = e ∙ ap (λ j. H ++ path ss ++ j ∷ ks) (sign_positive k p ∙ ap positive (sym v)) in
            let model_at : m.cube ≡ H ++ path ss ++ negative s.var ∷ ls = at ∙ ap (λ Q. Q ++ ls) (sym (append_assoc H (path ss) (half s.var s.left ∷ []))) ∙ append_assoc (H ++ path ss) (half s.var s.left ∷ []) ls ∙ ap (λ o. H ++ path ss ++ half s.var o ∷ ls) f in
            inr (Any-from (λ r. IsTrue (lies_right R r.cube) × IsModel r.what) all m there (rw (is_right, model_at) right, is_model))
        by_side R ks k None f l v (inr p) e t = at_place R None f (below R ks k (negative s.var) (sign_negative k p ∙ ap negative (sym v)) e t)
        by_side R ks k (Some d) f l v (inl p) e t = at_place R (Some d) f (below R ks k (positive s.var) (sign_positive k p ∙ ap positive (sym v)) e t)
        by_side R ks k (Some d) f l v (inr p) e t = done-settled (false_half (H ++ path ss) s.var) h.1 all l left_inside R (below R ks k (negative s.var) (sign_negative k p ∙ ap negative (sym v)) e t)

        on : (R p : List Literal) → R ≡ H ++ path ss ++ p → LeadsOn F plan (H ++ path ss) p → IsSettled all R
        on R [] e t = subst (IsSettled all) (sym (e ∙ append-nil (H ++ path ss))) (has-result all (H ++ path ss) (exhausted s.var) (inside split_here (Contains-append_right h.0 (split_here ∷ h.1) split_here (Contains-here split_here h.1))))
        on R (k ∷ ks) e t = by_side R ks k s.left refl h.2.is_left (let o = Runs-unique F plan (H ++ path ss) _ _ h.2.splits t.0 in cc) (true_or_false k.positive) e t.1

    -- what a hand leaves that called nothing: short of memory on the way, or with all settled
    nothing-called : (ok : Bool) (rs : List Solved) → All IsFair rs → (ok ≡ true → (R : List Literal) → IsCubeOf F plan H R → IsSettled rs R) → IsHandOn F plan ok H (only_calls []) rs
    nothing-called ok rs all settled = record {
      none_got = refl;
      puts = All-nil (λ R. R ≡ H);
      puts_once = zero-le;
      true_of = All-weaker IsFair (λ r. IsTrueOf F plan r.cube r.what) (λ r f. f.true_of) rs all;
      of_half = All-weaker IsFair (λ r. IsCubeOf F plan H r.cube) (λ r f. f.of_half) rs all;
      offers = All-nil (IsFoundedOn rs);
      handed_on = λ e. inr (settled e);
      offered = λ e. All-weaker IsFair (λ r. IsModel r.what → Contains [] (offer (place_of r.cube))) (λ r f m. absurd (f.no_model m)) rs all;
      looks = refl;
      balance = λ e. refl;
      no_halt = Contains-none halt;
    }

    pub carried-short : (ok : Bool) (rs : List Solved) → ok ≡ false → All IsFair rs → IsHandOn F plan ok H (only_calls []) rs
    carried-short ok rs o all = nothing-called ok rs all (λ e. absurd (cc))

    pub carried-whole : (rs : List Solved) → IsDone F (by_plan F plan) H rs → IsHandOn F plan true H (only_calls []) rs
    carried-whole rs d = nothing-called true rs (done-fair rs d) (λ e. done-settled H rs rs d (λ r c. c))

    -- or at a model: then what isn't settled lies right of it
    pub carried-model : {T : Type 0} (ss : List (Split T)) (rs : List Solved) (M : Assignment) → IsReached F (by_plan F plan) H ss rs → Runs F plan (H ++ path ss) (model M)
        → IsHandOn F plan true H (only_calls (offer (place_of (H ++ path ss)) ∷ [])) (rs ++ record { cube = H ++ path ss; what = done (model M) } ∷ [])
    carried-model ss rs M h runs =
        record {
          none_got = refl;
          puts = All-nil (λ R. R ≡ H);
          puts_once = zero-le;
          true_of = All-push (λ r. IsTrueOf F plan r.cube r.what) rs last (All-weaker IsFair (λ r. IsTrueOf F plan r.cube r.what) (λ r f. f.true_of) rs all) runs;
          of_half = All-push (λ r. IsCubeOf F plan H r.cube) rs last (All-weaker IsFair (λ r. IsCubeOf F plan H r.cube) (λ r f. f.of_half) rs all) (record { path = path ss; reached = refl; splits = IsReached-leads F plan H ss rs h });
          offers = All-one (IsFoundedOn (rs ++ last ∷ [])) (offer (place_of (H ++ path ss))) (Any-from (λ r. IsModel r.what × (place_of r.cube ≡ place_of (H ++ path ss))) (rs ++ last ∷ []) last there (tt, refl));
          handed_on = λ t. inr (above-settled ss rs (rs ++ last ∷ []) last [] h (Contains-append_left rs (last ∷ [])) there tt (sym (append-nil (H ++ path ss))) here);
          offered = λ t. All-push (λ r. IsModel r.what → Contains (offer (place_of (H ++ path ss)) ∷ []) (offer (place_of r.cube))) rs last
              (All-weaker IsFair (λ r. IsModel r.what → Contains (offer (place_of (H ++ path ss)) ∷ []) (offer (place_of r.cube))) (λ r f m. absurd (f.no_model m)) rs all)
              (λ m. Contains-here (offer (place_of (H ++ path ss))) []);
          looks = refl;
          balance = λ t. refl;
          no_halt = not-halt (offer (place_of (H ++ path ss)) ∷ []) (All-one (λ d. d ≢ halt) (offer (place_of (H ++ path ss))) (λ q. cc));
        }
      where
        last : Solved
        last = record { cube = H ++ path ss; what = done (model M) }

        all : All IsFair rs
        all = reached-fair ss rs h

        there : Contains (rs ++ last ∷ []) last
        there = Contains-append_right rs (last ∷ []) last (Contains-here last [])

        -- a cube with a model is the only one of its tree
        here : (R : List Literal) → IsCubeOf F plan (H ++ path ss) R → IsSettled (rs ++ last ∷ []) R
        here R c = on c.path c.reached c.splits
          where
            on : (p : List Literal) → R ≡ H ++ path ss ++ p → LeadsOn F plan (H ++ path ss) p → IsSettled (rs ++ last ∷ []) R
            on [] e s = subst (IsSettled (rs ++ last ∷ [])) (sym (e ∙ append-nil (H ++ path ss))) (has-result (rs ++ last ∷ []) (H ++ path ss) (model M) there)
            on (l ∷ ls) e s = absurd (let o = Runs-unique F plan (H ++ path ss) _ _ runs s.0 in cc)
