-- Once the pool is closed and no hand ran short of memory, each cube of the tree is dealt with: the
-- results are whole.
use Rattle.std.proofs.Common.{◌≡◌, ℕ, suc, zero, ◌+◌, ◌<◌, ◌≤◌, Bool, true, false, cond, List, [], ◌∷◌, ◌++◌, length, length-append, Option, Some, None, sum_by, All, Any, Contains, refl, sym, ap, ◌∙◌, subst, arith, inl, inr, ◌⊎◌, append_assoc, append-nil, IsTrue, le_of_eq}
use Rattle.std.proofs.lemmas.List.Sums.{sum_by-cons}
use Rattle.theory.specs.Literals.{Literal}
use Rattle.theory.specs.Truth.{Formula}
use Rattle.theory.specs.Plans.{Plan}
use Rattle.theory.specs.Search.{model, exhausted}
use Rattle.theory.specs.Runs.{Runs}
use Rattle.theory.specs.Trees.{LeadsOn, IsCubeOf}
use Rattle.theory.specs.Places.{place_of, lies_right}
use Rattle.theory.specs.Results.{done, Solved, IsTrueOf, IsDone, IsModel, IsSettled, IsWhole}
use Rattle.theory.specs.Ledger.{Call, offer, look, Ledger, all_got, same_cube, times}
use Rattle.theory.specs.Order.{first_words}
use Rattle.theory.specs.Work.{IsHalfOfGot, IsPassedOver, IsDealtWith, IsWork, IsFoundedOn}
use Rattle.theory.specs.Harvest.{Share, ledgers_of, results_of, got_by_all, put_by_all, IsClosed, IsHarvest}
use Rattle.theory.proofs.trees.SearchLemmas.{Runs-unique}
use Rattle.theory.proofs.literals.Membership.{Contains-here, Contains-there, Contains-cases, All-at, All-from, Any-from, count_by-some, count_by-there, Contains-map, Contains-flat_map, map-Contains, flat_map-Contains}
use Rattle.theory.proofs.hands.OrderSums.{sum_by-flat_map, sum_by-IsAllOnce}
use Rattle.theory.proofs.hands.OrderEnds.{calls_in, seen-offered, order-ledgers, ledgers-order}
use Rattle.theory.proofs.trees.CubePlaces.{same_cube-eq, same_cube-refl, IsCubeOf-trans, IsCubeOf-itself, IsCubeOf-half, lies_right-append, right-by-place}
use Rattle.theory.proofs.trees.WholeLists.{model-of}
use Rattle.theory.proofs.hands.Joining.{IsSettled-grows}
use Rattle.theory.proofs.hands.HarvestCounts.{sum_by-le, work-of, each-ledger, none_undone, none_left, some-ledger}

module _ (F : Formula) (plan : Plan) (shares : List Share) (left : List (List Literal)) (least : Option ℕ) (undone : ℕ) (closed : IsClosed F plan shares left least undone) where
  work : (s : Share) → Contains shares s → IsWork F plan false s.ledger s.results
  work = work-of F plan shares left least undone closed

  each : (P : Ledger → Type 0) → ((s : Share) → Contains shares s → P s.ledger) → (l : Ledger) → Contains (ledgers_of shares) l → P l
  each = each-ledger F plan shares left least undone closed

  as_often : (Q : List Literal) → times Q (got_by_all (ledgers_of shares)) ≡ times Q ([] ∷ put_by_all (ledgers_of shares))
  as_often Q =
      let weight : List Literal → ℕ = λ R. cond (same_cube Q R) 1 0 in
      let all = sum_by-IsAllOnce weight [] (ledgers_of shares) left (some-ledger F plan shares left least undone closed) closed.once in
      let none : sum_by weight left ≡ 0 = ap (sum_by weight) (none_left F plan shares left least undone closed) in
      let put = sum_by-cons weight [] (put_by_all (ledgers_of shares)) in
      omega arith

  -- a half is put at most once for each time that its cube was got, by all hands together
  once : (Q : List Literal) (k : Literal) → times (Q ++ k ∷ []) (put_by_all (ledgers_of shares)) ≤ times Q (got_by_all (ledgers_of shares))
  once Q k =
      let put = sum_by-flat_map (λ R. cond {A = ℕ} (same_cube (Q ++ k ∷ []) R) 1 0) (λ (l : Ledger). l.put) (ledgers_of shares) in
      let got = sum_by-flat_map (λ R. cond {A = ℕ} (same_cube Q R) 1 0) all_got (ledgers_of shares) in
      let le = sum_by-le (λ (l : Ledger). times (Q ++ k ∷ []) l.put) (λ l. times Q (all_got l)) (ledgers_of shares)
      (each (λ l. times (Q ++ k ∷ []) l.put ≤ times Q (all_got l)) (λ s h. (work s h).truthful.once Q k)) in
      omega arith

  got-times : (Q : List Literal) → Contains (got_by_all (ledgers_of shares)) Q → 1 ≤ times Q (got_by_all (ledgers_of shares))
  got-times Q h = count_by-there (same_cube Q) (got_by_all (ledgers_of shares)) Q h (same_cube-refl Q)

  times-got : (Q : List Literal) (cubes : List (List Literal)) → 1 ≤ times Q cubes → Contains cubes Q
  times-got Q cubes h = let found = count_by-some (same_cube Q) cubes h in subst (λ R. Contains cubes R) (sym (same_cube-eq Q found.0 found.2)) found.1

  -- a cube that was put was got, and is a half of one that was got
  put-got : (Q : List Literal) → Contains (put_by_all (ledgers_of shares)) Q → Contains (got_by_all (ledgers_of shares)) Q
  put-got Q h =
      let put = count_by-there (same_cube Q) ([] ∷ put_by_all (ledgers_of shares)) Q (Contains-there [] (put_by_all (ledgers_of shares)) Q h) (same_cube-refl Q) in
      let same = as_often Q in
      times-got Q (got_by_all (ledgers_of shares)) (omega arith)

  root-got : Contains (got_by_all (ledgers_of shares)) []
  root-got =
      let put = count_by-there (same_cube []) ([] ∷ put_by_all (ledgers_of shares)) [] (Contains-here [] (put_by_all (ledgers_of shares))) (same_cube-refl []) in
      let same = as_often [] in
      times-got [] (got_by_all (ledgers_of shares)) (omega arith)

  -- whose half it is, of those that were got
  record HasParent (Q : List Literal) : Type 0 where
    parent : List Literal
    literal : Literal
    is_half : Q ≡ parent ++ literal ∷ []
    is_got : Contains (got_by_all (ledgers_of shares)) parent
    is_exhausted : Runs F plan parent (exhausted literal.var)

  put-parent : (Q : List Literal) → Contains (put_by_all (ledgers_of shares)) Q → HasParent Q
  put-parent Q h =
      let found = flat_map-Contains (λ (l : Ledger). l.put) (ledgers_of shares) Q h in
      let half = each (λ l. All (IsHalfOfGot F plan l) l.put) (λ s i. (work s i).truthful.halves) found.0 found.1 in
      let p = All-at (IsHalfOfGot F plan found.0) found.0.put Q half found.2 in
      record {
        parent = p.parent;
        literal = p.literal;
        is_half = p.is_half;
        is_got = Contains-flat_map all_got (ledgers_of shares) found.0 p.parent found.1 p.is_got;
        is_exhausted = p.is_exhausted;
      }

  shorter : (Q : List Literal) (h : HasParent Q) → length h.parent + 1 ≡ length Q
  shorter Q h = let a = ap length h.is_half in let b = length-append h.parent (h.literal ∷ []) in omega arith

  -- where a cube that was got comes from
  origin : (Q : List Literal) → Contains (got_by_all (ledgers_of shares)) Q → ([] ≡ Q) ⊎ Contains (put_by_all (ledgers_of shares)) Q
  origin Q h =
      let got = got-times Q h in
      let same = as_often Q in
      Contains-cases [] (put_by_all (ledgers_of shares)) Q (times-got Q ([] ∷ put_by_all (ledgers_of shares)) (omega arith))

  -- no cube was got twice: by the length of the cube
  none-twice-from : (Q : List Literal) → ((R : List Literal) → length R + 1 ≤ length Q → times R (got_by_all (ledgers_of shares)) ≤ 1) → times Q (got_by_all (ledgers_of shares)) ≤ 1
  none-twice-from Q more = go (times Q (put_by_all (ledgers_of shares))) refl
    where
      at-most-one : (b : Bool) → cond {A = ℕ} b 1 0 ≤ 1
      at-most-one true = omega arith
      at-most-one false = omega arith

      nil-half : (P : List Literal) (k : Literal) → same_cube (P ++ k ∷ []) [] ≡ false
      nil-half [] k = refl
      nil-half (j ∷ P) k = refl

      counted : times Q (got_by_all (ledgers_of shares)) ≡ cond {A = ℕ} (same_cube Q []) 1 0 + times Q (put_by_all (ledgers_of shares))
      counted = as_often Q ∙ sum_by-cons (λ R. cond {A = ℕ} (same_cube Q R) 1 0) [] (put_by_all (ledgers_of shares))

      go : (t : ℕ) → times Q (put_by_all (ledgers_of shares)) ≡ t → times Q (got_by_all (ledgers_of shares)) ≤ 1
      go zero e = let all = counted in let one = at-most-one (same_cube Q []) in omega arith
      go (suc t) e =
          let h = put-parent Q (times-got Q (put_by_all (ledgers_of shares)) (omega arith)) in
          let up = more h.parent (le_of_eq (shorter Q h)) in
          let half : times Q (put_by_all (ledgers_of shares)) ≤ times h.parent (got_by_all (ledgers_of shares)) =
          subst (λ R. times R (put_by_all (ledgers_of shares)) ≤ times h.parent (got_by_all (ledgers_of shares))) (sym h.is_half) (once h.parent h.literal) in
          let all = counted in
          let nil : cond {A = ℕ} (same_cube Q []) 1 0 ≡ 0 = ap (λ (b : Bool). cond {A = ℕ} b 1 0) (ap (λ R. same_cube R []) h.is_half ∙ nil-half h.parent h.literal) in
          omega arith

  none-twice-to : (n : ℕ) (Q : List Literal) → length Q ≤ n → times Q (got_by_all (ledgers_of shares)) ≤ 1
  none-twice-to zero Q l = none-twice-from Q (λ R i. absurd (omega arith))
  none-twice-to (suc n) Q l = none-twice-from Q (λ R i. none-twice-to n R (omega arith))

  -- each cube that was got is of the tree
  got-of-tree-from : (Q : List Literal) → ((R : List Literal) → length R + 1 ≤ length Q → Contains (got_by_all (ledgers_of shares)) R → IsCubeOf F plan [] R)
      → Contains (got_by_all (ledgers_of shares)) Q → IsCubeOf F plan [] Q
  got-of-tree-from Q more h = elim (origin Q h) [ inl e ↦ subst (IsCubeOf F plan []) e (IsCubeOf-itself F plan []) | inr put ↦ below (put-parent Q put) ]
    where
      below : HasParent Q → IsCubeOf F plan [] Q
      below p = subst (IsCubeOf F plan []) (sym p.is_half)
          (IsCubeOf-trans F plan [] p.parent (p.parent ++ p.literal ∷ []) (more p.parent (le_of_eq (shorter Q p)) p.is_got) (IsCubeOf-half F plan p.parent p.literal p.is_exhausted))

  got-of-tree-to : (n : ℕ) (Q : List Literal) → length Q ≤ n → Contains (got_by_all (ledgers_of shares)) Q → IsCubeOf F plan [] Q
  got-of-tree-to zero Q l = got-of-tree-from Q (λ R i. absurd (omega arith))
  got-of-tree-to (suc n) Q l = got-of-tree-from Q (λ R i. got-of-tree-to n R (omega arith))

  got-of-tree : (Q : List Literal) → Contains (got_by_all (ledgers_of shares)) Q → IsCubeOf F plan [] Q
  got-of-tree Q = got-of-tree-to (length Q) Q (omega arith)

  -- of a share
  got-here : (s : Share) (Q : List Literal) → Contains shares s → Contains (all_got s.ledger) Q → Contains (got_by_all (ledgers_of shares)) Q
  got-here s Q i h = Contains-flat_map all_got (ledgers_of shares) s.ledger Q (Contains-map (λ (t : Share). t.ledger) shares s i) h

  results-here : (s : Share) (r : Solved) → Contains shares s → Contains s.results r → Contains (results_of shares) r
  results-here s r i h = Contains-flat_map (λ (t : Share). t.results) shares s r i h

  result-of-tree : (s : Share) (r : Solved) → Contains shares s → Contains s.results r → IsCubeOf F plan [] r.cube
  result-of-tree s r i h =
      let a = All-at (λ r. Any (λ R. IsCubeOf F plan R r.cube) (all_got s.ledger)) s.results r (work s i).truthful.of_got h in
      IsCubeOf-trans F plan [] a.1 r.cube (got-of-tree a.1 (got-here s a.1 i (a.0, a.2, a.3))) a.4

  -- the share of a ledger
  record HasShare (P : Share → Type 0) : Type 0 where
    share : Share
    there : Contains shares share
    holds : P share

  share-of : (P : Ledger → Type 0) (l : Ledger) → Contains (ledgers_of shares) l → P l → HasShare (λ s. P s.ledger)
  share-of P l h p = let m = map-Contains (λ (t : Share). t.ledger) shares l h in record { share = m.0; there = m.1; holds = subst P (sym m.2) p }

  -- where a place was seen, there is a model's result of that place
  record IsModelAt (place : ℕ) : Type 0 where
    result : Solved
    there : Contains (results_of shares) result
    is_model : IsModel result.what
    is_place : place_of result.cube ≡ place
    of_tree : IsCubeOf F plan [] result.cube
    true_of : IsTrueOf F plan result.cube result.what

  seen-model : (s : Share) (place : ℕ) → Contains shares s → Contains s.ledger.calls (look (Some place)) → IsModelAt place
  seen-model s place i h = elim (seen-offered first_words order place closed.in_order.replays in_calls) [ inl e ↦ absurd (none e) | inr offered ↦ found offered ]
    where
      order : List (ℕ × Call)
      order = closed.in_order.order

      in_calls : Contains (calls_in order) (look (Some place))
      in_calls = let o = ledgers-order (λ l. l.calls) (ledgers_of shares) order (look (Some place)) closed.in_order.of_calls s.ledger (Contains-map (λ (t : Share). t.ledger) shares s i) h in o

      none : ◌≡◌ {A = Option ℕ} None (Some place) → ⊥
      none e = cc

      found : Contains (calls_in order) (offer place) → IsModelAt place
      found c =
          let at = order-ledgers (λ l. l.calls) (ledgers_of shares) order (offer place) closed.in_order.of_calls c in
          let t = share-of (λ l. Contains l.calls (offer place)) at.0 at.1 at.2 in
          let a : Any (λ r. IsModel r.what × (place_of r.cube ≡ place)) t.share.results =
          All-at (IsFoundedOn t.share.results) t.share.ledger.calls (offer place) (work t.share t.there).truthful.offers t.holds in
          let in_results : Contains t.share.results a.1 = (a.0, a.2, a.3) in
          record {
            result = a.1;
            there = results-here t.share a.1 t.there in_results;
            is_model = a.4.0;
            is_place = a.4.1;
            of_tree = result-of-tree t.share a.1 t.there in_results;
            true_of = All-at (λ r. IsTrueOf F plan r.cube r.what) t.share.results a.1 (work t.share t.there).truthful.true_of in_results;
          }

  -- what lies below a cube that was passed over is right of a model
  passed-settled : (s : Share) (P path : List Literal) → Contains shares s → IsCubeOf F plan [] P → IsPassedOver s.ledger s.results P → IsSettled (results_of shares) (P ++ path)
  passed-settled s P path i tree p = right (seen-model s p.place i p.seen)
    where
      right : IsModelAt p.place → IsSettled (results_of shares) (P ++ path)
      right m =
          let found = model-of F plan m.result.cube m.result.what m.true_of m.is_model in
          let below : place_of m.result.cube < place_of P = (let e = m.is_place in let l = p.below in omega arith) in
          let lies : lies_right tree.path m.of_tree.path ≡ true =
          right-by-place F plan 32 [] tree.path m.of_tree.path found.0 tree.splits m.of_tree.splits (subst (λ Q. Runs F plan Q (model found.0)) m.of_tree.reached found.1)
          (subst (λ Q. place_of Q < place_of tree.path) m.of_tree.reached (subst (λ Q. place_of m.result.cube < place_of Q) tree.reached below)) in
          let here : lies_right P m.result.cube ≡ true = subst (λ Q. lies_right Q m.result.cube ≡ true) (sym tree.reached) (subst (λ Q. lies_right tree.path Q ≡ true) (sym m.of_tree.reached) lies) in
          inr (Any-from (λ r. IsTrue (lies_right (P ++ path) r.cube) × IsModel r.what) (results_of shares) m.result m.there (lies_right-append P path m.result.cube here, m.is_model))

  got-share : (P : List Literal) → Contains (got_by_all (ledgers_of shares)) P → HasShare (λ s. Contains (all_got s.ledger) P)
  got-share P h = let f = flat_map-Contains all_got (ledgers_of shares) P h in share-of (λ l. Contains (all_got l) P) f.0 f.1 f.2

  each-got : (s : Share) (P : List Literal) → Contains shares s → Contains (all_got s.ledger) P → IsPassedOver s.ledger s.results P ⊎ IsDealtWith F plan s.ledger s.results P
  each-got s P i h = All-at (λ Q. IsPassedOver s.ledger s.results Q ⊎ IsDealtWith F plan s.ledger s.results Q) (all_got s.ledger) P ((work s i).thorough refl).each_got h

  dealt-settled : (s : Share) (P : List Literal) → Contains shares s → IsDealtWith F plan s.ledger s.results P → IsSettled (results_of shares) P
  dealt-settled s P i d =
      inl (Any-from (λ r. (r.cube ≡ P) × IsDone r.what) (results_of shares) (record { cube = P; what = done d.outcome }) (results-here s (record { cube = P; what = done d.outcome }) i d.result) (refl, tt))

  dealt-half : (s : Share) (P : List Literal) (k : Literal) (ls : List Literal) → Contains shares s → IsDealtWith F plan s.ledger s.results P → LeadsOn F plan P (k ∷ ls)
      → (Contains (got_by_all (ledgers_of shares)) (P ++ k ∷ []) → IsSettled (results_of shares) (P ++ k ∷ [] ++ ls)) → IsSettled (results_of shares) (P ++ k ∷ [] ++ ls)
  dealt-half s P k ls i d lead more = elim (d.halves k one) [
    | inl put ↦ more (put-got (P ++ k ∷ []) (Contains-flat_map (λ (l : Ledger). l.put) (ledgers_of shares) s.ledger (P ++ k ∷ []) (Contains-map (λ (t : Share). t.ledger) shares s i) put))
    | inr all ↦ IsSettled-grows s.results (results_of shares) (P ++ k ∷ [] ++ ls) (λ r. results-here s r i) (all (P ++ k ∷ [] ++ ls) (record { path = ls; reached = refl; splits = lead.1 }))
  ]
    where
      one : d.outcome ≡ exhausted k.var
      one = Runs-unique F plan P d.outcome (exhausted k.var) (All-at (λ r. IsTrueOf F plan r.cube r.what) s.results (record { cube = P; what = done d.outcome }) (work s i).truthful.true_of d.result) lead.0

  -- each cube below one that was got is settled
  settled-below : (path P : List Literal) → Contains (got_by_all (ledgers_of shares)) P → LeadsOn F plan P path → IsSettled (results_of shares) (P ++ path)
  settled-below [] P h lead = go (each-got t.share P t.there t.holds)
    where
      t : HasShare (λ s. Contains (all_got s.ledger) P)
      t = got-share P h

      go : IsPassedOver t.share.ledger t.share.results P ⊎ IsDealtWith F plan t.share.ledger t.share.results P → IsSettled (results_of shares) (P ++ [])
      go (inl p) = passed-settled t.share P [] t.there (got-of-tree P h) p
      go (inr d) = subst (IsSettled (results_of shares)) (sym (append-nil P)) (dealt-settled t.share P t.there d)
  settled-below (k ∷ ls) P h lead = go (each-got t.share P t.there t.holds) (settled-below ls (P ++ k ∷ []))
    where
      t : HasShare (λ s. Contains (all_got s.ledger) P)
      t = got-share P h

      go : IsPassedOver t.share.ledger t.share.results P ⊎ IsDealtWith F plan t.share.ledger t.share.results P
          → (Contains (got_by_all (ledgers_of shares)) (P ++ k ∷ []) → LeadsOn F plan (P ++ k ∷ []) ls → IsSettled (results_of shares) (P ++ k ∷ [] ++ ls)) → IsSettled (results_of shares) (P ++ k ∷ ls)
      go (inl p) more = passed-settled t.share P (k ∷ ls) t.there (got-of-tree P h) p
      go (inr d) more = subst (IsSettled (results_of shares)) (append_assoc P (k ∷ []) ls) (dealt-half t.share P k ls t.there d lead (λ c. more c lead.1))

  whole : IsWhole F plan (results_of shares)
  whole = record {
    of_tree = All-from (λ r. IsCubeOf F plan [] r.cube) (results_of shares) (λ r h. let f = flat_map-Contains (λ (t : Share). t.results) shares r h in result-of-tree f.0 r f.1 f.2);
    true_of = All-from (λ r. IsTrueOf F plan r.cube r.what) (results_of shares)
        (λ r h. let f = flat_map-Contains (λ (t : Share). t.results) shares r h in All-at (λ r. IsTrueOf F plan r.cube r.what) f.0.results r (work f.0 f.1).truthful.true_of f.2);
    settles = λ Q c. subst (IsSettled (results_of shares)) (sym c.reached) (settled-below c.path [] root-got c.splits);
  }

-- All is done.
pub IsClosed-IsHarvest : (F : Formula) (plan : Plan) (shares : List Share) (left : List (List Literal)) (least : Option ℕ) (undone : ℕ) → IsClosed F plan shares left least undone
    → IsHarvest F plan shares left undone
IsClosed-IsHarvest F plan shares left least undone closed = record {
  none_left = none_left F plan shares left least undone closed;
  none_undone = none_undone F plan shares left least undone closed;
  as_often = as_often F plan shares left least undone closed;
  none_twice = λ Q. none-twice-to F plan shares left least undone closed (length Q) Q (omega arith);
  whole = whole F plan shares left least undone closed;
}
