-- A round whose cube is exhausted: its halves are put, or carried on here.
use Rattle.std.proofs.Common.{◌≡◌, ◌≢◌, ℕ, ◌+◌, ◌≤◌, Bool, true, false, cond, List, [], ◌∷◌, ◌++◌, length, length-append, Option, All, Any, Contains, count_by, refl, sym, ap, ap₂, ◌∙◌, subst, arith, inl, inr, ◌⊎◌, append-nil}
use Rattle.std.proofs.lemmas.List.Elements.{All-append, All-cons, All-nil, All-weaker, All-head, Contains-append_left, Contains-append_right, Contains-append_cases}
use Rattle.std.proofs.lemmas.List.Sums.{sum_by-append, sum_by-cons}
use Rattle.std.proofs.lemmas.List.{same_from_push}
use Rattle.theory.specs.Literals.{Literal, positive, negative}
use Rattle.theory.specs.Truth.{Formula}
use Rattle.theory.specs.Plans.{Plan}
use Rattle.theory.specs.Search.{exhausted}
use Rattle.theory.specs.Runs.{Runs}
use Rattle.theory.specs.Trees.{IsCubeOf, false_half, true_half}
use Rattle.theory.specs.Places.{place_of}
use Rattle.theory.specs.Results.{done, Solved, IsTrueOf, IsModel}
use Rattle.theory.specs.Ledger.{Call, offer, look, more, less, halt, Ledger, empty, both, joined, putting, calling, same_cube, times, is_more, is_less, is_look}
use Rattle.theory.specs.Work.{IsHalfOfGot, IsFoundedOn, IsTruthful, IsNotBelow, IsPassedOver, IsHandedOn, IsDealtWith, IsThorough}
use Rattle.theory.specs.Round.{IsHandOn, with_got, IsRound}
use Rattle.theory.proofs.literals.LiteralLemmas.{true_or_false}
use Rattle.theory.proofs.literals.Membership.{Contains-here, Contains-there, Contains-cases, Contains-none, Any-from}
use Rattle.theory.proofs.trees.CubePlaces.{same_cube-eq, same_cube-refl, IsCubeOf-trans, IsCubeOf-itself, IsCubeOf-half}
use Rattle.theory.proofs.hands.Joining.{IsFoundedOn-grows, IsSettled-grows}
use Rattle.theory.proofs.hands.Rounds.{same-truthful, same-thorough}
use Rattle.theory.proofs.hands.RoundEnds.{All-one, not-halt}
use Rattle.theory.proofs.trees.WholeLists.{sign_positive, sign_negative}

-- a cube that is put at most once
times-half : (C H : List Literal) (put : List (List Literal)) → All (λ R. R ≡ H) put → length put ≤ 1 → times C put ≤ cond {A = ℕ} (same_cube C H) 1 0
times-half C H [] a l = omega arith
times-half C H (R ∷ []) a l =
    let e : R ≡ H = All-head (λ S. S ≡ H) R [] a in
    let c = sum_by-cons (λ S. cond {A = ℕ} (same_cube C S) 1 0) R [] in
    let f : cond {A = ℕ} (same_cube C R) 1 0 ≡ cond {A = ℕ} (same_cube C H) 1 0 = ap (λ S. cond {A = ℕ} (same_cube C S) 1 0) e in
    omega arith
times-half C H (R ∷ S ∷ put) a l = absurd (omega arith)

-- the two halves aren't one
halves-apart : (C Q : List Literal) (x : ℕ) → same_cube C (false_half Q x) ≡ true → same_cube C (true_half Q x) ≡ true → ⊥
halves-apart C Q x f t = let e = (same_from_push Q Q (negative x) (positive x) (sym (same_cube-eq C (false_half Q x) f) ∙ same_cube-eq C (true_half Q x) t)).1 in let b : false ≡ true = ap (λ (l : Literal). l.positive) e in cc

abbrev split_result : List Literal → ℕ → Solved
split_result Q x = record { cube = Q; what = done (exhausted x) }

-- the ledger of such a round, with its cube
abbrev halves_ledger : List Literal → Option ℕ → Ledger → Ledger → List Call → Ledger
halves_ledger Q seen p q tail = record { put = p.put ++ q.put; got = (Q ∷ []) ∷ []; calls = (look seen ∷ p.calls) ++ q.calls ++ tail }

module _ (F : Formula) (plan : Plan) (Q : List Literal) (x : ℕ) (seen : Option ℕ) (runs : Runs F plan Q (exhausted x)) (a b : Bool) (p q : Ledger) (s t : List Solved)
    (left : IsHandOn F plan a (false_half Q x) p s) (right : IsHandOn F plan b (true_half Q x) q t) where
  half-of_tree : (k : Literal) (u : List Solved) → x ≡ k.var → All (λ r. IsCubeOf F plan (Q ++ k ∷ []) r.cube) u → All (λ r. Any (λ R. IsCubeOf F plan R r.cube) (Q ∷ [])) u
  half-of_tree k u e h = All-weaker (λ r. IsCubeOf F plan (Q ++ k ∷ []) r.cube) (λ r. Any (λ R. IsCubeOf F plan R r.cube) (Q ∷ []))
      (λ r c. Any-from (λ R. IsCubeOf F plan R r.cube) (Q ∷ []) Q (Contains-here Q [])
      (IsCubeOf-trans F plan Q (Q ++ k ∷ []) r.cube (IsCubeOf-half F plan Q k (subst (λ v. Runs F plan Q (exhausted v)) e runs)) c)) u h

  half-of_got : (tail : List Call) (k : Literal) (put : List (List Literal)) → x ≡ k.var → All (λ R. R ≡ Q ++ k ∷ []) put → All (IsHalfOfGot F plan (halves_ledger Q seen p q tail)) put
  half-of_got tail k put e h = All-weaker (λ R. R ≡ Q ++ k ∷ []) (IsHalfOfGot F plan (halves_ledger Q seen p q tail))
      (λ R f. record { parent = Q; literal = k; is_half = f; is_got = Contains-here Q []; is_exhausted = subst (λ v. Runs F plan Q (exhausted v)) e runs }) put h

  halves-once : (R : List Literal) (k : Literal) → times (R ++ k ∷ []) (p.put ++ q.put) ≤ times R (Q ∷ [])
  halves-once R k = go (same_cube (R ++ k ∷ []) (false_half Q x)) refl (same_cube (R ++ k ∷ []) (true_half Q x)) refl
    where
      both-put : times (R ++ k ∷ []) (p.put ++ q.put) ≡ times (R ++ k ∷ []) p.put + times (R ++ k ∷ []) q.put
      both-put = sum_by-append (λ S. cond {A = ℕ} (same_cube (R ++ k ∷ []) S) 1 0) p.put q.put

      in-left : times (R ++ k ∷ []) p.put ≤ cond {A = ℕ} (same_cube (R ++ k ∷ []) (false_half Q x)) 1 0
      in-left = times-half (R ++ k ∷ []) (false_half Q x) p.put left.puts left.puts_once

      in-right : times (R ++ k ∷ []) q.put ≤ cond {A = ℕ} (same_cube (R ++ k ∷ []) (true_half Q x)) 1 0
      in-right = times-half (R ++ k ∷ []) (true_half Q x) q.put right.puts right.puts_once

      parent : (j : Literal) → same_cube (R ++ k ∷ []) (Q ++ j ∷ []) ≡ true → times R (Q ∷ []) ≡ 1
      parent j e =
          let same : R ≡ Q = (same_from_push R Q k j (same_cube-eq (R ++ k ∷ []) (Q ++ j ∷ []) e)).0 in
          let c = sum_by-cons (λ S. cond {A = ℕ} (same_cube R S) 1 0) Q [] in
          let one : cond {A = ℕ} (same_cube R Q) 1 0 ≡ 1 = ap (λ (y : Bool). cond {A = ℕ} y 1 0) (ap (same_cube R) (sym same) ∙ same_cube-refl R) in
          omega arith

      weight : (c d : Bool) → c ≡ d → cond {A = ℕ} c 1 0 ≡ cond {A = ℕ} d 1 0
      weight c d e = ap (λ (y : Bool). cond {A = ℕ} y 1 0) e

      go : (c : Bool) → same_cube (R ++ k ∷ []) (false_half Q x) ≡ c → (d : Bool) → same_cube (R ++ k ∷ []) (true_half Q x) ≡ d → times (R ++ k ∷ []) (p.put ++ q.put) ≤ times R (Q ∷ [])
      go true e true f = absurd (halves-apart (R ++ k ∷ []) Q x e f)
      go true e false f = let i = both-put in let l = in-left in let m = in-right in let n = parent (negative x) e in let u = weight _ _ e in let v = weight _ _ f in omega arith
      go false e true f = let i = both-put in let l = in-left in let m = in-right in let n = parent (positive x) f in let u = weight _ _ e in let v = weight _ _ f in omega arith
      go false e false f = let i = both-put in let l = in-left in let m = in-right in let u = weight _ _ e in let v = weight _ _ f in omega arith

  founded : (tail : List Call) → All (IsFoundedOn []) tail → All (IsFoundedOn (split_result Q x ∷ s ++ t)) ((look seen ∷ p.calls) ++ q.calls ++ tail)
  founded tail h = All-append (IsFoundedOn (split_result Q x ∷ s ++ t)) ((look seen ∷ p.calls) ++ q.calls) tail
      (All-append (IsFoundedOn (split_result Q x ∷ s ++ t)) (look seen ∷ p.calls) q.calls
      (All-cons (IsFoundedOn (split_result Q x ∷ s ++ t)) (look seen) p.calls tt
      (All-weaker (IsFoundedOn s) (IsFoundedOn (split_result Q x ∷ s ++ t)) (λ c. IsFoundedOn-grows s (split_result Q x ∷ s ++ t) c (λ r i. Contains-append_left (split_result Q x ∷ s) t r (Contains-there (split_result Q x) s r i))) p.calls left.offers))
      (All-weaker (IsFoundedOn t) (IsFoundedOn (split_result Q x ∷ s ++ t)) (λ c. IsFoundedOn-grows t (split_result Q x ∷ s ++ t) c (Contains-append_right (split_result Q x ∷ s) t)) q.calls right.offers))
      (All-weaker (IsFoundedOn []) (IsFoundedOn (split_result Q x ∷ s ++ t)) (λ c. IsFoundedOn-grows [] (split_result Q x ∷ s ++ t) c (λ r i. absurd (Contains-none r i))) tail h)

  halves-truthful : (tail : List Call) → All (IsFoundedOn []) tail → IsTruthful F plan (halves_ledger Q seen p q tail) (split_result Q x ∷ s ++ t)
  halves-truthful tail h = record {
    true_of = All-append (λ r. IsTrueOf F plan r.cube r.what) (split_result Q x ∷ s) t (All-cons (λ r. IsTrueOf F plan r.cube r.what) (split_result Q x) s runs left.true_of) right.true_of;
    of_got = All-append (λ r. Any (λ R. IsCubeOf F plan R r.cube) (Q ∷ [])) (split_result Q x ∷ s) t
        (All-cons (λ r. Any (λ R. IsCubeOf F plan R r.cube) (Q ∷ [])) (split_result Q x) s (Any-from (λ R. IsCubeOf F plan R Q) (Q ∷ []) Q (Contains-here Q []) (IsCubeOf-itself F plan Q)) (half-of_tree (negative x) s refl left.of_half))
        (half-of_tree (positive x) t refl right.of_half);
    halves = All-append (IsHalfOfGot F plan (halves_ledger Q seen p q tail)) p.put q.put (half-of_got tail (negative x) p.put refl left.puts) (half-of_got tail (positive x) q.put refl right.puts);
    once = halves-once;
    offers = founded tail h;
  }

-- what was handed on is so with all that was added besides
handed-grows : (F : Formula) (plan : Plan) (l m : Ledger) (s t : List Solved) (H : List Literal) → ((R : List Literal) → Contains l.put R → Contains m.put R) → ((r : Solved) → Contains s r → Contains t r)
    → IsHandedOn F plan l s H → IsHandedOn F plan m t H
handed-grows F plan l m s t H f g (inl h) = inl (f H h)
handed-grows F plan l m s t H f g (inr h) = inr (λ R c. IsSettled-grows s t R g (h R c))

pub halves-thorough : (F : Formula) (plan : Plan) (Q : List Literal) (x : ℕ) (seen : Option ℕ) (p q : Ledger) (s t : List Solved) → IsNotBelow seen (place_of Q)
    → IsHandOn F plan true (false_half Q x) p s → IsHandOn F plan true (true_half Q x) q t → IsThorough F plan (halves_ledger Q seen p q (less ∷ [])) (split_result Q x ∷ s ++ t)
halves-thorough F plan Q x seen p q s t below left right = record {
  each_got = All-one (λ R. IsPassedOver (halves_ledger Q seen p q (less ∷ [])) (split_result Q x ∷ s ++ t) R ⊎ IsDealtWith F plan (halves_ledger Q seen p q (less ∷ [])) (split_result Q x ∷ s ++ t) R) Q
      (inr (record {
        seen = seen;
        looked = Contains-here (look seen) (p.calls ++ q.calls ++ less ∷ []);
        not_below = below;
        outcome = exhausted x;
        result = Contains-here (split_result Q x) (s ++ t);
        halves = λ k e. half k (let v : x ≡ k.var = cc in v) (true_or_false k.positive);
      }));
  offered = All-cons (λ r. IsModel r.what → Contains ((look seen ∷ p.calls) ++ q.calls ++ less ∷ []) (offer (place_of r.cube))) (split_result Q x) (s ++ t) (λ m. absurd m)
      (All-append (λ r. IsModel r.what → Contains ((look seen ∷ p.calls) ++ q.calls ++ less ∷ []) (offer (place_of r.cube))) s t
      (All-weaker (λ r. IsModel r.what → Contains p.calls (offer (place_of r.cube))) (λ r. IsModel r.what → Contains ((look seen ∷ p.calls) ++ q.calls ++ less ∷ []) (offer (place_of r.cube)))
      (λ r f m. Contains-append_left ((look seen ∷ p.calls) ++ q.calls) (less ∷ []) (offer (place_of r.cube)) (Contains-append_left (look seen ∷ p.calls) q.calls (offer (place_of r.cube)) (Contains-there (look seen) p.calls (offer (place_of r.cube)) (f m)))) s (left.offered refl))
      (All-weaker (λ r. IsModel r.what → Contains q.calls (offer (place_of r.cube))) (λ r. IsModel r.what → Contains ((look seen ∷ p.calls) ++ q.calls ++ less ∷ []) (offer (place_of r.cube)))
      (λ r f m. Contains-append_left ((look seen ∷ p.calls) ++ q.calls) (less ∷ []) (offer (place_of r.cube)) (Contains-append_right (look seen ∷ p.calls) q.calls (offer (place_of r.cube)) (f m))) t (right.offered refl)));
  looks = let c = counts is_look in let d = left.looks in let e = right.looks in let one : cond {A = ℕ} (is_look (look seen)) 1 0 ≡ 1 = refl in let none : count_by is_look (less ∷ []) ≡ 0 = refl in omega arith;
  balance =
      let c = counts is_more in
      let d = counts is_less in
      let e = left.balance refl in
      let f = right.balance refl in
      let g = length-append p.put q.put in
      let m : cond {A = ℕ} (is_more (look seen)) 1 0 ≡ 0 = refl in
      let l : cond {A = ℕ} (is_less (look seen)) 1 0 ≡ 0 = refl in
      let i : count_by is_more (less ∷ []) ≡ 0 = refl in
      let j : count_by is_less (less ∷ []) ≡ 1 = refl in
      omega arith;
  no_halt = λ h. elim (Contains-append_cases ((look seen ∷ p.calls) ++ q.calls) (less ∷ []) halt h) [
    | inl i ↦ elim (Contains-append_cases (look seen ∷ p.calls) q.calls halt i) [ inl j ↦ first (Contains-cases (look seen) p.calls halt j) | inr j ↦ right.no_halt j ]
    | inr i ↦ not-halt (less ∷ []) (All-one (λ c. c ≢ halt) less (λ e. cc)) i
  ];
}
  where
    first : (look seen ≡ halt) ⊎ Contains p.calls halt → ⊥
    first (inl e) = cc
    first (inr j) = left.no_halt j

    counts : (f : Call → Bool) → count_by f ((look seen ∷ p.calls) ++ q.calls ++ less ∷ []) ≡ cond {A = ℕ} (f (look seen)) 1 0 + count_by f p.calls + count_by f q.calls + count_by f (less ∷ [])
    counts f =
        let c = sum_by-append (λ d. cond {A = ℕ} (f d) 1 0) ((look seen ∷ p.calls) ++ q.calls) (less ∷ []) in
        let d = sum_by-append (λ d. cond {A = ℕ} (f d) 1 0) (look seen ∷ p.calls) q.calls in
        let e = sum_by-cons (λ d. cond {A = ℕ} (f d) 1 0) (look seen) p.calls in
        omega arith

    half : (k : Literal) → x ≡ k.var → (k.positive ≡ true) ⊎ (k.positive ≡ false) → IsHandedOn F plan (halves_ledger Q seen p q (less ∷ [])) (split_result Q x ∷ s ++ t) (Q ++ k ∷ [])
    half k e (inl b) =
        subst (λ j. IsHandedOn F plan (halves_ledger Q seen p q (less ∷ [])) (split_result Q x ∷ s ++ t) (Q ++ j ∷ [])) (ap positive e ∙ sym (sign_positive k b))
        (handed-grows F plan q (halves_ledger Q seen p q (less ∷ [])) t (split_result Q x ∷ s ++ t) (true_half Q x) (Contains-append_right p.put q.put) (Contains-append_right (split_result Q x ∷ s) t) (right.handed_on refl))
    half k e (inr b) =
        subst (λ j. IsHandedOn F plan (halves_ledger Q seen p q (less ∷ [])) (split_result Q x ∷ s ++ t) (Q ++ j ∷ [])) (ap negative e ∙ sym (sign_negative k b))
        (handed-grows F plan p (halves_ledger Q seen p q (less ∷ [])) s (split_result Q x ∷ s ++ t) (false_half Q x) (Contains-append_left p.put q.put)
        (λ r i. Contains-append_left (split_result Q x ∷ s) t r (Contains-there (split_result Q x) s r i)) (left.handed_on refl))

-- the first piece of such a round, and what follows it
abbrev pub looked_then : Option ℕ → Ledger → Ledger
looked_then seen p = joined (calling (look seen)) p

-- Both halves were handed on.
pub IsRound-exhausted : (F : Formula) (plan : Plan) (Q : List Literal) (x : ℕ) (seen : Option ℕ) (p q : Ledger) (s t : List Solved) → Runs F plan Q (exhausted x) → IsNotBelow seen (place_of Q)
    → IsHandOn F plan true (false_half Q x) p s → IsHandOn F plan true (true_half Q x) q t
    → IsRound F plan true Q (joined (joined (looked_then seen p) q) (calling less)) (split_result Q x ∷ s ++ t)
IsRound-exhausted F plan Q x seen p q s t runs below left right = record {
  none_got = ap₂ (λ a b. both (both a b) []) left.none_got right.none_got;
  truthful = same-truthful F plan (halves_ledger Q seen p q (less ∷ [])) (with_got Q (joined (joined (looked_then seen p) q) (calling less))) (split_result Q x ∷ s ++ t)
      (sym (append-nil (p.put ++ q.put))) refl refl (halves-truthful F plan Q x seen runs true true p q s t left right (less ∷ []) (All-one (IsFoundedOn []) less tt));
  thorough = λ e. same-thorough F plan (halves_ledger Q seen p q (less ∷ [])) (with_got Q (joined (joined (looked_then seen p) q) (calling less))) (split_result Q x ∷ s ++ t)
      (sym (append-nil (p.put ++ q.put))) refl refl (halves-thorough F plan Q x seen p q s t below left right);
}

-- Memory ran short at the second half,
pub IsRound-right_short : (F : Formula) (plan : Plan) (Q : List Literal) (x : ℕ) (seen : Option ℕ) (a b : Bool) (p q : Ledger) (s t : List Solved) → Runs F plan Q (exhausted x)
    → IsHandOn F plan a (false_half Q x) p s → IsHandOn F plan b (true_half Q x) q t → IsRound F plan false Q (joined (looked_then seen p) q) (split_result Q x ∷ s ++ t)
IsRound-right_short F plan Q x seen a b p q s t runs left right = record {
  none_got = ap₂ both left.none_got right.none_got;
  truthful = same-truthful F plan (halves_ledger Q seen p q []) (with_got Q (joined (looked_then seen p) q)) (split_result Q x ∷ s ++ t)
      refl refl (append-nil ((look seen ∷ p.calls) ++ q.calls)) (halves-truthful F plan Q x seen runs a b p q s t left right [] (All-nil (IsFoundedOn [])));
  thorough = λ e. absurd (cc);
}

-- nothing is done with a half yet
pub IsHandOn-nothing : (F : Formula) (plan : Plan) (H : List Literal) → IsHandOn F plan false H empty []
IsHandOn-nothing F plan H = record {
  none_got = refl;
  puts = All-nil (λ R. R ≡ H);
  puts_once = omega arith;
  true_of = All-nil (λ r. IsTrueOf F plan r.cube r.what);
  of_half = All-nil (λ r. IsCubeOf F plan H r.cube);
  offers = All-nil (IsFoundedOn []);
  handed_on = λ e. absurd (cc);
  offered = λ e. absurd (cc);
  looks = refl;
  balance = λ e. absurd (cc);
  no_halt = Contains-none halt;
}

-- A half is put,
pub IsHandOn-put : (F : Formula) (plan : Plan) (H : List Literal) → IsHandOn F plan true H (joined (calling more) (putting H)) []
IsHandOn-put F plan H = record {
  none_got = refl;
  puts = All-one (λ R. R ≡ H) H refl;
  puts_once = omega arith;
  true_of = All-nil (λ r. IsTrueOf F plan r.cube r.what);
  of_half = All-nil (λ r. IsCubeOf F plan H r.cube);
  offers = All-one (IsFoundedOn []) more tt;
  handed_on = λ e. inl (Contains-here H []);
  offered = λ e. All-nil (λ r. IsModel r.what → Contains (more ∷ []) (offer (place_of r.cube)));
  looks = refl;
  balance = λ e. refl;
  no_halt = not-halt (more ∷ []) (All-one (λ c. c ≢ halt) more (λ e. cc));
}

-- or its put was refused, and it is carried on here.
pub IsHandOn-refused : (F : Formula) (plan : Plan) (b : Bool) (H : List Literal) (p : Ledger) (s : List Solved) → IsHandOn F plan b H p s → p.put ≡ []
    → IsHandOn F plan b H (joined (joined (calling more) (calling less)) p) s
IsHandOn-refused F plan b H p s h none = record {
  none_got = h.none_got;
  puts = h.puts;
  puts_once = h.puts_once;
  true_of = h.true_of;
  of_half = h.of_half;
  offers = All-append (IsFoundedOn s) (more ∷ less ∷ []) p.calls (All-cons (IsFoundedOn s) more (less ∷ []) tt (All-one (IsFoundedOn s) less tt)) h.offers;
  handed_on = λ e. handed-grows F plan p (joined (joined (calling more) (calling less)) p) s s H (λ R i. i) (λ r i. i) (h.handed_on e);
  offered = λ e. All-weaker (λ r. IsModel r.what → Contains p.calls (offer (place_of r.cube))) (λ r. IsModel r.what → Contains (more ∷ less ∷ [] ++ p.calls) (offer (place_of r.cube)))
      (λ r f m. Contains-append_right (more ∷ less ∷ []) p.calls (offer (place_of r.cube)) (f m)) s (h.offered e);
  looks = let c = counts is_look in let d = h.looks in let e : count_by is_look (more ∷ less ∷ []) ≡ 0 = refl in omega arith;
  balance = λ e. let c = counts is_more in let d = counts is_less in let f = h.balance e in let i : count_by is_more (more ∷ less ∷ []) ≡ 1 = refl in let j : count_by is_less (more ∷ less ∷ []) ≡ 1 = refl in omega arith;
  no_halt = λ i. elim (Contains-append_cases (more ∷ less ∷ []) p.calls halt i) [
    | inl j ↦ not-halt (more ∷ less ∷ []) (All-cons (λ c. c ≢ halt) more (less ∷ []) (λ e. cc) (All-one (λ c. c ≢ halt) less (λ e. cc))) j
    | inr j ↦ h.no_halt j
  ];
}
  where
    counts : (f : Call → Bool) → count_by f (more ∷ less ∷ [] ++ p.calls) ≡ count_by f (more ∷ less ∷ []) + count_by f p.calls
    counts f = sum_by-append (λ d. cond {A = ℕ} (f d) 1 0) (more ∷ less ∷ []) p.calls
