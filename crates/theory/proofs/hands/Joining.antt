-- Ledgers, one after the other: what is so of each is so of both together.
use Rattle.std.proofs.Common.{◌≡◌, ℕ, zero, suc, ◌+◌, ◌<◌, cond, List, [], ◌∷◌, ◌++◌, length, Some, Any, Contains, sum_by, flat_map, slice_index_or, slice_set, length-append, refl, ap, ap₂, arith, inl, inr, ◌⊎◌, append_assoc, append-nil, IsTrue}
use Rattle.std.proofs.lemmas.List.Elements.{All-append, All-weaker, Contains-append_left, Contains-append_right, Contains-append_cases}
use Rattle.std.proofs.lemmas.List.Sums.{sum_by-append}
use Rattle.theory.specs.Literals.{Literal}
use Rattle.theory.specs.Truth.{Formula}
use Rattle.theory.specs.Plans.{Plan}
use Rattle.theory.specs.Trees.{IsCubeOf}
use Rattle.theory.specs.Places.{place_of, lies_right}
use Rattle.theory.specs.Results.{done, skipped, Solved, IsTrueOf, IsDone, IsModel, IsSettled}
use Rattle.theory.specs.Ledger.{Call, offer, look, more, less, still_open, halt, halted, Ledger, empty, all_got, both, joined, from_deque, same_cube, is_more, is_less, is_look}
use Rattle.theory.specs.Work.{IsHalfOfGot, IsFoundedOn, IsTruthful, IsPassedOver, IsHandedOn, IsDealtWith, IsThorough}
use Rattle.theory.proofs.hands.HarvestCounts.{sum_by-one}
use Rattle.theory.proofs.literals.Membership.{Contains-none, All-at, All-from, Any-more}

-- lists of what was got, deque by deque
pub both-nil : (a : List (List (List Literal))) → both a [] ≡ a
both-nil [] = refl
both-nil (x ∷ a) = refl

pub both-assoc : (a b c : List (List (List Literal))) → both (both a b) c ≡ both a (both b c)
both-assoc [] b c = refl
both-assoc (x ∷ a) [] c = refl
both-assoc (x ∷ a) (y ∷ b) [] = refl
both-assoc (x ∷ a) (y ∷ b) (z ∷ c) = ap₂ (λ p q. p ∷ q) (append_assoc x y z) (both-assoc a b c)

pub sum_by-both : (w : List Literal → ℕ) (a b : List (List (List Literal))) → sum_by w (flat_map (λ cubes. cubes) (both a b)) ≡ sum_by w (flat_map (λ cubes. cubes) a) + sum_by w (flat_map (λ cubes. cubes) b)
sum_by-both w [] b = omega arith
sum_by-both w (x ∷ a) [] = omega arith
sum_by-both w (x ∷ a) (y ∷ b) =
    let p = sum_by-append w (x ++ y) (flat_map (λ cubes. cubes) (both a b)) in
    let q = sum_by-append w x y in
    let r = sum_by-append w x (flat_map (λ cubes. cubes) a) in
    let s = sum_by-append w y (flat_map (λ cubes. cubes) b) in
    let t = sum_by-both w a b in
    omega arith

pub Contains-both_left : (a b : List (List (List Literal))) (Q : List Literal) → Contains (flat_map (λ cubes. cubes) a) Q → Contains (flat_map (λ cubes. cubes) (both a b)) Q
Contains-both_left [] b Q h = absurd (Contains-none Q h)
Contains-both_left (x ∷ a) [] Q h = h
Contains-both_left (x ∷ a) (y ∷ b) Q h = elim (Contains-append_cases x (flat_map (λ cubes. cubes) a) Q h) [
  | inl c ↦ Contains-append_left (x ++ y) (flat_map (λ cubes. cubes) (both a b)) Q (Contains-append_left x y Q c)
  | inr c ↦ Contains-append_right (x ++ y) (flat_map (λ cubes. cubes) (both a b)) Q (Contains-both_left a b Q c)
]

pub Contains-both_right : (a b : List (List (List Literal))) (Q : List Literal) → Contains (flat_map (λ cubes. cubes) b) Q → Contains (flat_map (λ cubes. cubes) (both a b)) Q
Contains-both_right [] b Q h = h
Contains-both_right (x ∷ a) [] Q h = absurd (Contains-none Q h)
Contains-both_right (x ∷ a) (y ∷ b) Q h = elim (Contains-append_cases y (flat_map (λ cubes. cubes) b) Q h) [
  | inl c ↦ Contains-append_left (x ++ y) (flat_map (λ cubes. cubes) (both a b)) Q (Contains-append_right x y Q c)
  | inr c ↦ Contains-append_right (x ++ y) (flat_map (λ cubes. cubes) (both a b)) Q (Contains-both_right a b Q c)
]

pub Contains-both_cases : (a b : List (List (List Literal))) (Q : List Literal) → Contains (flat_map (λ cubes. cubes) (both a b)) Q
    → Contains (flat_map (λ cubes. cubes) a) Q ⊎ Contains (flat_map (λ cubes. cubes) b) Q
Contains-both_cases [] b Q h = inr h
Contains-both_cases (x ∷ a) [] Q h = inl h
Contains-both_cases (x ∷ a) (y ∷ b) Q h = go (Contains-append_cases (x ++ y) (flat_map (λ cubes. cubes) (both a b)) Q h) (Contains-both_cases a b Q)
  where
    here : Contains x Q ⊎ Contains y Q → Contains (x ++ flat_map (λ cubes. cubes) a) Q ⊎ Contains (y ++ flat_map (λ cubes. cubes) b) Q
    here (inl c) = inl (Contains-append_left x (flat_map (λ cubes. cubes) a) Q c)
    here (inr c) = inr (Contains-append_left y (flat_map (λ cubes. cubes) b) Q c)

    later : Contains (flat_map (λ cubes. cubes) a) Q ⊎ Contains (flat_map (λ cubes. cubes) b) Q → Contains (x ++ flat_map (λ cubes. cubes) a) Q ⊎ Contains (y ++ flat_map (λ cubes. cubes) b) Q
    later (inl c) = inl (Contains-append_right x (flat_map (λ cubes. cubes) a) Q c)
    later (inr c) = inr (Contains-append_right y (flat_map (λ cubes. cubes) b) Q c)

    go : Contains (x ++ y) Q ⊎ Contains (flat_map (λ cubes. cubes) (both a b)) Q
        → (Contains (flat_map (λ cubes. cubes) (both a b)) Q → Contains (flat_map (λ cubes. cubes) a) Q ⊎ Contains (flat_map (λ cubes. cubes) b) Q)
        → Contains (x ++ flat_map (λ cubes. cubes) a) Q ⊎ Contains (y ++ flat_map (λ cubes. cubes) b) Q
    go (inl c) next = here (Contains-append_cases x y Q c)
    go (inr c) next = later (next c)

-- one cube more from the deque d, of those that there are lists for
pub both-from_deque : (got : List (List (List Literal))) (d : ℕ) (Q : List Literal) → d < length got → both got (from_deque d (Q ∷ [])) ≡ slice_set got d (slice_index_or got d [] ++ Q ∷ [])
both-from_deque [] d Q l = absurd (omega arith)
both-from_deque (cubes ∷ got) zero Q l = ap (λ g. (cubes ++ Q ∷ []) ∷ g) (both-nil got)
both-from_deque (cubes ∷ got) (suc d) Q l = ap₂ (λ c g. c ∷ g) (append-nil cubes) (both-from_deque got d Q (omega arith))

-- ledgers
pub joined-empty : (l : Ledger) → joined l empty ≡ l
joined-empty l = λ i. record { put = append-nil l.put i; got = both-nil l.got i; calls = append-nil l.calls i }

pub joined-assoc : (k l m : Ledger) → joined (joined k l) m ≡ joined k (joined l m)
joined-assoc k l m = λ i. record { put = append_assoc k.put l.put m.put i; got = both-assoc k.got l.got m.got i; calls = append_assoc k.calls l.calls m.calls i }

-- the one has all that the other has
pub record Grows (l m : Ledger) (s t : List Solved) : Type 0 where
  pub put : (Q : List Literal) → Contains l.put Q → Contains m.put Q
  pub got : (Q : List Literal) → Contains (all_got l) Q → Contains (all_got m) Q
  pub calls : (c : Call) → Contains l.calls c → Contains m.calls c
  pub results : (r : Solved) → Contains s r → Contains t r

pub Grows-left : (l m : Ledger) (s t : List Solved) → Grows l (joined l m) s (s ++ t)
Grows-left l m s t = record {
  put = Contains-append_left l.put m.put;
  got = Contains-both_left l.got m.got;
  calls = Contains-append_left l.calls m.calls;
  results = Contains-append_left s t;
}

pub Grows-right : (l m : Ledger) (s t : List Solved) → Grows m (joined l m) t (s ++ t)
Grows-right l m s t = record {
  put = Contains-append_right l.put m.put;
  got = Contains-both_right l.got m.got;
  calls = Contains-append_right l.calls m.calls;
  results = Contains-append_right s t;
}

pub IsSettled-grows : (s t : List Solved) (Q : List Literal) → ((r : Solved) → Contains s r → Contains t r) → IsSettled s Q → IsSettled t Q
IsSettled-grows s t Q f (inl a) = inl (Any-more (λ r. (r.cube ≡ Q) × IsDone r.what) s t f a)
IsSettled-grows s t Q f (inr a) = inr (Any-more (λ r. IsTrue (lies_right Q r.cube) × IsModel r.what) s t f a)

IsHalfOfGot-grows : (F : Formula) (plan : Plan) (l m : Ledger) (s t : List Solved) (Q : List Literal) → Grows l m s t → IsHalfOfGot F plan l Q → IsHalfOfGot F plan m Q
IsHalfOfGot-grows F plan l m s t Q g h = record { parent = h.parent; literal = h.literal; is_half = h.is_half; is_got = g.got h.parent h.is_got; is_exhausted = h.is_exhausted }

pub IsFoundedOn-grows : (s t : List Solved) (c : Call) → ((r : Solved) → Contains s r → Contains t r) → IsFoundedOn s c → IsFoundedOn t c
IsFoundedOn-grows s t (offer place) f h = Any-more (λ r. IsModel r.what × (place_of r.cube ≡ place)) s t f h
IsFoundedOn-grows s t (look seen) f h = tt
IsFoundedOn-grows s t more f h = tt
IsFoundedOn-grows s t less f h = tt
IsFoundedOn-grows s t (still_open n) f h = tt
IsFoundedOn-grows s t halt f h = tt
IsFoundedOn-grows s t (halted b) f h = tt

pub IsPassedOver-grows : (l m : Ledger) (s t : List Solved) (Q : List Literal) → Grows l m s t → IsPassedOver l s Q → IsPassedOver m t Q
IsPassedOver-grows l m s t Q g h = record { place = h.place; seen = g.calls (look (Some h.place)) h.seen; below = h.below; result = g.results (record { cube = Q; what = skipped h.place }) h.result }

pub IsHandedOn-grows : (F : Formula) (plan : Plan) (l m : Ledger) (s t : List Solved) (Q : List Literal) → Grows l m s t → IsHandedOn F plan l s Q → IsHandedOn F plan m t Q
IsHandedOn-grows F plan l m s t Q g (inl p) = inl (g.put Q p)
IsHandedOn-grows F plan l m s t Q g (inr f) = inr (λ R c. IsSettled-grows s t R g.results (f R c))

pub IsDealtWith-grows : (F : Formula) (plan : Plan) (l m : Ledger) (s t : List Solved) (Q : List Literal) → Grows l m s t → IsDealtWith F plan l s Q → IsDealtWith F plan m t Q
IsDealtWith-grows F plan l m s t Q g h = record {
  seen = h.seen;
  looked = g.calls (look h.seen) h.looked;
  not_below = h.not_below;
  outcome = h.outcome;
  result = g.results (record { cube = Q; what = done h.outcome }) h.result;
  halves = λ k e. IsHandedOn-grows F plan l m s t (Q ++ k ∷ []) g (h.halves k e);
}

-- What is so even if the hand ran short of memory.
pub IsTruthful-joined : (F : Formula) (plan : Plan) (l m : Ledger) (s t : List Solved) → IsTruthful F plan l s → IsTruthful F plan m t → IsTruthful F plan (joined l m) (s ++ t)
IsTruthful-joined F plan l m s t h i = record {
  true_of = All-append (λ r. IsTrueOf F plan r.cube r.what) s t h.true_of i.true_of;
  of_got = All-append (λ r. Any (λ R. IsCubeOf F plan R r.cube) (all_got (joined l m))) s t
      (All-weaker (λ r. Any (λ R. IsCubeOf F plan R r.cube) (all_got l)) (λ r. Any (λ R. IsCubeOf F plan R r.cube) (all_got (joined l m)))
      (λ r a. Any-more (λ R. IsCubeOf F plan R r.cube) (all_got l) (all_got (joined l m)) (Contains-both_left l.got m.got) a) s h.of_got)
      (All-weaker (λ r. Any (λ R. IsCubeOf F plan R r.cube) (all_got m)) (λ r. Any (λ R. IsCubeOf F plan R r.cube) (all_got (joined l m)))
      (λ r a. Any-more (λ R. IsCubeOf F plan R r.cube) (all_got m) (all_got (joined l m)) (Contains-both_right l.got m.got) a) t i.of_got);
  halves = All-append (IsHalfOfGot F plan (joined l m)) l.put m.put
      (All-weaker (IsHalfOfGot F plan l) (IsHalfOfGot F plan (joined l m)) (λ Q a. IsHalfOfGot-grows F plan l (joined l m) s (s ++ t) Q (Grows-left l m s t) a) l.put h.halves)
      (All-weaker (IsHalfOfGot F plan m) (IsHalfOfGot F plan (joined l m)) (λ Q a. IsHalfOfGot-grows F plan m (joined l m) t (s ++ t) Q (Grows-right l m s t) a) m.put i.halves);
  once = λ Q k.
      let p = sum_by-append (λ R. cond {A = ℕ} (same_cube (Q ++ k ∷ []) R) 1 0) l.put m.put in
      let q = sum_by-both (λ R. cond {A = ℕ} (same_cube Q R) 1 0) l.got m.got in
      let a = h.once Q k in
      let b = i.once Q k in
      omega arith;
  offers = All-append (IsFoundedOn (s ++ t)) l.calls m.calls
      (All-weaker (IsFoundedOn s) (IsFoundedOn (s ++ t)) (λ c a. IsFoundedOn-grows s (s ++ t) c (Contains-append_left s t) a) l.calls h.offers)
      (All-weaker (IsFoundedOn t) (IsFoundedOn (s ++ t)) (λ c a. IsFoundedOn-grows t (s ++ t) c (Contains-append_right s t) a) m.calls i.offers);
}

length-both : (a b : List (List (List Literal))) → length (flat_map (λ cubes. cubes) (both a b)) ≡ length (flat_map (λ cubes. cubes) a) + length (flat_map (λ cubes. cubes) b)
length-both a b =
    let one = sum_by-both (λ (Q : List Literal). 1) a b in
    let p = sum_by-one (flat_map (λ cubes. cubes) (both a b)) in
    let q = sum_by-one (flat_map (λ cubes. cubes) a) in
    let r = sum_by-one (flat_map (λ cubes. cubes) b) in
    omega arith

-- What is so unless it ran short.
pub IsThorough-joined : (F : Formula) (plan : Plan) (l m : Ledger) (s t : List Solved) → IsThorough F plan l s → IsThorough F plan m t → IsThorough F plan (joined l m) (s ++ t)
IsThorough-joined F plan l m s t h i = record {
  each_got = All-from (λ Q. IsPassedOver (joined l m) (s ++ t) Q ⊎ IsDealtWith F plan (joined l m) (s ++ t) Q) (all_got (joined l m)) each;
  offered = All-append (λ r. IsModel r.what → Contains (l.calls ++ m.calls) (offer (place_of r.cube))) s t
      (All-weaker (λ r. IsModel r.what → Contains l.calls (offer (place_of r.cube))) (λ r. IsModel r.what → Contains (l.calls ++ m.calls) (offer (place_of r.cube)))
      (λ r f d. Contains-append_left l.calls m.calls (offer (place_of r.cube)) (f d)) s h.offered)
      (All-weaker (λ r. IsModel r.what → Contains m.calls (offer (place_of r.cube))) (λ r. IsModel r.what → Contains (l.calls ++ m.calls) (offer (place_of r.cube)))
      (λ r f d. Contains-append_right l.calls m.calls (offer (place_of r.cube)) (f d)) t i.offered);
  looks =
      let p = sum_by-append (λ c. cond {A = ℕ} (is_look c) 1 0) l.calls m.calls in
      let q = length-both l.got m.got in
      let a = h.looks in
      let b = i.looks in
      omega arith;
  balance =
      let p = sum_by-append (λ c. cond {A = ℕ} (is_more c) 1 0) l.calls m.calls in
      let q = sum_by-append (λ c. cond {A = ℕ} (is_less c) 1 0) l.calls m.calls in
      let r = length-both l.got m.got in
      let u = length-append l.put m.put in
      let a = h.balance in
      let b = i.balance in
      omega arith;
  no_halt = λ c. elim (Contains-append_cases l.calls m.calls halt c) [ inl a ↦ h.no_halt a | inr a ↦ i.no_halt a ];
}
  where
    left : (Q : List Literal) → IsPassedOver l s Q ⊎ IsDealtWith F plan l s Q → IsPassedOver (joined l m) (s ++ t) Q ⊎ IsDealtWith F plan (joined l m) (s ++ t) Q
    left Q (inl a) = inl (IsPassedOver-grows l (joined l m) s (s ++ t) Q (Grows-left l m s t) a)
    left Q (inr a) = inr (IsDealtWith-grows F plan l (joined l m) s (s ++ t) Q (Grows-left l m s t) a)

    right : (Q : List Literal) → IsPassedOver m t Q ⊎ IsDealtWith F plan m t Q → IsPassedOver (joined l m) (s ++ t) Q ⊎ IsDealtWith F plan (joined l m) (s ++ t) Q
    right Q (inl a) = inl (IsPassedOver-grows m (joined l m) t (s ++ t) Q (Grows-right l m s t) a)
    right Q (inr a) = inr (IsDealtWith-grows F plan m (joined l m) t (s ++ t) Q (Grows-right l m s t) a)

    each : (Q : List Literal) → Contains (all_got (joined l m)) Q → IsPassedOver (joined l m) (s ++ t) Q ⊎ IsDealtWith F plan (joined l m) (s ++ t) Q
    each Q c = elim (Contains-both_cases l.got m.got Q c) [
      | inl a ↦ left Q (All-at (λ R. IsPassedOver l s R ⊎ IsDealtWith F plan l s R) (all_got l) Q h.each_got a)
      | inr a ↦ right Q (All-at (λ R. IsPassedOver m t R ⊎ IsDealtWith F plan m t R) (all_got m) Q i.each_got a)
    ]
