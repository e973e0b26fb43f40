-- Clauses in one list of literals.
use Rattle.std.proofs.Common.{◌≡◌, ℕ, zero, suc, ◌+◌, ◌-◌, ◌<◌, ◌≤◌, Bool, true, false, List, [], ◌∷◌, ◌++◌, length, length-append, take, drop, map, Some, slice_get, nat_eq, eqb-true, eq-eqb, nat_lt, ltb-true, ltb-false, ◌⊎◌, inl, inr, refl, sym, ap, subst, ◌∙◌, arith, Result, Ok, Err, OnErr, None, slice_set, get_or, not, OnOk}
use Rattle.std.specs.List.{slice_range}
use Rattle.std.proofs.lemmas.List.{length-map}
use Rattle.std.proofs.lemmas.Option.{get_or_from_slice_get, slice_get-get_or}
use Rattle.theory.specs.Literals.{Literal}
use Rattle.theory.specs.Checking.{clause_of, without_number}
use Rattle.theory.specs.Truth.{IsOver}
use Rattle.lrat.specs.Flat.{slot_in, slots_in, AreWithin, AreInOrder, AreFlat, AreUpTo}
use Rattle.lrat.specs.Slots.{Slot, there_before}
use Rattle.lrat.specs.Occurrences.{StayThere}
use Rattle.lrat.proofs.SlotLemmas.{IsOnly, NoneHas-from_places, clause_of-none, clause_of-slot, without-slot, there_before-push}
use Rattle.lrat.specs.declared.clauses.Head.{Head}

drop-front : (xs ys : List Literal) (n : ℕ) → n ≤ length xs → drop n (xs ++ ys) ≡ drop n xs ++ ys
drop-front xs ys zero h = refl
drop-front [] ys (suc n) h = absurd (omega arith)
drop-front (x ∷ xs) ys (suc n) h = drop-front xs ys n (omega arith)

take-front : (xs ys : List Literal) (n : ℕ) → n ≤ length xs → take n (xs ++ ys) ≡ take n xs
take-front xs ys zero h = refl
take-front [] ys (suc n) h = absurd (omega arith)
take-front (x ∷ xs) ys (suc n) h = ap (λ r. x ∷ r) (take-front xs ys n (omega arith))

length-dropped : (xs : List Literal) (n : ℕ) → length (drop n xs) ≡ length xs - n
length-dropped xs zero = omega arith
length-dropped [] (suc n) = omega arith
length-dropped (x ∷ xs) (suc n) = length-dropped xs n ∙ omega arith

-- literals behind the others change no clause
pub range-front : (xs ys : List Literal) (s e : ℕ) → s ≤ e → e ≤ length xs → slice_range (xs ++ ys) s e ≡ slice_range xs s e
range-front xs ys s e low high =
    ap (take (e - s)) (drop-front xs ys s (omega arith))
    ∙ take-front (drop s xs) ys (e - s) (let d = length-dropped xs s in omega arith)

-- and are a clause of their own
drop-all : (xs ys : List Literal) → drop (length xs) (xs ++ ys) ≡ ys
drop-all [] ys = refl
drop-all (x ∷ xs) ys = drop-all xs ys

take-all : (ys : List Literal) (n : ℕ) → n ≡ length ys → take n ys ≡ ys
take-all [] zero e = refl
take-all [] (suc n) e = absurd (omega arith)
take-all (y ∷ ys) zero e = absurd (omega arith)
take-all (y ∷ ys) (suc n) e = ap (λ r. y ∷ r) (take-all ys n (omega arith))

pub range-last : (xs ys : List Literal) (e : ℕ) → e ≡ length xs + length ys → slice_range (xs ++ ys) (length xs) e ≡ ys
range-last xs ys e h = ap (take (e - length xs)) (drop-all xs ys) ∙ take-all ys (e - length xs) (omega arith)

pub slots-front : (xs ys : List Literal) (heads : List Head) → AreWithin xs heads → slots_in (xs ++ ys) heads ≡ slots_in xs heads
slots-front xs ys [] h = refl
slots-front xs ys (k ∷ ks) h =
    let w = h zero k refl in
    ap (λ c. (record { id = k.id; is_there = k.is_there; clause = c }) ∷ slots_in (xs ++ ys) ks) (range-front xs ys k.start k.end w.0 w.1)
    ∙ ap (λ r. slot_in xs k ∷ r) (slots-front xs ys ks (λ i t g. h (suc i) t g))

-- halving
one_head : (h k : Head) → Some h ≡ Some k → h ≡ k
one_head h k e = cc

pub below-more : (first n m : ℕ) (heads : List Head) (k : Head) → AreInOrder first heads → first ≤ m → slice_get heads m ≡ Some k → k.id < n
    → (i : ℕ) (h : Head) → slice_get heads i ≡ Some h → first ≤ i → i < m + 1 → h.id < n
below-more first n m heads k o from at less i h g low high = go (nat_eq i m) refl
  where
    go : (b : Bool) → nat_eq i m ≡ b → h.id < n
    go true e =
        let same : h ≡ k = one_head h k (sym g ∙ (ap (slice_get heads) (eqb-true i m e) ∙ at)) in
        subst (λ (x : Head). x.id < n) (sym same) less
    go false e =
        let apart : i ≡ m → ⊥ = (λ f. let x : true ≡ false = sym (eq-eqb i m f) ∙ e in cc) in
        let r = o.rising i m h k g at low (omega arith) in omega arith

pub beyond-more : (first n m : ℕ) (heads : List Head) (k : Head) → AreInOrder first heads → first ≤ m → slice_get heads m ≡ Some k → n < k.id
    → (i : ℕ) (h : Head) → slice_get heads i ≡ Some h → m ≤ i → n < h.id
beyond-more first n m heads k o from at more i h g low = go (nat_eq i m) refl
  where
    go : (b : Bool) → nat_eq i m ≡ b → n < h.id
    go true e =
        let same : h ≡ k = one_head h k (sym g ∙ (ap (slice_get heads) (eqb-true i m e) ∙ at)) in
        subst (λ (x : Head). n < x.id) (sym same) more
    go false e =
        let apart : i ≡ m → ⊥ = (λ f. let x : true ≡ false = sym (eq-eqb i m f) ∙ e in cc) in
        let r = o.rising m i k h at g from (omega arith) in omega arith

-- each place has a head
pub head-at : (heads : List Head) (i : ℕ) → i < length heads → (h : Head) × (slice_get heads i ≡ Some h)
head-at [] i h = absurd (omega arith)
head-at (k ∷ ks) zero h = (k, refl)
head-at (k ∷ ks) (suc i) h = head-at ks i (omega arith)

pub formula-at : (first n : ℕ) (heads : List Head) → AreInOrder first heads → 0 < n → n ≤ first → (h : Head) × (slice_get heads (first - n) ≡ Some h) × (h.id ≡ n)
formula-at first n heads o pos small =
    let w = o.whole in
    let g = head-at heads (first - n) (omega arith) in
    let x = o.of_formula (first - n) g.0 g.1 (omega arith) in
    (g.0, g.1, omega arith)

-- a head behind the others
get-last : (ks : List Head) (k : Head) → slice_get (ks ++ k ∷ []) (length ks) ≡ Some k
get-last [] k = refl
get-last (h ∷ ks) k = get-last ks k

pub get-cases : (ks : List Head) (k h : Head) (i : ℕ) → slice_get (ks ++ k ∷ []) i ≡ Some h → ((k ≡ h) × (i ≡ length ks)) ⊎ ((slice_get ks i ≡ Some h) × (i < length ks))
get-cases [] k h zero g = inl (one_head k h g, refl)
get-cases [] k h (suc i) g = absurd (cc)
get-cases (r ∷ ks) k h zero g = inr (g, omega arith)
get-cases (r ∷ ks) k h (suc i) g = elim (get-cases ks k h i g) [ inl e ↦ inl (e.0, ap suc e.1) | inr e ↦ inr (e.0, (let l = e.1 in omega arith)) ]

pub AreWithin-push : (xs ys : List Literal) (ks : List Head) (k : Head) → AreWithin xs ks → k.start ≡ length xs → k.end ≡ length xs + length ys → AreWithin (xs ++ ys) (ks ++ k ∷ [])
AreWithin-push xs ys ks k w s e i h g = elim (get-cases ks k h i g) [
  | inl l ↦ (subst (λ (x : Head). (x.start ≤ x.end) × (x.end ≤ length (xs ++ ys))) l.0 (omega arith, rw length-append (omega arith)))
  | inr r ↦ (let b = w i h r.0 in (b.0, rw length-append (let c = b.1 in omega arith)))
]

map-last : (f : Head → Slot) (ks : List Head) (k : Head) → map f (ks ++ k ∷ []) ≡ map f ks ++ f k ∷ []
map-last f [] k = refl
map-last f (h ∷ ks) k = ap (λ r. f h ∷ r) (map-last f ks k)

pub slots-push : (xs ys : List Literal) (ks : List Head) (k : Head) → AreWithin xs ks → k.start ≡ length xs → k.end ≡ length xs + length ys
    → slots_in (xs ++ ys) (ks ++ k ∷ []) ≡ slots_in xs ks ++ (record { id = k.id; is_there = k.is_there; clause = ys }) ∷ []
slots-push xs ys ks k w s e =
    map-last (slot_in (xs ++ ys)) ks k
    ∙ ap (λ r. r ++ slot_in (xs ++ ys) k ∷ []) (slots-front xs ys ks w)
    ∙ ap (λ c. slots_in xs ks ++ (record { id = k.id; is_there = k.is_there; clause = c }) ∷ []) (ap (λ n. slice_range (xs ++ ys) n k.end) s ∙ range-last xs ys k.end e)

pub AreInOrder-push : (first : ℕ) (ks : List Head) (k : Head) → AreInOrder first ks → first < k.id → ((i : ℕ) (h : Head) → slice_get ks i ≡ Some h → h.id < k.id) → AreInOrder first (ks ++ k ∷ [])
AreInOrder-push first ks k o above top = record {
  whole = rw length-append (let w = o.whole in omega arith);
  of_formula = λ i h g less. elim (get-cases ks k h i g) [ inl l ↦ absurd (let e = l.1 in let w = o.whole in omega arith) | inr r ↦ o.of_formula i h r.0 less ];
  added = λ i h g from. elim (get-cases ks k h i g) [ inl l ↦ subst (λ (x : Head). first < x.id) l.0 above | inr r ↦ o.added i h r.0 from ];
  rising = λ i j h t g b from less. elim (get-cases ks k t j b) [
    | inl l ↦ elim (get-cases ks k h i g) [
      | inl m ↦ absurd (let x = l.1 in let y = m.1 in omega arith)
      | inr r ↦ subst (λ (x : Head). h.id < x.id) l.0 (top i h r.0)
    ]
    | inr q ↦ elim (get-cases ks k h i g) [
      | inl m ↦ absurd (let x = q.1 in let y = m.1 in omega arith)
      | inr r ↦ o.rising i j h t r.0 q.0 from less
    ]
  ];
}

pub on_err : {T E : Type 0} (r : Result T E) (X : Type 0) → X → OnErr r X
on_err (Ok t) X x = tt
on_err (Err e) X x = x

-- slots and heads
pub get-map : (f : Head → Slot) (ks : List Head) (i : ℕ) (h : Head) → slice_get ks i ≡ Some h → slice_get (map f ks) i ≡ Some (f h)
get-map f [] i h g = absurd (cc)
get-map f (k ∷ ks) zero h g = ap (λ (x : Head). Some (f x)) (one_head k h g)
get-map f (k ∷ ks) (suc i) h g = get-map f ks i h g

one_slot : (s t : Slot) → Some s ≡ Some t → s ≡ t
one_slot s t e = cc

pub from-map : (f : Head → Slot) (ks : List Head) (i : ℕ) (s : Slot) → slice_get (map f ks) i ≡ Some s → (h : Head) × (slice_get ks i ≡ Some h) × (f h ≡ s)
from-map f [] i s g = absurd (cc)
from-map f (k ∷ ks) zero s g = (k, refl, one_slot (f k) s g)
from-map f (k ∷ ks) (suc i) s g = from-map f ks i s g

map-put : (f : Head → Slot) (ks : List Head) (i : ℕ) (h : Head) → map f (slice_set ks i h) ≡ slice_set (map f ks) i (f h)
map-put f [] i h = refl
map-put f (k ∷ ks) zero h = refl
map-put f (k ∷ ks) (suc i) h = ap (λ r. f k ∷ r) (map-put f ks i h)

-- each number has one place
same-number : (first : ℕ) (heads : List Head) (i j : ℕ) (h k : Head) → AreInOrder first heads → slice_get heads i ≡ Some h → slice_get heads j ≡ Some k → h.id ≡ k.id → i ≡ j
same-number first heads i j h k o g b e = go (nat_lt i first) refl (nat_lt j first) refl
  where
    added : first ≤ i → first ≤ j → (x : Bool) → nat_lt i j ≡ x → (y : Bool) → nat_lt j i ≡ y → i ≡ j
    added u v true p y q = absurd (let r = o.rising i j h k g b u (ltb-true i j p) in omega arith)
    added u v false p true q = absurd (let r = o.rising j i k h b g v (ltb-true j i q) in omega arith)
    added u v false p false q = let r = ltb-false i j p in let s = ltb-false j i q in omega arith

    go : (x : Bool) → nat_lt i first ≡ x → (y : Bool) → nat_lt j first ≡ y → i ≡ j
    go true p true q = let r = o.of_formula i h g (ltb-true i first p) in let s = o.of_formula j k b (ltb-true j first q) in omega arith
    go true p false q = absurd (let r = o.of_formula i h g (ltb-true i first p) in let s = o.added j k b (ltb-false j first q) in omega arith)
    go false p true q = absurd (let r = o.added i h g (ltb-false i first p) in let s = o.of_formula j k b (ltb-true j first q) in omega arith)
    go false p false q = added (ltb-false i first p) (ltb-false j first q) (nat_lt i j) refl (nat_lt j i) refl

pub only-place : (first : ℕ) (lits : List Literal) (heads : List Head) (i : ℕ) (h : Head) (n : ℕ) → AreInOrder first heads → slice_get heads i ≡ Some h → h.id ≡ n → IsOnly (slots_in lits heads) i n
only-place first lits heads i h n o g e j t b there is =
    let k = from-map (slot_in lits) heads j t b in
    let id : k.0.id ≡ t.id = ap (λ (s : Slot). s.id) k.2 in
    sym (same-number first heads i j h k.0 o g k.1 (e ∙ sym is ∙ sym id))

-- what is found at the place of a number
pub clause-there : (first : ℕ) (lits : List Literal) (heads : List Head) (i : ℕ) (h : Head) (n : ℕ) → AreInOrder first heads → slice_get heads i ≡ Some h → h.id ≡ n → h.is_there ≡ true
    → Some (slice_range lits h.start h.end) ≡ clause_of (there_before [] (slots_in lits heads)) n
clause-there first lits heads i h n o g e t =
    sym (clause_of-slot (slots_in lits heads) [] i (slot_in lits h) n (get-map (slot_in lits) heads i h g) e t (only-place first lits heads i h n o g e))

pub clause-gone : (first : ℕ) (lits : List Literal) (heads : List Head) (i : ℕ) (h : Head) (n : ℕ) → AreInOrder first heads → slice_get heads i ≡ Some h → h.id ≡ n → h.is_there ≡ false
    → clause_of (there_before [] (slots_in lits heads)) n ≡ None
clause-gone first lits heads i h n o g e t = clause_of-none n (slots_in lits heads) [] (NoneHas-from_places n (slots_in lits heads) none)
  where
    none : (j : ℕ) (s : Slot) → slice_get (slots_in lits heads) j ≡ Some s → s.is_there ≡ true → s.id ≡ n → ⊥
    none j s b there is =
        let same : j ≡ i = only-place first lits heads i h n o g e j s b there is in
        let one : s ≡ slot_in lits h = one_slot s (slot_in lits h) (sym b ∙ (ap (slice_get (slots_in lits heads)) same ∙ get-map (slot_in lits) heads i h g)) in
        let here : s.is_there ≡ h.is_there = ap (λ (x : Slot). x.is_there) one in
        let two : true ≡ false = sym there ∙ (here ∙ t) in cc

pub clause-none : (lits : List Literal) (heads : List Head) (n : ℕ) → ((i : ℕ) (h : Head) → slice_get heads i ≡ Some h → h.id ≡ n → ⊥)
    → clause_of (there_before [] (slots_in lits heads)) n ≡ None
clause-none lits heads n absent = clause_of-none n (slots_in lits heads) [] (NoneHas-from_places n (slots_in lits heads) none)
  where
    none : (j : ℕ) (s : Slot) → slice_get (slots_in lits heads) j ≡ Some s → s.is_there ≡ true → s.id ≡ n → ⊥
    none j s b there is =
        let k = from-map (slot_in lits) heads j s b in
        let id : k.0.id ≡ s.id = ap (λ (x : Slot). x.id) k.2 in absent j k.0 k.1 (id ∙ is)

-- a clause is taken away
abbrev pub gone : Head → Head
gone h = record { id = h.id; start = h.start; end = h.end; is_there = false }

pub there-removed : (first : ℕ) (lits : List Literal) (heads : List Head) (i : ℕ) (h : Head) (n : ℕ) → AreInOrder first heads → slice_get heads i ≡ Some h → h.id ≡ n → h.is_there ≡ true
    → there_before [] (slots_in lits (slice_set heads i (gone h))) ≡ without_number (there_before [] (slots_in lits heads)) n
there-removed first lits heads i h n o g e t =
    ap (there_before []) (map-put (slot_in lits) heads i (gone h))
    ∙ without-slot (slots_in lits heads) [] i (slot_in lits h) n (get-map (slot_in lits) heads i h g) e t (only-place first lits heads i h n o g e)

-- the head at a place after one was put there
get-put : (ks : List Head) (i j : ℕ) (h k : Head) → slice_get (slice_set ks i h) j ≡ Some k → ((i ≡ j) × (h ≡ k)) ⊎ (slice_get ks j ≡ Some k)
get-put [] i j h k g = absurd (cc)
get-put (r ∷ ks) zero zero h k g = inl (refl, one_head h k g)
get-put (r ∷ ks) zero (suc j) h k g = inr g
get-put (r ∷ ks) (suc i) zero h k g = inr g
get-put (r ∷ ks) (suc i) (suc j) h k g = elim (get-put ks i j h k g) [ inl e ↦ inl (ap suc e.0, e.1) | inr e ↦ inr e ]

length-put : (ks : List Head) (i : ℕ) (h : Head) → length (slice_set ks i h) ≡ length ks
length-put [] i h = refl
length-put (k ∷ ks) zero h = refl
length-put (k ∷ ks) (suc i) h = ap suc (length-put ks i h)

-- with is_there put aside, the heads are the same
pub was-head : (ks : List Head) (i j : ℕ) (h k : Head) → slice_get ks i ≡ Some h → slice_get (slice_set ks i (gone h)) j ≡ Some k
    → (r : Head) × (slice_get ks j ≡ Some r) × (r.id ≡ k.id) × (r.start ≡ k.start) × (r.end ≡ k.end)
was-head ks i j h k g b = elim (get-put ks i j (gone h) k b) [
  | inl e ↦ (h, subst (λ m. slice_get ks m ≡ Some h) e.0 g, ap (λ (x : Head). x.id) e.1, ap (λ (x : Head). x.start) e.1, ap (λ (x : Head). x.end) e.1)
  | inr e ↦ (k, e, refl, refl, refl)
]

pub AreFlat-removed : (vars first : ℕ) (lits : List Literal) (heads : List Head) (i : ℕ) (h : Head) → AreFlat vars first lits heads → slice_get heads i ≡ Some h → AreFlat vars first lits (slice_set heads i (gone h))
AreFlat-removed vars first lits heads i h a g = record {
  within = λ j k b. let r = was-head heads i j h k g b in let w = a.within j r.0 r.1 in let s = r.3 in let t = r.4 in (let u = w.0 in omega arith, let u = w.1 in omega arith);
  order = record {
    whole = rw (length-put heads i (gone h)) a.order.whole;
    of_formula = λ j k b less. let r = was-head heads i j h k g b in let x = a.order.of_formula j r.0 r.1 less in let e = r.2 in omega arith;
    added = λ j k b from. let r = was-head heads i j h k g b in let x = a.order.added j r.0 r.1 from in let e = r.2 in omega arith;
    rising = λ j m k t b d from less. let r = was-head heads i j h k g b in let q = was-head heads i m h t g d in let x = a.order.rising j m r.0 q.0 r.1 q.1 from less in let e = r.2 in let f = q.2 in omega arith;
  };
  over = λ j k b.
      let r = was-head heads i j h k g b in
      subst (λ m. IsOver vars (slice_range lits m k.end)) r.3 (subst (λ m. IsOver vars (slice_range lits r.0.start m)) r.4 (a.over j r.0 r.1));
}

-- what is read at a place that was found
pub found : (ds ks : List Head) (i n : ℕ) (x : Head) → ds ≡ ks → ((h : Head) × (slice_get ds i ≡ Some h) × (h.id ≡ n)) → x ≡ get_or ks i x → (slice_get ks i ≡ Some x) × (x.id ≡ n)
found ds ks i n x same p e =
    let at : slice_get ks i ≡ Some p.0 = ap (λ hs. slice_get hs i) (sym same) ∙ p.1 in
    let is : x ≡ p.0 = e ∙ get_or_from_slice_get ks i p.0 x at in
    (subst (λ (h : Head). slice_get ks i ≡ Some h) (sym is) at, ap (λ (h : Head). h.id) is ∙ p.2)

pub StayThere-removed : (lits : List Literal) (heads : List Head) (i : ℕ) (h : Head) → slice_get heads i ≡ Some h → StayThere (slots_in lits heads) (slots_in lits (slice_set heads i (gone h)))
StayThere-removed lits heads i h g = record {
  there = λ j s less b t.
      let k = from-map (slot_in lits) (slice_set heads i (gone h)) j s b in
      elim (get-put heads i j (gone h) k.0 k.1) [
        | inl e ↦ absurd (let x : false ≡ k.0.is_there = ap (λ (y : Head). y.is_there) e.1 in let y : k.0.is_there ≡ s.is_there = ap (λ (z : Slot). z.is_there) k.2 in let z : false ≡ true = x ∙ (y ∙ t) in cc)
        | inr e ↦ subst (λ (x : Slot). slice_get (slots_in lits heads) j ≡ Some x) k.2 (get-map (slot_in lits) heads j k.0 e)
      ];
  longer = rw (map-put (slot_in lits) heads i (gone h), length-set (slots_in lits heads) i (slot_in lits (gone h))) (omega arith);
}
  where
    length-set : (ss : List Slot) (i : ℕ) (s : Slot) → length (slice_set ss i s) ≡ length ss
    length-set [] i s = refl
    length-set (t ∷ ss) zero s = refl
    length-set (t ∷ ss) (suc i) s = ap suc (length-set ss i s)

-- a clause is put behind the others
first-below : (first n : ℕ) (lits : List Literal) (heads : List Head) → AreInOrder first heads → 0 < n → ((i : ℕ) (s : Slot) → slice_get (slots_in lits heads) i ≡ Some s → s.id < n) → first < n
first-below first n lits heads o pos above = go (nat_lt 0 first) refl
  where
    go : (b : Bool) → nat_lt 0 first ≡ b → first < n
    go true e =
        let less = ltb-true 0 first e in
        let w = o.whole in
        let h = head-at heads 0 (omega arith) in
        let x = o.of_formula 0 h.0 h.1 less in
        let y = above 0 (slot_in lits h.0) (get-map (slot_in lits) heads 0 h.0 h.1) in omega arith
    go false e = let none = ltb-false 0 first e in omega arith

pub order-more : (first n : ℕ) (lits : List Literal) (heads : List Head) (h : Head) → AreInOrder first heads → h.id ≡ n → 0 < n → ((i : ℕ) (s : Slot) → slice_get (slots_in lits heads) i ≡ Some s → s.id < n)
    → AreInOrder first (heads ++ h ∷ [])
order-more first n lits heads h o e pos above =
    let low = first-below first n lits heads o pos above in
    AreInOrder-push first heads h o (omega arith) (λ i k g. let y = above i (slot_in lits k) (get-map (slot_in lits) heads i k g) in omega arith)

pub not_false : (b : Bool) → not b ≡ false → b ≡ true
not_false true e = refl
not_false false e = absurd (cc)

-- slots behind the others
slot-cases : (ss : List Slot) (s t : Slot) (i : ℕ) → slice_get (ss ++ s ∷ []) i ≡ Some t → (s ≡ t) ⊎ (slice_get ss i ≡ Some t)
slot-cases [] s t zero g = inl (one_slot s t g)
slot-cases [] s t (suc i) g = absurd (cc)
slot-cases (r ∷ ss) s t zero g = inr g
slot-cases (r ∷ ss) s t (suc i) g = slot-cases ss s t i g

slot-before : (ss : List Slot) (s t : Slot) (i : ℕ) → i < length ss → slice_get (ss ++ s ∷ []) i ≡ Some t → slice_get ss i ≡ Some t
slot-before [] s t i less g = absurd (omega arith)
slot-before (r ∷ ss) s t zero less g = g
slot-before (r ∷ ss) s t (suc i) less g = slot-before ss s t i (omega arith) g

abbrev pub SlotsOver : ℕ → List Slot → Type 0
SlotsOver vars ss = (i : ℕ) (s : Slot) → slice_get ss i ≡ Some s → IsOver vars s.clause

pub slots-over : (vars first : ℕ) (lits : List Literal) (heads : List Head) → AreFlat vars first lits heads → SlotsOver vars (slots_in lits heads)
slots-over vars first lits heads a i s g =
    let h = from-map (slot_in lits) heads i s g in
    subst (λ (t : Slot). IsOver vars t.clause) h.2 (a.over i h.0 h.1)

pub SlotsOver-push : (vars : ℕ) (ss : List Slot) (s : Slot) → SlotsOver vars ss → IsOver vars s.clause → SlotsOver vars (ss ++ s ∷ [])
SlotsOver-push vars ss s all one i t g = elim (slot-cases ss s t i g) [
  | inl e ↦ subst (λ (x : Slot). IsOver vars x.clause) e one
  | inr e ↦ all i t e
]

pub over-heads : (vars : ℕ) (lits : List Literal) (heads : List Head) → SlotsOver vars (slots_in lits heads) → (i : ℕ) (h : Head) → slice_get heads i ≡ Some h → IsOver vars (slice_range lits h.start h.end)
over-heads vars lits heads all i h g = all i (slot_in lits h) (get-map (slot_in lits) heads i h g)

abbrev pub added_slot : ℕ → List Literal → Slot
added_slot n c = record { id = n; is_there = true; clause = c }

-- after a clause was put behind the others, or memory ran out
pub AreFlat-pushed : {T E : Type 0} (vars first n : ℕ) (lits more : List Literal) (heads all : List Head) (c : List Literal) (r : Result T E) → AreFlat vars first lits heads
    → 0 < n → ((i : ℕ) (s : Slot) → slice_get (slots_in lits heads) i ≡ Some s → s.id < n) → IsOver vars c → AreWithin more all
    → OnOk r (slots_in more all ≡ slots_in lits heads ++ added_slot n c ∷ []) → OnErr r ((all ≡ heads) × (slots_in more all ≡ slots_in lits heads))
    → OnOk r ((h : Head) × (h.id ≡ n) × (all ≡ heads ++ h ∷ [])) → AreFlat vars first more all
AreFlat-pushed vars first n lits more heads all c (Ok t) a pos above over w ok err last = record {
  within = w;
  order = subst (AreInOrder first) (sym last.2) (order-more first n lits heads last.0 a.order last.1 pos above);
  over = over-heads vars more all (subst (SlotsOver vars) (sym ok) (SlotsOver-push vars (slots_in lits heads) (added_slot n c) (slots-over vars first lits heads a) over));
}
AreFlat-pushed vars first n lits more heads all c (Err e) a pos above over w ok err last = record {
  within = w;
  order = subst (AreInOrder first) (sym err.0) a.order;
  over = over-heads vars more all (subst (SlotsOver vars) (sym err.1) (slots-over vars first lits heads a));
}

pub there-pushed : {T E : Type 0} (n : ℕ) (lits more : List Literal) (heads all : List Head) (c : List Literal) (r : Result T E)
    → OnOk r (slots_in more all ≡ slots_in lits heads ++ added_slot n c ∷ []) → OnOk r (there_before [] (slots_in more all) ≡ (n, c) ∷ there_before [] (slots_in lits heads))
there-pushed n lits more heads all c (Ok t) ok = ap (there_before []) ok ∙ there_before-push (slots_in lits heads) [] (added_slot n c)
there-pushed n lits more heads all c (Err e) ok = tt

pub StayThere-pushed : {T E : Type 0} (n : ℕ) (lits more : List Literal) (heads all : List Head) (c : List Literal) (r : Result T E)
    → OnOk r (slots_in more all ≡ slots_in lits heads ++ added_slot n c ∷ []) → OnOk r (StayThere (slots_in lits heads) (slots_in more all))
StayThere-pushed n lits more heads all c (Ok t) ok =
    subst (StayThere (slots_in lits heads)) (sym ok)
    (record { there = λ i s less g b. slot-before (slots_in lits heads) (added_slot n c) s i less g; longer = rw length-append (omega arith) })
StayThere-pushed n lits more heads all c (Err e) ok = tt

-- numbers up to a greatest
pub AreUpTo-pushed : {T E : Type 0} (n : ℕ) (lits more : List Literal) (heads all : List Head) (c : List Literal) (r : Result T E)
    → ((i : ℕ) (s : Slot) → slice_get (slots_in lits heads) i ≡ Some s → s.id < n)
    → OnOk r (slots_in more all ≡ slots_in lits heads ++ added_slot n c ∷ []) → OnOk r (AreUpTo n (slots_in more all))
AreUpTo-pushed n lits more heads all c (Ok t) above ok = subst (AreUpTo n) (sym ok) (λ i s g. elim (slot-cases (slots_in lits heads) (added_slot n c) s i g) [
  | inl e ↦ (let a : n ≡ s.id = ap (λ (x : Slot). x.id) e in omega arith)
  | inr e ↦ (let a = above i s e in omega arith)
])
AreUpTo-pushed n lits more heads all c (Err e) above ok = tt

pub AreUpTo-removed : (n : ℕ) (lits : List Literal) (heads : List Head) (i : ℕ) (h : Head) → slice_get heads i ≡ Some h → AreUpTo n (slots_in lits heads)
    → AreUpTo n (slots_in lits (slice_set heads i (gone h)))
AreUpTo-removed n lits heads i h g all j s b =
    let k = from-map (slot_in lits) (slice_set heads i (gone h)) j s b in
    let r = was-head heads i j h k.0 g k.1 in
    let a = all j (slot_in lits r.0) (get-map (slot_in lits) heads j r.0 r.1) in
    let e = r.2 in
    let f : k.0.id ≡ s.id = ap (λ (x : Slot). x.id) k.2 in omega arith

-- what is read at the place of a slot
pub read_at : (lits : List Literal) (heads : List Head) (i : ℕ) (x : Head) → i < length (slots_in lits heads) → x ≡ get_or heads i x → slice_get heads i ≡ Some x
read_at lits heads i x less is =
    let all : length (slots_in lits heads) ≡ length heads = length-map heads (slot_in lits) in
    slice_get-get_or heads i x (omega arith) ∙ ap Some (sym is)
