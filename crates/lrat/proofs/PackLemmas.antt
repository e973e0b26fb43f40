-- Packing keeps what is there, its order and its variables.
use Rattle.std.proofs.Common.{◌≡◌, ℕ, zero, suc, ◌+◌, ◌-◌, ◌<◌, ◌≤◌, Bool, true, false, List, [], ◌∷◌, ◌++◌, length, drop, Some, slice_get, refl, sym, ap, subst, ◌∙◌, arith, cond, append_assoc, append-nil, get_or}
use Rattle.std.specs.List.{slice_range}
use Rattle.std.proofs.lemmas.List.{drop_all, length-map}
use Rattle.std.proofs.lemmas.Option.{slice_get-get_or}
use Rattle.theory.specs.Literals.{Literal}
use Rattle.theory.specs.Truth.{IsOver}
use Rattle.theory.specs.Checking.{Numbered}
use Rattle.lrat.specs.Flat.{slot_in, slots_in, emptied, packed, AreWithin, AreInOrder, AreFlat, AreUpTo, AreEmptied}
use Rattle.lrat.specs.Slots.{Slot, put, there_before}
use Rattle.lrat.specs.declared.clauses.Head.{Head}
use Rattle.lrat.proofs.FlatLemmas.{get-map, SlotsOver, slots-over, over-heads}

put-emptied : (s : Slot) (K : Numbered) → put (emptied s) K ≡ put s K
put-emptied s K = go s.is_there refl
  where
    go : (b : Bool) → s.is_there ≡ b → put (emptied s) K ≡ put s K
    go true e = ap (λ x. put (cond x s (record { id = s.id; is_there = s.is_there; clause = [] })) K) e
    go false e = ap (λ x. put (cond x s (record { id = s.id; is_there = s.is_there; clause = [] })) K) e ∙ ap (λ x. cond x ((s.id, []) ∷ K) K) e ∙ sym (ap (λ x. cond x ((s.id, s.clause) ∷ K) K) e)

-- the same clauses are there
pub there-packed : (n : ℕ) (ss : List Slot) (K : Numbered) → there_before K (packed n ss) ≡ there_before K ss
there-packed zero [] K = refl
there-packed (suc n) [] K = refl
there-packed zero (s ∷ ss) K = go s.is_there refl (λ k. there-packed zero ss k)
  where
    go : (b : Bool) → s.is_there ≡ b → ((k : Numbered) → there_before k (packed zero ss) ≡ there_before k ss) → there_before K (packed zero (s ∷ ss)) ≡ there_before K (s ∷ ss)
    go true e h = ap (λ x. there_before K (cond x (s ∷ packed zero ss) (packed zero ss))) e ∙ h (put s K)
    go false e h =
        ap (λ x. there_before K (cond x (s ∷ packed zero ss) (packed zero ss))) e ∙ h K ∙ sym (ap (λ x. there_before (cond x ((s.id, s.clause) ∷ K) K) ss) e)
there-packed (suc n) (s ∷ ss) K = ap (λ k. there_before k (packed n ss)) (put-emptied s K) ∙ there-packed n ss (put s K)

-- rising numbers above low; numbers that fall from n to 1, and then rise above first
abbrev Rising : ℕ → List Slot → Type 0
Rising low [] = Unit {0}
Rising low (s ∷ ss) = (low < s.id) × Rising s.id ss

abbrev Falling : ℕ → ℕ → List Slot → Type 0
Falling first zero ss = Rising first ss
Falling first (suc n) [] = ⊥
Falling first (suc n) (s ∷ ss) = (s.id ≡ suc n) × Falling first n ss

lower : (a b : ℕ) (ss : List Slot) → a ≤ b → Rising b ss → Rising a ss
lower a b [] h r = tt
lower a b (s ∷ ss) h r = (let x = r.0 in omega arith, r.1)

Rising-packed : (low : ℕ) (ss : List Slot) → Rising low ss → Rising low (packed zero ss)
Rising-packed low [] r = tt
Rising-packed low (s ∷ ss) r = go s.is_there refl (Rising-packed s.id ss r.1)
  where
    go : (b : Bool) → s.is_there ≡ b → Rising s.id (packed zero ss) → Rising low (packed zero (s ∷ ss))
    go true e h = subst (λ x. Rising low (cond x (s ∷ packed zero ss) (packed zero ss))) (sym e) (r.0, h)
    go false e h = subst (λ x. Rising low (cond x (s ∷ packed zero ss) (packed zero ss))) (sym e) (lower low s.id (packed zero ss) (let x = r.0 in omega arith) h)

emptied-id : (s : Slot) → (emptied s).id ≡ s.id
emptied-id s = go s.is_there
  where
    go : (b : Bool) → (cond b s (record { id = s.id; is_there = s.is_there; clause = [] })).id ≡ s.id
    go true = refl
    go false = refl

Falling-packed : (first n : ℕ) (ss : List Slot) → Falling first n ss → Falling first n (packed n ss)
Falling-packed first zero ss r = Rising-packed first ss r
Falling-packed first (suc n) [] r = absurd r
Falling-packed first (suc n) (s ∷ ss) r = (emptied-id s ∙ r.0, Falling-packed first n ss r.1)

-- the order by places, from a place of the formula's clauses on
record Ordered (first n : ℕ) (heads : List Head) : Type 0 where
  whole : n ≤ length heads
  of_formula : (i : ℕ) (h : Head) → slice_get heads i ≡ Some h → i < n → h.id + i ≡ n
  added : (i : ℕ) (h : Head) → slice_get heads i ≡ Some h → n ≤ i → first < h.id
  rising : (i j : ℕ) (h k : Head) → slice_get heads i ≡ Some h → slice_get heads j ≡ Some k → n ≤ i → i < j → h.id < k.id

to_rising : (low : ℕ) (lits : List Literal) (heads : List Head) → Ordered low 0 heads → Rising low (slots_in lits heads)
to_rising low lits [] o = tt
to_rising low lits (k ∷ ks) o = (
  o.added 0 k refl (omega arith),
  to_rising k.id lits ks (record {
    whole = omega arith;
    of_formula = λ i h g less. absurd (omega arith);
    added = λ i h g from. o.rising 0 (suc i) k h refl g (omega arith) (omega arith);
    rising = λ i j h t g b from less. o.rising (suc i) (suc j) h t g b (omega arith) (omega arith);
  }),
)

to_falling : (first n : ℕ) (lits : List Literal) (heads : List Head) → Ordered first n heads → Falling first n (slots_in lits heads)
to_falling first zero lits heads o = to_rising first lits heads o
to_falling first (suc n) lits [] o = absurd (let w = o.whole in omega arith)
to_falling first (suc n) lits (k ∷ ks) o = (
  (let x = o.of_formula 0 k refl (omega arith) in omega arith),
  to_falling first n lits ks (record {
    whole = (let w = o.whole in omega arith);
    of_formula = λ i h g less. let x = o.of_formula (suc i) h g (omega arith) in omega arith;
    added = λ i h g from. o.added (suc i) h g (omega arith);
    rising = λ i j h t g b from less. o.rising (suc i) (suc j) h t g b (omega arith) (omega arith);
  }),
)

one_head : (h k : Head) → Some h ≡ Some k → h ≡ k
one_head h k e = cc

rising_above : (low : ℕ) (lits : List Literal) (heads : List Head) → Rising low (slots_in lits heads) → (i : ℕ) (h : Head) → slice_get heads i ≡ Some h → low < h.id
rising_above low lits [] r i h g = absurd (cc)
rising_above low lits (k ∷ ks) r zero h g = let x = r.0 in let e = ap (λ (y : Head). y.id) (one_head k h g) in omega arith
rising_above low lits (k ∷ ks) r (suc i) h g = let x = r.0 in let y = rising_above k.id lits ks r.1 i h g in omega arith

rising_apart : (low : ℕ) (lits : List Literal) (heads : List Head) → Rising low (slots_in lits heads) → (i j : ℕ) (h k : Head) → slice_get heads i ≡ Some h → slice_get heads j ≡ Some k → i < j → h.id < k.id
rising_apart low lits [] r i j h k g b less = absurd (cc)
rising_apart low lits (t ∷ ts) r i zero h k g b less = absurd (omega arith)
rising_apart low lits (t ∷ ts) r zero (suc j) h k g b less = let y = rising_above t.id lits ts r.1 j k b in let e = ap (λ (y : Head). y.id) (one_head t h g) in omega arith
rising_apart low lits (t ∷ ts) r (suc i) (suc j) h k g b less = rising_apart t.id lits ts r.1 i j h k g b (omega arith)

from_falling : (first n : ℕ) (lits : List Literal) (heads : List Head) → Falling first n (slots_in lits heads) → Ordered first n heads
from_falling first zero lits heads f = record {
  whole = omega arith;
  of_formula = λ i h g less. absurd (omega arith);
  added = λ i h g from. rising_above first lits heads f i h g;
  rising = λ i j h k g b from less. rising_apart first lits heads f i j h k g b less;
}
from_falling first (suc n) lits [] f = absurd f
from_falling first (suc n) lits (t ∷ ts) f =
    let o = from_falling first n lits ts f.1 in
    record {
      whole = (let w = o.whole in omega arith);
      of_formula = formula o;
      added = later o;
      rising = apart o;
    }
  where
    formula : Ordered first n ts → (i : ℕ) (h : Head) → slice_get (t ∷ ts) i ≡ Some h → i < suc n → h.id + i ≡ suc n
    formula o zero h g less = let e = ap (λ (y : Head). y.id) (one_head t h g) in let x = f.0 in omega arith
    formula o (suc i) h g less = let x = o.of_formula i h g (omega arith) in omega arith

    later : Ordered first n ts → (i : ℕ) (h : Head) → slice_get (t ∷ ts) i ≡ Some h → suc n ≤ i → first < h.id
    later o zero h g from = absurd (omega arith)
    later o (suc i) h g from = o.added i h g (omega arith)

    apart : Ordered first n ts → (i j : ℕ) (h k : Head) → slice_get (t ∷ ts) i ≡ Some h → slice_get (t ∷ ts) j ≡ Some k → suc n ≤ i → i < j → h.id < k.id
    apart o zero j h k g b from less = absurd (omega arith)
    apart o (suc i) zero h k g b from less = absurd (omega arith)
    apart o (suc i) (suc j) h k g b from less = o.rising i j h k g b (omega arith) (omega arith)

-- the variables stay
over_emptied : (vars : ℕ) (s : Slot) → IsOver vars s.clause → IsOver vars (emptied s).clause
over_emptied vars s h = go s.is_there
  where
    go : (b : Bool) → IsOver vars (cond b s (record { id = s.id; is_there = s.is_there; clause = [] })).clause
    go true = h
    go false = λ k d less. absurd (omega arith)

SlotsOver-tail : (vars : ℕ) (s : Slot) (ss : List Slot) → SlotsOver vars (s ∷ ss) → SlotsOver vars ss
SlotsOver-tail vars s ss h i t g = h (suc i) t g

SlotsOver-cons : (vars : ℕ) (s : Slot) (ss : List Slot) → IsOver vars s.clause → SlotsOver vars ss → SlotsOver vars (s ∷ ss)
SlotsOver-cons vars s ss one h zero t g = subst (λ (x : Slot). IsOver vars x.clause) (let e : s ≡ t = cc in e) one
SlotsOver-cons vars s ss one h (suc i) t g = h i t g

SlotsOver-packed : (vars n : ℕ) (ss : List Slot) → SlotsOver vars ss → SlotsOver vars (packed n ss)
SlotsOver-packed vars zero [] h = h
SlotsOver-packed vars (suc n) [] h = h
SlotsOver-packed vars zero (s ∷ ss) h = go s.is_there (SlotsOver-packed vars zero ss (SlotsOver-tail vars s ss h))
  where
    go : (b : Bool) → SlotsOver vars (packed zero ss) → SlotsOver vars (cond b (s ∷ packed zero ss) (packed zero ss))
    go true r = SlotsOver-cons vars s (packed zero ss) (h 0 s refl) r
    go false r = r
SlotsOver-packed vars (suc n) (s ∷ ss) h =
    SlotsOver-cons vars (emptied s) (packed n ss) (over_emptied vars s (h 0 s refl)) (SlotsOver-packed vars n ss (SlotsOver-tail vars s ss h))

ordered : (first : ℕ) (heads : List Head) → AreInOrder first heads → Ordered first first heads
ordered first heads o = record { whole = o.whole; of_formula = o.of_formula; added = o.added; rising = o.rising }

pub AreFlat-packed : (vars first : ℕ) (lits more : List Literal) (heads all : List Head) → AreFlat vars first lits heads → AreWithin more all
    → slots_in more all ≡ packed first (slots_in lits heads) → AreFlat vars first more all
AreFlat-packed vars first lits more heads all a w e =
    let f = to_falling first first lits heads (ordered first heads a.order) in
    let o = from_falling first first more all (subst (Falling first first) (sym e) (Falling-packed first first (slots_in lits heads) f)) in
    record {
      within = w;
      order = record { whole = o.whole; of_formula = o.of_formula; added = o.added; rising = o.rising };
      over = over-heads vars more all (subst (SlotsOver vars) (sym e) (SlotsOver-packed vars first (slots_in lits heads) (slots-over vars first lits heads a)));
    }

-- one place more
packed-there : (n : ℕ) (s : Slot) (ss : List Slot) → s.is_there ≡ true → packed n (s ∷ ss) ≡ s ∷ packed (n - 1) ss
packed-there zero s ss e = ap (λ b. cond b (s ∷ packed zero ss) (packed zero ss)) e ∙ ap (λ m. s ∷ packed m ss) (let z : zero ≡ zero - 1 = omega arith in z)
packed-there (suc n) s ss e =
    ap (λ b. (cond b s (record { id = s.id; is_there = s.is_there; clause = [] })) ∷ packed n ss) e ∙ ap (λ m. s ∷ packed m ss) (let z : n ≡ suc n - 1 = omega arith in z)

packed-formula : (n : ℕ) (s : Slot) (ss : List Slot) → 0 < n → s.is_there ≡ false → packed n (s ∷ ss) ≡ (record { id = s.id; is_there = false; clause = [] }) ∷ packed (n - 1) ss
packed-formula zero s ss pos e = absurd (omega arith)
packed-formula (suc n) s ss pos e =
    ap (λ b. (cond b s (record { id = s.id; is_there = b; clause = [] })) ∷ packed n ss) e
    ∙ ap (λ m. (record { id = s.id; is_there = false; clause = [] }) ∷ packed m ss) (let z : n ≡ suc n - 1 = omega arith in z)

packed-gone : (n m : ℕ) (s : Slot) (ss : List Slot) → n ≡ 0 → m ≡ 0 → s.is_there ≡ false → packed n (s ∷ ss) ≡ packed m ss
packed-gone n m s ss z y e = ap (λ k. packed k (s ∷ ss)) z ∙ ap (λ b. cond b (s ∷ packed zero ss) (packed zero ss)) e ∙ ap (λ k. packed k ss) (sym y)

drop-slot : (ss : List Slot) (p : ℕ) (s : Slot) → slice_get ss p ≡ Some s → drop p ss ≡ s ∷ drop (p + 1) ss
drop-slot [] p s g = absurd (cc)
drop-slot (t ∷ ss) zero s g = let e : t ≡ s = cc in ap (λ x. x ∷ ss) e
drop-slot (t ∷ ss) (suc p) s g = let e : suc (p + 1) ≡ suc p + 1 = omega arith in drop-slot ss p s g ∙ ap (λ m. s ∷ drop m (t ∷ ss)) e

appended : (S S' : List Slot) (t : Slot) (a r W : List Slot) → S' ≡ S ++ t ∷ [] → a ≡ t ∷ r → S ++ a ≡ W → S' ++ r ≡ W
appended S S' t a r W e f h = ap (λ x. x ++ r) e ∙ append_assoc S (t ∷ []) r ∙ ap (λ x. S ++ x) (sym f) ∙ h

pub pack-there : (first p : ℕ) (lits : List Literal) (heads : List Head) (h : Head) (S S' W : List Slot) → slice_get heads p ≡ Some h → h.is_there ≡ true
    → S' ≡ S ++ (record { id = h.id; is_there = true; clause = slice_range lits h.start h.end }) ∷ []
    → S ++ packed (first - p) (drop p (slots_in lits heads)) ≡ W → S' ++ packed (first - (p + 1)) (drop (p + 1) (slots_in lits heads)) ≡ W
pack-there first p lits heads h S S' W g t e w =
    appended S S' (slot_in lits h) (packed (first - p) (drop p (slots_in lits heads))) (packed (first - (p + 1)) (drop (p + 1) (slots_in lits heads))) W
    (e ∙ ap (λ b. S ++ (record { id = h.id; is_there = b; clause = slice_range lits h.start h.end }) ∷ []) (sym t))
    (ap (packed (first - p)) (drop-slot (slots_in lits heads) p (slot_in lits h) (get-map (slot_in lits) heads p h g))
    ∙ packed-there (first - p) (slot_in lits h) (drop (p + 1) (slots_in lits heads)) t
    ∙ ap (λ m. slot_in lits h ∷ packed m (drop (p + 1) (slots_in lits heads))) (let z : first - p - 1 ≡ first - (p + 1) = omega arith in z))
    w

pub pack-formula : (first p : ℕ) (lits : List Literal) (heads : List Head) (h : Head) (S S' W : List Slot) → slice_get heads p ≡ Some h → h.is_there ≡ false → p < first
    → S' ≡ S ++ (record { id = h.id; is_there = false; clause = [] }) ∷ []
    → S ++ packed (first - p) (drop p (slots_in lits heads)) ≡ W → S' ++ packed (first - (p + 1)) (drop (p + 1) (slots_in lits heads)) ≡ W
pack-formula first p lits heads h S S' W g t less e w =
    appended S S' (record { id = h.id; is_there = false; clause = [] }) (packed (first - p) (drop p (slots_in lits heads))) (packed (first - (p + 1)) (drop (p + 1) (slots_in lits heads))) W
    e
    (ap (packed (first - p)) (drop-slot (slots_in lits heads) p (slot_in lits h) (get-map (slot_in lits) heads p h g))
    ∙ packed-formula (first - p) (slot_in lits h) (drop (p + 1) (slots_in lits heads)) (omega arith) t
    ∙ ap (λ m. (record { id = h.id; is_there = false; clause = [] }) ∷ packed m (drop (p + 1) (slots_in lits heads))) (let z : first - p - 1 ≡ first - (p + 1) = omega arith in z))
    w

pub pack-gone : (first p : ℕ) (lits : List Literal) (heads : List Head) (h : Head) (S W : List Slot) → slice_get heads p ≡ Some h → h.is_there ≡ false → first ≤ p
    → S ++ packed (first - p) (drop p (slots_in lits heads)) ≡ W → S ++ packed (first - (p + 1)) (drop (p + 1) (slots_in lits heads)) ≡ W
pack-gone first p lits heads h S W g t late w =
    ap (λ x. S ++ x)
    (sym (ap (packed (first - p)) (drop-slot (slots_in lits heads) p (slot_in lits h) (get-map (slot_in lits) heads p h g))
    ∙ packed-gone (first - p) (first - (p + 1)) (slot_in lits h) (drop (p + 1) (slots_in lits heads)) (omega arith) (omega arith) t))
    ∙ w

-- no number comes
AreUpTo-cons : (m : ℕ) (s : Slot) (ss : List Slot) → s.id ≤ m → AreUpTo m ss → AreUpTo m (s ∷ ss)
AreUpTo-cons m s ss one h zero t g = let e : s ≡ t = cc in let i = ap (λ (x : Slot). x.id) e in omega arith
AreUpTo-cons m s ss one h (suc i) t g = h i t g

pub AreUpTo-packed : (m n : ℕ) (ss : List Slot) → AreUpTo m ss → AreUpTo m (packed n ss)
AreUpTo-packed m zero [] h = h
AreUpTo-packed m (suc n) [] h = h
AreUpTo-packed m zero (s ∷ ss) h = go s.is_there (AreUpTo-packed m zero ss (λ i t g. h (suc i) t g))
  where
    go : (b : Bool) → AreUpTo m (packed zero ss) → AreUpTo m (cond b (s ∷ packed zero ss) (packed zero ss))
    go true r = AreUpTo-cons m s (packed zero ss) (h 0 s refl) r
    go false r = r
AreUpTo-packed m (suc n) (s ∷ ss) h =
    AreUpTo-cons m (emptied s) (packed n ss) (let e = emptied-id s in let l = h 0 s refl in omega arith) (AreUpTo-packed m n ss (λ i t g. h (suc i) t g))

packed-none : (n : ℕ) → packed n [] ≡ []
packed-none zero = refl
packed-none (suc n) = refl

-- no slots are left
pub pack-done : (n place : ℕ) (lits : List Literal) (heads : List Head) (S whole : List Slot) → length heads ≤ place
    → S ++ packed n (drop place (slots_in lits heads)) ≡ whole → S ≡ whole
pack-done n place lits heads S whole end left =
    let all : length (slots_in lits heads) ≡ length heads = length-map heads (slot_in lits) in
    sym (append-nil S) ∙ ap (λ ss. S ++ ss) (sym (packed-none n) ∙ ap (packed n) (sym (drop_all place (slots_in lits heads) (omega arith)))) ∙ left

-- the literals of a clause that is read are some of the list's
pub read_within : (lits : List Literal) (heads : List Head) (place : ℕ) (none : Head) → AreWithin lits heads → place < length heads
    → let h = get_or heads place none in (h.start ≤ h.end) × (h.end ≤ length lits)
read_within lits heads place none w less = w place (get_or heads place none) (slice_get-get_or heads place none less)

-- clauses that were taken away leave no literals
AreEmptied-cons : (s : Slot) (ss : List Slot) → (s.is_there ≡ false → s.clause ≡ []) → AreEmptied ss → AreEmptied (s ∷ ss)
AreEmptied-cons s ss one h zero t g = subst (λ (x : Slot). x.is_there ≡ false → x.clause ≡ []) (let e : s ≡ t = cc in e) one
AreEmptied-cons s ss one h (suc i) t g = h i t g

emptied-gone : (s : Slot) → (emptied s).is_there ≡ false → (emptied s).clause ≡ []
emptied-gone s = go s.is_there refl
  where
    go : (b : Bool) → s.is_there ≡ b → (cond b s (record { id = s.id; is_there = s.is_there; clause = [] })).is_there ≡ false
        → (cond b s (record { id = s.id; is_there = s.is_there; clause = [] })).clause ≡ []
    go true e gone = absurd (let x : true ≡ false = sym e ∙ gone in cc)
    go false e gone = refl

pub AreEmptied-packed : (n : ℕ) (ss : List Slot) → AreEmptied (packed n ss)
AreEmptied-packed zero [] = λ i t g gone. absurd (cc)
AreEmptied-packed (suc n) [] = λ i t g gone. absurd (cc)
AreEmptied-packed zero (s ∷ ss) = go s.is_there refl (AreEmptied-packed zero ss)
  where
    go : (b : Bool) → s.is_there ≡ b → AreEmptied (packed zero ss) → AreEmptied (cond b (s ∷ packed zero ss) (packed zero ss))
    go true e r = AreEmptied-cons s (packed zero ss) (λ gone. absurd (let x : true ≡ false = sym e ∙ gone in cc)) r
    go false e r = r
AreEmptied-packed (suc n) (s ∷ ss) = AreEmptied-cons (emptied s) (packed n ss) (emptied-gone s) (AreEmptied-packed n ss)
