-- Unit clauses in the falling order of their numbers.
use Rattle.std.proofs.Common.{◌≡◌, ℕ, suc, zero, ◌+◌, ◌-◌, ◌<◌, ◌≤◌, List, [], ◌∷◌, ◌++◌, length, map, get_or, set, take, drop, All, refl, ap, sym, subst, ◌∙◌, inl, inr, arith, append-nil, Option, Some, None, option_to_list}
use Rattle.std.specs.Prelude.{insert}
use Rattle.std.specs.List.{Contains}
use Rattle.std.specs.List.Sorted.{IsPermutation}
use Rattle.std.proofs.lemmas.List.{get_or_append_left, get_or_push, length_push, take-append-drop, length-map, get_or_default, take_more, take_all}
use Rattle.std.proofs.Math.Seq.{take-append_seam}
use Rattle.std.proofs.lemmas.Bool.{cases_lt}
use Rattle.std.proofs.lemmas.List.Elements.{All-weaker, All-map}
use Rattle.std.proofs.lemmas.List.Sorted.{IsPermutation-trans, IsPermutation-sym, IsPermutation-middle, IsPermutation-map}
use Rattle.std.proofs.Math.ListN.{get_or-map}
use Rattle.kernel.specs.declared.units.unit_queue.Waiting.{Waiting}
use Rattle.kernel.specs.declared.units.numbered.Numbered.{Numbered}
use Rattle.kernel.specs.Placing.{GoesFirst, AreFalling, at_start}

-- one more at the end
pub insert-end : {X : Type 0} (xs : List X) (x : X) → xs ++ x ∷ [] ≡ insert xs (length xs) x
insert-end [] x = refl
insert-end (y ∷ xs) x = ap (λ ys. y ∷ ys) (insert-end xs x)

-- what stands at the place of one that was put in is written over
pub insert-set : {X : Type 0} (xs : List X) (at : ℕ) (y x : X) → at ≤ length xs → set (insert xs at y) at x ≡ insert xs at x
insert-set xs zero y x le = refl
insert-set [] (suc at) y x le = absurd (omega (arith, le))
insert-set (z ∷ xs) (suc at) y x le = ap (λ ys. z ∷ ys) (insert-set xs at y x (omega (arith, le)))

-- the one before it moves behind it
pub insert-shifted : {X : Type 0} (xs : List X) (a : ℕ) (y d : X) → a < length xs → set (insert xs (suc a) y) (suc a) (get_or (insert xs (suc a) y) a d) ≡ insert xs a (get_or xs a d)
insert-shifted [] a y d l = absurd (omega (arith, l))
insert-shifted (z ∷ xs) zero y d l = refl
insert-shifted (z ∷ xs) (suc a) y d l = ap (λ ys. z ∷ ys) (insert-shifted xs a y d (omega (arith, l)))

pub insert-below : {X : Type 0} (xs : List X) (a : ℕ) (y d : X) → a < length xs → get_or (insert xs (suc a) y) a d ≡ get_or xs a d
insert-below [] a y d l = absurd (omega (arith, l))
insert-below (z ∷ xs) zero y d l = refl
insert-below (z ∷ xs) (suc a) y d l = insert-below xs a y d (omega (arith, l))

pub insert-permutes : {X : Type 0} (xs : List X) (at : ℕ) (x : X) → IsPermutation (xs ++ x ∷ []) (insert xs at x)
insert-permutes xs at x =
    IsPermutation-trans (xs ++ x ∷ []) (x ∷ xs) (insert xs at x)
    (subst (λ ys. IsPermutation (xs ++ x ∷ []) (x ∷ ys)) (append-nil xs) (IsPermutation-middle xs x []))
    (IsPermutation-sym (insert xs at x) (x ∷ xs) (subst (λ ys. IsPermutation (insert xs at x) (x ∷ ys)) (take-append-drop at xs) (IsPermutation-middle (take at xs) x (drop at xs))))

All-cons : (P : Numbered → Type 0) (x : Numbered) (xs : List Numbered) → P x → All P xs → All P (x ∷ xs)
All-cons P x xs h t zero d l = h
All-cons P x xs h t (suc k) d l = t k d (omega (arith, l))

All-insert : (P : Numbered → Type 0) (us : List Numbered) (at : ℕ) (u : Numbered) → P u → All P us → All P (insert us at u)
All-insert P us zero u h all = All-cons P u us h all
All-insert P [] (suc at) u h all = All-cons P u [] h all
All-insert P (v ∷ us) (suc at) u h all = All-cons P v (insert us at u) (all 0 v (omega arith)) (All-insert P us at u h (λ k d l. all (suc k) d (omega (arith, l))))

-- one more in front of those of no greater number
pub AreFalling-insert : (us : List Numbered) (at : ℕ) (u : Numbered) → AreFalling us → at ≤ length us → ((k : ℕ) (d : Numbered) → at ≤ k → k < length us → (get_or us k d).clause ≤ u.clause)
    → ((a : ℕ) → at ≡ suc a → u.clause ≤ (get_or us a u).clause) → AreFalling (insert us at u)
AreFalling-insert us zero u f le behind before = ((λ k d l. behind k d (omega arith) l), f)
AreFalling-insert [] (suc at) u f le behind before = absurd (omega (arith, le))
AreFalling-insert (v ∷ us) (suc at) u f le behind before =
    (All-insert (λ x. x.clause ≤ v.clause) us at u (most at le (before at refl)) f.0, AreFalling-insert us at u f.1 (omega (arith, le)) (λ k d a l. behind (suc k) d (omega (arith, a)) (omega (arith, l))) (λ a e. before (suc a) (ap suc e)))
  where
    most : (at : ℕ) → suc at ≤ length (v ∷ us) → u.clause ≤ (get_or (v ∷ us) at u).clause → u.clause ≤ v.clause
    most zero le h = h
    most (suc at) le h = let less : (get_or us at u).clause ≤ v.clause = f.0 at u (omega (arith, le)) in omega (arith, h, less)

-- the last one is the least
pub AreFalling-least : (us : List Numbered) (n : ℕ) (u d : Numbered) → AreFalling us → length us ≡ n + 1 → u ≡ get_or us n d → All (λ v. u.clause ≤ v.clause) us
AreFalling-least [] n u d f long e = absurd (omega (arith, long))
AreFalling-least (v ∷ us) zero u d f long e = one
  where
    one : All (λ x. u.clause ≤ x.clause) (v ∷ us)
    one zero c l = subst (λ (x : Numbered). x.clause ≤ v.clause) (sym e) (omega arith)
    one (suc k) c l = absurd (omega (arith, long, l))
AreFalling-least (v ∷ us) (suc n) u d f long e = one (AreFalling-least us n u d f.1 (omega (arith, long)) e)
  where
    one : All (λ x. u.clause ≤ x.clause) us → All (λ x. u.clause ≤ x.clause) (v ∷ us)
    one rest zero c l = subst (λ (x : Numbered). x.clause ≤ v.clause) (sym e) (f.0 n d (omega (arith, long)))
    one rest (suc k) c l = rest k c (omega (arith, l))

-- without the last one
pub AreFalling-front : (us : List Numbered) (u : Numbered) → AreFalling (us ++ u ∷ []) → AreFalling us
AreFalling-front [] u f = tt
AreFalling-front (v ∷ us) u f = ((λ k d l. subst (λ (x : Numbered). x.clause ≤ v.clause) (get_or_append_left us (u ∷ []) d k l) (f.0 k d (let long = length_push us u in omega (arith, l, long)))), AreFalling-front us u f.1)

-- as they wait
pub goes-first : (us : List Numbered) (u : Numbered) → All (λ v. u.clause ≤ v.clause) us → All (λ w. GoesFirst (at_start u) w) (map at_start us)
goes-first us u h = All-map (λ w. GoesFirst (at_start u) w) at_start us (All-weaker (λ v. u.clause ≤ v.clause) (λ v. GoesFirst (at_start u) (at_start v)) (λ v f. inr (refl, f)) us h)

pub stands-there : (us : List Numbered) (n : ℕ) (u d : Numbered) → n < length us → u ≡ get_or us n d → Contains (map at_start us) (at_start u)
stands-there us n u d l e = (n, subst (λ m. n < m) (sym (length-map us at_start)) l, get_or-map at_start us n u ∙ ap at_start (same us n l ∙ sym e))
  where
    same : (us : List Numbered) (n : ℕ) → n < length us → get_or us n u ≡ get_or us n d
    same [] n l = absurd (omega (arith, l))
    same (v ∷ us) zero l = refl
    same (v ∷ us) (suc n) l = same us n (omega (arith, l))

pub put-in : (w : Waiting) (us vs : List Numbered) (u : Numbered) → at_start u ≡ w → IsPermutation (us ++ u ∷ []) vs → IsPermutation (w ∷ map at_start us) (map at_start vs)
put-in w us vs u e p =
    subst (λ x. IsPermutation (x ∷ map at_start us) (map at_start vs)) e
    (IsPermutation-map at_start (u ∷ us) vs
    (IsPermutation-trans (u ∷ us) (us ++ u ∷ []) vs (IsPermutation-sym (us ++ u ∷ []) (u ∷ us) (subst (λ ys. IsPermutation (us ++ u ∷ []) (u ∷ ys)) (append-nil us) (IsPermutation-middle us u []))) p))

pub taken-out : (us vs : List Numbered) (u : Numbered) → us ≡ vs ++ u ∷ [] → IsPermutation (map at_start us) (at_start u ∷ map at_start vs)
taken-out us vs u e =
    IsPermutation-map at_start us (u ∷ vs) (subst (λ xs. IsPermutation xs (u ∷ vs)) (sym e) (subst (λ ys. IsPermutation (vs ++ u ∷ []) (u ∷ ys)) (append-nil vs) (IsPermutation-middle vs u [])))

-- a list by its last one
pub whole-last : {X : Type 0} (xs : List X) (x : X) → 0 < length xs → x ≡ get_or xs (length xs - 1) x → xs ≡ take (length xs - 1) xs ++ x ∷ []
whole-last xs x some is =
    sym (take_all (length xs - 1 + 1) xs (omega (arith, some)))
    ∙ (take_more xs (length xs - 1) x (omega (arith, some)) ∙ ap (λ y. take (length xs - 1) xs ++ y ∷ []) (sym is))

pub front-is : {X : Type 0} (xs before : List X) (x : X) → xs ≡ before ++ x ∷ [] → take (length xs - 1) xs ≡ before
front-is xs before x e = ap (λ ys. take (length ys - 1) ys) e ∙ (ap (λ n. take n (before ++ x ∷ [])) (let long = length_push before x in let n : length (before ++ x ∷ []) - 1 ≡ length before = omega (arith, long) in n) ∙ take-append_seam before (x ∷ []))

-- the list with a gap at a place, where another one was put in
module _ (us items : List Numbered) (at : ℕ) (y : Numbered) (is : items ≡ insert us at y) (some : 0 < at) (le : at ≤ length us) where
  next : suc (at - 1) ≡ at
  next = omega (arith, some)

  inside : at - 1 < length us
  inside = omega (arith, some, le)

  gap-read : (d : Numbered) → get_or items (at - 1) d ≡ get_or us (at - 1) d
  gap-read d = ap (λ xs. get_or xs (at - 1) d) is ∙ subst (λ n. get_or (insert us n y) (at - 1) d ≡ get_or us (at - 1) d) next (insert-below us (at - 1) y d inside)

  pub gap-moved : (x : Numbered) → x ≡ get_or items (at - 1) x → set items at x ≡ insert us (at - 1) (get_or us (at - 1) x)
  gap-moved x read =
      ap (λ xs. set xs at x) is ∙ (ap (λ z. set (insert us at y) at z) (read ∙ ap (λ xs. get_or xs (at - 1) x) is)
      ∙ subst (λ n. set (insert us n y) n (get_or (insert us n y) (at - 1) x) ≡ insert us (at - 1) (get_or us (at - 1) x)) next (insert-shifted us (at - 1) y x inside))

  pub gap-lesser : (r last : Numbered) → (get_or items (at - 1) r).clause < last.clause → ((k : ℕ) (d : Numbered) → at ≤ k → k < length us → (get_or us k d).clause ≤ last.clause)
      → (k : ℕ) (d : Numbered) → at - 1 ≤ k → k < length us → (get_or us k d).clause ≤ last.clause
  gap-lesser r last less behind k d from l = elim (cases_lt k at) [
    | inl below ↦
        let one : k ≡ at - 1 = omega (arith, below, from) in
        let same : get_or us k d ≡ get_or us (at - 1) r = ap (λ n. get_or us n d) one ∙ get_or_default us (at - 1) d r inside in
        let low : (get_or us (at - 1) r).clause < last.clause = subst (λ (u : Numbered). u.clause < last.clause) (gap-read r) less in
        subst (λ (u : Numbered). u.clause ≤ last.clause) (sym same) (omega (arith, low))
    | inr above ↦ behind k d above l
  ]

  pub gap-before : (r last : Numbered) → last.clause ≤ (get_or items (at - 1) r).clause → (a : ℕ) → at ≡ suc a → last.clause ≤ (get_or us a last).clause
  gap-before r last high a e =
      let one : at - 1 ≡ a = omega (arith, e) in
      subst (λ n. last.clause ≤ (get_or us n last).clause) one (subst (λ (u : Numbered). last.clause ≤ u.clause) (gap-read r ∙ get_or_default us (at - 1) r last inside) high)

pub popped-falling : (us vs : List Numbered) (o : Option Numbered) → AreFalling us → us ≡ vs ++ option_to_list o → AreFalling vs
popped-falling us vs None f e = subst AreFalling (e ∙ append-nil vs) f
popped-falling us vs (Some u) f e = AreFalling-front vs u (subst AreFalling e f)

-- the last one, which is taken out
pub popped-least : (us vs : List Numbered) (u : Numbered) → AreFalling us → us ≡ vs ++ u ∷ [] → All (λ v. u.clause ≤ v.clause) us
popped-least us vs u f e = AreFalling-least us (length vs) u u f (ap length e ∙ length_push vs u) (sym (ap (λ xs. get_or xs (length vs) u) e ∙ get_or_push vs u u (length vs) refl))

-- a list written back over one as long
pub refilled : {X : Type 0} (n : ℕ) (new rest : List X) → n ≡ length new → take n (new ++ rest) ≡ new
refilled n new rest long = ap (λ k. take k (new ++ rest)) long ∙ take-append_seam new rest
