-- From the hands that came home to the closed pool, and the results of all.
use Rattle.std.proofs.Common.{◌≡◌, ℕ, zero, suc, ◌<◌, ◌≤◌, ◌^◌, false, cond, List, [], ◌∷◌, ◌++◌, map, flat_map, length, Option, Some, slice_get, All, Contains, IsPermutation, sum_by, refl, sym, ap, ◌∙◌, subst, arith}
use Rattle.std.proofs.lemmas.List.{length-map, map-append}
use Rattle.std.proofs.lemmas.List.Elements.{All-map, All-head, All-tail, All-cons, All-nil}
use Rattle.std.proofs.lemmas.List.Sums.{sum_by-append, sum_by-cons}
use Rattle.std.proofs.lemmas.List.Sorted.{IsPermutation-sym, length_permutation, All-permutation, Contains-permutation, sum_by-IsPermutation}
use Rattle.theory.specs.Truth.{Formula}
use Rattle.theory.specs.Plans.{Plan}
use Rattle.theory.specs.Ledger.{Ledger, all_got, times, same_cube}
use Rattle.theory.specs.Trees.{IsCubeOf}
use Rattle.theory.specs.Results.{Solved, IsTrueOf, IsWhole}
use Rattle.theory.specs.Order.{IsAllOnce, IsInOrder}
use Rattle.theory.specs.Literals.{Literal}
use Rattle.theory.specs.Learning.{Line}
use Rattle.theory.specs.Work.{IsWork}
use Rattle.theory.specs.Harvest.{Share, ledgers_of, results_of, IsClosed, IsHarvest}
use Rattle.theory.proofs.literals.Membership.{slice_get-map, All-at, All-from, Contains-slice_get, slice_get-Contains, Contains-map, map-Contains, Contains-flat_map, flat_map-Contains}
use Rattle.theory.proofs.hands.Harvests.{IsClosed-IsHarvest}
use Rattle.theory.proofs.hands.Joining.{IsSettled-grows}
use Rattle.pool.specs.Hands.{HandView}
use Rattle.pool.specs.Pools.{PoolView, AreAllOf, AreLedgersOf}
use Rattle.cubes.specs.declared.hands.Worked.{Worked}
use Rattle.cubes.specs.Solved.{solved_by}
use Rattle.cubes.specs.declared.solved.Solved as declared
use Rattle.cubes.specs.Shares.{share_by, AreByNumber, HaveWorked, AreHarvested}
use Rattle.cubes.proofs.Numbering.{by_number}

-- two lists with the same results are both whole
IsWhole-same : (F : Formula) (plan : Plan) (xs ys : List Solved) → ((r : Solved) → Contains xs r → Contains ys r) → ((r : Solved) → Contains ys r → Contains xs r) → IsWhole F plan xs → IsWhole F plan ys
IsWhole-same F plan xs ys f g whole = record {
  of_tree = All-from (λ r. IsCubeOf F plan [] r.cube) ys (λ r h. All-at (λ r. IsCubeOf F plan [] r.cube) xs r whole.of_tree (g r h));
  true_of = All-from (λ r. IsTrueOf F plan r.cube r.what) ys (λ r h. All-at (λ r. IsTrueOf F plan r.cube r.what) xs r whole.true_of (g r h));
  settles = λ Q cube. IsSettled-grows xs ys Q f (whole.settles Q cube);
}

slice_get-mapped : {A X : Type 0} (f : A → X) (xs : List A) (k : ℕ) (x : A) → slice_get xs k ≡ Some x → slice_get (map f xs) k ≡ Some (f x)
slice_get-mapped f [] k x h = absurd (cc)
slice_get-mapped f (y ∷ xs) zero x h = let e : y ≡ x = cc in ap (λ a. Some (f a)) e
slice_get-mapped f (y ∷ xs) (suc k) x h = slice_get-mapped f xs k x h

closed-empty : (F : Formula) (plan : Plan) (shares : List Share) (left : List (List Literal)) (least : Option ℕ) (undone : ℕ) → IsHarvest F plan shares left undone → IsClosed F plan shares left least undone → IsClosed F plan shares [] least 0
closed-empty F plan shares left least undone harvest closed = rw (harvest.none_left, harvest.none_undone) at closed

-- where refuted cubes keep what has these lines
module _ {L : Type 0} (lines : L → List Line) where
  shares-ledgers : (works : List (Worked L)) → ledgers_of (map (share_by lines) works) ≡ map (λ (h : HandView). h.ledger) (map (λ (w : Worked L). w.hand) works)
  shares-ledgers [] = refl
  shares-ledgers (w ∷ works) = ap (λ ls. w.hand.ledger ∷ ls) (shares-ledgers works)

  shares-results : (works : List (Worked L)) → results_of (map (share_by lines) works) ≡ map (solved_by lines) (flat_map (λ (w : Worked L). w.solved.items) works)
  shares-results [] = refl
  shares-results (w ∷ works) = ap (λ rs. map (solved_by lines) w.solved.items ++ rs) (shares-results works) ∙ sym (map-append (solved_by lines) w.solved.items (flat_map (λ (v : Worked L). v.solved.items) works))

  abbrev number_of : Worked L → ℕ
  number_of w = w.hand.number

  -- the hands of a pool can be put in the order of their numbers
  hands-sorted : (pool : PoolView) (works : List (Worked L)) → AreAllOf pool (map (λ (w : Worked L). w.hand) works) → (sorted : List (Worked L)) × AreByNumber works sorted
  hands-sorted pool works all =
      let sorted = by_number number_of pool.hands works (sym (length-map works (λ (w : Worked L). w.hand)) ∙ all.as_many) (λ k less. there k (all.each_number k less)) in
      (sorted.0, (sorted.1, sorted.2))
    where
      there : (k : ℕ) → (place : ℕ) × (h : HandView) × (slice_get (map (λ (w : Worked L). w.hand) works) place ≡ Some h) × (h.number ≡ k) → (w : Worked L) × Contains works w × (w.hand.number ≡ k)
      there k h =
          let w = slice_get-map (λ (v : Worked L). v.hand) works h.0 h.1 h.2 in
          (w.0, Contains-slice_get works h.0 w.0 w.1, ap (λ (g : HandView). g.number) w.2 ∙ h.3)

  ledgers-by_number : (works sorted : List (Worked L)) → AreByNumber works sorted → AreLedgersOf (map (λ (w : Worked L). w.hand) works) (map (λ (h : HandView). h.ledger) (map (λ (w : Worked L). w.hand) sorted))
  ledgers-by_number works sorted by = record {
    as_many =
        length-map (map (λ (w : Worked L). w.hand) sorted) (λ (h : HandView). h.ledger) ∙ length-map sorted (λ (w : Worked L). w.hand)
        ∙ length_permutation works sorted by.0 ∙ sym (length-map works (λ (w : Worked L). w.hand));
    each = λ place h e. at place h (slice_get-map (λ (w : Worked L). w.hand) works place h e);
  }
    where
      at : (place : ℕ) (h : HandView) → (w : Worked L) × (slice_get works place ≡ Some w) × (w.hand ≡ h)
          → slice_get (map (λ (g : HandView). g.ledger) (map (λ (w : Worked L). w.hand) sorted)) h.number ≡ Some h.ledger
      at place h w =
          let among = slice_get-Contains sorted w.0 (Contains-permutation works sorted w.0 by.0 (Contains-slice_get works place w.0 w.1)) in
          let number : h.number ≡ among.0 = sym (ap (λ (g : HandView). g.number) w.2) ∙ by.1 among.0 w.0 among.1 in
          ap (slice_get (map (λ (g : HandView). g.ledger) (map (λ (v : Worked L). v.hand) sorted))) number
          ∙ slice_get-mapped (λ (g : HandView). g.ledger) (map (λ (v : Worked L). v.hand) sorted) among.0 w.0.hand (slice_get-mapped (λ (v : Worked L). v.hand) sorted among.0 w.0 among.1)
          ∙ ap (λ (g : HandView). Some g.ledger) w.2

  none-short : (F : Formula) (plan : Plan) (works : List (Worked L)) → All (λ w. IsWork F plan w.short_of_memory w.hand.ledger (map (solved_by lines) w.solved.items)) works → All (λ w. w.short_of_memory ≡ false) works
      → All (λ w. IsWork F plan false w.hand.ledger (map (solved_by lines) w.solved.items)) works
  none-short F plan [] all long = All-nil (λ (w : Worked L). IsWork F plan false w.hand.ledger (map (solved_by lines) w.solved.items))
  none-short F plan (w ∷ works) all long =
      All-cons (λ (v : Worked L). IsWork F plan false v.hand.ledger (map (solved_by lines) v.solved.items)) w works
      (subst (λ b. IsWork F plan b w.hand.ledger (map (solved_by lines) w.solved.items)) (All-head (λ (v : Worked L). v.short_of_memory ≡ false) w works long)
      (All-head (λ (v : Worked L). IsWork F plan v.short_of_memory v.hand.ledger (map (solved_by lines) v.solved.items)) w works all))
      (none-short F plan works (All-tail (λ (v : Worked L). IsWork F plan v.short_of_memory v.hand.ledger (map (solved_by lines) v.solved.items)) w works all) (All-tail (λ (v : Worked L). v.short_of_memory ≡ false) w works long))

  closed-from : (F : Formula) (plan : Plan) (works sorted : List (Worked L)) (hands : List HandView) (root : List Literal) (left : List (List Literal)) (least : Option ℕ) (undone : ℕ) → 1 ≤ length hands → AreByNumber works sorted
      → All (λ w. IsWork F plan w.short_of_memory w.hand.ledger (map (solved_by lines) w.solved.items)) works → All (λ w. w.short_of_memory ≡ false) works → hands ≡ map (λ (w : Worked L). w.hand) works → root ≡ []
      → ((ledgers : List Ledger) → AreLedgersOf hands ledgers → IsAllOnce root ledgers left) → ((ledgers : List Ledger) → AreLedgersOf hands ledgers → IsInOrder ledgers least undone) → length left < 2 ^ 64
      → IsClosed F plan (map (share_by lines) sorted) left least undone
  closed-from F plan works sorted hands root left least undone some by all long same at_root once order few =
      let ledgers : List Ledger = map (λ (h : HandView). h.ledger) (map (λ (w : Worked L). w.hand) sorted) in
      let of_hands : AreLedgersOf hands ledgers = subst (λ hs. AreLedgersOf hs ledgers) (sym same) (ledgers-by_number works sorted by) in
      let m : length hands ≡ length works = ap length same ∙ length-map works (λ (w : Worked L). w.hand) in
      let k : length sorted ≡ length works = length_permutation works sorted by.0 in
      let n : length (map (share_by lines) sorted) ≡ length sorted = length-map sorted (share_by lines) in
      record {
        some_hand = omega arith;
        works = All-map (λ s. IsWork F plan false s.ledger s.results) (share_by lines) sorted
            (none-short F plan sorted (All-permutation (λ (w : Worked L). IsWork F plan w.short_of_memory w.hand.ledger (map (solved_by lines) w.solved.items)) works sorted by.0 all) (All-permutation (λ (w : Worked L). w.short_of_memory ≡ false) works sorted by.0 long));
        once = rw shares-ledgers (subst (λ r. IsAllOnce r ledgers left) at_root (once ledgers of_hands));
        in_order = rw shares-ledgers (order ledgers of_hands);
        few_left = few;
      }

  -- so nothing was left and none to be done
  closed-whole : (F : Formula) (plan : Plan) (works : List (Worked L)) (left : List (List Literal)) (least : Option ℕ) (undone : ℕ) → IsClosed F plan (map (share_by lines) works) left least undone → IsHarvest F plan (map (share_by lines) works) left undone
  closed-whole F plan works left least undone closed = IsClosed-IsHarvest F plan (map (share_by lines) works) left least undone closed

  -- how often a cube was got doesn't depend on the order of the hands
  got-sum : (Q : List Literal) (works : List (Worked L)) → times Q (flat_map all_got (ledgers_of (map (share_by lines) works))) ≡ sum_by (λ (w : Worked L). times Q (all_got w.hand.ledger)) works
  got-sum Q [] = refl
  got-sum Q (w ∷ works) =
      let f : List Literal → ℕ = λ R. cond (same_cube Q R) 1 0 in
      let all = sum_by-append f (all_got w.hand.ledger) (flat_map all_got (ledgers_of (map (share_by lines) works))) in
      let rest = got-sum Q works in
      let first = sum_by-cons (λ (v : Worked L). times Q (all_got v.hand.ledger)) w works in
      omega arith

  once-any_order : (works sorted : List (Worked L)) → IsPermutation works sorted → ((Q : List Literal) → times Q (flat_map all_got (ledgers_of (map (share_by lines) sorted))) ≤ 1)
      → (Q : List Literal) → times Q (flat_map all_got (ledgers_of (map (share_by lines) works))) ≤ 1
  once-any_order works sorted p once Q =
      let a = got-sum Q works in
      let b = got-sum Q sorted in
      let c = sum_by-IsPermutation (λ (w : Worked L). times Q (all_got w.hand.ledger)) works sorted p in
      let d = once Q in
      omega arith

  -- nor does whether the results are whole
  all-results : (xs ys : List (Worked L)) (r : Solved) → IsPermutation xs ys → Contains (map (solved_by lines) (flat_map (λ (w : Worked L). w.solved.items) xs)) r → Contains (map (solved_by lines) (flat_map (λ (w : Worked L). w.solved.items) ys)) r
  all-results xs ys r p h =
      let s = map-Contains (solved_by lines) (flat_map (λ (w : Worked L). w.solved.items) xs) r h in
      let w = flat_map-Contains (λ (w : Worked L). w.solved.items) xs s.0 s.1 in
      subst (Contains (map (solved_by lines) (flat_map (λ (w : Worked L). w.solved.items) ys))) s.2
      (Contains-map (solved_by lines) (flat_map (λ (w : Worked L). w.solved.items) ys) s.0
      (Contains-flat_map (λ (w : Worked L). w.solved.items) ys w.0 s.0 (Contains-permutation xs ys w.0 p w.1) w.2))

  whole-any_order : (F : Formula) (plan : Plan) (works sorted : List (Worked L)) → IsPermutation works sorted → IsWhole F plan (results_of (map (share_by lines) sorted))
      → IsWhole F plan (map (solved_by lines) (flat_map (λ (w : Worked L). w.solved.items) works))
  whole-any_order F plan works sorted p whole =
      IsWhole-same F plan (map (solved_by lines) (flat_map (λ (w : Worked L). w.solved.items) sorted)) (map (solved_by lines) (flat_map (λ (w : Worked L). w.solved.items) works))
      (λ r h. all-results sorted works r (IsPermutation-sym works sorted p) h) (λ r h. all-results works sorted r p h)
      (subst (IsWhole F plan) (shares-results sorted) whole)

  pub harvested : (F : Formula) (plan : Plan) (pool : PoolView) (works : List (Worked L)) (hands : List HandView) (results : List (declared.Solved L)) (left : List (List Literal)) (least : Option ℕ) (undone : ℕ) → 1 ≤ pool.hands
      → AreAllOf pool (map (λ (w : Worked L). w.hand) works) → HaveWorked lines F plan works → All (λ w. w.short_of_memory ≡ false) works → hands ≡ map (λ (w : Worked L). w.hand) works → pool.root ≡ []
      → results ≡ flat_map (λ (w : Worked L). w.solved.items) works → ((ledgers : List Ledger) → AreLedgersOf hands ledgers → IsAllOnce pool.root ledgers left)
      → ((ledgers : List Ledger) → AreLedgersOf hands ledgers → IsInOrder ledgers least undone) → length left < 2 ^ 64 → AreHarvested lines F plan works results
  harvested F plan pool works hands results left least undone one all worked long same root are once order few =
      let by = hands-sorted pool works all in
      let harvest = closed-whole F plan by.0 left least undone (closed by.0 by.1) in
      record {
        least = least;
        closed = λ sorted is. closed-empty F plan (map (share_by lines) sorted) left least undone (closed-whole F plan sorted left least undone (closed sorted is)) (closed sorted is);
        once = once-any_order works by.0 by.1.0 harvest.none_twice;
        whole = subst (IsWhole F plan) (ap (map (solved_by lines)) (sym are)) (whole-any_order F plan works by.0 by.1.0 harvest.whole);
      }
    where
      some : 1 ≤ length hands
      some = let many : length hands ≡ pool.hands = ap length same ∙ all.as_many in omega arith

      closed : (sorted : List (Worked L)) → AreByNumber works sorted → IsClosed F plan (map (share_by lines) sorted) left least undone
      closed sorted is = closed-from F plan works sorted hands pool.root left least undone some is worked long same root once order few
