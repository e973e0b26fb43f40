-- Once the pool is closed and no hand ran short of memory, nothing is left, and nothing is counted
-- as to be done.
use Rattle.std.proofs.Common.{◌≡◌, ℕ, suc, zero, ◌+◌, ◌≤◌, Bool, true, false, cond, List, [], ◌∷◌, ◌++◌, map, length, Option, Some, None, slice_get, sum_by, count_by, Contains, refl, sym, ap, ◌∙◌, subst, arith, inl, inr}
use Rattle.std.proofs.lemmas.List.{nil_from_length, length-map}
use Rattle.std.proofs.lemmas.List.Sums.{sum_by-cons}
use Rattle.std.proofs.lemmas.List.Concat.{length-flat_map}
use Rattle.theory.specs.Literals.{Literal}
use Rattle.theory.specs.Truth.{Formula}
use Rattle.theory.specs.Plans.{Plan}
use Rattle.theory.specs.Ledger.{Call, still_open, halt, halted, Ledger, all_got, is_more, is_less}
use Rattle.theory.specs.Order.{first_words, words_after, entries_of}
use Rattle.theory.specs.Work.{IsThorough, WentHome, IsWork}
use Rattle.theory.specs.Harvest.{Share, ledgers_of, got_by_all, put_by_all, IsClosed}
use Rattle.theory.proofs.literals.Membership.{Contains-here, Contains-there, All-at, Contains-slice_get, slice_get-below, map-Contains}
use Rattle.theory.proofs.hands.OrderSums.{sum_by-IsOrderOf, sum_by-IsAllOnce}
use Rattle.theory.proofs.hands.OrderEnds.{calls_in, is-counted, order-ledgers, LastIsHome, WentHome-last, none-undone}

-- sums over all hands
pub sum_by-le : {A : Type 0} (f g : A → ℕ) (xs : List A) → ((x : A) → Contains xs x → f x ≤ g x) → sum_by f xs ≤ sum_by g xs
sum_by-le f g [] h = omega arith
sum_by-le f g (x ∷ xs) h =
    let a = sum_by-cons f x xs in let b = sum_by-cons g x xs in let c = h x (Contains-here x xs) in
    let d = sum_by-le f g xs (λ y i. h y (Contains-there x xs y i)) in omega arith

sum_by-both : {A : Type 0} (a b c d : A → ℕ) (xs : List A) → ((x : A) → Contains xs x → a x + b x ≡ c x + d x) → sum_by a xs + sum_by b xs ≡ sum_by c xs + sum_by d xs
sum_by-both a b c d [] h = refl
sum_by-both a b c d (x ∷ xs) h =
    let p = sum_by-cons a x xs in let q = sum_by-cons b x xs in let r = sum_by-cons c x xs in let s = sum_by-cons d x xs in
    let t = h x (Contains-here x xs) in let u = sum_by-both a b c d xs (λ y i. h y (Contains-there x xs y i)) in omega arith

pub sum_by-one : {A : Type 0} (xs : List A) → sum_by (λ (x : A). 1) xs ≡ length xs
sum_by-one [] = refl
sum_by-one {A = A} (x ∷ xs) = let a = sum_by-cons (λ (y : A). 1) x xs in let b = sum_by-one xs in omega arith

not-nil : {A : Type 0} (before : List A) (x : A) → before ++ x ∷ [] ≡ [] → ⊥
not-nil [] x h = cc
not-nil (y ∷ before) x h = cc

module _ (F : Formula) (plan : Plan) (shares : List Share) (left : List (List Literal)) (least : Option ℕ) (undone : ℕ) (closed : IsClosed F plan shares left least undone) where
  pub work-of : (s : Share) → Contains shares s → IsWork F plan false s.ledger s.results
  work-of s h = All-at (λ t. IsWork F plan false t.ledger t.results) shares s closed.works h

  pub thorough-of : (s : Share) → Contains shares s → IsThorough F plan s.ledger s.results
  thorough-of s h = (work-of s h).thorough refl

  -- what is so of each share's ledger is so of each ledger
  pub each-ledger : (P : Ledger → Type 0) → ((s : Share) → Contains shares s → P s.ledger) → (l : Ledger) → Contains (ledgers_of shares) l → P l
  each-ledger P f l h = let m = map-Contains (λ (s : Share). s.ledger) shares l h in subst P m.2 (f m.0 m.1)

  no-halt : ¬ (Contains (calls_in closed.in_order.order) halt)
  no-halt h =
      let found = order-ledgers (λ l. l.calls) (ledgers_of shares) closed.in_order.order halt closed.in_order.of_calls h in
      each-ledger (λ l. ¬ (Contains l.calls halt)) (λ s i. (thorough-of s i).no_halt) found.0 found.1 found.2

  went-home : (l : Ledger) → Contains (ledgers_of shares) l → WentHome l.calls
  went-home = each-ledger (λ l. WentHome l.calls) (λ s i. (work-of s i).went_home refl)

  last-of : (hand : ℕ) → LastIsHome (entries_of hand closed.in_order.order)
  last-of hand = go (slice_get (ledgers_of shares) hand) refl
    where
      past : (hand : ℕ) (ls : List Ledger) → slice_get ls hand ≡ None → length ls ≤ hand
      past hand [] e = omega arith
      past zero (l ∷ ls) e = absurd (cc)
      past (suc hand) (l ∷ ls) e = let p = past hand ls e in omega arith

      go : (o : Option Ledger) → slice_get (ledgers_of shares) hand ≡ o → LastIsHome (entries_of hand closed.in_order.order)
      go (Some l) e = subst LastIsHome (sym (closed.in_order.of_calls.each hand l e)) (WentHome-last l.calls (went-home l (Contains-slice_get (ledgers_of shares) hand l e)))
      go None e = subst LastIsHome (sym (closed.in_order.of_calls.no_other hand (past hand (ledgers_of shares) e))) tt

  -- the hands went home, so nothing was counted as to be done
  pub none_undone : undone ≡ 0
  none_undone = sym closed.in_order.undone_is ∙ go closed.in_order.order refl
    where
      first : Ledger
      first = (slice_get-below shares 0 closed.some_hand).0.ledger

      first-at : (xs : List Share) (s : Share) → slice_get xs 0 ≡ Some s → slice_get (map (λ (t : Share). t.ledger) xs) 0 ≡ Some s.ledger
      first-at [] s e = absurd (cc)
      first-at (t ∷ xs) s e = let one : t ≡ s = cc in ap (λ (u : Share). Some u.ledger) one

      empty-order : (order : List (ℕ × Call)) → order ≡ [] → closed.in_order.order ≡ order → ⊥
      empty-order order e f =
          let at = slice_get-below shares 0 closed.some_hand in
          let l = first-at shares at.0 at.1 in
          let calls : entries_of 0 closed.in_order.order ≡ at.0.ledger.calls = closed.in_order.of_calls.each 0 at.0.ledger l in
          let none : entries_of 0 closed.in_order.order ≡ [] = ap (entries_of 0) (f ∙ e) in
          let home = went-home at.0.ledger (Contains-slice_get (ledgers_of shares) 0 at.0.ledger l) in
          elim home.1 [ inl g ↦ not-nil home.0 (still_open 0) (sym g ∙ sym calls ∙ none) | inr g ↦ not-nil home.0 (halted true) (sym g ∙ sym calls ∙ none) ]

      go : (order : List (ℕ × Call)) → closed.in_order.order ≡ order → (words_after first_words closed.in_order.order).undone ≡ 0
      go [] f = absurd (empty-order [] refl f)
      go (entry ∷ order) f =
          ap (λ o. (words_after first_words o).undone) f
          ∙ none-undone first_words entry order (rw f at closed.in_order.replays) (rw f at no-halt) refl (λ hand. rw f at (last-of hand))

  -- as many were counted as to be done as were put, and as done as were got
  counted : (p : Call → Bool) → count_by p (calls_in closed.in_order.order) ≡ sum_by (λ l. count_by p l.calls) (ledgers_of shares)
  counted p = sum_by-IsOrderOf (λ c. cond (p c) 1 0) (λ l. l.calls) (ledgers_of shares) closed.in_order.order closed.in_order.of_calls

  pub some-ledger : 1 ≤ length (ledgers_of shares)
  some-ledger = let l = length-map shares (λ (s : Share). s.ledger) in let m = closed.some_hand in omega arith

  pub none_left : left ≡ []
  none_left =
      let o = is-counted first_words closed.in_order.order in
      let end = closed.in_order.undone_is ∙ none_undone in
      let a = counted is_more in
      let b = counted is_less in
      let each = sum_by-both (λ l. count_by is_more l.calls) (λ l. length (all_got l)) (λ l. count_by is_less l.calls) (λ (l : Ledger). length l.put) (ledgers_of shares)
      (each-ledger (λ l. count_by is_more l.calls + length (all_got l) ≡ count_by is_less l.calls + length l.put) (λ s i. (thorough-of s i).balance)) in
      let got = length-flat_map all_got (ledgers_of shares) in
      let put = length-flat_map (λ (l : Ledger). l.put) (ledgers_of shares) in
      let all = sum_by-IsAllOnce (λ (Q : List Literal). 1) [] (ledgers_of shares) left some-ledger closed.once in
      let c = sum_by-one (got_by_all (ledgers_of shares)) in
      let d = sum_by-one (put_by_all (ledgers_of shares)) in
      let e = sum_by-one left in
      let few = closed.few_left in
      let none : length left ≡ 0 = omega (arith, o.counted) in
      nil_from_length left none
