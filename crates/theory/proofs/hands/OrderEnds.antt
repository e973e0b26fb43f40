-- An order of calls that replays: what it ends with, and where the answers come from.
use Rattle.std.proofs.Common.{◌≡◌, ◌≢◌, ℕ, ◌+◌, ◌*◌, ◌/◌, ◌^◌, ◌-◌, ◌<◌, ◌≤◌, min, Bool, true, false, nat_eq, eq-eqb, eqb-true, List, [], ◌∷◌, ◌++◌, map, length, Option, Some, None, count_by, cond, Contains, refl, sym, ap, ◌∙◌, subst, arith, inl, inr, ◌⊎◌, div-add-mod', if◌then◌else◌}
use Rattle.std.proofs.lemmas.List.Sums.{sum_by-cons}
use Rattle.theory.specs.Ledger.{Call, offer, look, more, less, still_open, halt, halted, Ledger, is_more, is_less}
use Rattle.theory.specs.Order.{Words, lower, after_call, AnswersRightly, Replays, words_after, entries_of, IsOrderOf}
use Rattle.theory.specs.Work.{WentHome}
use Rattle.theory.proofs.literals.Membership.{Contains-here, Contains-there, Contains-cases, Contains-none, slice_get-below, Contains-slice_get, slice_get-Contains}

abbrev pub calls_in : List (ℕ × Call) → List Call
calls_in order = map (λ entry. entry.1) order

-- the count at the end, and the calls that lower it, are the count at first and the calls that
-- raise it, but for wholes of 2 ^ 64
pub record IsCounted (w : Words) (order : List (ℕ × Call)) : Type 0 where
  pub over : ℕ
  pub under : ℕ
  pub counted : (words_after w order).undone + count_by is_less (calls_in order) + over * 2 ^ 64 ≡ w.undone + count_by is_more (calls_in order) + under * 2 ^ 64

count-more : (c : Call) (cs : List Call) → count_by is_more (c ∷ cs) ≡ cond (is_more c) 1 0 + count_by is_more cs
count-more c cs = sum_by-cons (λ d. cond (is_more d) 1 0) c cs

count-less : (c : Call) (cs : List Call) → count_by is_less (c ∷ cs) ≡ cond (is_less c) 1 0 + count_by is_less cs
count-less c cs = sum_by-cons (λ d. cond (is_less d) 1 0) c cs

-- one call, which is neither or one of both
counted-step : (w : Words) (entry : ℕ × Call) (order : List (ℕ × Call)) (over under : ℕ)
    → (after_call w entry.1).undone + cond (is_less entry.1) 1 0 + over * 2 ^ 64 ≡ w.undone + cond (is_more entry.1) 1 0 + under * 2 ^ 64
    → IsCounted (after_call w entry.1) order → IsCounted w (entry ∷ order)
counted-step w entry order over under e h = record {
  over = h.over + over;
  under = h.under + under;
  counted = let f = h.counted in let a = count-more entry.1 (calls_in order) in let b = count-less entry.1 (calls_in order) in omega arith;
}

pub is-counted : (w : Words) (order : List (ℕ × Call)) → IsCounted w order
is-counted w [] = record { over = 0; under = 0; counted = refl }
is-counted w (entry ∷ order) = go entry.1 refl (is-counted (after_call w entry.1) order)
  where
    go : (c : Call) → entry.1 ≡ c → IsCounted (after_call w entry.1) order → IsCounted w (entry ∷ order)
    go (offer place) e h = counted-step w entry order 0 0 (rw e refl) h
    go (look seen) e h = counted-step w entry order 0 0 (rw e refl) h
    go more e h = counted-step w entry order ((w.undone + 1) / 2 ^ 64) 0 (rw e (let d = div-add-mod' (w.undone + 1) (2 ^ 64) in omega arith)) h
    go less e h = counted-step w entry order ((w.undone + (2 ^ 64 - 1)) / 2 ^ 64) 1 (rw e (let d = div-add-mod' (w.undone + (2 ^ 64 - 1)) (2 ^ 64) in omega arith)) h
    go (still_open n) e h = counted-step w entry order 0 0 (rw e refl) h
    go halt e h = counted-step w entry order 0 0 (rw e refl) h
    go (halted b) e h = counted-step w entry order 0 0 (rw e refl) h

-- a place that was seen is the least one at first, or was offered
lower-cases : (least : Option ℕ) (p place : ℕ) → lower least p ≡ Some place → (least ≡ Some place) ⊎ (p ≡ place)
lower-cases None p place e = inr (cc)
lower-cases (Some q) p place e = go (min-cases q p)
  where
    min-cases : (a b : ℕ) → (min a b ≡ a) ⊎ (min a b ≡ b)
    min-cases a b = omega-cases (nat_eq (min a b) a) refl
      where
        omega-cases : (t : Bool) → nat_eq (min a b) a ≡ t → (min a b ≡ a) ⊎ (min a b ≡ b)
        omega-cases true f = inl (eqb-true (min a b) a f)
        omega-cases false f = inr (let d : min a b ≢ a = (λ g. let h = eq-eqb (min a b) a g in cc) in omega (arith, d))

    go : (min q p ≡ q) ⊎ (min q p ≡ p) → (Some q ≡ Some place) ⊎ (p ≡ place)
    go (inl f) = inl (let g : min q p ≡ place = cc in ap Some (sym f ∙ g))
    go (inr f) = inr (let g : min q p ≡ place = cc in sym f ∙ g)

least-after : (w : Words) (c : Call) (place : ℕ) → (after_call w c).least ≡ Some place → (w.least ≡ Some place) ⊎ (c ≡ offer place)
least-after w (offer p) place e = go (lower-cases w.least p place e)
  where
    go : (w.least ≡ Some place) ⊎ (p ≡ place) → (w.least ≡ Some place) ⊎ (offer p ≡ offer place)
    go (inl f) = inl f
    go (inr f) = inr (ap offer f)
least-after w (look seen) place e = inl e
least-after w more place e = inl e
least-after w less place e = inl e
least-after w (still_open n) place e = inl e
least-after w halt place e = inl e
least-after w (halted b) place e = inl e

pub seen-offered : (w : Words) (order : List (ℕ × Call)) (place : ℕ) → Replays w order → Contains (calls_in order) (look (Some place))
    → (w.least ≡ Some place) ⊎ Contains (calls_in order) (offer place)
seen-offered w [] place r h = absurd (Contains-none (look (Some place)) h)
seen-offered w (entry ∷ order) place r h = go (Contains-cases entry.1 (calls_in order) (look (Some place)) h) (seen-offered (after_call w entry.1) order place r.1)
  where
    first : (c : Call) → c ≡ look (Some place) → AnswersRightly w c → w.least ≡ Some place
    first c e right = (let right_there : AnswersRightly w (look (Some place)) = subst (AnswersRightly w) e right in right_there)

    later : (after_call w entry.1).least ≡ Some place ⊎ Contains (calls_in order) (offer place) → (w.least ≡ Some place) ⊎ Contains (calls_in (entry ∷ order)) (offer place)
    later (inr c) = inr (Contains-there entry.1 (calls_in order) (offer place) c)
    later (inl e) = elim (least-after w entry.1 place e) [
      | inl f ↦ inl f
      | inr f ↦ inr (subst (λ c. Contains (entry.1 ∷ calls_in order) c) f (Contains-here entry.1 (calls_in order)))
    ]

    go : (entry.1 ≡ look (Some place)) ⊎ Contains (calls_in order) (look (Some place))
        → (Contains (calls_in order) (look (Some place)) → (after_call w entry.1).least ≡ Some place ⊎ Contains (calls_in order) (offer place))
        → (w.least ≡ Some place) ⊎ Contains (calls_in (entry ∷ order)) (offer place)
    go (inl e) next = inl (first entry.1 e r.0)
    go (inr c) next = later (next c)

-- what is in an order is in what some hand did, and the other way round
module _ {X : Type 0} where
  abbrev entries : List (ℕ × X) → List X
  entries order = map (λ entry. entry.1) order

  pub order-entries : (order : List (ℕ × X)) (x : X) → Contains (entries order) x → (hand : ℕ) × Contains (entries_of hand order) x
  order-entries [] x h = absurd (Contains-none x h)
  order-entries (entry ∷ order) x h = go (Contains-cases entry.1 (entries order) x h) (order-entries order x)
    where
      kept : (hand : ℕ) (b : Bool) → Contains (entries_of hand order) x → Contains (if b then entry.1 ∷ entries_of hand order else entries_of hand order) x
      kept hand true c = Contains-there entry.1 (entries_of hand order) x c
      kept hand false c = c

      go : (entry.1 ≡ x) ⊎ Contains (entries order) x → (Contains (entries order) x → (hand : ℕ) × Contains (entries_of hand order) x) → (hand : ℕ) × Contains (entries_of hand (entry ∷ order)) x
      go (inl e) next = (
        entry.0,
        subst (λ b. Contains (if b then entry.1 ∷ entries_of entry.0 order else entries_of entry.0 order) x) (sym (eq-eqb entry.0 entry.0 refl))
            (subst (λ y. Contains (entry.1 ∷ entries_of entry.0 order) y) e (Contains-here entry.1 (entries_of entry.0 order))),
      )
      go (inr c) next = let n = next c in (n.0, kept n.0 (nat_eq n.0 entry.0) n.1)

  pub entries-order : (hand : ℕ) (order : List (ℕ × X)) (x : X) → Contains (entries_of hand order) x → Contains (entries order) x
  entries-order hand [] x h = h
  entries-order hand (entry ∷ order) x h = go (nat_eq hand entry.0) h (entries-order hand order x)
    where
      go : (b : Bool) → Contains (if b then entry.1 ∷ entries_of hand order else entries_of hand order) x → (Contains (entries_of hand order) x → Contains (entries order) x)
          → Contains (entry.1 ∷ entries order) x
      go true h next = elim (Contains-cases entry.1 (entries_of hand order) x h) [
        | inl e ↦ subst (λ y. Contains (entry.1 ∷ entries order) y) e (Contains-here entry.1 (entries order))
        | inr c ↦ Contains-there entry.1 (entries order) x (next c)
      ]
      go false h next = Contains-there entry.1 (entries order) x (next h)

  pub order-ledgers : (own : Ledger → List X) (ledgers : List Ledger) (order : List (ℕ × X)) (x : X) → IsOrderOf own ledgers order → Contains (entries order) x
      → (l : Ledger) × Contains ledgers l × Contains (own l) x
  order-ledgers own ledgers order x o h =
      let found = order-entries order x h in
      let below : found.0 < length ledgers = omega (arith, past found.0 found.1) in
      let at = slice_get-below ledgers found.0 below in
      (at.0, Contains-slice_get ledgers found.0 at.0 at.1, subst (λ xs. Contains xs x) (o.each found.0 at.0 at.1) found.1)
    where
      past : (hand : ℕ) → Contains (entries_of hand order) x → length ledgers ≤ hand → ⊥
      past hand c l = Contains-none x (subst (λ xs. Contains xs x) (o.no_other hand l) c)

  pub ledgers-order : (own : Ledger → List X) (ledgers : List Ledger) (order : List (ℕ × X)) (x : X) → IsOrderOf own ledgers order → (l : Ledger) → Contains ledgers l → Contains (own l) x
      → Contains (entries order) x
  ledgers-order own ledgers order x o l h c =
      let at = slice_get-Contains ledgers l h in
      entries-order at.0 order x (subst (λ xs. Contains xs x) (sym (o.each at.0 l at.1)) c)

-- the call after which a hand goes home
abbrev IsHome : Call → Type 0
IsHome (still_open n) = n ≡ 0
IsHome (halted b) = b ≡ true
IsHome call = ⊥

abbrev pub LastIsHome : List Call → Type 0
LastIsHome [] = Unit {0}
LastIsHome (c ∷ []) = IsHome c
LastIsHome (c ∷ d ∷ cs) = LastIsHome (d ∷ cs)

last-home : (before : List Call) (c : Call) → IsHome c → LastIsHome (before ++ c ∷ [])
last-home [] c h = h
last-home (d ∷ []) c h = h
last-home (d ∷ e ∷ before) c h = last-home (e ∷ before) c h

pub WentHome-last : (calls : List Call) → WentHome calls → LastIsHome calls
WentHome-last calls h = go h.1
  where
    go : (calls ≡ h.0 ++ still_open 0 ∷ []) ⊎ (calls ≡ h.0 ++ halted true ∷ []) → LastIsHome calls
    go (inl e) = subst LastIsHome (sym e) (last-home h.0 (still_open 0) refl)
    go (inr e) = subst LastIsHome (sym e) (last-home h.0 (halted true) refl)

still_on : (w : Words) (c : Call) → c ≢ halt → w.has_halted ≡ false → (after_call w c).has_halted ≡ false
still_on w (offer p) n h = h
still_on w (look a) n h = h
still_on w more n h = h
still_on w less n h = h
still_on w (still_open k) n h = h
still_on w halt n h = absurd (n refl)
still_on w (halted b) n h = h

home-zero : (w : Words) (c : Call) → AnswersRightly w c → IsHome c → w.has_halted ≡ false → (after_call w c).undone ≡ 0
home-zero w (offer p) a i h = absurd i
home-zero w (look x) a i h = absurd i
home-zero w more a i h = absurd i
home-zero w less a i h = absurd i
home-zero w (still_open n) a i h = a ∙ i
home-zero w halt a i h = absurd i
home-zero w (halted b) a i h = absurd (let t : b ≡ true = i in let e : w.has_halted ≡ b = a in cc)

rest-home : (c : Call) (cs : List Call) → LastIsHome (c ∷ cs) → LastIsHome cs
rest-home c [] h = tt
rest-home c (d ∷ cs) h = h

-- Where no hand halts and each went home, nothing is counted as to be done at the end.
pub none-undone : (w : Words) (entry : ℕ × Call) (order : List (ℕ × Call)) → Replays w (entry ∷ order) → ¬ (Contains (calls_in (entry ∷ order)) halt) → w.has_halted ≡ false
    → ((hand : ℕ) → LastIsHome (entries_of hand (entry ∷ order))) → (words_after w (entry ∷ order)).undone ≡ 0
none-undone w entry [] r n h last =
    home-zero w entry.1 r.0 (subst (λ (b : Bool). LastIsHome (if b then entry.1 ∷ [] else [])) (eq-eqb entry.0 entry.0 refl) (last entry.0)) h
none-undone w entry (next ∷ order) r n h last =
    none-undone (after_call w entry.1) next order r.1 (λ c. n (Contains-there entry.1 (calls_in (next ∷ order)) halt c))
    (still_on w entry.1 (λ e. n (subst (λ c. Contains (entry.1 ∷ calls_in (next ∷ order)) c) e (Contains-here entry.1 (calls_in (next ∷ order))))) h)
    (λ hand. later hand (nat_eq hand entry.0) (last hand))
  where
    later : (hand : ℕ) (b : Bool) → LastIsHome (if b then entry.1 ∷ entries_of hand (next ∷ order) else entries_of hand (next ∷ order)) → LastIsHome (entries_of hand (next ∷ order))
    later hand true x = rest-home entry.1 (entries_of hand (next ∷ order)) x
    later hand false x = x
