-- Each call on the words keeps their rule.
use Rattle.std.proofs.Common.{◌≡◌, ◌≢◌, ℕ, zero, suc, ◌+◌, ◌-◌, ◌%◌, ◌^◌, ◌<◌, ◌≤◌, min, max, Bool, true, false, true≢false, cond, ne_eqb, List, [], ◌∷◌, ◌++◌, set, Option, Some, None, sym, refl, ap, ◌∙◌, subst, ⊎_elim, arith}
use Rattle.std.specs.Prelude.{◌==◌, slice_index}
use mathlib.Core.Option.{some, some-ne-none, some-injective}
use lib.ListN.{get_elem?}
use Rattle.atomic_table.specs.Table.{Me, Act, Allows, Splits, Joins, Valid, homes_after, carried_after, opening}
use Rattle.atomic_table.specs.Table.Act.{keeps}
use Rattle.crossbeam_deque.proofs.Lists.{at_set, at_snoc}
use Rattle.theory.specs.Order.{entries_of}
use Rattle.theory.specs.Ledger.{Call}
use Rattle.theory.specs.Ledger.{offer, look, more, less, still_open, halt, halted}
use Rattle.pool.specs.SeatNotes.{SeatNotes}
use Rattle.theory.specs.Order.{Words}
use Rattle.theory.specs.Order.{first_words, lower, after_call, AnswersRightly, words_after}
use Rattle.pool.specs.SeatNotes.{first_notes, hand_notes, spent_notes}
use Rattle.pool.specs.Words.{Owes, code, decode, bit, coded, Sane, with_call, called, both_calls, calls_of, Endings, Speaks, Ordered, own_calls, MakesCall, AllHere, Seals, ReadsUndone}
use Rattle.pool.proofs.Tallies.{Tally-begins, Tally-same, Tally-adds, Tally-forks, Tally-merges, Tally-learns}
use Rattle.pool.proofs.RightAnswers.{words_after-snoc, Replays-snoc, Owes-end}

off : {P : Type 0} → false ≡ true → P
off e = absurd (true≢false (sym e))

-- the call that a step on the word i is, by what it finds
abbrev pub Does : ℕ → (ℕ → ℕ) → (ℕ → Call) → Type 0
Does i f call = (s : Words) → Sane s.least → slice_index (coded s) i < 18446744073709551616
    → AnswersRightly s (call (slice_index (coded s) i)) × (set (coded s) i (f (slice_index (coded s) i)) ≡ coded (after_call s (call (slice_index (coded s) i)))) × Sane (after_call s (call (slice_index (coded s) i))).least

speaks_set : (made : ℕ) (last : Option Words) (views : List SeatNotes) (port : ℕ) (w : SeatNotes) (now : Option Words) → ((j : ℕ) (u : SeatNotes) → j ≢ port → get_elem? views j ≡ some u → Speaks made now j u) → Speaks made now port w → (j : ℕ) (u : SeatNotes) → get_elem? (set views port w) j ≡ some u → Speaks made now j u
speaks_set made last views port w now others mine j u e =
    ⊎_elim
    (λ (x : (j ≡ port) × (w ≡ u)). subst (λ (y : ℕ × SeatNotes). Speaks made now y.0 y.1) (λ i. (sym x.0 i, x.1 i)) mine)
    (λ (x : (j ≢ port) × (get_elem? views j ≡ some u)). others j u x.0 x.1)
    (at_set views port j w u e)

pub speaks : {S : Type 0} (slots id : ℕ) (m : Me S SeatNotes) (k : ℕ) (cs : List Call) (ns : List (ℕ × List Call)) (i : ℕ) (f : ℕ → ℕ) (call : ℕ → Call) → m.0.is_first ≡ false → m.0.calls ≡ (k, cs) ∷ ns → Does i f call
    → Allows Ordered slots id m i f (λ found n. MakesCall (call found) m n)
speaks {S} slots id m k cs ns i f call plain is does s h len at fits =
    subst (λ (ws : List ℕ). (w : SeatNotes) × (a : Act S) × Valid s.homes m.1 a × Ordered record { words = set ws i (f (slice_index ws i)); homes = homes_after s.homes m.1 a; views = set s.views id w } × MakesCall (call (slice_index ws i)) m (w, carried_after m.1 a))
    (sym h.4) (said (subst (λ (ws : List ℕ). slice_index ws i < 18446744073709551616) h.4 fits))
  where
    said : slice_index (coded (words_after first_words h.2)) i < 18446744073709551616 → (w : SeatNotes) × (a : Act S) × Valid s.homes m.1 a
        × Ordered record { words = set (coded (words_after first_words h.2)) i (f (slice_index (coded (words_after first_words h.2)) i)); homes = homes_after s.homes m.1 a; views = set s.views id w } × MakesCall (call (slice_index (coded (words_after first_words h.2)) i)) m (w, carried_after m.1 a)
    said small =
        let c : Call = call (slice_index (coded (words_after first_words h.2)) i) in
        let d = does (words_after first_words h.2) h.5 small in
        let w : SeatNotes = called m.0 c in
        let now : w.calls ≡ (k, cs ++ c ∷ []) ∷ ns = ap (with_call c) is in
        let order : List (ℕ × Call) = h.2 ++ (k, c) ∷ [] in
        let end' = words_after-snoc first_words h.2 k c in
        let none = (h.8 id m.0 at).1 plain (k, cs) ns is in
        let mine : entries_of k h.2 ≡ cs = (Tally-learns calls_of h.0 h.2 s.views id m.0 0 (k, cs) at (ap (λ (l : List (ℕ × List Call)). get_elem? l 0) is) h.6).1 in (
          w,
          keeps,
          tt,
          (
            h.0,
            None,
            order,
            Replays-snoc first_words h.2 k c h.3 d.0,
            d.1 ∙ ap coded (sym end'),
            subst (λ (t : Words). Sane t.least) (sym end') d.2,
            Tally-adds calls_of h.0 h.2 s.views id m.0 w k cs ns c at is now h.6,
            tt,
            speaks_set h.0 h.1 s.views id w None
                (λ j u _ e. subst (λ (o : Option Words). Speaks h.0 o j u) none (h.8 j u e))
                ((λ p. off (sym plain ∙ p)), λ _ n l q. refl),
          ),
          (refl, subst (λ (l : List Call). Owes l c) (mine ∙ sym (ap own_calls is)) (Owes-end h.2 k c h.3 d.0)),
        )

-- the seven steps
least_min : (a : Option ℕ) (p : ℕ) → Sane a → p < 2 ^ 32 → (min (code a) p ≡ code (lower a p)) × Sane (lower a p)
least_min None p sane small = (omega arith, small)
least_min (Some q) p sane small = (refl, omega arith)

pub offers : (p : ℕ) → p < 2 ^ 32 → Does 0 (λ n. min n p) (λ _. offer p)
offers p small s sane fits = let l = least_min s.least p sane small in (tt, ap (λ (n : ℕ). n ∷ s.undone ∷ bit s.has_halted ∷ []) l.0, l.1)

decoded : (a : Option ℕ) → Sane a → a ≡ decode (code a)
decoded None sane = refl
decoded (Some p) sane = ap (λ b. cond b None (Some p)) (sym (ne_eqb p 18446744073709551615 (omega arith)))

pub looks : Does 0 (λ n. n) (λ n. look (decode n))
looks s sane fits = (decoded s.least sane, refl, sane)

pub mores : Does 1 (λ n. (n + 1) % 2 ^ 64) (λ _. more)
mores s sane fits = (tt, refl, sane)

pub lesses : Does 1 (λ n. (n + (2 ^ 64 - 1)) % 2 ^ 64) (λ _. less)
lesses s sane fits = (tt, refl, sane)

pub opens : Does 1 (λ n. n) (λ n. still_open n)
opens s sane fits = (refl, refl, sane)

max_bit : (b : Bool) → max (bit b) 1 ≡ 1
max_bit true = refl
max_bit false = refl

pub halts : Does 2 (λ n. max n 1) (λ _. halt)
halts s sane fits = (tt, ap (λ (n : ℕ). code s.least ∷ s.undone ∷ n ∷ []) (max_bit s.has_halted), sane)

is_bit : (b : Bool) → b ≡ (bit b == 1)
is_bit true = refl
is_bit false = refl

pub sees_halt : Does 2 (λ n. n) (λ n. halted (n == 1))
sees_halt s sane fits = (is_bit s.has_halted, refl, sane)

pub starts : (S : Type 0) → Ordered (opening {S = S} (18446744073709551615 ∷ 1 ∷ 0 ∷ []) [] (first_notes 0))
starts S = (0, None, [], tt, refl, tt, Tally-begins calls_of (first_notes 0) refl, tt, one)
  where
    one : (port : ℕ) (v : SeatNotes) → get_elem? (first_notes 0 ∷ []) port ≡ some v → Speaks 0 None port v
    one zero v e = subst (Speaks 0 None 0) (some-injective _ _ e) ((λ _. (refl, refl, refl)), λ p. absurd (true≢false p))
    one (suc port) v e = absurd (some-ne-none v (sym e))

pub seats : (S : Type 0) (id : ℕ) (v : SeatNotes) → v.is_first ≡ true → v.last ≡ None → Splits {S = S} Ordered id v (record v { made = v.made + 1 }) (hand_notes v.made)
seats S id v is_first none s h at =
    let mine = (h.8 id v at).0 is_first in
    let l : SeatNotes = record v { made = v.made + 1 } in
    let r : SeatNotes = hand_notes v.made in (
      h.0 + 1,
      h.1,
      h.2,
      h.3,
      h.4,
      h.5,
      Tally-forks calls_of h.0 h.2 s.views id v l r at refl (ap (λ (k : ℕ). (k, []) ∷ []) mine.1) h.6,
      h.7,
      λ j u e. ⊎_elim
          (λ (was : get_elem? (set s.views id l) j ≡ some u). speaks_set (h.0 + 1) h.1 s.views id l h.1
          (λ i y other q. ((λ p. absurd (other (((h.8 i y q).0 p).0 ∙ sym mine.0))), (h.8 i y q).1))
          ((λ _. (mine.0, ap (λ (k : ℕ). k + 1) mine.1, mine.2)), λ p. off (sym p ∙ is_first)) j u was)
          (λ (is : r ≡ u). subst (Speaks (h.0 + 1) h.1 j) is ((λ p. off p), λ _ n ns q. sym mine.2 ∙ none))
          (at_snoc (set s.views id l) r u j e),
    )

pub joins : (S : Type 0) (id : ℕ) (v : SeatNotes) (other : ℕ) (u : SeatNotes) → v.is_first ≡ true → Joins {S = S} Ordered id v other u (both_calls v u) spent_notes
joins S id v other u is_first s h at apart there =
    let mine = (h.8 id v at).0 is_first in
    let b : SeatNotes = both_calls v u in (
      h.0,
      h.1,
      h.2,
      h.3,
      h.4,
      h.5,
      Tally-merges calls_of h.0 h.2 s.views id v other u b spent_notes at apart there refl refl h.6,
      h.7,
      speaks_set h.0 h.1 (set s.views id b) other spent_notes h.1
          (λ j y _ e. speaks_set h.0 h.1 s.views id b h.1 (λ i z _ q. h.8 i z q) ((λ _. mine), λ p. off (sym p ∙ is_first)) j y e)
          ((λ p. off p), λ _ n ns q. absurd (none_at n ns q)),
    )
  where
    none_at : {A : Type 0} (a : A) (l : List A) → [] ≡ a ∷ l → ⊥
    none_at a l e = cc

-- at the end the first seat has all notes
pub seals : {S : Type 0} (slots id : ℕ) (m : Me S SeatNotes) → m.0.is_first ≡ true → AllHere m.0 → Allows {S = S} Ordered slots id m 0 (λ n. n) (λ found n. Seals m found n)
seals {S} slots id m is_first all s h len at fits =
    let mine = (h.8 id m.0 at).0 is_first in
    let t : Words = words_after first_words h.2 in
    let w : SeatNotes = record m.0 { last = Some t } in (
      w,
      keeps,
      tt,
      (
        h.0,
        Some t,
        h.2,
        h.3,
        set_same s.words ∙ h.4,
        h.5,
        Tally-same calls_of h.0 h.2 s.views id m.0 w at refl h.6,
        refl,
        speaks_set h.0 h.1 s.views id w (Some t)
            (λ j u other e. ((λ p. absurd (other (((h.8 j u e).0 p).0 ∙ sym mine.0))), λ _ n ns q. absurd (other (lone j u n ns e q))))
            ((λ _. (mine.0, mine.1, refl)), λ p. off (sym p ∙ is_first)),
      ),
      (t, refl, ap (λ (ws : List ℕ). decode (slice_index ws 0)) h.4 ∙ sym (decoded t.least h.5), (h.2, h.3, (λ k le. h.6.1 k (subst (λ (n : ℕ). n ≤ k) mine.1 le)), (λ i n there. (Tally-learns calls_of h.0 h.2 s.views id m.0 i n at there h.6).1), refl)),
    )
  where
    set_same : (ws : List ℕ) → set ws 0 (slice_index ws 0) ≡ ws
    set_same [] = refl
    set_same (a ∷ l) = refl

    lone : (j : ℕ) (u : SeatNotes) (n : ℕ × List Call) (ns : List (ℕ × List Call)) → get_elem? s.views j ≡ some u → u.calls ≡ n ∷ ns → j ≡ id
    lone j u n ns e q =
        let theirs = h.6.2 j u e 0 n (ap (λ (l : List (ℕ × List Call)). get_elem? l 0) q) in
        let g = (h.8 id m.0 at).0 is_first in
        let here = all n.0 (subst (λ (k : ℕ). n.0 < k) (sym g.1) theirs.1) in
        let ours = h.6.2 id m.0 at here.0 (n.0, here.1) here.2 in
        ap (λ (z : ℕ × ℕ). z.0) (sym theirs.0 ∙ ours.0)

pub reads : {S : Type 0} (slots id : ℕ) (m : Me S SeatNotes) → m.0.is_first ≡ true → Allows {S = S} Ordered slots id m 1 (λ n. n) (λ found n. ReadsUndone m found n)
reads {S} slots id m is_first s h len at fits =
    let mine = (h.8 id m.0 at).0 is_first in (
      m.0,
      keeps,
      tt,
      (
        h.0,
        h.1,
        h.2,
        h.3,
        set_same s.words ∙ h.4,
        h.5,
        Tally-same calls_of h.0 h.2 s.views id m.0 m.0 at refl h.6,
        h.7,
        speaks_set h.0 h.1 s.views id m.0 h.1 (λ j u _ e. h.8 j u e) (h.8 id m.0 at),
      ),
      (refl, λ t is. ap (λ (ws : List ℕ). slice_index ws 1) h.4 ∙ ap (λ (x : Words). x.undone) (sym (ended h.1 (words_after first_words h.2) t (sym mine.2 ∙ is) h.7))),
    )
  where
    set_same : (ws : List ℕ) → set ws 1 (slice_index ws 1) ≡ ws
    set_same [] = refl
    set_same (a ∷ []) = refl
    set_same (a ∷ b ∷ l) = refl

    ended : (last : Option Words) (x t : Words) → last ≡ Some t → Endings last x → t ≡ x
    ended None x t is e = absurd (cc)
    ended (Some u) x t is e = let same : u ≡ t = cc in sym same ∙ e

-- the seven calls, at a hand's seat
module _ {S : Type 0} (slots id : ℕ) (m : Me S SeatNotes) (n : ℕ × List Call) (ns : List (ℕ × List Call)) (plain : m.0.is_first ≡ false) (is : m.0.calls ≡ n ∷ ns) where
  pub says_offer : (p : ℕ) → p < 2 ^ 32 → Allows Ordered slots id m 0 (λ x. min x p) (λ found w. MakesCall (offer p) m w)
  says_offer p small = speaks slots id m n.0 n.1 ns 0 (λ x. min x p) (λ _. offer p) plain is (offers p small)

  pub says_look : Allows Ordered slots id m 0 (λ x. x) (λ found w. MakesCall (look (decode found)) m w)
  says_look = speaks slots id m n.0 n.1 ns 0 (λ x. x) (λ x. look (decode x)) plain is looks

  pub says_more : Allows Ordered slots id m 1 (λ x. (x + 1) % 2 ^ 64) (λ found w. MakesCall more m w)
  says_more = speaks slots id m n.0 n.1 ns 1 (λ x. (x + 1) % 2 ^ 64) (λ _. more) plain is mores

  pub says_less : Allows Ordered slots id m 1 (λ x. (x + (2 ^ 64 - 1)) % 2 ^ 64) (λ found w. MakesCall less m w)
  says_less = speaks slots id m n.0 n.1 ns 1 (λ x. (x + (2 ^ 64 - 1)) % 2 ^ 64) (λ _. less) plain is lesses

  pub says_open : Allows Ordered slots id m 1 (λ x. x) (λ found w. MakesCall (still_open found) m w)
  says_open = speaks slots id m n.0 n.1 ns 1 (λ x. x) (λ x. still_open x) plain is opens

  pub says_halt : Allows Ordered slots id m 2 (λ x. max x 1) (λ found w. MakesCall halt m w)
  says_halt = speaks slots id m n.0 n.1 ns 2 (λ x. max x 1) (λ _. halt) plain is halts

  pub says_halted : Allows Ordered slots id m 2 (λ x. x) (λ found w. MakesCall (halted (found == 1)) m w)
  says_halted = speaks slots id m n.0 n.1 ns 2 (λ x. x) (λ x. halted (x == 1)) plain is sees_halt
