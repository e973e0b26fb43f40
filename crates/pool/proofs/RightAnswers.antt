-- What an order of calls that replays says of the answers of one hand.
use Rattle.std.proofs.Common.{◌≡◌, ℕ, Bool, true, false, cond, List, [], ◌∷◌, ◌++◌, Option, Some, None, All, sym, refl, subst, arith}
use Rattle.std.specs.Prelude.{◌==◌}
use Rattle.std.proofs.lemmas.List.Elements.{All-cons, All-nil}
use Rattle.theory.specs.Ledger.{Call, offer, look, more, less, still_open, halt, halted}
use Rattle.theory.specs.Order.{Words, first_words, lower, after_call, AnswersRightly, Replays, words_after, entries_of}
use Rattle.pool.specs.Words.{AtMost, IsBoundBy, StaysHalted, Owes}

-- an order grows at its end
pub words_after-snoc : (s : Words) (es : List (ℕ × Call)) (k : ℕ) (c : Call) → words_after s (es ++ (k, c) ∷ []) ≡ after_call (words_after s es) c
words_after-snoc s [] k c = refl
words_after-snoc s (e ∷ es) k c = words_after-snoc (after_call s e.1) es k c

pub Replays-snoc : (s : Words) (es : List (ℕ × Call)) (k : ℕ) (c : Call) → Replays s es → AnswersRightly (words_after s es) c → Replays s (es ++ (k, c) ∷ [])
Replays-snoc s [] k c r a = (a, tt)
Replays-snoc s (e ∷ es) k c r a = (r.0, Replays-snoc (after_call s e.1) es k c r.1 a)

-- the least place only falls
lower_most : (a : Option ℕ) (p q : ℕ) → AtMost a p → AtMost (lower a q) p
lower_most None p q h = absurd h
lower_most (Some r) p q h = omega arith

lower_here : (a : Option ℕ) (p : ℕ) → AtMost (lower a p) p
lower_here None p = omega arith
lower_here (Some q) p = omega arith

most_after : (s : Words) (c : Call) (p : ℕ) → AtMost s.least p → AtMost (after_call s c).least p
most_after s (offer q) p h = lower_most s.least p q h
most_after s (look a) p h = h
most_after s more p h = h
most_after s less p h = h
most_after s (still_open n) p h = h
most_after s halt p h = h
most_after s (halted b) p h = h

most_end : (s : Words) (es : List (ℕ × Call)) (p : ℕ) → AtMost s.least p → AtMost (words_after s es).least p
most_end s [] p h = h
most_end s (e ∷ es) p h = most_end (after_call s e.1) es p (most_after s e.1 p h)

bound_by : (t s : Words) (c : Call) → AnswersRightly s c → ((p : ℕ) → AtMost (after_call s c).least p → AtMost t.least p) → IsBoundBy t.least c
bound_by t s (offer p) a m = m p (lower_here s.least p)
bound_by t s (look None) a m = tt
bound_by t s (look (Some p)) a m = m p (subst (λ (o : Option ℕ). AtMost o p) (sym a) (omega arith))
bound_by t s more a m = tt
bound_by t s less a m = tt
bound_by t s (still_open n) a m = tt
bound_by t s halt a m = tt
bound_by t s (halted b) a m = tt

below_end : (s : Words) (es : List (ℕ × Call)) (k : ℕ) → Replays s es → All (IsBoundBy (words_after s es).least) (entries_of k es)
below_end s [] k r = All-nil (IsBoundBy s.least)
below_end s (e ∷ es) k r = either (k == e.0) (below_end (after_call s e.1) es k r.1)
  where
    either : (b : Bool) → All (IsBoundBy (words_after (after_call s e.1) es).least) (entries_of k es) → All (IsBoundBy (words_after (after_call s e.1) es).least) (cond b (e.1 ∷ entries_of k es) (entries_of k es))
    either true h = All-cons (IsBoundBy (words_after (after_call s e.1) es).least) e.1 (entries_of k es) (bound_by (words_after (after_call s e.1) es) s e.1 r.0 (λ p. most_end (after_call s e.1) es p)) h
    either false h = h

-- a hand that halted stays so
halt_after : (s : Words) (c : Call) → s.has_halted ≡ true → (after_call s c).has_halted ≡ true
halt_after s (offer q) h = h
halt_after s (look a) h = h
halt_after s more h = h
halt_after s less h = h
halt_after s (still_open n) h = h
halt_after s halt h = refl
halt_after s (halted b) h = h

halt_end : (s : Words) (es : List (ℕ × Call)) → s.has_halted ≡ true → (words_after s es).has_halted ≡ true
halt_end s [] h = h
halt_end s (e ∷ es) h = halt_end (after_call s e.1) es (halt_after s e.1 h)

stays_halted : (t s : Words) (c : Call) → AnswersRightly s c → ((after_call s c).has_halted ≡ true → t.has_halted ≡ true) → StaysHalted t.has_halted c
stays_halted t s (offer p) a m = tt
stays_halted t s (look seen) a m = tt
stays_halted t s more a m = tt
stays_halted t s less a m = tt
stays_halted t s (still_open n) a m = tt
stays_halted t s halt a m = m refl
stays_halted t s (halted true) a m = m a
stays_halted t s (halted false) a m = tt

stays_end : (s : Words) (es : List (ℕ × Call)) (k : ℕ) → Replays s es → All (StaysHalted (words_after s es).has_halted) (entries_of k es)
stays_end s [] k r = All-nil (StaysHalted s.has_halted)
stays_end s (e ∷ es) k r = either (k == e.0) (stays_end (after_call s e.1) es k r.1)
  where
    either : (b : Bool) → All (StaysHalted (words_after (after_call s e.1) es).has_halted) (entries_of k es) → All (StaysHalted (words_after (after_call s e.1) es).has_halted) (cond b (e.1 ∷ entries_of k es) (entries_of k es))
    either true h = All-cons (StaysHalted (words_after (after_call s e.1) es).has_halted) e.1 (entries_of k es) (stays_halted (words_after (after_call s e.1) es) s e.1 r.0 (halt_end (after_call s e.1) es)) h
    either false h = h

pub Owes-end : (es : List (ℕ × Call)) (k : ℕ) (c : Call) → Replays first_words es → AnswersRightly (words_after first_words es) c → Owes (entries_of k es) c
Owes-end es k (offer p) r a = tt
Owes-end es k (look b) r a = subst (λ (o : Option ℕ). All (IsBoundBy o) (entries_of k es)) a (below_end first_words es k r)
Owes-end es k more r a = tt
Owes-end es k less r a = tt
Owes-end es k (still_open n) r a = tt
Owes-end es k halt r a = tt
Owes-end es k (halted b) r a = subst (λ (o : Bool). All (StaysHalted o) (entries_of k es)) a (stays_end first_words es k r)
