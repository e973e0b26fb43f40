-- Each cube that a hand got takes its turn, with a look of its own: put together call by call.
use Rattle.std.proofs.Common.{◌≡◌, ◌≢◌, ℕ, zero, suc, ◌+◌, ◌<◌, ◌==◌, Bool, true, false, cond, Option, Some, List, [], ◌∷◌, ◌++◌, map, flat_map, All, count_by, slice_index_or, refl, sym, ap, subst, ◌∙◌, append-nil, append_assoc, arith}
use Rattle.std.specs.Prelude.{if◌then◌else◌, nat_eq}
use Rattle.std.proofs.lemmas.List.Concat.{flat_map-append}
use Rattle.std.proofs.lemmas.Bool.{eqb-true, eqb-false}
use Rattle.std.proofs.lemmas.List.{map-append}
use Rattle.std.proofs.lemmas.List.Elements.{All-nil, All-append, All-push}
use Rattle.std.proofs.lemmas.List.Sums.{sum_by-cons}
use Rattle.theory.specs.Literals.{Literal}
use Rattle.theory.specs.Truth.{Formula}
use Rattle.theory.specs.Plans.{Plan}
use Rattle.theory.specs.Places.{place_of}
use Rattle.theory.specs.Results.{done, skipped, Solved, IsDone}
use Rattle.theory.specs.Ledger.{Call, offer, look, more, less, still_open, halt, halted, Ledger, got_from, both, joined, from_deque, getting, calling, is_look}
use Rattle.theory.specs.Order.{entries_of}
use Rattle.theory.specs.Work.{IsNotBelow}
use Rattle.theory.specs.Round.{IsRound, Adds}
use Rattle.theory.proofs.hands.Joining.{both-nil}
use Rattle.cubes.specs.declared.hands.Ending.{Ending}
use Rattle.cubes.specs.Hands.{Gets, Settles, AddsHalves}
use Rattle.cubes.specs.Looks.{answer_of, looks_of, Turn, got_in, results_of, GoesBy, AddsDone, TakesTurn, TakeTurns}

-- the looks of a ledger, and of one with more entries
no-answer : (c : Call) → is_look c ≡ false → answer_of c ≡ []
no-answer (offer place) e = refl
no-answer (look seen) e = absurd (cc)
no-answer more e = refl
no-answer less e = refl
no-answer (still_open n) e = refl
no-answer halt e = refl
no-answer (halted b) e = refl

none-looked : (calls : List Call) → count_by is_look calls ≡ 0 → looks_of calls ≡ []
none-looked [] none = refl
none-looked (c ∷ calls) none = go (is_look c) refl (none-looked calls)
  where
    counted : count_by is_look (c ∷ calls) ≡ cond (is_look c) 1 0 + count_by is_look calls
    counted = sum_by-cons (λ d. cond (is_look d) 1 0) c calls

    go : (b : Bool) → is_look c ≡ b → (count_by is_look calls ≡ 0 → looks_of calls ≡ []) → looks_of (c ∷ calls) ≡ []
    go true e rest =
        let one : cond {A = ℕ} (is_look c) 1 0 ≡ 1 = ap (λ (b : Bool). cond {A = ℕ} b 1 0) e in
        let all = counted in
        absurd (omega arith)
    go false e rest =
        let all = counted in
        ap (λ seen. seen ++ looks_of calls) (no-answer c e) ∙ rest (omega arith)

looks-kept : (l m n : Ledger) → n ≡ joined l m → looks_of m.calls ≡ [] → looks_of n.calls ≡ looks_of l.calls
looks-kept l m n e none =
    ap (λ (k : Ledger). looks_of k.calls) e ∙ flat_map-append answer_of l.calls m.calls
    ∙ ap (λ seen. looks_of l.calls ++ seen) none ∙ append-nil (looks_of l.calls)

pub looks-call : (l n : Ledger) (c : Call) → n ≡ joined l (calling c) → answer_of c ≡ [] → looks_of n.calls ≡ looks_of l.calls
looks-call l n c e none = looks-kept l (calling c) n e (append-nil (answer_of c) ∙ none)

looks-look : (l n : Ledger) (seen : Option ℕ) → n ≡ joined l (calling (look seen)) → looks_of n.calls ≡ looks_of l.calls ++ seen ∷ []
looks-look l n seen e = ap (λ (k : Ledger). looks_of k.calls) e ∙ flat_map-append answer_of l.calls (look seen ∷ [])

-- halves are handed on without a look
pub looks-halves : (F : Formula) (plan : Plan) (ok : Bool) (Q : List Literal) (x : ℕ) (l n : Ledger) (s t : List Solved) → AddsHalves F plan ok Q x l n s t → looks_of n.calls ≡ looks_of l.calls
looks-halves F plan ok Q x l n s t h =
    looks-kept (joined l h.left_piece) h.right_piece n h.is_new (none-looked h.right_piece.calls h.right.looks)
    ∙ looks-kept l h.left_piece (joined l h.left_piece) refl (none-looked h.left_piece.calls h.left.looks)

-- what was got from each deque, and of one more cube
got-kept : (l m n : Ledger) (d : ℕ) → n ≡ joined l m → m.got ≡ [] → got_from d n ≡ got_from d l
got-kept l m n d e none =
    ap (λ (k : Ledger). got_from d k) e ∙ ap (λ got. slice_index_or (both l.got got) d []) none ∙ ap (λ got. slice_index_or got d []) (both-nil l.got)

same-deque : (got : List (List (List Literal))) (d : ℕ) (Q : List Literal) → slice_index_or (both got (from_deque d (Q ∷ []))) d [] ≡ slice_index_or got d [] ++ Q ∷ []
same-deque [] zero Q = refl
same-deque [] (suc d) Q = same-deque [] d Q
same-deque (cubes ∷ got) zero Q = refl
same-deque (cubes ∷ got) (suc d) Q = same-deque got d Q

other-deque : (got : List (List (List Literal))) (d e : ℕ) (Q : List Literal) → d ≢ e → slice_index_or (both got (from_deque e (Q ∷ []))) d [] ≡ slice_index_or got d []
other-deque [] zero zero Q other = absurd (other refl)
other-deque [] zero (suc e) Q other = refl
other-deque [] (suc d) zero Q other = refl
other-deque [] (suc d) (suc e) Q other = other-deque [] d e Q (λ same. other (ap suc same))
other-deque (cubes ∷ got) zero zero Q other = absurd (other refl)
other-deque (cubes ∷ got) zero (suc e) Q other = append-nil cubes
other-deque (cubes ∷ got) (suc d) zero Q other = ap (λ g. slice_index_or g d []) (both-nil got)
other-deque (cubes ∷ got) (suc d) (suc e) Q other = other-deque got d e Q (λ same. other (ap suc same))

got-more : (l n : Ledger) (Q : List Literal) (d : ℕ) (g : Gets l n Q) → got_from d n ≡ got_from d l ++ entries_of d ((g.0, Q) ∷ [])
got-more l n Q d g = ap (λ (k : Ledger). got_from d k) g.1 ∙ go (d == g.0) refl
  where
    go : (b : Bool) → (d == g.0) ≡ b → slice_index_or (both l.got (from_deque g.0 (Q ∷ []))) d [] ≡ got_from d l ++ entries_of d ((g.0, Q) ∷ [])
    go true e =
        let same : d ≡ g.0 = eqb-true d g.0 e in
        subst (λ k. slice_index_or (both l.got (from_deque k (Q ∷ []))) d [] ≡ got_from d l ++ Q ∷ []) same (same-deque l.got d Q)
        ∙ ap (λ b. got_from d l ++ cond b (Q ∷ []) []) (sym e)
    go false e = other-deque l.got d g.0 Q (eqb-false d g.0 e) ∙ sym (append-nil (got_from d l)) ∙ ap (λ b. got_from d l ++ cond b (Q ∷ []) []) (sym e)

entries-append : {X : Type 0} (k : ℕ) (es fs : List (ℕ × X)) → entries_of k (es ++ fs) ≡ entries_of k es ++ entries_of k fs
entries-append k [] fs = refl
entries-append {X} k (e ∷ es) fs = go (nat_eq k e.0) (entries-append k es fs)
  where
    go : (b : Bool) → entries_of k (es ++ fs) ≡ entries_of k es ++ entries_of k fs
        → (if b then e.1 ∷ entries_of k (es ++ fs) else entries_of k (es ++ fs)) ≡ (if b then e.1 ∷ entries_of k es else entries_of k es) ++ entries_of k fs
    go true h = ap (λ l. e.1 ∷ l) h
    go false h = h

-- results of cubes that are done
pub done-nothing : (s : List Solved) → AddsDone s s
done-nothing s = record { more = []; is_after = sym (append-nil s); are_done = All-nil (λ (r : Solved). IsDone r.what) }

pub done-then : (s t u : List Solved) → AddsDone s t → AddsDone t u → AddsDone s u
done-then s t u a b = record {
  more = a.more ++ b.more;
  is_after = b.is_after ∙ ap (λ r. r ++ b.more) a.is_after ∙ append_assoc s a.more b.more;
  are_done = All-append (λ (r : Solved). IsDone r.what) a.more b.more a.are_done b.are_done;
}

pub done-settled : (F : Formula) (plan : Plan) (Q : List Literal) (e : Ending) (s t u : List Solved) → AddsDone s t → Settles F plan Q e t u → AddsDone s u
done-settled F plan Q e s t u a settles = done-then s t u a (record {
  more = record { cube = Q; what = done settles.outcome } ∷ [];
  is_after = settles.is_after;
  are_done = All-push (λ (r : Solved). IsDone r.what) [] (record { cube = Q; what = done settles.outcome }) (All-nil (λ (r : Solved). IsDone r.what)) tt;
})

-- the turn of a cube
pub turn-skipped : (Q : List Literal) (l0 l1 l2 : Ledger) (s t : List Solved) (seen : Option ℕ) (least : ℕ) → l1 ≡ joined l0 (calling (look seen)) → seen ≡ Some least → least < place_of Q → l2 ≡ joined l1 (calling less)
    → t ≡ s ++ record { cube = Q; what = skipped least } ∷ [] → TakesTurn Q l0 l2 s t
turn-skipped Q l0 l1 l2 s t seen least looked is below counted after = record {
  seen = seen;
  what = skipped least;
  carried = [];
  looks = looks-call l1 l2 less counted refl ∙ looks-look l0 l1 seen looked;
  is_after = after;
  goes_by = (is, below);
  are_done = All-nil (λ (r : Solved). IsDone r.what);
}

pub turn-done : (F : Formula) (plan : Plan) (Q : List Literal) (e : Ending) (l0 l1 l2 l3 : Ledger) (s t u : List Solved) (seen : Option ℕ) → l1 ≡ joined l0 (calling (look seen)) → IsNotBelow seen (place_of Q) → Settles F plan Q e s t
    → looks_of l2.calls ≡ looks_of l1.calls → AddsDone t u → l3 ≡ joined l2 (calling less) → TakesTurn Q l0 l3 s u
turn-done F plan Q e l0 l1 l2 l3 s t u seen looked below settles quiet halves counted = record {
  seen = seen;
  what = done settles.outcome;
  carried = halves.more;
  looks = looks-call l2 l3 less counted refl ∙ quiet ∙ looks-look l0 l1 seen looked;
  is_after = halves.is_after ∙ ap (λ r. r ++ halves.more) settles.is_after ∙ append_assoc s (record { cube = Q; what = done settles.outcome } ∷ []) halves.more;
  goes_by = below;
  are_done = halves.are_done;
}

-- one turn after the other, from the first ledger on
module _ (first : Ledger) where
  pub turns-begin : (s : List Solved) → s ≡ [] → TakeTurns first first s
  turns-begin s e = record {
    turns = [];
    got = λ d. sym (append-nil (got_from d first));
    looks = sym (append-nil (looks_of first.calls));
    are_results = e;
    go_by = All-nil (λ (t : Turn). GoesBy t.what t.seen (place_of t.cube));
    are_done = All-nil (λ (t : Turn). All (λ (r : Solved). IsDone r.what) t.carried);
  }

  -- a call that is no look
  pub turns-call : (l0 l1 : Ledger) (c : Call) (s : List Solved) → TakeTurns first l0 s → l1 ≡ joined l0 (calling c) → answer_of c ≡ [] → TakeTurns first l1 s
  turns-call l0 l1 c s h e none = record {
    turns = h.turns;
    got = λ d. got-kept l0 (calling c) l1 d e refl ∙ h.got d;
    looks = looks-call l0 l1 c e none ∙ h.looks;
    are_results = h.are_results;
    go_by = h.go_by;
    are_done = h.are_done;
  }

  -- nothing
  pub turns-same : (l0 l1 : Ledger) (s : List Solved) → TakeTurns first l0 s → l1 ≡ l0 → TakeTurns first l1 s
  turns-same l0 l1 s h e = rw e h

  -- a cube was got, and had its turn
  module _ (F : Formula) (plan : Plan) (ok : Bool) (l0 l1 l2 : Ledger) (Q : List Literal) (s t : List Solved) (h : TakeTurns first l0 s) (g : Gets l0 l1 Q) (r : Adds (IsRound F plan ok Q) l1 l2 s t) (turn : TakesTurn Q l1 l2 s t) where
    abbrev this : Turn
    this = record { deque = g.0; cube = Q; seen = turn.seen; what = turn.what; carried = turn.carried }

    more-got : (d : ℕ) → got_from d l2 ≡ got_from d first ++ entries_of d (map got_in (h.turns ++ this ∷ []))
    more-got d =
        got-kept l1 r.piece l2 d r.is_new r.is_part.none_got ∙ got-more l0 l1 Q d g
        ∙ ap (λ cubes. cubes ++ entries_of d ((g.0, Q) ∷ [])) (h.got d)
        ∙ append_assoc (got_from d first) (entries_of d (map got_in h.turns)) (entries_of d ((g.0, Q) ∷ []))
        ∙ ap (λ cubes. got_from d first ++ cubes) (sym (entries-append d (map got_in h.turns) ((g.0, Q) ∷ [])) ∙ ap (entries_of d) (sym (map-append got_in h.turns (this ∷ []))))

    more-looks : looks_of l2.calls ≡ looks_of first.calls ++ map (λ (v : Turn). v.seen) (h.turns ++ this ∷ [])
    more-looks =
        turn.looks ∙ ap (λ seen. seen ++ turn.seen ∷ []) (looks-kept l0 (getting g.0 Q) l1 g.1 refl ∙ h.looks)
        ∙ append_assoc (looks_of first.calls) (map (λ (v : Turn). v.seen) h.turns) (turn.seen ∷ [])
        ∙ ap (λ seen. looks_of first.calls ++ seen) (sym (map-append (λ (v : Turn). v.seen) h.turns (this ∷ [])))

    more-results : t ≡ flat_map results_of (h.turns ++ this ∷ [])
    more-results =
        turn.is_after ∙ ap (λ rs. rs ++ results_of this) h.are_results
        ∙ ap (λ rs. flat_map results_of h.turns ++ rs) (sym (append-nil (results_of this))) ∙ sym (flat_map-append results_of h.turns (this ∷ []))

    pub turns-more : TakeTurns first l2 t
    turns-more = record {
      turns = h.turns ++ this ∷ [];
      got = more-got;
      looks = more-looks;
      are_results = more-results;
      go_by = All-push (λ (v : Turn). GoesBy v.what v.seen (place_of v.cube)) h.turns this h.go_by turn.goes_by;
      are_done = All-push (λ (v : Turn). All (λ (x : Solved). IsDone x.what) v.carried) h.turns this h.are_done turn.are_done;
    }

-- as it is handed over
pub turns-as : (first l m : Ledger) (s t : List Solved) → m ≡ l → t ≡ s → TakeTurns first l s → TakeTurns first m t
turns-as first l m s t e f h = rw (e, f) h
