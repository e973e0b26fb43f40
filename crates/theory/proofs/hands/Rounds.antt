-- The parts of a hand's work make up the whole.
use Rattle.std.proofs.Common.{◌≡◌, ℕ, suc, zero, ◌+◌, ◌≤◌, Bool, true, false, List, [], ◌∷◌, ◌++◌, length, All, Any, Contains, count_by, flat_map, refl, sym, ap, ◌∙◌, subst, arith, inl, inr, ◌⊎◌, append-nil}
use Rattle.std.proofs.lemmas.List.Elements.{All-cons, All-nil, All-weaker}
use Rattle.theory.specs.Literals.{Literal}
use Rattle.theory.specs.Truth.{Formula}
use Rattle.theory.specs.Plans.{Plan}
use Rattle.theory.specs.Trees.{IsCubeOf}
use Rattle.theory.specs.Places.{place_of}
use Rattle.theory.specs.Results.{Solved, IsTrueOf, IsModel}
use Rattle.theory.specs.Ledger.{Call, offer, still_open, halt, halted, Ledger, empty, all_got, both, joined, from_deque, getting, calling, times, is_more, is_less, is_look}
use Rattle.theory.specs.Work.{IsHalfOfGot, IsFoundedOn, IsTruthful, IsPassedOver, IsDealtWith, IsThorough, IsWork, IsUnderway}
use Rattle.theory.specs.Round.{with_got, IsRound, HasWorked}
use Rattle.theory.proofs.literals.Membership.{Contains-cases, Contains-none}
use Rattle.theory.proofs.hands.Joining.{both-nil, joined-empty, joined-assoc, Grows, IsPassedOver-grows, IsDealtWith-grows, IsTruthful-joined, IsThorough-joined}

-- nothing at all
empty-truthful : (F : Formula) (plan : Plan) → IsTruthful F plan empty []
empty-truthful F plan = record {
  true_of = All-nil (λ r. IsTrueOf F plan r.cube r.what);
  of_got = All-nil (λ r. Any (λ R. IsCubeOf F plan R r.cube) (all_got empty));
  halves = All-nil (IsHalfOfGot F plan empty);
  once = λ Q k. omega arith;
  offers = All-nil (IsFoundedOn []);
}

empty-thorough : (F : Formula) (plan : Plan) → IsThorough F plan empty []
empty-thorough F plan = record {
  each_got = All-nil (λ Q. IsPassedOver empty [] Q ⊎ IsDealtWith F plan empty [] Q);
  offered = All-nil (λ r. IsModel r.what → Contains [] (offer (place_of r.cube)));
  looks = refl;
  balance = refl;
  no_halt = Contains-none halt;
}

pub IsUnderway-begins : (F : Formula) (plan : Plan) (l : Ledger) → IsUnderway F plan l l []
IsUnderway-begins F plan l = record { added = empty; is_now = sym (joined-empty l); truthful = empty-truthful F plan; thorough = empty-thorough F plan }

-- a call that only asks
data Asks : Call → Type 0 where
  asks_open : {n : ℕ} → Asks (still_open n)
  asks_halted : {b : Bool} → Asks (halted b)

asking-truthful : (F : Formula) (plan : Plan) (c : Call) → Asks c → IsTruthful F plan (calling c) []
asking-truthful F plan c a = record {
  true_of = All-nil (λ r. IsTrueOf F plan r.cube r.what);
  of_got = All-nil (λ r. Any (λ R. IsCubeOf F plan R r.cube) (all_got empty));
  halves = All-nil (IsHalfOfGot F plan (calling c));
  once = λ Q k. omega arith;
  offers = All-cons (IsFoundedOn []) c [] (founded c a) (All-nil (IsFoundedOn []));
}
  where
    founded : (c : Call) → Asks c → IsFoundedOn [] c
    founded c asks_open = tt
    founded c asks_halted = tt

asking-thorough : (F : Formula) (plan : Plan) (c : Call) → Asks c → IsThorough F plan (calling c) []
asking-thorough F plan c a = record {
  each_got = All-nil (λ Q. IsPassedOver (calling c) [] Q ⊎ IsDealtWith F plan (calling c) [] Q);
  offered = All-nil (λ r. IsModel r.what → Contains (c ∷ []) (offer (place_of r.cube)));
  looks = none_look c a;
  balance = neither c a;
  no_halt = λ h. elim (Contains-cases c [] halt h) [ inl e ↦ differs c a e | inr n ↦ Contains-none halt n ];
}
  where
    none_look : (c : Call) → Asks c → count_by is_look (c ∷ []) ≡ 0
    none_look c asks_open = refl
    none_look c asks_halted = refl

    neither : (c : Call) → Asks c → count_by is_more (c ∷ []) + 0 ≡ count_by is_less (c ∷ []) + 0
    neither c asks_open = refl
    neither c asks_halted = refl

    differs : (c : Call) → Asks c → c ≡ halt → ⊥
    differs c asks_open e = cc
    differs c asks_halted e = cc

-- one piece more
more-underway : (F : Formula) (plan : Plan) (first now m : Ledger) (s t : List Solved) → IsUnderway F plan first now s → IsTruthful F plan m t → IsThorough F plan m t → IsUnderway F plan first (joined now m) (s ++ t)
more-underway F plan first now m s t u h i = record {
  added = joined u.added m;
  is_now = ap (λ l. joined l m) u.is_now ∙ joined-assoc first u.added m;
  truthful = IsTruthful-joined F plan u.added m s t u.truthful h;
  thorough = IsThorough-joined F plan u.added m s t u.thorough i;
}

pub IsUnderway-open : (F : Formula) (plan : Plan) (first now : Ledger) (n : ℕ) (s : List Solved) → IsUnderway F plan first now s → IsUnderway F plan first (joined now (calling (still_open n))) s
IsUnderway-open F plan first now n s u =
    subst (IsUnderway F plan first (joined now (calling (still_open n)))) (append-nil s)
    (more-underway F plan first now (calling (still_open n)) s [] u (asking-truthful F plan (still_open n) asks_open) (asking-thorough F plan (still_open n) asks_open))

pub IsUnderway-halted : (F : Formula) (plan : Plan) (first now : Ledger) (b : Bool) (s : List Solved) → IsUnderway F plan first now s → IsUnderway F plan first (joined now (calling (halted b))) s
IsUnderway-halted F plan first now b s u =
    subst (IsUnderway F plan first (joined now (calling (halted b)))) (append-nil s)
    (more-underway F plan first now (calling (halted b)) s [] u (asking-truthful F plan (halted b) asks_halted) (asking-thorough F plan (halted b) asks_halted))

-- what is got from any deque is the cube alone
got-alone : (d : ℕ) (Q : List Literal) → flat_map (λ cubes. cubes) (from_deque d (Q ∷ [])) ≡ Q ∷ []
got-alone zero Q = refl
got-alone (suc d) Q = got-alone d Q

-- the same by what it was put, got in all, and called
pub same-truthful : (F : Formula) (plan : Plan) (l m : Ledger) (s : List Solved) → l.put ≡ m.put → all_got l ≡ all_got m → l.calls ≡ m.calls → IsTruthful F plan l s → IsTruthful F plan m s
same-truthful F plan l m s p g c h = record {
  true_of = h.true_of;
  of_got = subst (λ cubes. All (λ r. Any (λ R. IsCubeOf F plan R r.cube) cubes) s) g h.of_got;
  halves = subst (All (IsHalfOfGot F plan m)) p (All-weaker (IsHalfOfGot F plan l) (IsHalfOfGot F plan m) half l.put h.halves);
  once = λ Q k. subst (λ cubes. times (Q ++ k ∷ []) m.put ≤ times Q cubes) g (subst (λ cubes. times (Q ++ k ∷ []) cubes ≤ times Q (all_got l)) p (h.once Q k));
  offers = subst (All (IsFoundedOn s)) c h.offers;
}
  where
    half : (Q : List Literal) → IsHalfOfGot F plan l Q → IsHalfOfGot F plan m Q
    half Q f = record { parent = f.parent; literal = f.literal; is_half = f.is_half; is_got = subst (λ cubes. Contains cubes f.parent) g f.is_got; is_exhausted = f.is_exhausted }

pub same-thorough : (F : Formula) (plan : Plan) (l m : Ledger) (s : List Solved) → l.put ≡ m.put → all_got l ≡ all_got m → l.calls ≡ m.calls → IsThorough F plan l s → IsThorough F plan m s
same-thorough F plan l m s p g c h = record {
  each_got = subst (All (λ Q. IsPassedOver m s Q ⊎ IsDealtWith F plan m s Q)) g
      (All-weaker (λ Q. IsPassedOver l s Q ⊎ IsDealtWith F plan l s Q) (λ Q. IsPassedOver m s Q ⊎ IsDealtWith F plan m s Q) each (all_got l) h.each_got);
  offered = subst (λ calls. All (λ r. IsModel r.what → Contains calls (offer (place_of r.cube))) s) c h.offered;
  looks = (ap (count_by is_look) (sym c) ∙ h.looks) ∙ ap length g;
  balance = let a = ap (count_by is_more) c in let b = ap (count_by is_less) c in let e = ap length g in let f = ap length p in let i = h.balance in omega arith;
  no_halt = subst (λ calls. ¬ (Contains calls halt)) c h.no_halt;
}
  where
    grows : Grows l m s s
    grows = record {
      put = λ Q. subst (λ cubes. Contains l.put Q → Contains cubes Q) p (λ x. x);
      got = λ Q. subst (λ cubes. Contains (all_got l) Q → Contains cubes Q) g (λ x. x);
      calls = λ d. subst (λ calls. Contains l.calls d → Contains calls d) c (λ x. x);
      results = λ r x. x;
    }

    each : (Q : List Literal) → IsPassedOver l s Q ⊎ IsDealtWith F plan l s Q → IsPassedOver m s Q ⊎ IsDealtWith F plan m s Q
    each Q (inl x) = inl (IsPassedOver-grows l m s s Q grows x)
    each Q (inr x) = inr (IsDealtWith-grows F plan l m s s Q grows x)

-- with the cube got from the deque d, and then the round
module _ (F : Formula) (plan : Plan) (d : ℕ) (Q : List Literal) (l : Ledger) where
  got-round : l.got ≡ [] → Q ∷ [] ≡ all_got (joined (getting d Q) l)
  got-round n = sym (ap (λ got. flat_map (λ cubes. cubes) (both (from_deque d (Q ∷ [])) got)) n ∙ ap (flat_map (λ cubes. cubes)) (both-nil (from_deque d (Q ∷ []))) ∙ got-alone d Q)

  round-truthful : (b : Bool) (s : List Solved) → IsRound F plan b Q l s → IsTruthful F plan (joined (getting d Q) l) s
  round-truthful b s r = same-truthful F plan (with_got Q l) (joined (getting d Q) l) s refl (got-round r.none_got) refl r.truthful

  round-thorough : (s : List Solved) → IsRound F plan true Q l s → IsThorough F plan (joined (getting d Q) l) s
  round-thorough s r = same-thorough F plan (with_got Q l) (joined (getting d Q) l) s refl (got-round r.none_got) refl (r.thorough refl)

-- The loop goes on after a round.
pub IsUnderway-round : (F : Formula) (plan : Plan) (first now : Ledger) (d : ℕ) (Q : List Literal) (l : Ledger) (s t : List Solved) → IsUnderway F plan first now s → IsRound F plan true Q l t
    → IsUnderway F plan first (joined (joined now (getting d Q)) l) (s ++ t)
IsUnderway-round F plan first now d Q l s t u r =
    subst (λ m. IsUnderway F plan first m (s ++ t)) (sym (joined-assoc now (getting d Q) l))
    (more-underway F plan first now (joined (getting d Q) l) s t u (round-truthful F plan d Q l true t r) (round-thorough F plan d Q l t r))

-- It ends when the hand goes home,
pub HasWorked-open : (F : Formula) (plan : Plan) (first now : Ledger) (s : List Solved) → IsUnderway F plan first now s → HasWorked F plan false first (joined now (calling (still_open 0))) s
HasWorked-open F plan first now s u =
    let v = IsUnderway-open F plan first now 0 s u in
    record {
      added = joined u.added (calling (still_open 0));
      is_last = ap (λ l. joined l (calling (still_open 0))) u.is_now ∙ joined-assoc first u.added (calling (still_open 0));
      work = record {
        truthful = subst (IsTruthful F plan (joined u.added (calling (still_open 0)))) (append-nil s) (IsTruthful-joined F plan u.added (calling (still_open 0)) s [] u.truthful (asking-truthful F plan (still_open 0) asks_open));
        thorough = λ e. subst (IsThorough F plan (joined u.added (calling (still_open 0)))) (append-nil s) (IsThorough-joined F plan u.added (calling (still_open 0)) s [] u.thorough (asking-thorough F plan (still_open 0) asks_open));
        went_home = λ e. (u.added.calls, inl refl);
      };
    }

pub HasWorked-halted : (F : Formula) (plan : Plan) (first now : Ledger) (s : List Solved) → IsUnderway F plan first now s → HasWorked F plan false first (joined now (calling (halted true))) s
HasWorked-halted F plan first now s u =
    record {
      added = joined u.added (calling (halted true));
      is_last = ap (λ l. joined l (calling (halted true))) u.is_now ∙ joined-assoc first u.added (calling (halted true));
      work = record {
        truthful = subst (IsTruthful F plan (joined u.added (calling (halted true)))) (append-nil s) (IsTruthful-joined F plan u.added (calling (halted true)) s [] u.truthful (asking-truthful F plan (halted true) asks_halted));
        thorough = λ e. subst (IsThorough F plan (joined u.added (calling (halted true)))) (append-nil s) (IsThorough-joined F plan u.added (calling (halted true)) s [] u.thorough (asking-thorough F plan (halted true) asks_halted));
        went_home = λ e. (u.added.calls, inr refl);
      };
    }

-- or runs short of memory in a round, and halts.
halting-truthful : (F : Formula) (plan : Plan) → IsTruthful F plan (calling halt) []
halting-truthful F plan = record {
  true_of = All-nil (λ r. IsTrueOf F plan r.cube r.what);
  of_got = All-nil (λ r. Any (λ R. IsCubeOf F plan R r.cube) (all_got empty));
  halves = All-nil (IsHalfOfGot F plan (calling halt));
  once = λ Q k. omega arith;
  offers = All-cons (IsFoundedOn []) halt [] tt (All-nil (IsFoundedOn []));
}

pub HasWorked-short : (F : Formula) (plan : Plan) (first now : Ledger) (d : ℕ) (Q : List Literal) (l : Ledger) (b : Bool) (s t : List Solved) → IsUnderway F plan first now s → IsRound F plan b Q l t
    → HasWorked F plan true first (joined (joined (joined now (getting d Q)) l) (calling halt)) (s ++ t)
HasWorked-short F plan first now d Q l b s t u r =
    let piece = joined (joined (getting d Q) l) (calling halt) in
    record {
      added = joined u.added (joined (joined (getting d Q) l) (calling halt));
      is_last = ap (λ m. joined (joined (joined m (getting d Q)) l) (calling halt)) u.is_now
          ∙ ap (λ m. joined (joined m l) (calling halt)) (joined-assoc first u.added (getting d Q))
          ∙ ap (λ m. joined m (calling halt)) (joined-assoc first (joined u.added (getting d Q)) l)
          ∙ joined-assoc first (joined (joined u.added (getting d Q)) l) (calling halt)
          ∙ ap (joined first) (ap (λ m. joined m (calling halt)) (joined-assoc u.added (getting d Q) l) ∙ joined-assoc u.added (joined (getting d Q) l) (calling halt));
      work = record {
        truthful = subst (IsTruthful F plan (joined u.added (joined (joined (getting d Q) l) (calling halt)))) (ap (λ x. s ++ x) (append-nil t))
            (IsTruthful-joined F plan u.added (joined (joined (getting d Q) l) (calling halt)) s (t ++ []) u.truthful
            (IsTruthful-joined F plan (joined (getting d Q) l) (calling halt) t [] (round-truthful F plan d Q l b t r) (halting-truthful F plan)));
        thorough = λ e. absurd (cc);
        went_home = λ e. absurd (cc);
      };
    }

-- from empty notes on, what was added is the ledger
pub HasWorked-IsWork : (F : Formula) (plan : Plan) (is_short : Bool) (last : Ledger) (s : List Solved) → HasWorked F plan is_short empty last s → IsWork F plan is_short last s
HasWorked-IsWork F plan is_short last s h = subst (λ l. IsWork F plan is_short l s) (sym h.is_last) h.work
