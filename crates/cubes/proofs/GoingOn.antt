-- What a hand calls until it goes home, put together from its single calls.
use Rattle.std.proofs.Common.{◌≡◌, ℕ, zero, suc, Bool, true, false, List, [], ◌∷◌, ◌++◌, refl, sym, ap, ◌∙◌, append-nil, append_assoc}
use Rattle.std.proofs.lemmas.List.Elements.{All-nil, All-cons, All-append}
use Rattle.theory.specs.Literals.{Literal}
use Rattle.theory.specs.Ledger.{Call, still_open, halted, Ledger, calling}
use Rattle.pool.specs.Hands.{HandView, adds}
use Rattle.cubes.specs.Hands.{Gets, IsOnward, IsFarewell, GoesOn, GoesHome}

pub GoesOn-itself : (l : Ledger) → GoesOn l l
GoesOn-itself l = record { between = []; is_new = sym (append-nil l.calls); onward = All-nil IsOnward }

pub GoesOn-then : (a b c : Ledger) → GoesOn a b → GoesOn b c → GoesOn a c
GoesOn-then a b c p q = record {
  between = p.between ++ q.between;
  is_new = q.is_new ∙ ap (λ calls. calls ++ q.between) p.is_new ∙ append_assoc a.calls p.between q.between;
  onward = All-append IsOnward p.between q.between p.onward q.onward;
}

-- no call was made
quiet : (a b c : Ledger) → GoesOn a b → c.calls ≡ b.calls → GoesOn a c
quiet a b c p e = record { between = p.between; is_new = e ∙ p.is_new; onward = p.onward }

module _ (a : Ledger) (g h : HandView) (on : GoesOn a g.ledger) where
  pub GoesOn-call : (call : Call) → h ≡ adds g (calling call) → IsOnward call → GoesOn a h.ledger
  GoesOn-call call e onward = GoesOn-then a g.ledger h.ledger on (record {
    between = call ∷ [];
    is_new = ap (λ (v : HandView). v.ledger.calls) e;
    onward = All-cons IsOnward call [] onward (All-nil IsOnward);
  })

  pub GoesOn-same : h ≡ g → GoesOn a h.ledger
  GoesOn-same e = quiet a g.ledger h.ledger on (ap (λ (v : HandView). v.ledger.calls) e)

  pub GoesOn-got : (Q : List Literal) → Gets g.ledger h.ledger Q → GoesOn a h.ledger
  GoesOn-got Q got = quiet a g.ledger h.ledger on (ap (λ (l : Ledger). l.calls) got.1 ∙ append-nil g.ledger.calls)

  -- no hand had halted, or something was open
  pub GoesOn-halted : (b : Bool) → b ≡ false → h ≡ adds g (calling (halted b)) → GoesOn a h.ledger
  GoesOn-halted true f e = absurd (cc)
  GoesOn-halted false f e = GoesOn-call (halted false) e tt

  pub GoesOn-open : (n : ℕ) → ¬ (n ≡ 0) → h ≡ adds g (calling (still_open n)) → GoesOn a h.ledger
  GoesOn-open zero some e = absurd (some refl)
  GoesOn-open (suc n) some e = GoesOn-call (still_open (suc n)) e tt

  pub GoesHome-at : (short_of_memory : Bool) (call : Call) → h ≡ adds g (calling call) → IsFarewell short_of_memory call → GoesHome short_of_memory a h.ledger
  GoesHome-at short_of_memory call e farewell = record { until = g.ledger; last = call; goes_on = on; is_new = ap (λ (v : HandView). v.ledger.calls) e; is_farewell = farewell }

  pub GoesHome-halted : (b : Bool) → b ≡ true → h ≡ adds g (calling (halted b)) → GoesHome false a h.ledger
  GoesHome-halted true t e = GoesHome-at false (halted true) e tt
  GoesHome-halted false t e = absurd (cc)

  pub GoesHome-open : (n : ℕ) → n ≡ 0 → h ≡ adds g (calling (still_open n)) → GoesHome false a h.ledger
  GoesHome-open zero z e = GoesHome-at false (still_open 0) e tt
  GoesHome-open (suc n) z e = absurd (cc)

-- as it is handed over
pub home-as : (short_of_memory told : Bool) (first : Ledger) (h g : HandView) → g ≡ h → told ≡ short_of_memory → GoesHome short_of_memory first h.ledger → GoesHome told first g.ledger
home-as short_of_memory told first h g e o home = rw (o, e) home
