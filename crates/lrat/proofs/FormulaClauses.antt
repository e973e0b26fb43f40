-- A formula's clauses, as they are put into one list, the last first.
use Rattle.std.proofs.Common.{◌≡◌, ℕ, zero, suc, ◌+◌, ◌-◌, ◌≤◌, List, [], ◌∷◌, ◌++◌, length, length-append, drop, get_or, Some, slice_get, refl, sym, ap, subst, ◌∙◌, arith, inl, inr}
use Rattle.std.proofs.lemmas.Option.{slice_get_within}
use Rattle.theory.specs.Literals.{Literal, Clause}
use Rattle.theory.specs.Truth.{IsOver}
use Rattle.theory.specs.Checking.{numbered_from}
use Rattle.lrat.specs.Flat.{slot_in, slots_in, AreWithin, AreFlat, AreUpTo}
use Rattle.lrat.specs.Slots.{Slot, there_before}
use Rattle.lrat.specs.declared.clauses.Head.{Head}
use Rattle.lrat.proofs.CheckLemmas.{numbered-more}
use Rattle.lrat.proofs.SlotLemmas.{there_before-push}
use Rattle.lrat.proofs.FlatLemmas.{SlotsOver, SlotsOver-push, over-heads, get-cases, from-map, added_slot}

-- the last `done` of a formula's `first` clauses
pub record AreTaken (V first done : ℕ) (cs : List Clause) (lits : List Literal) (heads : List Head) : Type 0 where
  pub within : AreWithin lits heads
  pub many : length heads ≡ done
  pub falling : (i : ℕ) (h : Head) → slice_get heads i ≡ Some h → h.id + i ≡ first
  pub there : there_before [] (slots_in lits heads) ≡ numbered_from (first - done + 1) (drop (first - done) cs)
  pub over : SlotsOver V (slots_in lits heads)

past-end : (n : ℕ) (cs : List Clause) → length cs ≤ n → drop n cs ≡ []
past-end zero [] h = refl
past-end zero (c ∷ cs) h = absurd (omega arith)
past-end (suc n) [] h = refl
past-end (suc n) (c ∷ cs) h = past-end n cs (omega arith)

pub AreTaken-more : (V first done index : ℕ) (cs : List Clause) (c : Clause) (lits more : List Literal) (heads all : List Head) → AreTaken V first done cs lits heads
    → length cs ≡ first → index + done + 1 ≡ first → c ≡ get_or cs index c → IsOver V c → AreWithin more all
    → slots_in more all ≡ slots_in lits heads ++ added_slot (index + 1) c ∷ []
    → ((h : Head) × (h.id ≡ index + 1) × (all ≡ heads ++ h ∷ [])) → AreTaken V first (done + 1) cs more all
AreTaken-more V first done index cs c lits more heads all t long at here over within ok last = record {
  within = within;
  many = ap length last.2 ∙ length-append heads (last.0 ∷ []) ∙ ap (λ n. n + 1) t.many;
  falling = λ i h g. elim (get-cases heads last.0 h i (ap (λ ks. slice_get ks i) (sym last.2) ∙ g)) [
    | inl e ↦ (let a : last.0.id ≡ h.id = ap (λ (x : Head). x.id) e.0 in let b = last.1 in let d = e.1 in let m = t.many in omega arith)
    | inr e ↦ t.falling i h e.0
  ];
  there = ap (there_before []) ok ∙ (there_before-push (slots_in lits heads) [] (added_slot (index + 1) c)
      ∙ (ap (λ K. (index + 1, c) ∷ K) t.there ∙ numbered-more cs (first - done) (first - (done + 1)) index c (omega arith) (omega arith) (omega arith) here));
  over = subst (SlotsOver V) (sym ok) (SlotsOver-push V (slots_in lits heads) (added_slot (index + 1) c) t.over over);
}

pub AreFlat-taken : (V first done : ℕ) (cs : List Clause) (lits : List Literal) (heads : List Head) → first ≤ done → done ≤ first → AreTaken V first done cs lits heads → AreFlat V first lits heads
AreFlat-taken V first done cs lits heads past within t = record {
  within = t.within;
  order = record {
    whole = (let m = t.many in omega arith);
    of_formula = λ i h g less. t.falling i h g;
    added = λ i h g from. absurd (let b = slice_get_within heads i h g in let m = t.many in omega arith);
    rising = λ i j h k g b from less. absurd (let a = slice_get_within heads j k b in let m = t.many in omega arith);
  };
  over = over-heads V lits heads t.over;
}

pub AreUpTo-taken : (V first done : ℕ) (cs : List Clause) (lits : List Literal) (heads : List Head) → AreTaken V first done cs lits heads → AreUpTo first (slots_in lits heads)
AreUpTo-taken V first done cs lits heads t i s g =
    let h = from-map (slot_in lits) heads i s g in
    let a = t.falling i h.0 h.1 in
    let b : h.0.id ≡ s.id = ap (λ (x : Slot). x.id) h.2 in omega arith
