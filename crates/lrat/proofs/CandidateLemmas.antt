-- Candidates, by the slots of their clauses.
use Rattle.std.proofs.Common.{◌≡◌, ℕ, ◌<◌, Bool, true, false, not, ◌||◌, List, [], length, get_or, Result, Ok, Err, IfOk, Some, nat_eq, refl, ap, sym, subst, ◌∙◌, slice_get}
use Rattle.std.specs.List.{list_any}
use Rattle.std.proofs.lemmas.Option.{slice_get-get_or}
use Rattle.theory.specs.Literals.{Literal, Clause, has}
use Rattle.theory.specs.Checking.{is_closed, are_dealt_with}
use Rattle.lrat.specs.Slots.{Slot, there_before}
use Rattle.lrat.specs.Named.{IsDealtWith}
use Rattle.lrat.proofs.GroupLemmas.{open_candidate}
use Rattle.lrat.proofs.OccurrenceLemmas.{all-slots}
use Rattle.lrat.proofs.SlotLemmas.{not_all}

pub if_ok-map : {T E : Type 0} (r : Result T E) (P Q : T → Type 0) → ((x : T) → P x → Q x) → IfOk r P → IfOk r Q
if_ok-map (Ok x) P Q f h = f x h
if_ok-map (Err e) P Q f h = h

-- a candidate that is neither closed nor named
pub left-open : (ss : List Slot) (i : ℕ) (P : List Literal) (q : Literal) (L : List ℕ) (n : ℕ) (d : Clause) → i < length ss
    → ((s : Slot) → slice_get ss i ≡ Some s → (s.is_there ≡ true) × (s.id ≡ n) × (s.clause ≡ d))
    → has d q ≡ true → list_any (nat_eq n) L ≡ false → is_closed P q d ≡ false → are_dealt_with (there_before [] ss) P q L ≡ false
left-open ss i P q L n d less slot a b e =
    let none : Slot = record { id = 0; is_there = true; clause = [] } in
    let s : Slot = get_or ss i none in
    let at = slice_get-get_or ss i none less in
    let facts = slot s at in
    not_all _ ss i s at facts.0
    (open_candidate P q s.clause s.id L (subst (λ x. has x q ≡ true) (sym facts.2) a) (subst (λ x. is_closed P q x ≡ false) (sym facts.2) e) (subst (λ m. list_any (nat_eq m) L ≡ false) (sym facts.1) b))

-- each candidate is dealt with, where each clause that has the pivot is
pub all-dealt_with : (ss : List Slot) (P : List Literal) (q : Literal) (L : List ℕ)
    → ((i : ℕ) (s : Slot) → slice_get ss i ≡ Some s → s.is_there ≡ true → has s.clause q ≡ true → (IsDealtWith P q L s → ⊥) → ⊥) → true ≡ are_dealt_with (there_before [] ss) P q L
all-dealt_with ss P q L done = sym (all-slots _ ss [] each refl)
  where
    each : (i : ℕ) (s : Slot) → slice_get ss i ≡ Some s → s.is_there ≡ true → not (has s.clause q) || (is_closed P q s.clause || list_any (nat_eq s.id) L) ≡ true
    each i s g t = go (not (has s.clause q) || (is_closed P q s.clause || list_any (nat_eq s.id) L)) refl (has s.clause q) refl
      where
        go : (b : Bool) → (not (has s.clause q) || (is_closed P q s.clause || list_any (nat_eq s.id) L)) ≡ b → (h : Bool) → has s.clause q ≡ h → not (has s.clause q) || (is_closed P q s.clause || list_any (nat_eq s.id) L) ≡ true
        go true e h k = e
        go false e true k = absurd (done i s g t k (λ d. let x : true ≡ false = sym d ∙ e in cc))
        go false e false k = ap (λ b. not b || (is_closed P q s.clause || list_any (nat_eq s.id) L)) k
