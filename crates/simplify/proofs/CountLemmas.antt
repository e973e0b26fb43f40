-- The counts of the clauses there: a clause comes, and one goes.
use Rattle.std.proofs.Common.{◌≡◌, ℕ, ◌+◌, ◌<◌, ◌≤◌, inl, inr, false, ◌&&◌, nat_eq, eqb-true, [], ◌∷◌, ◌++◌, length, Some, None, slice_get, slice_index, slice_set, refl, ap, sym, ◌∙◌, subst, arith, All}
use Rattle.std.specs.List.{list_all}
use Rattle.std.proofs.lemmas.Bool.{cases_lt}
use Rattle.std.proofs.lemmas.List.{get_or_past}
use Rattle.std.proofs.lemmas.List.Elements.{All-head, All-tail}
use Rattle.cnf.specs.Lits.{code}
use Rattle.theory.specs.Literals.{Literal, Clause, same, same_sign, has, positive, negative}
use Rattle.theory.specs.Checking.{is_empty}
use Rattle.theory.specs.Eliminating.{is_alone}
use Rattle.theory.proofs.literals.LiteralLemmas.{and-left}
use Rattle.theory.proofs.literals.LiteralSets.{or-none, false_unless}
use Rattle.simplify.specs.Entries.{Entries, is_unit_of}
use Rattle.simplify.specs.Tables.{has_code, one_if, passing, Counted, IsOneMore, IsCounted, HasRoom, AreCounts}
use Rattle.simplify.proofs.EntryLemmas.{passing-push, passing-push_none, passing-gone, passing-some, passing-few}

-- a clause has no code and no variable beyond
has_code-beyond : (n j : ℕ) (c : Clause) → All (λ l. code l < n) c → n ≤ j → has_code j c ≡ false
has_code-beyond n j [] all far = refl
has_code-beyond n j (l ∷ c) all far =
    or-none (nat_eq (code l) j) (has_code j c)
    (false_unless (nat_eq (code l) j) (λ e. (let is : code l ≡ j = eqb-true (code l) j e in let less : code l < n = All-head (λ k. code k < n) l c all in omega (arith, is, less, far))))
    (has_code-beyond n j c (All-tail (λ k. code k < n) l c all) far)

has-beyond : (n : ℕ) (p : Literal) (c : Clause) → All (λ l. l.var < n) c → n ≤ p.var → has c p ≡ false
has-beyond n p [] all far = refl
has-beyond n p (l ∷ c) all far =
    or-none (same p l) (has c p)
    (false_unless (same p l) (λ e. (let is : p.var ≡ l.var = eqb-true p.var l.var (and-left (nat_eq p.var l.var) (same_sign p.positive l.positive) e) in let less : l.var < n = All-head (λ k. k.var < n) l c all in omega (arith, is, less, far))))
    (has-beyond n p c (All-tail (λ k. k.var < n) l c all) far)

unit-beyond : (n v : ℕ) (c : Clause) → All (λ l. l.var < n) c → n ≤ v → is_unit_of v c ≡ false
unit-beyond n v c all far = or-none (is_alone (positive v) c) (is_alone (negative v) c)
    (λ i. has-beyond n (positive v) c all far i && list_all (same (positive v)) c)
    (λ i. has-beyond n (negative v) c all far i && list_all (same (negative v)) c)

-- there is room for one clause more
pub has-room : (K : Entries) (C : Counted) → AreCounts K C → length K ≤ 1000000000 → HasRoom C
has-room K C h few = record {
  literals = λ j. elim (cases_lt j (length C.literals)) [
    | inl less ↦ (let is = h.literals j less in let most = passing-few (has_code j) K in omega arith)
    | inr past ↦ (let none : slice_index C.literals j ≡ 0 = get_or_past C.literals j 0 past in omega arith)
  ];
  units = λ v. elim (cases_lt v (length C.units)) [
    | inl less ↦ (let is = h.units v less in let most = passing-few (is_unit_of v) K in omega arith)
    | inr past ↦ (let none : slice_index C.units v ≡ 0 = get_or_past C.units v 0 past in omega arith)
  ];
  empty = let is = h.empty in let most = passing-few is_empty K in omega arith;
}

-- a clause that is there is counted
pub is-counted : (K : Entries) (C : Counted) (i : ℕ) (c : Clause) → AreCounts K C → slice_get K i ≡ Some (Some c) → All (λ l. code l < length C.literals) c → All (λ l. l.var < length C.units) c → IsCounted C c
is-counted K C i c h at codes vars = record {
  literals = λ j. elim (cases_lt j (length C.literals)) [
    | inl less ↦ (let is = h.literals j less in let some = passing-some (has_code j) K i c at in omega arith)
    | inr past ↦ (let none : one_if (has_code j c) ≡ 0 = ap one_if (has_code-beyond (length C.literals) j c codes past) in omega arith)
  ];
  units = λ v. elim (cases_lt v (length C.units)) [
    | inl less ↦ (let is = h.units v less in let some = passing-some (is_unit_of v) K i c at in omega arith)
    | inr past ↦ (let none : one_if (is_unit_of v c) ≡ 0 = ap one_if (unit-beyond (length C.units) v c vars past) in omega arith)
  ];
  empty = let is = h.empty in let some = passing-some is_empty K i c at in omega arith;
}

pub counts-come : (K : Entries) (C D : Counted) (c : Clause) → AreCounts K C → IsOneMore C c D → AreCounts (K ++ Some c ∷ []) D
counts-come K C D c h more = record {
  literals = λ j less. more.literals j ∙ (ap (λ n. n + one_if (has_code j c)) (h.literals j (subst (λ n. j < n) more.by_code less)) ∙ sym (passing-push (has_code j) K c));
  units = λ v less. more.units v ∙ (ap (λ n. n + one_if (is_unit_of v c)) (h.units v (subst (λ n. v < n) more.by_variable less)) ∙ sym (passing-push (is_unit_of v) K c));
  empty = more.empty ∙ (ap (λ n. n + one_if (is_empty c)) h.empty ∙ sym (passing-push is_empty K c));
}

pub counts-absent : (K : Entries) (C : Counted) → AreCounts K C → AreCounts (K ++ None ∷ []) C
counts-absent K C h = record {
  literals = λ j less. h.literals j less ∙ sym (passing-push_none (has_code j) K);
  units = λ v less. h.units v less ∙ sym (passing-push_none (is_unit_of v) K);
  empty = h.empty ∙ sym (passing-push_none is_empty K);
}

left-count : (a b m n k : ℕ) → a ≡ m → m ≡ n + k → a ≡ b + k → b ≡ n
left-count a b m n k e f g = omega arith

pub counts-gone : (K : Entries) (C D : Counted) (i : ℕ) (c : Clause) → AreCounts K C → slice_get K i ≡ Some (Some c) → IsOneMore D c C → AreCounts (slice_set K i None) D
counts-gone K C D i c h at more = record {
  literals = λ j less. left-count (slice_index C.literals j) (slice_index D.literals j) (passing (has_code j) K) (passing (has_code j) (slice_set K i None)) (one_if (has_code j c))
      (h.literals j (subst (λ n. j < n) (sym more.by_code) less)) (passing-gone (has_code j) K i c at) (more.literals j);
  units = λ v less. left-count (slice_index C.units v) (slice_index D.units v) (passing (is_unit_of v) K) (passing (is_unit_of v) (slice_set K i None)) (one_if (is_unit_of v c))
      (h.units v (subst (λ n. v < n) (sym more.by_variable) less)) (passing-gone (is_unit_of v) K i c at) (more.units v);
  empty = left-count C.empty D.empty (passing is_empty K) (passing is_empty (slice_set K i None)) (one_if (is_empty c)) h.empty (passing-gone is_empty K i c at) more.empty;
}
