-- The steps of a hand's loop over what its calls have noted.
use Rattle.std.proofs.Common.{◌≡◌, ℕ, Bool, true, false, List, [], ◌++◌, sym, ap, ◌∙◌, subst}
use Rattle.theory.specs.Literals.{Literal}
use Rattle.theory.specs.Truth.{Formula}
use Rattle.theory.specs.Plans.{Plan}
use Rattle.theory.specs.Results.{Solved}
use Rattle.theory.specs.Ledger.{Ledger, joined, calling, still_open, halt, halted}
use Rattle.theory.specs.Work.{IsUnderway}
use Rattle.theory.specs.Round.{IsRound, Adds, HasWorked}
use Rattle.theory.proofs.hands.Rounds.{IsUnderway-begins, IsUnderway-open, IsUnderway-halted, IsUnderway-round, HasWorked-open, HasWorked-halted, HasWorked-short}
use Rattle.cubes.specs.Hands.{Gets}

module _ (F : Formula) (plan : Plan) (first : Ledger) where
  pub loop-begins : (s : List Solved) → s ≡ [] → IsUnderway F plan first first s
  loop-begins s e = subst (IsUnderway F plan first first) (sym e) (IsUnderway-begins F plan first)

  pub loop-round : (l0 l1 l2 l3 : Ledger) (b ok : Bool) (Q : List Literal) (s t : List Solved) → IsUnderway F plan first l0 s → l1 ≡ joined l0 (calling (halted b)) → Gets l1 l2 Q
      → Adds (IsRound F plan ok Q) l2 l3 s t → ok ≡ true → IsUnderway F plan first l3 t
  loop-round l0 l1 l2 l3 b ok Q s t u e g r o =
      let v : IsUnderway F plan first l1 s = subst (λ l. IsUnderway F plan first l s) (sym e) (IsUnderway-halted F plan first l0 b s u) in
      let part : IsRound F plan true Q r.piece r.results = subst (λ c. IsRound F plan c Q r.piece r.results) o r.is_part in
      let w = IsUnderway-round F plan first l1 g.0 Q r.piece s r.results v part in
      subst (IsUnderway F plan first l3) (sym r.is_after) (subst (λ l. IsUnderway F plan first l (s ++ r.results)) (ap (λ l. joined l r.piece) (sym g.1) ∙ sym r.is_new) w)

  pub loop-idle : (l0 l1 l2 l3 : Ledger) (b : Bool) (n : ℕ) (s : List Solved) → IsUnderway F plan first l0 s → l1 ≡ joined l0 (calling (halted b)) → l2 ≡ l1
      → l3 ≡ joined l2 (calling (still_open n)) → IsUnderway F plan first l3 s
  loop-idle l0 l1 l2 l3 b n s u e f h =
      let v : IsUnderway F plan first l2 s = subst (λ l. IsUnderway F plan first l s) (sym (f ∙ e)) (IsUnderway-halted F plan first l0 b s u) in
      subst (λ l. IsUnderway F plan first l s) (sym h) (IsUnderway-open F plan first l2 n s v)

  pub end-open : (l0 l1 l2 l3 : Ledger) (b : Bool) (n : ℕ) (s : List Solved) → IsUnderway F plan first l0 s → l1 ≡ joined l0 (calling (halted b)) → l2 ≡ l1
      → l3 ≡ joined l2 (calling (still_open n)) → n ≡ 0 → HasWorked F plan false first l3 s
  end-open l0 l1 l2 l3 b n s u e f h z =
      let v : IsUnderway F plan first l2 s = subst (λ l. IsUnderway F plan first l s) (sym (f ∙ e)) (IsUnderway-halted F plan first l0 b s u) in
      subst (λ l. HasWorked F plan false first l s) (sym (h ∙ ap (λ k. joined l2 (calling (still_open k))) z)) (HasWorked-open F plan first l2 s v)

  pub end-halted : (l0 l1 : Ledger) (b : Bool) (s : List Solved) → IsUnderway F plan first l0 s → l1 ≡ joined l0 (calling (halted b)) → b ≡ true → HasWorked F plan false first l1 s
  end-halted l0 l1 b s u e z = subst (λ l. HasWorked F plan false first l s) (sym (e ∙ ap (λ k. joined l0 (calling (halted k))) z)) (HasWorked-halted F plan first l0 s u)

  pub end-short : (l0 l1 l2 l3 l4 : Ledger) (b ok : Bool) (Q : List Literal) (s t : List Solved) → IsUnderway F plan first l0 s → l1 ≡ joined l0 (calling (halted b)) → Gets l1 l2 Q
      → Adds (IsRound F plan ok Q) l2 l3 s t → l4 ≡ joined l3 (calling halt) → HasWorked F plan true first l4 t
  end-short l0 l1 l2 l3 l4 b ok Q s t u e g r h =
      let v : IsUnderway F plan first l1 s = subst (λ l. IsUnderway F plan first l s) (sym e) (IsUnderway-halted F plan first l0 b s u) in
      let w = HasWorked-short F plan first l1 g.0 Q r.piece ok s r.results v r.is_part in
      subst (HasWorked F plan true first l4) (sym r.is_after)
      (subst (λ l. HasWorked F plan true first l (s ++ r.results)) (ap (λ l. joined (joined l r.piece) (calling halt)) (sym g.1) ∙ ap (λ l. joined l (calling halt)) (sym r.is_new) ∙ sym h) w)
