-- The lines of clauses and of the pairs beside them.
use Rattle.std.proofs.Common.{◌≡◌, ℕ, zero, suc, ◌+◌, ◌<◌, Bool, true, false, not, cond, List, [], ◌∷◌, ◌++◌, length, filter, refl, ap, ap₂, sym, subst, ◌∙◌, append-nil, length-append, Some, slice_get, get_or, unwrap_or, drop, ◌≤◌, ◌&&◌, nat_le, leb-true, le-leb, arith}
use Rattle.std.specs.List.{list_all}
use Rattle.std.proofs.lemmas.Option.{unwrap_or-slice_get}
use Rattle.theory.proofs.literals.LiteralSets.{false_unless}
use Rattle.theory.proofs.literals.Membership.{slice_get-below}
use Rattle.simplify.proofs.PairSums.{at_place}
use Rattle.std.proofs.lemmas.List.{length_push}
use Rattle.theory.specs.Literals.{Clause, has_both_signs}
use Rattle.theory.specs.Learning.{Line}
use Rattle.cnf.specs.Pieces.{pieces, AreEnds}
use Rattle.cnf.proofs.Pieces.{pieces-push, length-pieces, AreEnds-push}
use Rattle.theory.proofs.literals.LiteralLemmas.{not_true}
use Rattle.simplify.specs.declared.resolvents.Pair.{Pair}
use Rattle.simplify.specs.Pairs.{pair_line, pair_lines}

pub length-pair_lines : (cs : List Clause) (ps : List Pair) → length cs ≡ length ps → length (pair_lines cs ps) ≡ length cs
length-pair_lines [] ps h = refl
length-pair_lines (c ∷ cs) [] h = absurd (omega arith)
length-pair_lines (c ∷ cs) (p ∷ ps) h = let more = length-pair_lines cs ps (omega arith) in omega arith

pub pair_lines-push : (cs : List Clause) (ps : List Pair) (c : Clause) (p : Pair) → length cs ≡ length ps → pair_lines (cs ++ c ∷ []) (ps ++ p ∷ []) ≡ pair_lines cs ps ++ pair_line c p ∷ []
pair_lines-push [] [] c p h = refl
pair_lines-push [] (q ∷ ps) c p h = absurd (omega arith)
pair_lines-push (b ∷ cs) [] c p h = absurd (omega arith)
pair_lines-push (b ∷ cs) (q ∷ ps) c p h = ap (λ ls. pair_line b q ∷ ls) (pair_lines-push cs ps c p (omega arith))

-- what the line at a place says
pub pair_lines-at : (cs : List Clause) (ps : List Pair) (i : ℕ) (l : Line) → slice_get (pair_lines cs ps) i ≡ Some l
    → (c : Clause) × (p : Pair) × (slice_get cs i ≡ Some c) × (slice_get ps i ≡ Some p) × (l ≡ pair_line c p)
pair_lines-at [] ps i l h = absurd (cc)
pair_lines-at (c ∷ cs) [] i l h = absurd (cc)
pair_lines-at (c ∷ cs) (p ∷ ps) zero l h = (c, p, refl, refl, (let is : pair_line c p ≡ l = cc in sym is))
pair_lines-at (c ∷ cs) (p ∷ ps) (suc i) l h = pair_lines-at cs ps i l h

-- one more resolvent, if it has no variable in both signs
pub with_resolvent : (literals : Clause) (ends : List ℕ) (ps : List Pair) (c : Clause) (p : Pair) (end : ℕ) → AreEnds 0 ends (length literals) → length ps ≡ length ends → end ≡ length literals + length c → has_both_signs c ≡ false
    → pair_lines (pieces 0 (literals ++ c) (ends ++ end ∷ [])) (ps ++ p ∷ []) ≡ pair_lines (pieces 0 literals ends) ps ++ filter (λ (line : Line). not (has_both_signs line.clause)) (pair_line c p ∷ [])
with_resolvent literals ends ps c p end ok same is h =
    ap (λ cs. pair_lines cs (ps ++ p ∷ [])) (pieces-push 0 literals c ends end ok is)
    ∙ (pair_lines-push (pieces 0 literals ends) ps c p (length-pieces 0 literals ends ∙ sym same)
    ∙ ap (λ ls. pair_lines (pieces 0 literals ends) ps ++ ls) (sym (ap (λ b. cond (not b) (pair_line c p ∷ []) []) h)))

-- and none, if it has
pub without_resolvent : (ls : List Line) (c : Clause) (p : Pair) → has_both_signs c ≡ true → ls ≡ ls ++ filter (λ (line : Line). not (has_both_signs line.clause)) (pair_line c p ∷ [])
without_resolvent ls c p h = sym (ap (λ b. ls ++ cond (not b) (pair_line c p ∷ []) []) h ∙ append-nil ls)

-- what is kept of them: the literals with those of one more clause, their ends with where it ends, and the pairs with its own
module _ (literals longer c : Clause) (ends more_ends : List ℕ) (ps more : List Pair) (p : Pair) (end : ℕ) where
  pub end-behind : longer ≡ literals ++ c → end ≡ length longer → end ≡ length literals + length c
  end-behind is e = e ∙ (ap length is ∙ length-append literals c)

  pub kept : AreEnds 0 ends (length literals) → length ps ≡ length ends → longer ≡ literals ++ c → end ≡ length longer → more_ends ≡ ends ++ end ∷ [] → more ≡ ps ++ p ∷ []
      → AreEnds 0 more_ends (length longer) × (length more ≡ length more_ends)
  kept ok same is e es qs =
      let behind = end-behind is e in (
        subst (λ n. AreEnds 0 more_ends n) e (subst (λ L. AreEnds 0 L end) (sym es) (AreEnds-push 0 ends (length literals) end ok (omega arith))),
        ap length qs ∙ (length_push ps p ∙ (ap (λ n. n + 1) same ∙ (sym (length_push ends end) ∙ ap length (sym es)))),
      )

  pub kept-lines : (old : List Line) → pair_lines (pieces 0 literals ends) ps ≡ old → AreEnds 0 ends (length literals) → length ps ≡ length ends → longer ≡ literals ++ c → end ≡ length longer → more_ends ≡ ends ++ end ∷ []
      → more ≡ ps ++ p ∷ [] → true ≡ not (has_both_signs c) → pair_lines (pieces 0 longer more_ends) more ≡ old ++ filter (λ (line : Line). not (has_both_signs line.clause)) (pair_line c p ∷ [])
  kept-lines old view ok same is e es qs h =
      ap (λ L. pair_lines (pieces 0 L more_ends) more) is
      ∙ (ap₂ (λ L M. pair_lines (pieces 0 (literals ++ c) L) M) es qs
      ∙ (with_resolvent literals ends ps c p end ok same (end-behind is e) (not_true (has_both_signs c) (sym h)) ∙ ap (λ ls. ls ++ filter (λ (line : Line). not (has_both_signs line.clause)) (pair_line c p ∷ [])) view))

-- whether a line has at most so many literals
abbrev pub is_short : ℕ → Line → Bool
is_short most line = nat_le (length line.clause) most

-- the line at a place decides, and those behind it
pub short-here : (most : ℕ) (ls : List Line) (i : ℕ) (c : Clause) → i < length ls → ((l : Line) → slice_get ls i ≡ Some l → l.clause ≡ c) → list_all (is_short most) (drop i ls) ≡ nat_le (length c) most && list_all (is_short most) (drop (i + 1) ls)
short-here most ls i c within h =
    let one = slice_get-below ls i within in
    let at : one.0 ≡ get_or ls i one.0 = sym (ap (λ o. unwrap_or o one.0) one.1) ∙ unwrap_or-slice_get ls i one.0 in
    ap (list_all (is_short most)) (at_place ls i one.0 within at) ∙ ap (λ (d : Clause). nat_le (length d) most && list_all (is_short most) (drop (i + 1) ls)) (h one.0 one.1)

pub short-no : (most : ℕ) (ls : List Line) (i : ℕ) (c : Clause) → i < length ls → ((l : Line) → slice_get ls i ≡ Some l → l.clause ≡ c) → most < length c → list_all (is_short most) (drop i ls) ≡ false
short-no most ls i c within h long =
    short-here most ls i c within h ∙ ap (λ b. b && list_all (is_short most) (drop (i + 1) ls)) (false_unless (nat_le (length c) most) (λ t. (let short = leb-true (length c) most t in absurd (omega arith))))

pub short-yes : (most : ℕ) (ls : List Line) (i : ℕ) (c : Clause) → i < length ls → ((l : Line) → slice_get ls i ≡ Some l → l.clause ≡ c) → length c ≤ most → list_all (is_short most) (drop (i + 1) ls) ≡ list_all (is_short most) (drop i ls)
short-yes most ls i c within h short = sym (short-here most ls i c within h ∙ ap (λ b. b && list_all (is_short most) (drop (i + 1) ls)) (le-leb (length c) most short))
