-- What an outcome says of its cube, by what a search keeps.
use Rattle.std.proofs.Common.{◌≡◌, ℕ, Bool, true, ◌&&◌, List, [], ◌∷◌, ◌++◌, length, refl, sym, subst, ◌∙◌, Some, None}
use Rattle.std.proofs.lemmas.List.Folds.{list_all-append}
use Rattle.theory.specs.Literals.{Literal, Clause, has, negated}
use Rattle.theory.specs.Truth.{AreTrue, value, is_true, is_true_clause, are_true}
use Rattle.theory.specs.Trails.{Trail, literals, current_level, least_free}
use Rattle.theory.specs.Propagation.{least_false}
use Rattle.theory.specs.Learning.{Line, learn_removing}
use Rattle.theory.specs.Search.{Outcome, model, refuted, exhausted, values}
use Rattle.theory.specs.Replaying.{AreRefutation}
use Rattle.theory.specs.Kept.{IsSearchOf}
use Rattle.theory.proofs.literals.LiteralLemmas.{and-left}
use Rattle.theory.proofs.literals.LiteralSets.{false_unless, has-head, has-tail}
use Rattle.theory.proofs.trails.LawfulTrails.{least_false-at}
use Rattle.theory.proofs.trails.TrailEntries.{has-from_cube_of, literals-consistent}
use Rattle.theory.proofs.literals.OverVariables.{AreOver-from_IsOver}
use Rattle.theory.proofs.searching.EmptyLines.{clause-learn_empty}
use Rattle.theory.proofs.searching.ModelLemmas.{quiet-true, there-true, length-values}
use Rattle.theory.proofs.searching.ForgottenClauses.{hints-left}
use Rattle.theory.proofs.searching.ForgettingLines.{AreForgetting-line}
use Rattle.theory.proofs.searching.KeptSearches.{AreReplayed-push, IsReplayed-learn}

-- a model makes the first clauses and the cube true; a refuted cube's lines replay
abbrev pub CubeSays : ℕ → List Clause → List Literal → Outcome → Type 0
CubeSays V K Q (model M) = (length M ≡ V) × (are_true (value M) K ≡ true) × AreTrue (value M) Q
CubeSays V K Q (refuted lines) = AreRefutation V (length K) Q K lines
CubeSays V K Q (exhausted x) = Unit {0}

-- the cube's literals are on the trail
on-trail : (V : ℕ) (K : List Clause) (Q : List Literal) (C : List Clause) (T : Trail) (lines : List Line) (l : Literal) → IsSearchOf V K Q C T lines → has Q l ≡ true → has (literals T) l ≡ true
on-trail V K Q C T lines l i a = (has-from_cube_of C T l i.lawful (subst (λ (c : List Literal). has c l ≡ true) (sym i.cube) a)).0

all-true : (m : ℕ → Bool) (Q : List Literal) → ((l : Literal) → has Q l ≡ true → is_true m l ≡ true) → AreTrue m Q
all-true m [] f = tt
all-true m (l ∷ Q) f = (f l (has-head l Q), all-true m Q (λ k h. f k (has-tail l k Q h)))

pub CubeSays-true : (V : ℕ) (K : List Clause) (Q : List Literal) (C : List Clause) (T : Trail) (lines : List Line) → are_true (value (values V T)) K ≡ true → IsSearchOf V K Q C T lines
    → CubeSays V K Q (model (values V T))
CubeSays-true V K Q C T lines all i = (length-values V T, all, all-true m Q each)
  where
    m : ℕ → Bool
    m = value (values V T)

    each : (l : Literal) → has Q l ≡ true → is_true m l ≡ true
    each l a =
        let there : has (literals T) l ≡ true = on-trail V K Q C T lines l i a in
        there-true V T l (AreOver-from_IsOver V (literals T) i.variables l there) there
        (false_unless (has (literals T) (negated l)) (λ t. literals-consistent C T l i.lawful there t))

pub CubeSays-model : (V : ℕ) (K : List Clause) (Q : List Literal) (C : List Clause) (T : Trail) (lines : List Line) → least_free V T ≡ None → least_false (literals T) C ≡ None
    → IsSearchOf V K Q C T lines → CubeSays V K Q (model (values V T))
CubeSays-model V K Q C T lines full calm i = CubeSays-true V K Q C T lines (and-left (are_true m K) (are_true m i.learnt) both) i
  where
    m : ℕ → Bool
    m = value (values V T)

    all : are_true m C ≡ true
    all = quiet-true V T C full i.over calm

    both : are_true m K && are_true m i.learnt ≡ true
    both = sym (list_all-append (is_true_clause m) K i.learnt) ∙ subst (λ (c : List Clause). are_true m c ≡ true) i.are_clauses all

pub CubeSays-refuted : (V : ℕ) (R : List Literal) (K : List Clause) (Q : List Literal) (C : List Clause) (T : Trail) (lines : List Line) (n : ℕ) → least_false (literals T) C ≡ Some n → current_level T ≡ 0
    → IsSearchOf V K Q C T lines → CubeSays V K Q (refuted (lines ++ learn_removing R C T n ∷ []))
CubeSays-refuted V R K Q C T lines n h level i = record {
  replayed = AreReplayed-push V (length K) Q K lines (learn_removing R C T n) i.replayed (IsReplayed-learn V R K Q C T lines n h i);
  forgetting = AreForgetting-line V K Q C T lines (learn_removing R C T n) i refl (λ k e. hints-left R C T n k i.lawful h e);
  before = lines;
  last = learn_removing R C T n;
  ends = refl;
  keeps = refl;
  empty = clause-learn_empty R C T n i.lawful level (least_false-at (literals T) C n h).2;
}
