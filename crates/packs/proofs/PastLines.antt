-- Lines one behind the other: those that were gone over, and those that are left.
use Rattle.std.proofs.Common.{◌≡◌, ◌↔◌, ℕ, ◌+◌, Bool, true, false, IsTrue, ◌&&◌, List, [], ◌∷◌, ◌++◌, length, nat_eq, nat_lt, eqb-true, refl, ap, sym, subst, ◌∙◌, append_assoc, arith}
use Rattle.std.proofs.lemmas.List.{append-nil}
use Rattle.theory.specs.Literals.{Literal, Clause, negated, negations}
use Rattle.theory.specs.Truth.{IsOver}
use Rattle.theory.specs.Learning.{Line}
use Rattle.theory.specs.Replaying.{IsReplayed, AreReplayed, IsForgetting, AreForgetting, AreRefutation}
use Rattle.theory.proofs.literals.LiteralLemmas.{and-left, and-right}
use Rattle.theory.proofs.literals.LiteralSets.{and-true, has-append_right, has-negations}
use Rattle.theory.proofs.literals.OverVariables.{AreOver-from_IsOver, IsOver-from_AreOver}
use Rattle.packs.specs.Forgotten.{AreMarked}
use Rattle.packs.specs.Replayed.{is_end, EndsEmpty}

abbrev pub line_of : Clause → List ℕ → List ℕ → Line
line_of c hints forgets = record { clause = c; hints = hints; forgets = forgets }

-- of all lines, some were gone over, over whose clauses the ones left are to replay; of those
-- before, just the marked ones are forgotten
pub record IsPast (V : ℕ) (Q : List Literal) (first clauses : List Clause) (marks : List Bool) (all left : List Line) (ends : Bool) : Type 0 where
  pub before : List Line
  pub whole : all ≡ before ++ left
  pub ended : IsTrue ends ↔ EndsEmpty before
  pub goes_on : AreReplayed V (length first) Q (first ++ clauses) left ↔ AreReplayed V (length first) Q first all
  pub gone : List ℕ
  pub marked : AreMarked (length first) marks gone
  pub forgets_on : AreForgetting (length first) (length first + length marks + 1) gone left ↔ AreForgetting (length first) (length first + 1) [] all

no-last : (before : List Line) (last : Line) → [] ≡ before ++ last ∷ [] → ⊥
no-last [] last e = cc
no-last (l ∷ before) last e = cc

pub IsPast-none : (V : ℕ) (Q : List Literal) (first : List Clause) (all : List Line) → IsPast V Q first [] [] all all false
IsPast-none V Q first all = record {
  before = [];
  whole = refl;
  ended = (λ t. absurd (cc), λ e. absurd (no-last e.0 e.1 e.2));
  goes_on = (
    λ r. subst (λ K. AreReplayed V (length first) Q K all) (append-nil first) r,
    λ r. subst (λ K. AreReplayed V (length first) Q K all) (sym (append-nil first)) r,
  );
  gone = [];
  marked = λ k. sym (unmarked (nat_lt (length first) k));
  forgets_on =
      let number : length first + length {A = Bool} [] + 1 ≡ length first + 1 = omega arith in (
        λ f. subst (λ n. AreForgetting (length first) n [] all) number f,
        λ f. subst (λ n. AreForgetting (length first) n [] all) (sym number) f,
      );
}
  where
    unmarked : (b : Bool) → b && false ≡ false
    unmarked true = refl
    unmarked false = refl

last-same : (xs ys : List Line) (x y : Line) → xs ++ x ∷ [] ≡ ys ++ y ∷ [] → x ≡ y
last-same [] [] x y e = cc
last-same [] (z ∷ ys) x y e = absurd (no-last ys y cc)
last-same (z ∷ xs) [] x y e = absurd (no-last xs x (let tail : xs ++ x ∷ [] ≡ [] = cc in sym tail))
last-same (w ∷ xs) (z ∷ ys) x y e = last-same xs ys x y cc

empty-length : {X : Type 0} (c : List X) → nat_eq (length c) 0 ≡ true → c ≡ []
empty-length [] h = refl
empty-length (l ∷ c) h = absurd (let n : length (l ∷ c) ≡ 0 = eqb-true (length (l ∷ c)) 0 h in cc)

pub IsPast-more : (V : ℕ) (Q : List Literal) (first clauses : List Clause) (marks marks2 : List Bool) (all left rest : List Line) (c : Clause) (hints forgets : List ℕ) (ends more : Bool)
    → left ≡ line_of c hints forgets ∷ rest → more ≡ is_end c forgets → IsReplayed V (length first) Q (first ++ clauses) (line_of c hints forgets)
    → ((gone : List ℕ) → AreMarked (length first) marks gone → IsForgetting (length first) (length first + length marks + 1) gone (line_of c hints forgets))
    → ((gone : List ℕ) → AreMarked (length first) marks gone → AreMarked (length first) marks2 (gone ++ forgets)) → length marks2 ≡ length marks + 1
    → IsPast V Q first clauses marks all left ends → IsPast V Q first (clauses ++ c ∷ []) marks2 all rest more
IsPast-more V Q first clauses marks marks2 all left rest c hints forgets ends more e is replays forgetting marked longer p =
    let N = length first in
    let line = line_of c hints forgets in
    record {
      before = p.before ++ line ∷ [];
      whole = p.whole ∙ (ap (λ (ls : List Line). p.before ++ ls) e ∙ sym (append_assoc p.before (line ∷ []) rest));
      ended = (
        λ t.
            let both = sym is ∙ t in (
              p.before,
              line,
              refl,
              empty-length c (and-left (nat_eq (length c) 0) (nat_eq (length forgets) 0) both),
              empty-length forgets (and-right (nat_eq (length c) 0) (nat_eq (length forgets) 0) both),
            ),
        λ w.
            let last = last-same p.before w.0 line w.1 w.2 in
            is ∙ ap (λ (l : Line). is_end l.clause l.forgets) last ∙ and-true (nat_eq (length w.1.clause) 0) (nat_eq (length w.1.forgets) 0) (ap (λ (d : Clause). nat_eq (length d) 0) w.3) (ap (λ (d : List ℕ). nat_eq (length d) 0) w.4),
      );
      goes_on = (
        λ r. p.goes_on.0 (subst (AreReplayed V N Q (first ++ clauses)) (sym e) (replays, subst (λ K. AreReplayed V N Q K rest) (sym (append_assoc first clauses (c ∷ []))) r)),
        λ r. subst (λ K. AreReplayed V N Q K rest) (append_assoc first clauses (c ∷ [])) (subst (AreReplayed V N Q (first ++ clauses)) e (p.goes_on.1 r)).1,
      );
      gone = p.gone ++ forgets;
      marked = marked p.gone p.marked;
      forgets_on =
          let number : N + length marks + 1 + 1 ≡ N + length marks2 + 1 = omega (arith, longer) in (
            λ f. p.forgets_on.0 (subst (AreForgetting N (N + length marks + 1) p.gone) (sym e) (forgetting p.gone p.marked, subst (λ n. AreForgetting N n (p.gone ++ forgets) rest) (sym number) f)),
            λ f. subst (λ n. AreForgetting N n (p.gone ++ forgets) rest) number (subst (AreForgetting N (N + length marks + 1) p.gone) e (p.forgets_on.1 f)).1,
          );
    }

pub IsPast-fails : (V : ℕ) (Q : List Literal) (first clauses : List Clause) (marks : List Bool) (all left rest : List Line) (c : Clause) (hints forgets : List ℕ) (ends : Bool)
    → left ≡ line_of c hints forgets ∷ rest → ¬ (IsReplayed V (length first) Q (first ++ clauses) (line_of c hints forgets)) → IsPast V Q first clauses marks all left ends
    → IsTrue false ↔ AreRefutation V (length first) Q first all
IsPast-fails V Q first clauses marks all left rest c hints forgets ends e fails p =
    (λ t. absurd (cc), λ r. absurd (fails (subst (AreReplayed V (length first) Q (first ++ clauses)) e (p.goes_on.1 r.replayed)).0))

pub IsPast-forgets : (V : ℕ) (Q : List Literal) (first clauses : List Clause) (marks : List Bool) (all left rest : List Line) (c : Clause) (hints forgets : List ℕ) (ends : Bool)
    → left ≡ line_of c hints forgets ∷ rest
    → ((gone : List ℕ) → AreMarked (length first) marks gone → ¬ (IsForgetting (length first) (length first + length marks + 1) gone (line_of c hints forgets)))
    → IsPast V Q first clauses marks all left ends → IsTrue false ↔ AreRefutation V (length first) Q first all
IsPast-forgets V Q first clauses marks all left rest c hints forgets ends e fails p =
    let N = length first in
    (λ t. absurd (cc), λ r. absurd (fails p.gone p.marked (subst (AreForgetting N (N + length marks + 1) p.gone) e (p.forgets_on.1 r.forgetting)).0))

pub IsPast-all : (V : ℕ) (Q : List Literal) (first clauses : List Clause) (marks : List Bool) (all left : List Line) (ends : Bool) → left ≡ [] → IsPast V Q first clauses marks all left ends
    → IsTrue ends ↔ AreRefutation V (length first) Q first all
IsPast-all V Q first clauses marks all left ends e p = (
  λ t. let w = p.ended.0 t in record {
    replayed = p.goes_on.0 (subst (AreReplayed V (length first) Q (first ++ clauses)) (sym e) tt);
    forgetting = p.forgets_on.0 (subst (AreForgetting (length first) (length first + length marks + 1) p.gone) (sym e) tt);
    before = w.0;
    last = w.1;
    ends = done ∙ w.2;
    empty = w.3;
    keeps = w.4;
  },
  λ r. p.ended.1 (r.before, r.last, sym done ∙ r.ends, r.empty, r.keeps),
)
  where
    done : all ≡ p.before
    done = p.whole ∙ (ap (λ (ls : List Line). p.before ++ ls) e ∙ append-nil p.before)

-- a cube of other variables has no lines that replay
cube-over : (V N : ℕ) (Q : List Literal) (K : List Clause) (all before : List Line) (last : Line) → all ≡ before ++ last ∷ [] → AreReplayed V N Q K all → IsOver V Q
cube-over V N Q K [] before last e r = absurd (no-last before last e)
cube-over V N Q K (line ∷ all) before last e r = IsOver-from_AreOver V Q (λ l a.
    AreOver-from_IsOver V (line.clause ++ negations Q) r.0.over (negated l) (has-append_right line.clause (negations Q) (negated l) (has-negations Q l a)))

pub cube-beyond : (V N : ℕ) (Q : List Literal) (K : List Clause) (all : List Line) → ¬ (IsOver V Q) → IsTrue false ↔ AreRefutation V N Q K all
cube-beyond V N Q K all h = (λ t. absurd (cc), λ r. absurd (h (cube-over V N Q K all r.before r.last r.ends r.replayed)))
