-- What is made of a formula is what the definition says.
use Rattle.std.proofs.Common.{◌≡◌, ℕ, ◌+◌, ◌*◌, ◌≤◌, nat_le, Bool, true, false, List, [], ◌∷◌, ◌++◌, map, length, refl, ap, ap₂, sym, subst, ◌∙◌, Option, Some, None, is_some, arith, if◌then◌else◌}
use Rattle.std.specs.List.{sum_by}
use Rattle.std.specs.Option.{unwrap_or, option_map}
use Rattle.std.proofs.lemmas.Bool.{leb-true, leb-false}
use Rattle.theory.specs.Literals.{Clause}
use Rattle.theory.specs.Truth.{Formula, IsFormula, value}
use Rattle.theory.specs.Trails.{variables}
use Rattle.theory.specs.Propagation.{clause_at}
use Rattle.theory.specs.Forgetting.{forgotten}
use Rattle.theory.specs.Checking.{clause_of}
use Rattle.theory.specs.Proofs.{numbers_from}
use Rattle.theory.specs.Steps.{add, delete}
use Rattle.theory.specs.Simplifying.{Simplified, Change, adds, drops, eliminates, unsimplified, simplified, kept_clauses, change_steps, dropping, extended}
use Rattle.theory.specs.Eliminating.{tidying}
use Rattle.theory.specs.Trying.{Trial, Tries, IsSimplification, effort, size, first_trial}
use Rattle.simplify.specs.Entries.{set, there}
use Rattle.simplify.specs.Stored.{stored}
use Rattle.simplify.specs.Extending.{AreOver}
use Rattle.simplify.specs.Tried.{State}
use Rattle.simplify.specs.Opening.{first_state}
use Rattle.simplify.specs.Following.{lines_of, AreHinted, Follows, IsFinished}
use Rattle.simplify.specs.Left.{left_at, left_clauses}
use Rattle.simplify.specs.Made.{steps_from, IsMadeBy}
use Rattle.simplify.proofs.EntryNumbers.{map-alike, numbers-within, length-stored, entry-stored, there-stored}
use Rattle.simplify.proofs.FirstStates.{follows-first}

-- the lines, as a proof's
steps-of : (last : ℕ) (cs : List Change) → AreHinted cs → steps_from last (lines_of cs) ≡ change_steps last cs
steps-of last [] h = refl
steps-of last (adds line ∷ cs) h = go line.hints refl h.0 (steps-of (last + 1) cs h.1)
  where
    go : (hints : List ℕ) → line.hints ≡ hints → (n : ℕ) × (ns : List ℕ) × (line.hints ≡ n ∷ ns) → steps_from (last + 1) (lines_of cs) ≡ change_steps (last + 1) cs
        → (elim hints [
          | [] ↦ delete (record { id = last; ids = line.forgets }) ∷ steps_from last (lines_of cs)
          | n ∷ ns ↦ add (record { id = last + 1; clause = line.clause; hints = line.hints; groups = [] }) ∷ steps_from (last + 1) (lines_of cs)
        ]) ≡ add (record { id = last + 1; clause = line.clause; hints = line.hints; groups = [] }) ∷ change_steps (last + 1) cs
    go [] e some more = absurd (let both = sym e ∙ some.2 in cc)
    go (n ∷ ns) e some more = ap (λ steps. add (record { id = last + 1; clause = line.clause; hints = line.hints; groups = [] }) ∷ steps) more
steps-of last (drops [] ∷ cs) h = steps-of last cs h
steps-of last (drops (n ∷ ns) ∷ cs) h = ap (λ steps. dropping last (n ∷ ns) ++ steps) (steps-of last cs h)
steps-of last (eliminates x [] ∷ cs) h = steps-of last cs h
steps-of last (eliminates x (n ∷ ns) ∷ cs) h = ap (λ steps. dropping last (n ∷ ns) ++ steps) (steps-of last cs h)

module _ (F : Formula) (cs : List Change) (t : Trial) (a : State) (h : Follows F cs t a) where
  left-same : (n : ℕ) → 1 ≤ n → n ≤ t.state.last → left_at F (stored t.state) n ≡ unwrap_or (clause_of t.state.clauses n) forgotten
  left-same n low high = ap (λ o. if is_some o then (if nat_le n (length F.clauses) then clause_at F.clauses n else there (stored t.state) n) else forgotten) (entry-stored t.state n low high) ∙ go (clause_of t.state.clauses n) refl
    where
      go : (o : Option Clause) → clause_of t.state.clauses n ≡ o → (if is_some (option_map set o) then (if nat_le n (length F.clauses) then clause_at F.clauses n else there (stored t.state) n) else forgotten) ≡ unwrap_or o forgotten
      go None e = refl
      go (Some c) e = by (nat_le n (length F.clauses)) refl
        where
          by : (b : Bool) → nat_le n (length F.clauses) ≡ b → (if b then clause_at F.clauses n else there (stored t.state) n) ≡ c
          by true f = ap (λ o. unwrap_or o []) (h.origin.old n c e (leb-true n (length F.clauses) f))
          by false f = there-stored t.state n low high ∙ (ap (λ o. set (unwrap_or o [])) e ∙ h.origin.new n c e (leb-false n (length F.clauses) f))

  left-kept : left_clauses F a.entries ≡ kept_clauses t.state
  left-kept =
      ap (left_clauses F) h.entries
      ∙ (ap (λ k. map (left_at F (stored t.state)) (numbers_from 1 k)) (length-stored t.state)
      ∙ map-alike (left_at F (stored t.state)) (λ n. unwrap_or (clause_of t.state.clauses n) forgotten) (numbers_from 1 t.state.last)
      (λ n c. let w = numbers-within 1 t.state.last n c in let high = w.1 in left-same n w.0 (omega arith)))

  made : IsMadeBy F cs (record { formula = record { vars = a.vars; clauses = left_clauses F a.entries }; lines = a.lines; eliminated = a.eliminated })
  made = record {
    formula = ap₂ (λ (V : ℕ) (K : List Clause). record { vars = V; clauses = K }) h.vars (left-kept ∙ ap kept_clauses h.changes);
    lines = ap (steps_from (length F.clauses)) h.lines ∙ steps-of (length F.clauses) cs h.hinted;
    extends = λ M long. map-alike (extended (value M) a.eliminated) (extended (value M) (simplified F cs).eliminated) (variables F.vars)
        (λ v c. h.kept (value M) v ∙ ap (λ (s : Simplified). extended (value M) s.eliminated v) h.changes);
  }

pub finished-made : (F : Formula) (most : ℕ) (b : State) → IsFormula F → most ≡ effort * sum_by size F.clauses → IsFinished most (first_state F) b
    → (cs : List Change) × IsSimplification F cs × IsMadeBy F cs (record { formula = record { vars = b.vars; clauses = left_clauses F b.entries }; lines = b.lines; eliminated = b.eliminated })
finished-made F most b formed e finished =
    let it = finished F (tidying (unsimplified F)) (first_trial F) (follows-first F formed) in
    (tidying (unsimplified F) ++ it.0, (it.0, refl, subst (λ k. Tries F.vars k (first_trial F) it.0) e it.2), made F (tidying (unsimplified F) ++ it.0) it.1 b it.3)

pub finished-over : (F : Formula) (most : ℕ) (b : State) → IsFormula F → IsFinished most (first_state F) b → AreOver b.vars b.eliminated × (b.vars ≡ F.vars)
finished-over F most b formed finished =
    let it = finished F (tidying (unsimplified F)) (first_trial F) (follows-first F formed) in
    (subst (λ V. AreOver V b.eliminated) (sym it.3.vars) it.3.over, it.3.vars)
