-- What a conflict teaches, put together from the walks over the current level and below it.
use Rattle.std.proofs.Common.{◌≡◌, ℕ, ◌+◌, ◌-◌, ◌≤◌, true, not, List, [], ◌∷◌, ◌++◌, length, take, drop, Option, Some, None, refl, ap, sym, ◌∙◌, arith, length-append}
use Rattle.theory.specs.Literals.{Literal, Clause}
use Rattle.theory.specs.Trails.{Trail, literals, current_level}
use Rattle.theory.specs.Propagation.{clause_at, least_false}
use Rattle.theory.specs.Status.{is_false}
use Rattle.theory.specs.Lessons.{lesson_of}
use Rattle.theory.proofs.literals.LiteralSets.{has-from_filter, is_false-from_Refutes}
use Rattle.theory.proofs.trails.LawfulTrails.{least_false-at}
use Rattle.theory.proofs.searching.Walks.{Refutes-walk, Refutes-begin}
use Rattle.theory.specs.Lawful.{IsLawful}
use Rattle.theory.specs.Learning.{walk, with_literals, resolved_by, reason_used, is_of_cube}
use Rattle.theory.specs.Removing.{first_walk, removable}
use Rattle.kernel.specs.State.{State}
use Rattle.cdcl.specs.declared.analysis.marks.Marks.{Marks}
use Rattle.cdcl.specs.Marks.{IsSet, latest_from}
use Rattle.cdcl.proofs.CurrentWalks.{walk-front}
use Rattle.cdcl.proofs.Pending.{pending-done}

-- a walk puts its hints before those that it began with
walk-hints : (K : List Clause) (T : Trail) (R : List Literal) (es : Trail) (S : Clause) (hints : List ℕ) → (before : List ℕ) × ((walk K T R es S hints).1 ≡ before ++ hints)
walk-hints K T R [] S hints = ([], refl)
walk-hints K T R (e ∷ es) S hints = go (reason_used T R (walk K T R es S hints).0 e) (walk-hints K T R es S hints)
  where
    go : (o : Option ℕ) → (before : List ℕ) × ((walk K T R es S hints).1 ≡ before ++ hints) → (before : List ℕ) × ((resolved_by K e (walk K T R es S hints) o).1 ≡ before ++ hints)
    go None h = h
    go (Some n) h = (n ∷ h.0, ap (λ (ns : List ℕ). n ∷ ns) h.1)

drop-before : (xs ys : List ℕ) → drop (length xs) (xs ++ ys) ≡ ys
drop-before [] ys = refl
drop-before (x ∷ xs) ys = drop-before xs ys

-- the last hints are those of the walk over the current level
pub last-hints : (k : State) (R : List Literal) (n count : ℕ) (hints : List ℕ) → IsLawful k.clauses k.trail → 1 ≤ current_level k.trail
    → hints ≡ (walk k.clauses k.trail R k.trail (with_literals (clause_at k.clauses n) []) (n ∷ [])).1 → count ≡ length (first_walk k.clauses k.trail n).1
    → (count ≤ length hints) × (drop (length hints - count) hints ≡ (first_walk k.clauses k.trail n).1)
last-hints k R n count hints lawful above is many = (
  omega (arith, long, many),
  ap (λ i. drop i hints) (let at : length hints - count ≡ length parts.0 = omega (arith, long, many) in at) ∙ (ap (drop (length parts.0)) whole ∙ drop-before parts.0 first.1),
)
  where
    first : Clause × List ℕ
    first = first_walk k.clauses k.trail n

    parts : (before : List ℕ) × ((walk k.clauses k.trail R (take (latest_from k.trail) k.trail) (first_walk k.clauses k.trail n).0 (first_walk k.clauses k.trail n).1).1 ≡ before ++ (first_walk k.clauses k.trail n).1)
    parts = walk-hints k.clauses k.trail R (take (latest_from k.trail) k.trail) (first_walk k.clauses k.trail n).0 (first_walk k.clauses k.trail n).1

    whole : hints ≡ parts.0 ++ (first_walk k.clauses k.trail n).1
    whole = is ∙ (ap (λ (w : Clause × List ℕ). w.1) (sym (walk-front k.clauses k.trail lawful above R n)) ∙ parts.1)

    long : length hints ≡ length parts.0 + length (first_walk k.clauses k.trail n).1
    long = ap length whole ∙ length-append parts.0 (first_walk k.clauses k.trail n).1

-- where nothing waits, it doesn't matter what is removable
pub IsSet-plain : {R : List Literal} (k : State) (S : Clause) (bound : ℕ) (m : Marks) → m.pending ≡ [] → IsSet k R S bound m → IsSet k [] S 0 m
IsSet-plain {R} k S bound m none h = record { is = h.is; seen = h.seen; pending = rw none (pending-done k.trail [] S) }

-- the literals of the line are false
pub line-false : (k : State) (n : ℕ) → IsLawful k.clauses k.trail → least_false (literals k.trail) k.clauses ≡ Some n → is_false (literals k.trail) (lesson_of k.clauses k.trail n).line.clause ≡ true
line-false k n lawful clash =
    let R = removable k.clauses k.trail (first_walk k.clauses k.trail n).0 k.trail [] in
    let all = Refutes-walk k.clauses k.trail R (with_literals (clause_at k.clauses n) []) (n ∷ []) lawful (Refutes-begin k.clauses k.trail n (least_false-at (literals k.trail) k.clauses n clash).2) in
    is_false-from_Refutes (literals k.trail) (lesson_of k.clauses k.trail n).line.clause (λ l a. all l (has-from_filter (λ x. not (is_of_cube k.trail x)) (walk k.clauses k.trail R k.trail (with_literals (clause_at k.clauses n) []) (n ∷ [])).0 l a).0)
