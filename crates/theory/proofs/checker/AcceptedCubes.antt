-- The last line of a cube behind its other lines, and the deletion behind that, are accepted.
use Rattle.std.proofs.Common.{◌≡◌, ℕ, ◌+◌, ◌<◌, ◌≤◌, true, false, List, [], ◌∷◌, ◌++◌, refl, ap, ◌∙◌, nat_eq, eqb-true, eq-eqb, Some, is_some, arith, if◌then◌else◌}
use Rattle.theory.specs.Literals.{Literal, negations, has_both_signs}
use Rattle.theory.specs.Steps.{Addition, Deletion, Step, add, delete}
use Rattle.theory.specs.Checking.{Numbered, clause_of, take_hints, conflicts, Checker, added, deletion_test, is_empty}
use Rattle.theory.specs.Deletions.{is_among, are_different, without_numbers}
use Rattle.theory.specs.Proofs.{deletion}
use Rattle.theory.proofs.literals.LiteralLemmas.{or-right}
use Rattle.theory.proofs.literals.LiteralSets.{false_unless}
use Rattle.theory.proofs.literals.OverVariables.{AreOver}
use Rattle.theory.proofs.checker.AcceptedSteps.{Follows, Follows-one, Follows-then, Follows-add, addition_fault-none}
use Rattle.theory.proofs.checker.FewerClauses.{clause_of-without_numbers, deleted-there}

-- the last of the steps adds the empty clause
abbrev pub EndsEmpty : List Step → Type 0
EndsEmpty steps = (before : List Step) × (line : Addition) × (steps ≡ before ++ add line ∷ []) × (line.clause ≡ [])

-- from the state s on the steps of a cube, their additions numbered from n on, are accepted; the
-- last addition is the negations of the cube
pub record CubeLeads (V n count : ℕ) (Q : List Literal) (s : Checker) (steps : List Step) : Type 0 where
  pub state : Checker
  pub leads : Follows V s steps state
  pub last : state.last + 1 ≡ n + count
  pub final : clause_of state.clauses state.last ≡ Some (negations Q)
  pub kept : (m : ℕ) → m < n → clause_of state.clauses m ≡ clause_of s.clauses m
  pub some : 1 ≤ count
  pub empty : Q ≡ [] → state.empty ≡ true
  pub ends : Q ≡ [] → EndsEmpty steps

-- the addition that ends a cube's lines
unfoldable pub ending : ℕ → List Literal → List ℕ → Addition
ending n Q hints = record { id = n; clause = negations Q; hints = hints; groups = [] }

-- the other clauses are there as before
other-added : (t : Checker) (m : ℕ) (Q : List Literal) (hints : List ℕ) (k : ℕ) → k < m → clause_of (added t (ending m Q hints)).clauses k ≡ clause_of t.clauses k
unfolding ending
other-added t m Q hints k h =
    ap (λ b. if b then Some (negations Q) else clause_of t.clauses k) (false_unless (nat_eq m k) (λ t. let q : m ≡ k = eqb-true m k t in omega arith))

-- steps, and then that addition
CubeLeads-line : (V n m count : ℕ) (Q : List Literal) (s t : Checker) (steps : List Step) (hints : List ℕ) → Follows V s steps t → n ≤ m → m + 1 ≡ n + count → t.last < m
    → ((k : ℕ) → k < n → clause_of t.clauses k ≡ clause_of s.clauses k) → AreOver V (negations Q) → has_both_signs (negations Q) ≡ false
    → take_hints t.clauses (negations (negations Q)) hints ≡ conflicts → CubeLeads V n count Q s (steps ++ add (ending m Q hints) ∷ [])
unfolding ending
CubeLeads-line V n m count Q s t steps hints leads low e rises kept over sign h = record {
  state = added t (ending m Q hints);
  leads = Follows-then V s t (added t (ending m Q hints)) steps (add (ending m Q hints) ∷ []) leads
      (Follows-add V t (ending m Q hints) (addition_fault-none V t.last t.clauses m (negations Q) hints rises over sign h) h);
  last = e;
  final = ap (λ b. if b then Some (negations Q) else clause_of t.clauses m) (eq-eqb m m refl);
  kept = λ k l. other-added t m Q hints k (omega arith) ∙ kept k l;
  some = omega arith;
  empty = λ q. or-right t.empty (is_empty (negations Q)) (ap (λ c. is_empty (negations c)) q);
  ends = λ q. (steps, ending m Q hints, refl, ap negations q);
}

-- what may be deleted behind the addition of number m: lines of the cube, whose numbers go from n
-- on
pub record AreOwn (n m : ℕ) (here : Numbered) (ns : List ℕ) : Type 0 where
  pub distinct : are_different ns ≡ true
  pub first : (k : ℕ) → is_among k ns ≡ true → n ≤ k
  pub before : (k : ℕ) → is_among k ns ≡ true → k < m
  pub there : (k : ℕ) → is_among k ns ≡ true → is_some (clause_of here k) ≡ true

-- steps, then that addition, then the deletion
pub CubeLeads-end : (V n m count : ℕ) (Q : List Literal) (s t : Checker) (steps : List Step) (hints ns : List ℕ) → Follows V s steps t → n ≤ m → m + 1 ≡ n + count → t.last < m
    → ((k : ℕ) → k < n → clause_of t.clauses k ≡ clause_of s.clauses k) → AreOver V (negations Q) → has_both_signs (negations Q) ≡ false
    → take_hints t.clauses (negations (negations Q)) hints ≡ conflicts → AreOwn n m t.clauses ns → CubeLeads V n count Q s (steps ++ add (ending m Q hints) ∷ deletion Q m ns)
unfolding ending
CubeLeads-end V n m count [] s t steps hints ns leads low e rises kept over sign h own = CubeLeads-line V n m count [] s t steps hints leads low e rises kept over sign h
CubeLeads-end V n m count (l ∷ Q) s t steps hints [] leads low e rises kept over sign h own = CubeLeads-line V n m count (l ∷ Q) s t steps hints leads low e rises kept over sign h
CubeLeads-end V n m count (l ∷ Q) s t steps hints (i ∷ ns) leads low e rises kept over sign h own = record {
  state = after;
  leads = Follows-then V s t after steps (add line ∷ delete gone ∷ []) leads (Follows-then V t between after (add line ∷ []) (delete gone ∷ []) to_line to_end);
  last = e;
  final = clause_of-without_numbers between.clauses (i ∷ ns) m (false_unless (is_among m (i ∷ ns)) (λ a. let l = own.before m a in omega arith)) ∙ at_line;
  kept = λ k h. clause_of-without_numbers between.clauses (i ∷ ns) k (false_unless (is_among k (i ∷ ns)) (λ a. let f = own.first k a in omega arith))
      ∙ (other-added t m (l ∷ Q) hints k (omega arith) ∙ kept k h);
  some = omega arith;
  empty = λ q. absurd (cc);
  ends = λ q. absurd (cc);
}
  where
    line : Addition
    line = ending m (l ∷ Q) hints

    gone : Deletion
    gone = record { id = m; ids = i ∷ ns }

    between : Checker
    between = added t line

    after : Checker
    after = record between { clauses = without_numbers between.clauses (i ∷ ns) }

    to_line : Follows V t (add line ∷ []) between
    to_line = Follows-add V t line (addition_fault-none V t.last t.clauses m (negations (l ∷ Q)) hints rises over sign h) h

    still_there : (k : ℕ) → is_among k (i ∷ ns) ≡ true → is_some (clause_of between.clauses k) ≡ true
    still_there k a = let b = own.before k a in ap is_some (other-added t m (l ∷ Q) hints k (omega arith)) ∙ own.there k a

    to_end : Follows V between (delete gone ∷ []) after
    to_end = Follows-one V between after (delete gone) (ap (deletion_test between) (deleted-there between.clauses (i ∷ ns) own.distinct still_there)) refl

    at_line : clause_of between.clauses m ≡ Some (negations (l ∷ Q))
    at_line = ap (λ b. if b then Some (negations (l ∷ Q)) else clause_of t.clauses m) (eq-eqb m m refl)
