-- The lines before all others are within the limits of a proof's text, where they are no more than
-- such a text has bytes.
use Rattle.std.proofs.Common.{◌≡◌, ℕ, ◌+◌, ◌≤◌, List, [], ◌∷◌, length, length-append, refl, Option, Some, None, is_some, All, arith, if◌then◌else◌}
use Rattle.std.proofs.lemmas.List.Elements.{All-nil, All-cons, All-head, All-append, All-weaker}
use Rattle.theory.specs.Literals.{Literal, Clause, IsVariable, negations}
use Rattle.theory.specs.Truth.{Formula}
use Rattle.theory.specs.Plans.{Search, ordered, focused}
use Rattle.theory.specs.Steps.{add, delete}
use Rattle.theory.specs.Checking.{Numbered, clause_of, without_number, Hint, missing, false_clause, not_unit, unit_in, hint, take_hints, conflicts, end_at_conflict, deleted}
use Rattle.theory.specs.Deletions.{without_numbers}
use Rattle.theory.specs.Reading.{large, IsWithinLimits}
use Rattle.theory.specs.ProofReading.{IsLiteral, IsNumber, IsGroup, IsStep, max_literal, max_number, max_proof_bytes}
use Rattle.theory.specs.Simplifying.{Simplified, unsimplified, Change, adds, drops, eliminates, changed, AreFit, changed_by, AreNumbered, dropping, change_steps}
use Rattle.theory.specs.Beginnings.{Beginning, as_it_is, by_pure_units, by_changes, lines_before, IsBeginning}
use Rattle.theory.proofs.checker.Hints.{take_on}
use Rattle.theory.proofs.checker.Soundness.{without_number-at}
use Rattle.theory.proofs.checker.PreludeSteps.{IsStep-prelude}
use Rattle.theory.proofs.simplifying.Simplifications.{AreNumbered-changed, AreNumbered-formula}

-- the number is that of a clause
abbrev IsThere : Numbered → ℕ → Type 0
IsThere K n = (c : Clause) × (clause_of K n ≡ Some c)

-- hints that lead to a conflict are all there
hints-there : (K : Numbered) (P : List Literal) (ns : List ℕ) → take_hints K P ns ≡ conflicts → All (IsThere K) ns
unfolding take_on
hints-there K P [] h = absurd (cc)
hints-there K P (n ∷ ns) h = first (clause_of K n) refl h (λ l. hints-there K (l ∷ P) ns)
  where
    ended : (ms : List ℕ) → end_at_conflict ms ≡ conflicts → All (IsThere K) ms
    ended [] k = All-nil (IsThere K)
    ended (m ∷ ms) k = absurd (cc)

    second : (c : Clause) → clause_of K n ≡ Some c → (r : Hint) → take_on K P ns r ≡ conflicts → ((l : Literal) → take_hints K (l ∷ P) ns ≡ conflicts → All (IsThere K) ns) → All (IsThere K) (n ∷ ns)
    second c e missing k more = absurd (cc)
    second c e false_clause k more = All-cons (IsThere K) n ns (c, e) (ended ns k)
    second c e not_unit k more = absurd (cc)
    second c e (unit_in l) k more = All-cons (IsThere K) n ns (c, e) (more l k)

    first : (o : Option Clause) → clause_of K n ≡ o → take_on K P ns (hint P o) ≡ conflicts → ((l : Literal) → take_hints K (l ∷ P) ns ≡ conflicts → All (IsThere K) ns) → All (IsThere K) (n ∷ ns)
    first None e k more = absurd (cc)
    first (Some c) e k more = second c e (hint P (Some c)) k more

-- and so are those that are deleted
deleted-all : (K L : Numbered) (ns : List ℕ) → deleted K ns ≡ Some L → All (IsThere K) ns
deleted-all K L [] h = All-nil (IsThere K)
deleted-all K L (n ∷ ns) h = go (clause_of K n) refl h (deleted-all (without_number K n) L ns)
  where
    go : (o : Option Clause) → clause_of K n ≡ o → (if is_some o then deleted (without_number K n) ns else None) ≡ Some L
        → (deleted (without_number K n) ns ≡ Some L → All (IsThere (without_number K n)) ns) → All (IsThere K) (n ∷ ns)
    go None e k more = absurd (cc)
    go (Some c) e k more = All-cons (IsThere K) n ns (c, e)
        (All-weaker (IsThere (without_number K n)) (IsThere K) (λ m h. (h.0, (without_number-at K n m h.0 h.1).0)) ns (more k))

numbers-within : (last : ℕ) (K : Numbered) (ns : List ℕ) → AreNumbered last K → last ≤ max_number → All (IsThere K) ns → All IsNumber ns
numbers-within last K ns numbered fits h = All-weaker (IsThere K) IsNumber (λ n t. (let w = numbered.within n t.0 t.1 in let low = w.0 in let high = w.1 in (low, omega arith))) ns h

-- a deletion
dropping-within : (last : ℕ) (K : Numbered) (ns : List ℕ) → AreNumbered last K → last ≤ max_number → All (IsThere K) ns → All IsStep (dropping last ns)
dropping-within last K [] numbered fits h = All-nil IsStep
dropping-within last K (n ∷ ns) numbered fits h = All-cons IsStep (delete (record { id = last; ids = n ∷ ns })) [] (record { id = id; ids = numbers-within last K (n ∷ ns) numbered fits h }) (All-nil IsStep)
  where
    id : IsNumber last
    id =
        let first = All-head (IsThere K) n ns h in
        let w = numbered.within n first.0 first.1 in
        let low = w.0 in
        let high = w.1 in
        (omega arith, fits)

-- numbers are never taken back
last-rises : (s : Simplified) (cs : List Change) → s.last ≤ (changed_by s cs).last
last-rises s [] = omega arith
last-rises s (adds line ∷ cs) = let more = last-rises (changed s (adds line)) cs in omega arith
last-rises s (drops ns ∷ cs) = last-rises (changed s (drops ns)) cs
last-rises s (eliminates x ns ∷ cs) = last-rises (changed s (eliminates x ns)) cs

-- and each is that of a line
pub last-bounded : (s : Simplified) (cs : List Change) → (changed_by s cs).last ≤ s.last + length (change_steps s.last cs)
last-bounded s [] = omega arith
last-bounded s (adds line ∷ cs) = let more = last-bounded (changed s (adds line)) cs in omega arith
last-bounded s (drops ns ∷ cs) =
    let more = last-bounded (changed s (drops ns)) cs in
    let all = length-append (dropping s.last ns) (change_steps s.last cs) in
    omega (arith, all, more)
last-bounded s (eliminates x ns ∷ cs) =
    let more = last-bounded (changed s (eliminates x ns)) cs in
    let all = length-append (dropping s.last ns) (change_steps s.last cs) in
    omega (arith, all, more)

change_steps-within : (V : ℕ) (s : Simplified) (cs : List Change) → V ≤ max_literal → (changed_by s cs).last ≤ max_number → AreNumbered s.last s.clauses → AreFit V s cs → All IsStep (change_steps s.last cs)
change_steps-within V s [] few fits numbered fit = All-nil IsStep
change_steps-within V s (adds line ∷ cs) few fits numbered fit =
    let rises = last-rises (changed s (adds line)) cs in
    All-cons IsStep (add (record { id = s.last + 1; clause = line.clause; hints = line.hints; groups = [] })) (change_steps (s.last + 1) cs)
    (record {
      id = (omega arith, omega arith);
      clause = All-weaker (λ l. IsVariable V l.var) IsLiteral (λ l w. (let low = w.0 in let high = w.1 in (low, omega arith))) line.clause fit.0.over;
      hints = numbers-within s.last s.clauses line.hints numbered (omega arith) (hints-there s.clauses (negations line.clause) line.hints fit.0.passes);
      groups = All-nil IsGroup;
    })
    (change_steps-within V (changed s (adds line)) cs few fits (AreNumbered-changed s (adds line) numbered) fit.1)
change_steps-within V s (drops ns ∷ cs) few fits numbered fit =
    let rises = last-rises (changed s (drops ns)) cs in
    All-append IsStep (dropping s.last ns) (change_steps s.last cs) (dropping-within s.last s.clauses ns numbered (omega arith) (deleted-all s.clauses (without_numbers s.clauses ns) ns fit.0.0))
    (change_steps-within V (changed s (drops ns)) cs few fits (AreNumbered-changed s (drops ns) numbered) fit.1)
change_steps-within V s (eliminates x ns ∷ cs) few fits numbered fit =
    let rises = last-rises (changed s (eliminates x ns)) cs in
    All-append IsStep (dropping s.last ns) (change_steps s.last cs) (dropping-within s.last s.clauses ns numbered (omega arith) (deleted-all s.clauses (without_numbers s.clauses ns) ns fit.0.there))
    (change_steps-within V (changed s (eliminates x ns)) cs few fits (AreNumbered-changed s (eliminates x ns) numbered) fit.1)

-- The lines before all others.
pub lines_before-within : (search : Search) (F : Formula) (b : Beginning) → IsWithinLimits large F → IsBeginning search F b → length (lines_before F b) ≤ max_proof_bytes large → All IsStep (lines_before F b)
lines_before-within search F as_it_is within h few = All-nil IsStep
lines_before-within search F by_pure_units within h few = IsStep-prelude F within
lines_before-within ordered F (by_changes cs) within h few = absurd h
lines_before-within (focused c) F (by_changes cs) within h few =
    let vars = within.vars in
    let clauses = within.clauses in
    let bound = last-bounded (unsimplified F) cs in
    change_steps-within F.vars (unsimplified F) cs (omega arith) (omega arith) (AreNumbered-formula F.clauses) h.1
