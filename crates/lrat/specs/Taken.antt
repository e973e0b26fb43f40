-- Hinted clauses, and what taking hints comes to, as the definitions have them.
use Rattle.std.specs.Prelude.{◌≡◌, ℕ, List, None, Contains}
use Rattle.theory.specs.Literals.{Literal}
use Rattle.theory.specs.Checking as theory
use Rattle.lrat.specs.declared.hints.Hint.{Hint}
use Rattle.lrat.specs.declared.hints.Hint.TheVariants.{False, Implies, NotUnit}
use Rattle.lrat.specs.declared.hints.Taken.{Taken}
use Rattle.lrat.specs.declared.hints.Taken.TheVariants.{Conflict, Open, Fails}
use Rattle.theory.specs.Checking.{Numbered, clause_of}
use Rattle.lrat.specs.declared.check_fault.Fault.{Fault}
use Rattle.lrat.specs.declared.check_fault.Fault.TheVariants as inner
use Rattle.lrat.specs.CheckFaults.{fault_of}

abbrev pub hint_of : Hint → theory.Hint
hint_of False = theory.false_clause
hint_of (Implies l) = theory.unit_in l
hint_of NotUnit = theory.not_unit

-- a fault of a hint names the hint: a clause that isn't there, or one that is no unit
abbrev pub NamesHint : Numbered → List ℕ → Fault → Type 0
NamesHint K hints (inner.NoSuchClause id) = Contains hints id × (clause_of K id ≡ None)
NamesHint K hints (inner.HintNotUnit id) = Contains hints id
NamesHint K hints f = Unit {0}

abbrev pub NamesOneOf : Numbered → List ℕ → Taken → Type 0
NamesOneOf K hints (Fails f) = NamesHint K hints f
NamesOneOf K hints t = Unit {0}

-- where P are the literals held true then
abbrev pub taken_of : Taken → List Literal → theory.Taken
taken_of Conflict P = theory.conflicts
taken_of Open P = theory.holds P
taken_of (Fails f) P = theory.fails (fault_of f)
