-- What a step leaves of a checker.
use Rattle.std.specs.Prelude.{◌≡◌, ◌≤◌, ℕ, Bool, true, false, [], length, Option, Some, None}
use Rattle.theory.specs.Truth.{Formula}
use Rattle.theory.specs.Checking as theory
use Rattle.theory.specs.Checking.{Numbered}
use Rattle.lrat.specs.declared.checker.Checker.{Checker}
use Rattle.lrat.specs.declared.check_fault.Fault.{Fault}
use Rattle.lrat.specs.CheckFaults.{fault_of}
use Rattle.lrat.specs.Flat.{AreUpTo}
use Rattle.lrat.specs.Indexed.{IsIndexed}
use Rattle.lrat.specs.Slots.{there}

-- whether each was there, and what is left then
abbrev pub IsDeleted : Option Numbered → Bool → Numbered → Type 0
IsDeleted (Some K) b L = (b ≡ true) × (L ≡ K)
IsDeleted None b L = b ≡ false

abbrev pub checker_of : Checker → theory.Checker
checker_of s = record { clauses = there s.clauses; last = s.last; empty = s.empty }

-- the checker of a formula before the first step
abbrev pub start : Formula → theory.Checker
start F = record { clauses = theory.numbered_from 1 F.clauses; last = length F.clauses; empty = false }

-- between two steps nothing is held true, and no clause has a number above the last; the variables
-- that clauses had so far are some of those that they may have
pub record IsReady (V : ℕ) (s : Checker) : Type 0 where
  pub vars : s.vars ≡ V
  pub clauses_vars : s.clauses.vars ≡ s.held.vars
  pub held_vars : s.held.vars ≤ V
  pub none_held : s.held.literals ≡ []
  pub indexed : IsIndexed s.clauses.slots s.occurrences
  pub up_to : AreUpTo s.last s.clauses.slots

-- the step has the fault, or leaves the checker ready
abbrev pub Tests : theory.Tested → ℕ → Option Fault → Checker → Type 0
Tests t V (Some f) s = t ≡ theory.faulty (fault_of f)
Tests t V None s = (t ≡ theory.leaves (checker_of s)) × IsReady V s
