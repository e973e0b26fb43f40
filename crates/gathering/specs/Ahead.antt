-- Outcomes that are checked ahead, by several threads.
use Rattle.std.specs.Prelude.{List, All, IfOk, Option}
use Rattle.theory.specs.Truth.{Formula}
use Rattle.theory.specs.Plans.{Plan}
use Rattle.theory.specs.Beginnings.{begun_by}
use Rattle.cubes.specs.Solved.{LinesSolved, AreCheckedResults, AreTrueResults}
use Rattle.packs.specs.declared.checker.FactChecker.{FactChecker}
use Rattle.packs.specs.declared.fact.Fact.{Fact}
use Rattle.packs.specs.Checking.{IsChecking}
use Rattle.gathering.specs.Facts.{IsTrueFact}
use Rattle.gathering.specs.Stored.{AreTrueFacts, Gives}
use Rattle.gathering.specs.declared.loads.Load.{Load}
use Rattle.gathering.specs.declared.loads.Home.{Home}
use Rattle.gathering.specs.declared.ahead.AheadOutcomes.{AheadOutcomes}

-- a thread's facts are true by the plan
abbrev pub IsTrueLoad : Formula → Plan → Load → Type 0
IsTrueLoad F plan l = All (IsTrueFact F plan) l.facts.items

-- what a thread hands back: its checker is still the formula's, and its results are checked
pub record IsHome (F : Formula) (plan : Plan) (h : Home) : Type 0 where
  pub checker : IsChecking plan.search F h.checker
  pub results : IfOk h.results (λ rs. AreCheckedResults plan.search (begun_by plan.search F) rs.items)

-- and they are the cubes' own by the plan
abbrev pub IsOwnHome : Formula → Plan → Home → Type 0
IsOwnHome F plan h = IfOk h.results (λ rs. AreTrueResults (begun_by plan.search F) plan rs.items)

-- the checkers are the formula's, by the plan's search, and the results are checked
pub record AreReady (F : Formula) (plan : Plan) (cs : List FactChecker) (rs : List LinesSolved) : Type 0 where
  pub checkers : All (IsChecking plan.search F) cs
  pub ahead : AreCheckedResults plan.search (begun_by plan.search F) rs

-- so it is of the threads' checkers and of what was checked ahead, and what stands for one thread
-- gives checked outcomes
pub record GivesAhead {R S : Type 0} (F : Formula) (plan : Plan) (o : AheadOutcomes R S) : Type 0 where
  pub stored : Gives F plan o.stored
  pub ready : AreReady F plan o.checkers.items o.ahead.items

-- the store's facts are true by the plan, and what was checked ahead is the cubes' own
pub record GivesOwnAhead {R S : Type 0} (facts : S → Option (List Fact)) (F : Formula) (plan : Plan) (o : AheadOutcomes R S) : Type 0 where
  pub stored : AreTrueFacts facts F plan o.stored.store
  pub ahead : AreTrueResults (begun_by plan.search F) plan o.ahead.items
