-- Which facts are checked, and what checks them.
use Rattle.std.specs.Prelude.{◌≡◌, List, [], Option, Some, None}
use Rattle.theory.specs.Literals.{Literal}
use Rattle.theory.specs.Truth.{Formula, IsOver}
use Rattle.theory.specs.Plans.{Search, ordered, focused}
use Rattle.theory.specs.Pure.{pure_literals}
use Rattle.theory.specs.Beginnings.{begun_by}
use Rattle.theory.specs.Checked.{IsCheckedSplit, AreCheckedLines}
use Rattle.packs.specs.Opened.{opened}
use Rattle.packs.specs.Splits.{IsReady}
use Rattle.packs.specs.declared.replay.splits.LeastSplits.{LeastSplits}
use Rattle.packs.specs.declared.fact.Claim.{Claim}
use Rattle.packs.specs.declared.fact.Claim.TheVariants.{Split, Refuted, Model}
use Rattle.packs.specs.declared.fact.Fact.{Fact}
use Rattle.packs.specs.declared.checker.FactChecker.{FactChecker}

-- a split is checked by the search, and lines by replaying them; a model is claimed only
abbrev pub IsCheckedClaim : Search → Formula → List Literal → Claim → Type 0
IsCheckedClaim search F Q (Split x) = IsCheckedSplit search F Q x
IsCheckedClaim search F Q (Refuted lines) = AreCheckedLines F Q lines
IsCheckedClaim search F Q Model = ⊥

-- and the cube is one over the formula's variables; it is checked over the clauses that the search
-- begins with
pub record IsCheckedFact (search : Search) (F : Formula) (f : Fact) : Type 0 where
  pub over : IsOver F.vars f.cube
  pub claim : IsCheckedClaim search (begun_by search F) f.cube f.claim

-- the least splits are looked for by the ordered search alone
abbrev pub IsSplitting : Search → Formula → Option LeastSplits → Type 0
IsSplitting ordered F (Some s) = IsReady F s
IsSplitting ordered F None = ⊥
IsSplitting (focused c) F (Some s) = ⊥
IsSplitting (focused c) F None = Unit {0}

-- the literals whose unit clauses the search begins with too
abbrev pub units_by : Search → Formula → List Literal
units_by ordered F = pure_literals F
units_by (focused c) F = []

-- it checks facts of the formula, by the search
pub record IsChecking (search : Search) (F : Formula) (c : FactChecker) : Type 0 where
  pub replayer : c.replayer ≡ opened F (units_by search F)
  pub splits : IsSplitting search F c.splits
