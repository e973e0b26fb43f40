-- Packs as files.
use Rattle.std.specs.Prelude.{◌≡◌, ℕ, List, [], ◌∷◌, ◌++◌, All, codes}
use Rattle.theory.specs.Truth.{Formula}
use Rattle.theory.specs.Plans.{Plan}
use Rattle.packs.specs.declared.fact.Fact.{Fact}
use Rattle.packs.specs.Packs.{IsPackOf}
use Rattle.gathering.specs.Facts.{IsTrueFact}
use Rattle.spread.specs.Sums.{sum_of}

-- the first line of a run's packs, where the run's file has this sum
abbrev pub head : List ℕ → List ℕ
head sum = codes "cubesat pack 2 " ++ (sum ++ 10 ∷ [])

-- the name of a pack that holds these bytes
abbrev pub pack_name : List ℕ → List ℕ
pack_name bytes = sum_of bytes ++ codes ".pack"

-- a whole pack of the run with this sum: its name is made of its bytes, and `body` stands behind
-- its first line
pub record IsWholePack (sum name bytes body : List ℕ) : Type 0 where
  pub named : name ≡ pack_name bytes
  pub joined : bytes ≡ head sum ++ body

-- the bytes are that line, and behind it those of the facts
pub record IsPackFile (sum bytes : List ℕ) (facts : List Fact) : Type 0 where
  pub behind : List ℕ
  pub joined : bytes ≡ head sum ++ behind
  pub pack : IsPackOf behind facts

-- and the facts are true of the formula by the plan
pub record IsTruePackFile (F : Formula) (plan : Plan) (sum bytes : List ℕ) : Type 0 where
  pub facts : List Fact
  pub are_true : All (IsTrueFact F plan) facts
  pub file : IsPackFile sum bytes facts
