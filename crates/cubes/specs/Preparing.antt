-- What is known of a formula before hands begin.
use Rattle.std.specs.Prelude.{List}
use Rattle.theory.specs.Truth.{Formula}
use Rattle.theory.specs.Plans.{Search, Plan}
use Rattle.theory.specs.Learning.{Line}
use Rattle.cubes.specs.Division.{IsRootOf}
use Rattle.cubes.specs.Result.{IsResultBy, Says}
use Rattle.cubes.specs.declared.division.preparing.Beginning.{Beginning}
use Rattle.cubes.specs.declared.division.preparing.Beginning.TheVariants.{Decided, Open}

-- the tree is the formula's result, or what hands are told is true
abbrev pub Begins : {L : Type 0} → (L → List Line) → Formula → Plan → Beginning L → Type 0
Begins lines F plan (Decided tree) = IsResultBy lines F plan tree
Begins lines F plan (Open root) = IsRootOf F plan root

-- and such a result says of its formula what each does
abbrev pub Told : {L : Type 0} → Search → Formula → Beginning L → Type 0
Told search F (Decided tree) = Says search F tree
Told search F (Open root) = Unit {0}
