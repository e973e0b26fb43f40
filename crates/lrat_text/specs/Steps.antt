-- A step as the definitions see it.
use Rattle.theory.specs.Steps as theory
use Rattle.lrat_text.specs.declared.step.Step.{Step}
use Rattle.lrat_text.specs.declared.step.Step.TheVariants.{Add, Delete}

-- the step of the definitions
abbrev pub step_of : Step → theory.Step
step_of (Add a) = theory.add a
step_of (Delete d) = theory.delete d
