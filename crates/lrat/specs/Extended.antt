-- The variables that a proof's clauses may have. Source: extended resolution (Tseitin, 1968) defines
-- new variables; their definitions are resolution asymmetric tautologies, as LRAT has them (CADE 2017).
use Rattle.std.specs.Prelude.{ℕ, max}
use Rattle.theory.specs.Truth.{Formula}
use Rattle.theory.specs.Reading.{Limits, max_vars}
use Rattle.lrat.specs.declared.variables.Variables.{Variables}
use Rattle.lrat.specs.declared.variables.Variables.TheVariants.{OfFormula, Extended}

-- how many variables they are
abbrev pub variables_allowed : Limits → Variables → Formula → ℕ
variables_allowed L OfFormula F = F.vars
variables_allowed L Extended F = max F.vars (max_vars L)

-- the same clauses over so many variables
abbrev pub with_variables : ℕ → Formula → Formula
with_variables V F = record { vars = V; clauses = F.clauses }

-- the formula that a proof is checked against
abbrev pub checked_formula : Limits → Variables → Formula → Formula
checked_formula L variables F = with_variables (variables_allowed L variables F) F
