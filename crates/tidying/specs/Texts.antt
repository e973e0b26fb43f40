-- The text of a formula. Source: the DIMACS CNF format (Second DIMACS Challenge, 1993): the header, and a
-- line for each clause, its literals and a 0.
use Rattle.std.specs.Prelude.{ℕ, List, [], ◌∷◌, ◌++◌, map, length, codes, decimal}
use Rattle.std.specs.List.{flat_map}
use Rattle.theory.specs.Literals.{Clause}
use Rattle.theory.specs.Truth.{Formula}
use Rattle.theory.specs.Texts.{space, lf, literal_text}
use Rattle.lrat_text.specs.Words.{spaced}

abbrev pub clause_text : Clause → List ℕ
clause_text c = spaced (map literal_text c) ++ codes "0\n"

abbrev pub clauses_text : List Clause → List ℕ
clauses_text cs = flat_map clause_text cs

abbrev pub header_text : ℕ → ℕ → List ℕ
header_text vars clauses = codes "p cnf " ++ decimal vars ++ space ∷ decimal clauses ++ lf ∷ []

abbrev pub formula_text : Formula → List ℕ
formula_text F = header_text F.vars (length F.clauses) ++ clauses_text F.clauses
