-- The numbers of literals: that of DIMACS, which is negative where the literal is, and the place
-- that a list by literal has for each.
use Rattle.std.specs.Prelude.{ℕ, ◌+◌, ◌*◌, Bool, true, false, cond, ℤ, pos, neg_ℤ, unsigned_abs, int_le}
use Rattle.theory.specs.Literals.{Literal}

-- the literal of a number
abbrev pub literal_of : ℤ → Literal
literal_of z = record { var = unsigned_abs z; positive = int_le (pos 0) z }

-- the number of a literal
abbrev pub signed : Bool → ℕ → ℤ
signed true v = pos v
signed false v = neg_ℤ (pos v)

abbrev pub number_of : Literal → ℤ
number_of l = signed l.positive l.var

-- where what is kept of a literal stands in a list by literal: those of a variable lie side by side
abbrev pub code : Literal → ℕ
code l = 2 * l.var + cond l.positive 1 0
