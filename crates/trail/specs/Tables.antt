-- What stands of a trail in tables by literal and by variable.
use Rattle.std.specs.Prelude.{◌≡◌, ℕ, zero, suc, ◌+◌, ◌*◌, ◌<◌, ◌≤◌, Bool, true, false, cond, nat_eq, List, [], ◌∷◌, length, Option, Some, None, slice_index, slice_index_or, slice_set}
use Rattle.std.specs.Option.{option_map}
use Rattle.theory.specs.Literals.{Literal, same_sign, has, has_var, negated}
use Rattle.theory.specs.Trails.{Trail, literals, entry_of}
use Rattle.cnf.specs.Lits.{code}
use Rattle.trail.specs.declared.truth.Truth.{Truth}
use Rattle.trail.specs.declared.truth.Truth.TheVariants.{Unassigned, Satisfied, Falsified}

-- the truth value of a variable
abbrev pub value_in : Trail → ℕ → Option Bool
value_in T v = option_map (λ e. e.lit.positive) (entry_of T v)

-- what the value of a literal says, where the literals P are true
abbrev pub IsTruth : List Literal → Literal → Option Bool → Type 0
IsTruth P l None = has_var P l.var ≡ false
IsTruth P l (Some true) = has P l ≡ true
IsTruth P l (Some false) = has P (negated l) ≡ true

-- what is said of a literal, as a truth value
abbrev pub value_of : Truth → Option Bool
value_of Unassigned = None
value_of Satisfied = Some true
value_of Falsified = Some false

-- what the value of a variable says of its literal with a sign
abbrev pub truth_of : Option Bool → Bool → Truth
truth_of None sign = Unassigned
truth_of (Some b) sign = cond (same_sign sign b) Satisfied Falsified

-- the table by literal, once both literals of a variable are written
abbrev pub with_truths : List Truth → Literal → Truth → Truth → List Truth
with_truths truths l truth opposite = slice_set (slice_set truths (code l) truth) (code (negated l)) opposite

-- how many entries there are up to the variable's own, or 0 where it has none
abbrev pub one_more : ℕ → ℕ
one_more zero = zero
one_more (suc n) = suc (suc n)

abbrev pub place_in : Trail → ℕ → ℕ
place_in [] v = 0
place_in (e ∷ T) v = elim (nat_eq e.lit.var v) [ true ↦ 1 | false ↦ one_more (place_in T v) ]

-- the tables of what is said of literals, and of the places of 0 and the variables 1 to V
pub record AreTables (V : ℕ) (T : Trail) (truths : List Truth) (places : List ℕ) : Type 0 where
  pub truths_long : length truths ≡ 2 * V + 2
  pub places_long : length places ≡ V + 1
  pub truth_at : (l : Literal) → l.var ≤ V → slice_index_or truths (code l) Unassigned ≡ truth_of (value_in T l.var) l.positive
  pub place_at : (v : ℕ) → v ≤ V → slice_index places v ≡ place_in T v

-- n is the least of the variables 1 to V that isn't on the trail, or V + 1
pub record IsNextFree (V : ℕ) (T : Trail) (n : ℕ) : Type 0 where
  pub low : 1 ≤ n
  pub high : n ≤ V + 1
  pub taken : (u : ℕ) → 1 ≤ u → u < n → has_var (literals T) u ≡ true
  pub free : has_var (literals T) n ≡ false
