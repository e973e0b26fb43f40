-- The numbers and places of the reader's faults, and what a text is read as.
use Rattle.std.specs.Prelude.{◌≡◌, ℕ, ◌+◌, List, take, Option, Some, None, IfSome, Result, MatchResult}
use Rattle.cnf.specs.declared.fault.Place.{Place}
use Rattle.cnf.specs.declared.fault.ReadFault.{ReadFault}
use Rattle.cnf.specs.declared.fault.ReadFault.TheVariants.{NoHeader, BadHeader, SecondHeader, BadNumber, VariableOutOfRange, TooManyClauses, TooFewClauses, ClauseNotEnded, OverLimit, ReadFailed, NoMemory}
use Rattle.theory.specs.Tokens as tokens
use Rattle.theory.specs.Truth as truth
use Rattle.theory.specs.Reading.{Limits, max_bytes, Reading, ReadsWithin, formula, refusal, no_header, bad_header, second_header, bad_number, variable_out_of_range, too_many_clauses, too_few_clauses, clause_not_ended, over_limit}

abbrev pub number_of_fault : ReadFault → ℕ
number_of_fault (NoHeader p) = 1
number_of_fault (BadHeader p) = 2
number_of_fault (SecondHeader p) = 3
number_of_fault (BadNumber p) = 4
number_of_fault (VariableOutOfRange p) = 5
number_of_fault (TooManyClauses p) = 6
number_of_fault (TooFewClauses p) = 7
number_of_fault (ClauseNotEnded p) = 8
number_of_fault (OverLimit p) = 9
number_of_fault ReadFailed = 10
number_of_fault NoMemory = 11

abbrev pub place_of_fault : ReadFault → Option Place
place_of_fault (NoHeader p) = Some p
place_of_fault (BadHeader p) = Some p
place_of_fault (SecondHeader p) = Some p
place_of_fault (BadNumber p) = Some p
place_of_fault (VariableOutOfRange p) = Some p
place_of_fault (TooManyClauses p) = Some p
place_of_fault (TooFewClauses p) = Some p
place_of_fault (ClauseNotEnded p) = Some p
place_of_fault (OverLimit p) = Some p
place_of_fault ReadFailed = None
place_of_fault NoMemory = None

-- a place as the definitions have it
abbrev pub place_in : Place → tokens.Place
place_in p = record { line = p.line; column = p.column }

-- what holds of a fault's refusal: nothing is said of want of memory, and no text is refused by a
-- reader's error
abbrev pub IsRefusal : (Reading → Type 0) → ReadFault → Type 0
IsRefusal P (NoHeader p) = P (refusal no_header (place_in p))
IsRefusal P (BadHeader p) = P (refusal bad_header (place_in p))
IsRefusal P (SecondHeader p) = P (refusal second_header (place_in p))
IsRefusal P (BadNumber p) = P (refusal bad_number (place_in p))
IsRefusal P (VariableOutOfRange p) = P (refusal variable_out_of_range (place_in p))
IsRefusal P (TooManyClauses p) = P (refusal too_many_clauses (place_in p))
IsRefusal P (TooFewClauses p) = P (refusal too_few_clauses (place_in p))
IsRefusal P (ClauseNotEnded p) = P (refusal clause_not_ended (place_in p))
IsRefusal P (OverLimit p) = P (refusal over_limit (place_in p))
IsRefusal P ReadFailed = ⊥
IsRefusal P NoMemory = Unit {0}

-- the answer is what the text is read as, or want of memory
abbrev pub IsReadAs : Limits → List ℕ → Result truth.Formula ReadFault → Type 0
IsReadAs L bytes answer = MatchResult answer (λ F. ReadsWithin L bytes (formula F)) (IsRefusal (ReadsWithin L bytes))

-- the answer is what the bytes that were read are read as. Where the reader tells its bytes, these
-- are its first up to one above the limit, and all its bytes are read as that too
pub record IsReadOf (L : Limits) (known : Option (List ℕ)) (answer : Result truth.Formula ReadFault) : Type 0 where
  pub bytes : List ℕ
  pub are : IfSome known (λ xs. bytes ≡ take (max_bytes L + 1) xs)
  pub is_read : IsReadAs L bytes answer
  pub whole : IfSome known (λ xs. IsReadAs L xs answer)
