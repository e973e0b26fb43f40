-- The machine that takes tokens one by one, without the tokens before: its state knows of them what
-- a fault asks.
use Rattle.std.specs.Prelude.{◌≡◌, ℕ, List, [], ◌∷◌, length, Option, Some, None, nat_eq, nat_lt, not, codes, if◌then◌else◌}
use Rattle.theory.specs.Tokens.{Place, is_text, is_number_text, size_of}
use Rattle.theory.specs.Reading.{Limits, Token, word, header_end, Placed, ReadFault, no_header, bad_header, second_header, bad_number, variable_out_of_range, too_many_clauses, too_few_clauses, clause_not_ended, over_limit, header_number_fault, Reading, formula, refusal, tokens_of, end_of, max_vars, max_clauses}
use Rattle.cnf.specs.Tokens.{Part, tokens_left}
use Rattle.theory.proofs.reading.ReadingMachine.{ReaderState, at_p, at_cnf, at_vars, at_clauses, at_header_end, at_body, step}

-- the fault of a token behind the header V C and n clauses
abbrev pub clause_fault : ℕ → ℕ → ℕ → Token → ReadFault
clause_fault V C n header_end = bad_number
clause_fault V C n (word text) =
    if is_text text (codes "p") then second_header
    else if not (is_number_text text) then bad_number
    else if nat_eq n C then too_many_clauses
    else if nat_lt V (size_of text) then variable_out_of_range
    else over_limit

-- the fault of a token that can't stand in a state
abbrev pub fault_in : ReaderState → Token → ReadFault
fault_in at_p t = no_header
fault_in at_cnf t = bad_header
fault_in at_vars t = header_number_fault t
fault_in (at_clauses V) t = header_number_fault t
fault_in (at_header_end V C) t = bad_header
fault_in (at_body V C cs part) t = clause_fault V C (length cs) t

-- what a text is read as that ends in a state
abbrev pub ends_in : ReaderState → Place → Reading
ends_in (at_body V C cs []) end = if nat_eq (length cs) C then formula (record { vars = V; clauses = cs }) else refusal too_few_clauses end
ends_in (at_body V C cs (l ∷ part)) end = refusal clause_not_ended end
ends_in s end = refusal no_header end

-- what a text is read as whose tokens from a state on are these
abbrev pub run : Limits → ReaderState → List Placed → Place → Reading
run L s [] end = ends_in s end
run L s (t ∷ ts) end = elim (step L s t.token) [ Some next ↦ run L next ts end | None ↦ refusal (fault_in s t.token) t.place ]

-- a state goes on with a token
pub record TakesToken (L : Limits) (s : ReaderState) (t : Placed) (next : ReaderState) : Type 0 where
  pub step_is : step L s t.token ≡ Some next

-- a state can't go on with a token, so a text is read as its refusal
pub record Refuses (L : Limits) (s : ReaderState) (t : Placed) (r : Reading) : Type 0 where
  pub none : step L s t.token ≡ None
  pub is : r ≡ refusal (fault_in s t.token) t.place

-- what a text is read as, where the machine is in a state and stands at the byte i
abbrev pub reads_from : Limits → ReaderState → Part → List ℕ → ℕ → Reading
reads_from L s part bytes i = run L s (tokens_left part bytes i) (end_of bytes)

-- what a text is read as
abbrev pub reading_of : Limits → List ℕ → Reading
reading_of L bytes = run L at_p (tokens_of bytes) (end_of bytes)

-- the header's third word, or the fourth behind the number of variables: its limit, and the states
-- before and behind it
abbrev pub number_limit : Limits → Option ℕ → ℕ
number_limit L None = max_vars L
number_limit L (Some V) = max_clauses L

abbrev pub at_number : Option ℕ → ReaderState
at_number None = at_vars
at_number (Some V) = at_clauses V

abbrev pub behind_number : Option ℕ → ℕ → ReaderState
behind_number None n = at_clauses n
behind_number (Some V) n = at_header_end V n
