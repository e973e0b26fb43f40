-- A machine that takes the tokens one by one, and says what a token list is read as.
use Rattle.std.proofs.Common.{ℕ, ◌+◌, ◌&&◌, List, [], ◌∷◌, ◌++◌, length, Option, Some, None, nat_eq, nat_lt, nat_le, if◌then◌else◌, codes, sum_by}
use Rattle.theory.specs.Literals.{Clause}
use Rattle.theory.specs.Tokens.{Place, is_text, is_zero_text, is_natural_text, is_number_text, size_of}
use Rattle.theory.proofs.reading.NumberTexts.{literal_of_text}
use Rattle.theory.specs.Reading.{Limits, standard, Token, word, header_end, Placed, tokens_of, end_of, max_vars, max_clauses, max_literals, fault_at, fault_at_end, Reading, formula, refusal}

-- what may come next: a part of the header, or, after the header V C and these clauses, more of a
-- clause that has these literals so far
pub data ReaderState : Type 0 where
  at_p at_cnf at_vars : ReaderState
  at_clauses : ℕ → ReaderState
  at_header_end : ℕ → ℕ → ReaderState
  at_body : ℕ → ℕ → List Clause → Clause → ReaderState

abbrev pub on_p : List ℕ → Option ReaderState
on_p text = if is_text text (codes "p") then Some at_cnf else None

abbrev pub on_cnf : List ℕ → Option ReaderState
on_cnf text = if is_text text (codes "cnf") then Some at_vars else None

abbrev pub on_vars : Limits → List ℕ → Option ReaderState
on_vars L text = if is_natural_text text && nat_le (size_of text) (max_vars L) then Some (at_clauses (size_of text)) else None

abbrev pub on_clauses : Limits → ℕ → List ℕ → Option ReaderState
on_clauses L V text = if is_natural_text text && nat_le (size_of text) (max_clauses L) then Some (at_header_end V (size_of text)) else None

abbrev pub on_literal : Limits → ℕ → ℕ → List Clause → Clause → List ℕ → Option ReaderState
on_literal L V C cs part text =
    if is_number_text text && (nat_le (size_of text) V && nat_lt (sum_by length cs + length part) (max_literals L)) then Some (at_body V C cs (part ++ literal_of_text text ∷ [])) else None

abbrev pub on_body : Limits → ℕ → ℕ → List Clause → Clause → List ℕ → Option ReaderState
on_body L V C cs part text =
    if nat_lt (length cs) C then (if is_zero_text text then Some (at_body V C (cs ++ part ∷ []) []) else on_literal L V C cs part text) else None

-- the state after a token, if it can stand there
abbrev pub step : Limits → ReaderState → Token → Option ReaderState
step L at_p (word text) = on_p text
step L at_cnf (word text) = on_cnf text
step L at_vars (word text) = on_vars L text
step L (at_clauses V) (word text) = on_clauses L V text
step L (at_header_end V C) header_end = Some (at_body V C [] [])
step L (at_body V C cs part) (word text) = on_body L V C cs part text
step L s t = None

abbrev pub at_end : ReaderState → List Token → Place → Reading
at_end (at_body V C cs []) before end = if nat_eq (length cs) C then formula (record { vars = V; clauses = cs }) else refusal (fault_at_end before) end
at_end s before end = refusal (fault_at_end before) end

abbrev pub read_on : Limits → ReaderState → List Token → List Placed → Place → Reading
read_on L s before [] end = at_end s before end
read_on L s before (t ∷ ts) end = elim (step L s t.token) [ Some next ↦ read_on L next (before ++ t.token ∷ []) ts end | None ↦ refusal (fault_at before t.token) t.place ]

abbrev pub read_within : Limits → List ℕ → Reading
read_within L bytes = read_on L at_p [] (tokens_of bytes) (end_of bytes)

abbrev pub read : List ℕ → Reading
read bytes = read_within standard bytes
