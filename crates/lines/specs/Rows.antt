-- What the bytes of a row say: lines, one behind the other. A line is the numbers of its clause and
-- a 0, then those of its hints and a 0, then those of what it forgets and a 0. Source: numbers of
-- seven bits a byte, as in the binary form of DRAT proofs (Wetzler, Heule, Hunt, SAT 2014), here
-- with the highest bits first.
use Rattle.std.specs.Prelude.{◌≡◌, ℕ, ◌+◌, ◌-◌, ◌*◌, ◌/◌, ◌%◌, ◌^◌, ◌≤◌, max, length, take, Bool, true, false, nat_eq, nat_lt, List, [], ◌∷◌, ◌++◌, All, if◌then◌else◌}
use Rattle.theory.specs.Literals.{Literal, Clause}
use Rattle.theory.specs.Learning.{Line}
use Rattle.lines.specs.declared.section.Section.{Section}
use Rattle.lines.specs.declared.section.Section.TheVariants.{Literals, Hints, Forgotten}

-- what the bytes so far say: the whole lines, the three lists of the one begun, in which of them it
-- is, the number before, and of the number begun its value so far
pub record Part : Type 0 where
  pub lines : List Line
  pub clause : Clause
  pub hints : List ℕ
  pub forgets : List ℕ
  pub section : Section
  pub last : ℕ
  pub value : ℕ
  pub begun : Bool

-- whole lines and no more
abbrev pub whole : List Line → Part
whole lines = record { lines = lines; clause = []; hints = []; forgets = []; section = Literals; last = 0; value = 0; begun = false }

-- the number with seven bits more
abbrev pub with_bits : ℕ → ℕ → ℕ
with_bits n b = (n % 2 ^ 57) * 128 + b

-- literals go by codes: twice the variable, and one more for the variable itself
abbrev pub literal_at : ℕ → Literal
literal_at code = record { var = max 1 (code / 2); positive = nat_eq (code % 2) 1 }

-- a code by its distance from the one before
abbrev pub code_behind : ℕ → ℕ → ℕ
code_behind last n = (last + n) % 2 ^ 32

-- a hint, or the number of a forgotten clause, by its distance from the one before: twice that if it is greater, else that and one more
abbrev pub hint_behind : ℕ → ℕ → ℕ
hint_behind last n = if nat_eq (n % 2) 0 then (last + n / 2) % 2 ^ 64 else last - n / 2

abbrev pub with_literal : Part → ℕ → Part
with_literal p n = record p { clause = p.clause ++ literal_at (code_behind p.last n) ∷ []; last = code_behind p.last n }

abbrev pub with_hint : Part → ℕ → Part
with_hint p n = record p { hints = p.hints ++ hint_behind p.last n ∷ []; last = hint_behind p.last n }

abbrev pub with_forgotten : Part → ℕ → Part
with_forgotten p n = record p { forgets = p.forgets ++ hint_behind p.last n ∷ []; last = hint_behind p.last n }

-- a number from 1 on stands for the next one of its list
abbrev pub with_next : Section → Part → ℕ → Part
with_next Literals p n = with_literal p n
with_next Hints p n = with_hint p n
with_next Forgotten p n = with_forgotten p n

-- a 0 ends a list
abbrev pub at_zero : Section → Part → Part
at_zero Literals p = record p { section = Hints; last = 0 }
at_zero Hints p = record p { section = Forgotten; last = 0 }
at_zero Forgotten p = whole (p.lines ++ record { clause = p.clause; hints = p.hints; forgets = p.forgets } ∷ [])

abbrev pub with_number : Part → ℕ → Part
with_number p n = if nat_eq n 0 then at_zero p.section p else with_next p.section p n

-- a byte below 128 ends its number
abbrev pub with_byte : Part → ℕ → Part
with_byte p b =
    if nat_lt b 128 then with_number (record p { value = 0; begun = false }) (with_bits p.value b)
    else record p { value = with_bits p.value (b - 128); begun = true }

abbrev pub with_bytes : Part → List ℕ → Part
with_bytes p [] = p
with_bytes p (b ∷ bs) = with_bytes (with_byte p b) bs

abbrev pub row : List ℕ → Part
row bytes = with_bytes (whole []) bytes

-- no number is begun
abbrev pub IsBetween : Part → Type 0
IsBetween p = (p.value ≡ 0) × (p.begun ≡ false)

-- the bytes are whole lines
abbrev pub IsWhole : List ℕ → Type 0
IsWhole bytes = row bytes ≡ whole (row bytes).lines

-- no line has more literals, nor a longer list of numbers
abbrev pub AreWithin : ℕ → ℕ → List Line → Type 0
AreWithin literals numbers lines = All (λ l. (length l.clause ≤ literals) × (length l.hints ≤ numbers) × (length l.forgets ≤ numbers)) lines

-- bytes stand in front of others
abbrev pub IsFront : List ℕ → List ℕ → Type 0
IsFront xs ys = (length xs ≤ length ys) × (take (length xs) ys ≡ xs)

-- behind whole lines: a clause so far
abbrev pub clause_part : List Line → Clause → ℕ → Part
clause_part lines c last = record (whole lines) { clause = c; last = last }

-- a clause, and hints so far
abbrev pub hints_part : List Line → Clause → List ℕ → ℕ → Part
hints_part lines c hints last = record (whole lines) { clause = c; hints = hints; section = Hints; last = last }

-- a clause and hints, and what is forgotten so far
abbrev pub forgets_part : List Line → Clause → List ℕ → List ℕ → ℕ → Part
forgets_part lines c hints forgets last = record (whole lines) { clause = c; hints = hints; forgets = forgets; section = Forgotten; last = last }

-- where the list of numbers that it is in is this one so far
abbrev pub listed : Section → Part → List ℕ → ℕ → Part
listed Literals p ns last = p
listed Hints p ns last = record p { hints = ns; last = last }
listed Forgotten p ns last = record p { forgets = ns; last = last }

-- a list of numbers begins
pub record IsListing (p : Part) : Type 0 where
  pub is_behind : ¬ (p.section ≡ Literals)
  pub begins : p ≡ listed p.section p [] 0
  pub between : IsBetween p

-- behind the whole of it
abbrev pub with_list : Part → List ℕ → Part
with_list p ns = at_zero p.section (listed p.section p ns 0)

-- of the lines left a reader gave one, if there was one
abbrev pub IsNextOf : List Line → List Line → Line → Bool → Type 0
IsNextOf old new line true = old ≡ line ∷ new
IsNextOf old new line false = (old ≡ []) × (new ≡ [])
