-- A machine that takes the words of a line one by one, and says what the line, and a text of lines,
-- is read as.
use Rattle.std.specs.Prelude.{ℕ, ◌+◌, Bool, false, ◌||◌, nat_eq, nat_lt, List, [], ◌∷◌, ◌++◌, Option, Some, None, All, if◌then◌else◌}
use Rattle.theory.specs.Literals.{Clause}
use Rattle.theory.specs.Texts.{lf}
use Rattle.theory.specs.Steps as theory
use Rattle.theory.specs.Steps.{Group, Addition, Deletion, add, delete}
use Rattle.theory.specs.ProofReading.{TextFault, bad_number, bad_shape, line_not_ended, ProofReading, steps, line_fault, max_literal, max_number, IsNumber, IsLiteral, IsGroup, IsAddition, IsDeletion, IsStep, words_in}
use Rattle.lrat_text.specs.declared.word.Word.{Word}
use Rattle.lrat_text.specs.declared.word.Word.TheVariants.{Zero, Positive, Negative, Mark}
use Rattle.lrat_text.specs.LineWords.{word_of, number_in, candidate_in, literal_in}

-- the parts of the line so far, by what may come next: its number; literals; hints; the hints of a
-- group, behind whole groups; numbers to delete; nothing
pub data LineState : Type 0 where
  at_id : LineState
  at_clause : ℕ → Clause → LineState
  at_hints : ℕ → Clause → List ℕ → LineState
  at_group : Addition → Group → LineState
  at_ids : Deletion → LineState
  ended : theory.Step → LineState

-- an addition with one group more
abbrev pub with_group : Addition → Group → Addition
with_group a g = record { id = a.id; clause = a.clause; hints = a.hints; groups = a.groups ++ g ∷ [] }

abbrev pub without_groups : ℕ → Clause → List ℕ → Addition
without_groups id c hs = record { id = id; clause = c; hints = hs; groups = [] }

-- the state after a word where a part of some kind may come, if it is one
abbrev pub on_id : Word → Option LineState
on_id w = elim (number_in w) [ Some n ↦ Some (at_clause n []) | None ↦ None ]

abbrev pub on_literal : ℕ → Clause → Word → Option LineState
on_literal id c w = elim (literal_in w) [ Some l ↦ Some (at_clause id (c ++ l ∷ [])) | None ↦ None ]

abbrev pub on_candidate : Addition → Word → Option LineState
on_candidate a w = elim (candidate_in w) [ Some n ↦ Some (at_group a (record { candidate = n; hints = [] })) | None ↦ None ]

abbrev pub on_hint : ℕ → Clause → List ℕ → Word → Option LineState
on_hint id c hs w = elim (number_in w) [ Some n ↦ Some (at_hints id c (hs ++ n ∷ [])) | None ↦ on_candidate (without_groups id c hs) w ]

abbrev pub on_group_hint : Addition → Group → Word → Option LineState
on_group_hint a g w =
    elim (number_in w) [ Some n ↦ Some (at_group a (record { candidate = g.candidate; hints = g.hints ++ n ∷ [] })) | None ↦ on_candidate (with_group a g) w ]

abbrev pub on_deleted : Deletion → Word → Option LineState
on_deleted d w = elim (number_in w) [ Some n ↦ Some (at_ids (record { id = d.id; ids = d.ids ++ n ∷ [] })) | None ↦ None ]

-- the state after a word, if it can stand there
abbrev pub on : LineState → Word → Option LineState
on at_id w = on_id w
on (at_clause id c) Zero = Some (at_hints id c [])
on (at_clause id []) Mark = Some (at_ids (record { id = id; ids = [] }))
on (at_clause id c) w = on_literal id c w
on (at_hints id c hs) Zero = Some (ended (add (without_groups id c hs)))
on (at_hints id c hs) w = on_hint id c hs w
on (at_group a g) Zero = Some (ended (add (with_group a g)))
on (at_group a g) w = on_group_hint a g w
on (at_ids d) Zero = Some (ended (delete d))
on (at_ids d) w = on_deleted d w
on (ended s) w = None

-- the fault of a number of this size that can't stand there
abbrev pub size_fault : ℕ → ℕ → TextFault
size_fault limit n = if nat_lt limit n then bad_number else bad_shape

abbrev pub number_fault_in : LineState → ℕ → TextFault
number_fault_in (at_clause id c) n = size_fault max_literal n
number_fault_in (ended s) n = bad_shape
number_fault_in s n = size_fault max_number n

-- the fault of a word that can't stand there
abbrev pub fault_in : LineState → Word → TextFault
fault_in s Zero = bad_shape
fault_in s (Positive n) = number_fault_in s n
fault_in s (Negative n) = number_fault_in s n
fault_in s w = bad_number

-- what a line is read as
pub data LineReading : Type 0 where
  line_read : theory.Step → LineReading
  line_at_fault : TextFault → LineReading

abbrev pub at_end : LineState → LineReading
at_end (ended s) = line_read s
at_end s = line_at_fault bad_shape

abbrev pub read_words : LineState → List (List ℕ) → LineReading
read_words s [] = at_end s
read_words s (t ∷ ts) = elim (on s (word_of t)) [ Some next ↦ read_words next ts | None ↦ line_at_fault (fault_in s (word_of t)) ]

-- what lines are read as, of which the first is read so and the others so
abbrev pub with_step : theory.Step → ProofReading → ProofReading
with_step s (steps ss) = steps (s ∷ ss)
with_step s r = r

abbrev pub behind : LineReading → ℕ → ProofReading → ProofReading
behind (line_read s) n r = with_step s r
behind (line_at_fault fault) n r = line_fault fault n

abbrev pub rest_read : ℕ → List ℕ → ProofReading
rest_read n [] = steps []
rest_read n (b ∷ rest) = line_fault line_not_ended n

-- the lines from number n on
abbrev pub read_lines : ℕ → List (List ℕ) → ProofReading
read_lines n [] = steps []
read_lines n (rest ∷ []) = rest_read n rest
read_lines n (line ∷ next ∷ lines) = behind (read_words at_id (words_in line)) n (read_lines (n + 1) (next ∷ lines))

-- the same, where the first line is begun already and its words so far led to the state
abbrev pub within : LineState → ℕ → List (List ℕ) → ProofReading
within s n [] = line_fault line_not_ended n
within s n (rest ∷ []) = line_fault line_not_ended n
within s n (line ∷ next ∷ lines) = behind (read_words s (words_in line)) n (read_lines (n + 1) (next ∷ lines))

-- the steps before, then what is read
abbrev pub with_steps : List theory.Step → ProofReading → ProofReading
with_steps [] r = r
with_steps (s ∷ ss) r = with_step s (with_steps ss r)

-- each number so far is within its limit
abbrev pub IsWithin : LineState → Type 0
IsWithin at_id = Unit {0}
IsWithin (at_clause id c) = IsNumber id × All IsLiteral c
IsWithin (at_hints id c hs) = IsAddition (without_groups id c hs)
IsWithin (at_group a g) = IsAddition a × IsGroup g
IsWithin (at_ids d) = IsDeletion d
IsWithin (ended s) = IsStep s

-- whether a line feed is among the bytes
abbrev pub has_line_feed : List ℕ → Bool
has_line_feed [] = false
has_line_feed (b ∷ bytes) = nat_eq b lf || has_line_feed bytes
