-- A machine that takes the bytes of a proof's text one by one, and checks each step as its line
-- ends.
use Rattle.std.specs.Prelude.{ℕ, ◌+◌, ◌-◌, ◌*◌, Bool, false, ◌&&◌, not, nat_eq, nat_lt, List, [], ◌∷◌, length, Some, None, if◌then◌else◌}
use Rattle.std.specs.Char.{is_ascii_digit}
use Rattle.theory.specs.Truth.{Formula}
use Rattle.theory.specs.Texts.{lf, minus, digit_zero}
use Rattle.theory.specs.Tokens.{is_blank}
use Rattle.theory.specs.Steps as theory
use Rattle.theory.specs.Reading.{Limits}
use Rattle.theory.specs.ProofReading.{TextFault, line_not_ended, ProofReading, steps, line_fault, too_long, max_proof_bytes}
use Rattle.theory.specs.Checking.{Fault, Checker, Checked, accepted, refused, no_empty_clause, checks, test, leaves, faulty, numbered_from}
use Rattle.lrat_text.specs.declared.word.Word.{Word}
use Rattle.lrat_text.specs.declared.word.Word.TheVariants.{Zero, Positive, Negative, Mark, Other}
use Rattle.lrat_text.specs.LineWords.{capped, deletion_mark}
use Rattle.lrat_text.specs.LineMachine.{LineState, at_id, on, fault_in, LineReading, line_read, line_at_fault, at_end}

-- a word of which so many bytes came
pub data Begun : Type 0 where
  nothing zero_so_far minus_so_far mark_so_far other_so_far : Begun
  positive_so_far : ℕ → Begun
  negative_so_far : ℕ → Begun

abbrev pub first_digit : ℕ → Bool
first_digit b = is_ascii_digit b && not (nat_eq b digit_zero)

abbrev pub one_digit_more : ℕ → ℕ → ℕ
one_digit_more n b = capped (n * 10 + (b - digit_zero))

abbrev pub with_byte : Begun → ℕ → Begun
with_byte nothing b =
    if first_digit b then positive_so_far (b - digit_zero)
    else if nat_eq b digit_zero then zero_so_far
    else if nat_eq b minus then minus_so_far
    else if nat_eq b deletion_mark then mark_so_far
    else other_so_far
with_byte minus_so_far b = if first_digit b then negative_so_far (b - digit_zero) else other_so_far
with_byte (positive_so_far n) b = if is_ascii_digit b then positive_so_far (one_digit_more n b) else other_so_far
with_byte (negative_so_far n) b = if is_ascii_digit b then negative_so_far (one_digit_more n b) else other_so_far
with_byte w b = other_so_far

abbrev pub with_bytes : Begun → List ℕ → Begun
with_bytes w [] = w
with_bytes w (b ∷ bs) = with_bytes (with_byte w b) bs

-- what it is if it ends here; only a minus is no word that a line has
abbrev pub word_so_far : Begun → Word
word_so_far zero_so_far = Zero
word_so_far (positive_so_far n) = Positive n
word_so_far (negative_so_far n) = Negative n
word_so_far mark_so_far = Mark
word_so_far w = Other

-- the line that is read: no byte came; its whole words led to a state, and one more is begun; a
-- word can't stand, and its fault waits for the line's end; its end came, and it was at fault
pub data Part : Type 0 where
  fresh : Part
  in_line : LineState → Begun → Part
  held_back : TextFault → Part
  closed : TextFault → Part

-- what checking came to so far
pub data Progress : Type 0 where
  goes_on : Checker → Progress
  stopped : Fault → ℕ → Progress

-- bytes seen, the number of the line that is read, and what is kept
pub record Stream : Type 0 where
  pub seen : ℕ
  pub line : ℕ
  pub part : Part
  pub progress : Progress

abbrev pub begin : Formula → Stream
begin F = record { seen = 0; line = 1; part = fresh; progress = goes_on (record { clauses = numbered_from 1 F.clauses; last = length F.clauses; empty = false }) }

-- each line up to the first at fault is one step, so that the step's number is the line's
abbrev pub checked_step : ℕ → ℕ → Progress → theory.Step → Progress
checked_step V n (goes_on s) step = elim (test V s step) [ leaves t ↦ goes_on t | faulty f ↦ stopped f n ]
checked_step V n (stopped f k) step = stopped f k

-- the line's state once the word that is begun has ended, or its fault
pub data Ended : Type 0 where
  goes_to : LineState → Ended
  at_fault : TextFault → Ended

abbrev pub taken : LineState → Word → Ended
taken s w = elim (on s w) [ Some t ↦ goes_to t | None ↦ at_fault (fault_in s w) ]

abbrev pub ended : LineState → Begun → Ended
ended s nothing = goes_to s
ended s w = taken s (word_so_far w)

-- number, part and progress, which a byte changes
pub record LineProgress : Type 0 where
  pub line : ℕ
  pub part : Part
  pub progress : Progress

abbrev pub closed_line : ℕ → ℕ → Progress → LineReading → LineProgress
closed_line V n p (line_read step) = record { line = n + 1; part = fresh; progress = checked_step V n p step }
closed_line V n p (line_at_fault f) = record { line = n; part = closed f; progress = p }

abbrev pub on_feed : ℕ → ℕ → Progress → Ended → LineProgress
on_feed V n p (goes_to s) = closed_line V n p (at_end s)
on_feed V n p (at_fault f) = record { line = n; part = closed f; progress = p }

abbrev pub on_blank : ℕ → Progress → Ended → LineProgress
on_blank n p (goes_to s) = record { line = n; part = in_line s nothing; progress = p }
on_blank n p (at_fault f) = record { line = n; part = held_back f; progress = p }

abbrev pub on_byte : ℕ → ℕ → Progress → LineState → Begun → ℕ → LineProgress
on_byte V n p s w b =
    if nat_eq b lf then on_feed V n p (ended s w)
    else if is_blank b then on_blank n p (ended s w)
    else record { line = n; part = in_line s (with_byte w b); progress = p }

abbrev pub kept_after : ℕ → ℕ → Progress → Part → ℕ → LineProgress
kept_after V n p fresh b = on_byte V n p at_id nothing b
kept_after V n p (in_line s w) b = on_byte V n p s w b
kept_after V n p (held_back f) b = record { line = n; part = (if nat_eq b lf then closed f else held_back f); progress = p }
kept_after V n p (closed f) b = record { line = n; part = closed f; progress = p }

abbrev pub with_kept : ℕ → LineProgress → Stream
with_kept seen k = record { seen = seen; line = k.line; part = k.part; progress = k.progress }

abbrev pub feed_byte : ℕ → Stream → ℕ → Stream
feed_byte V m b = with_kept (m.seen + 1) (kept_after V m.line m.progress m.part b)

-- a piece of the text
abbrev pub feed : ℕ → Stream → List ℕ → Stream
feed V m [] = m
feed V m (b ∷ bytes) = feed V (feed_byte V m b) bytes

-- one piece after the other
abbrev pub feed_pieces : ℕ → Stream → List (List ℕ) → Stream
feed_pieces V m [] = m
feed_pieces V m (piece ∷ pieces) = feed_pieces V (feed V m piece) pieces

-- what a text comes to: its steps' check, the fault of a line, or that it is too long
pub data Answer : Type 0 where
  checked : Checked → Answer
  line_refused : TextFault → ℕ → Answer
  text_too_long : Answer

abbrev pub verdict : Progress → Checked
verdict (goes_on s) = if s.empty then accepted else no_empty_clause
verdict (stopped f n) = refused f n

abbrev pub at_text_end : ℕ → Progress → Part → Answer
at_text_end n p fresh = checked (verdict p)
at_text_end n p (in_line s w) = line_refused line_not_ended n
at_text_end n p (held_back f) = line_refused line_not_ended n
at_text_end n p (closed f) = line_refused f n

abbrev pub finish : Limits → Stream → Answer
finish L m = if nat_lt (max_proof_bytes L) m.seen then text_too_long else at_text_end m.line m.progress m.part

-- the same of what a whole text is read as
abbrev pub answer_to : Formula → ProofReading → Answer
answer_to F (steps ss) = checked (checks F ss)
answer_to F (line_fault f n) = line_refused f n
answer_to F too_long = text_too_long
