-- A text while it is read in pieces, as the machine sees it.
use Rattle.std.specs.Prelude.{◌≡◌, ℕ, ◌+◌, List, drop, Option, Some, None, Result, Ok, Err}
use Rattle.theory.specs.ProofReading as theory
use Rattle.lrat_text.specs.declared.begun.Begun as declared
use Rattle.lrat_text.specs.declared.text.Stage.{Stage}
use Rattle.lrat_text.specs.declared.text.Stage.TheVariants.{Fresh, InLine, HeldBack, Closed}
use Rattle.lrat_text.specs.declared.text.Text.{Text}
use Rattle.lrat_text.specs.declared.line.Line.{Line}
use Rattle.lrat_text.specs.declared.step.Step.{Step}
use Rattle.lrat_text.specs.declared.fault.LineFault.{LineFault}
use Rattle.lrat_text.specs.declared.fault.TextFault.{TextFault}
use Rattle.lrat_text.specs.Faults.{text_fault_at}
use Rattle.lrat_text.specs.Begun.{begun_of, IsCounted}
use Rattle.lrat_text.specs.LineMachine.{LineState, IsWithin}
use Rattle.lrat_text.specs.LineStates.{state_of, kind_of}
use Rattle.lrat_text.specs.Steps.{step_of}
use Rattle.lrat_text.specs.Streams.{Begun, nothing, with_bytes, Part, fresh, in_line, held_back, closed, Progress, checked_step, LineProgress, Stream, feed, at_text_end, checked, line_refused, verdict}

abbrev pub part_at : Stage → Line → declared.Begun → Part
part_at Fresh l g = fresh
part_at InLine l g = in_line (state_of l) (begun_of g)
part_at (HeldBack f) l g = held_back (kind_of f)
part_at (Closed f) l g = closed (kind_of f)

abbrev pub part_of : Text → Part
part_of t = part_at t.stage t.line t.begun

-- a word begun is that of some bytes
abbrev pub IsBegunWord : declared.Begun → Type 0
IsBegunWord g = IsCounted g × ((w : List ℕ) × (begun_of g ≡ with_bytes nothing w))

abbrev pub IsTextAt : Stage → Line → declared.Begun → Type 0
IsTextAt InLine l g = IsWithin (state_of l) × IsBegunWord g
IsTextAt s l g = Unit {0}

abbrev pub IsText : Text → Type 0
IsText t = IsTextAt t.stage t.line t.begun

abbrev pub after : ℕ → ℕ → Progress → Option Step → Progress
after V n p None = p
after V n p (Some s) = checked_step V n p (step_of s)

-- what a line's end leaves
abbrev pub closing : ℕ → ℕ → Progress → Result Step LineFault → LineProgress
closing V n p (Ok s) = record { line = n + 1; part = fresh; progress = checked_step V n p (step_of s) }
closing V n p (Err f) = record { line = n; part = closed (kind_of f); progress = p }

-- the machine inside a line, of whose next word so much came
abbrev pub in_word : ℕ → ℕ → Progress → LineState → Begun → Stream
in_word seen n p s g = record { seen = seen; line = n; part = in_line s g; progress = p }

-- bytes from one place up to another lead from one word begun to another
abbrev pub TakesWord : List ℕ → declared.Begun → ℕ → declared.Begun → ℕ → Type 0
TakesWord bytes g start h end =
    (V k n : ℕ) (p : Progress) (s : LineState) → feed V (in_word (k + start) n p s (begun_of g)) (drop start bytes) ≡ feed V (in_word (k + end) n p s (begun_of h)) (drop end bytes)

abbrev pub stream_at : ℕ → Progress → Text → Stream
stream_at seen p t = record { seen = seen; line = t.number; part = part_of t; progress = p }

-- bytes from one place up to another lead from one text to another
abbrev pub TakesBytes : List ℕ → Text → ℕ → Text → ℕ → Type 0
TakesBytes bytes old start new end =
    (V k : ℕ) (p : Progress) → feed V (stream_at (k + start) p old) (drop start bytes) ≡ feed V (stream_at (k + end) p new) (drop end bytes)

-- what a text that ends here has for a fault
abbrev pub EndsAt : ℕ → Part → Option TextFault → Type 0
EndsAt n part None = (p : Progress) → at_text_end n p part ≡ checked (verdict p)
EndsAt n part (Some f) = (k : theory.TextFault) × (f ≡ text_fault_at k n) × ((p : Progress) → at_text_end n p part ≡ line_refused k n)
