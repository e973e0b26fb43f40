-- What a proof's reader has left of its text.
use Rattle.std.specs.Prelude.{ℕ, List, drop, Option, None, ⊤}
use Rattle.std.specs.Io.KnownBytes.{prepend_known}
use Rattle.std.specs.Io.Buffered.{reader_remaining}
use Rattle.lrat_forms.specs.Comments.{uncommented_known}
use Rattle.lrat_forms.specs.Forms.{text_of}
use Rattle.lrat_forms.specs.declared.comments.Uncommented.{Uncommented}
use Rattle.lrat_forms.specs.declared.reader.ProofText.{ProofText}
use Rattle.lrat_forms.specs.declared.reader.Reading.{Reading}
use Rattle.lrat_forms.specs.declared.reader.Reading.TheVariants.{First, Text, Binary}

-- the text that is left, by its first bytes and what is left behind them, where that is known
abbrev pub left_of : Reading → List ℕ → Option (List ℕ) → Option (List ℕ)
left_of First first rest = text_of (prepend_known first rest)
left_of (Text given) first rest = prepend_known (drop given first) rest
left_of Binary first rest = None

abbrev pub text_remaining : {I : Type 0} → (I → Option (List ℕ)) → ProofText I → Option (List ℕ)
text_remaining remaining r = left_of r.reading r.first.items (remaining r.inner)

-- its first bytes were looked at
abbrev pub IsLookedAt : Reading → Type 0
IsLookedAt First = ⊥
IsLookedAt (Text given) = ⊤
IsLookedAt Binary = ⊤

-- what is left of a text with comments, and of what one of them is read as
abbrev pub uncommented_remaining : {I : Type 0} → (I → Option (List ℕ)) → Uncommented I → Option (List ℕ)
uncommented_remaining remaining r = prepend_known r.owed.now (uncommented_known r.line (reader_remaining remaining r.inner))
