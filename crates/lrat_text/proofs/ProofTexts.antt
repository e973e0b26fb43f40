-- What the machine says of a text is what the text is read as, and nothing else is; and the text of
-- steps is read as them.
use Rattle.std.proofs.Common.{◌≡◌, ℕ, ◌+◌, ◌≤◌, List, [], ◌∷◌, length, refl, sym, ap, subst, ◌∙◌, inl, inr, arith}
use Rattle.theory.specs.Tokens.{lines_of}
use Rattle.theory.specs.Reading.{Limits}
use Rattle.theory.specs.ProofReading.{ProofReading, steps, line_fault, too_long, words_in, LinesRead, ProofReadsWithin, max_proof_bytes}
use Rattle.lrat_text.specs.LineMachine.{at_id, LineReading, line_read, line_at_fault, read_words, with_step, behind, rest_read, read_lines}
use Rattle.lrat_text.proofs.LineTexts.{Lines, lines}
use Rattle.lrat_text.proofs.LineLaws.{LineSays, read_words-says, read_words-only}

-- a text as the machine reads it
abbrev pub reading_of_text : List ℕ → ProofReading
reading_of_text bytes = read_lines 1 (lines_of bytes)

-- lines are never too long
never_long : (n : ℕ) (line : List ℕ) (ls : List (List ℕ)) → LinesRead n (line ∷ ls) too_long → ⊥
never_long n line [] h = h
never_long n line (next ∷ ls) h = h

lines-read : (n : ℕ) (line : List ℕ) (ls : List (List ℕ)) → LinesRead n (line ∷ ls) (read_lines n (line ∷ ls))
lines-read n [] [] = refl
lines-read n (b ∷ line) [] = ((λ e. cc), refl, refl)
lines-read n line (next ∷ ls) = go (read_words at_id (words_in line)) (read_words-says (words_in line)) (read_lines (n + 1) (next ∷ ls)) (lines-read (n + 1) next ls)
  where
    go : (l : LineReading) → LineSays (words_in line) l → (r : ProofReading) → LinesRead (n + 1) (next ∷ ls) r → LinesRead n (line ∷ next ∷ ls) (behind l n r)
    go (line_read s) h (steps ss) rest = (h, rest)
    go (line_read s) h (line_fault fault k) rest = inr ((s, h), rest)
    go (line_read s) h too_long rest = absurd (never_long (n + 1) next ls rest)
    go (line_at_fault fault) h r rest = inl (h, refl)

-- The machine's answer is what the text is read as.
pub reading-ProofReads : (L : Limits) (bytes : List ℕ) → length bytes ≤ max_proof_bytes L → ProofReadsWithin L bytes (reading_of_text bytes)
reading-ProofReads L bytes short = go (lines bytes)
  where
    said : (line : List ℕ) (ls : List (List ℕ)) → lines_of bytes ≡ line ∷ ls → (r : ProofReading) → LinesRead 1 (line ∷ ls) r → ProofReadsWithin L bytes r
    said line ls e (steps ss) h = (short, subst (λ x. LinesRead 1 x (steps ss)) (sym e) h)
    said line ls e (line_fault fault k) h = (short, subst (λ x. LinesRead 1 x (line_fault fault k)) (sym e) h)
    said line ls e too_long h = absurd (never_long 1 line ls h)

    go : Lines bytes → ProofReadsWithin L bytes (reading_of_text bytes)
    go l = subst (ProofReadsWithin L bytes) (ap (read_lines 1) (sym l.are)) (said l.first l.rest l.are (read_lines 1 (l.first ∷ l.rest)) (lines-read 1 l.first l.rest))

-- lines are read in one way
lines-only : (n : ℕ) (line : List ℕ) (ls : List (List ℕ)) (r : ProofReading) → LinesRead n (line ∷ ls) r → read_lines n (line ∷ ls) ≡ r
lines-only n line [] (steps []) h = ap (rest_read n) h
lines-only n line [] (steps (s ∷ ss)) h = absurd h
lines-only n [] [] (line_fault fault k) h = absurd (h.0 refl)
lines-only n (b ∷ line) [] (line_fault fault k) h = let f = h.1 in let m = h.2 in cc
lines-only n line [] too_long h = absurd h
lines-only n line (next ∷ ls) (steps []) h = absurd h
lines-only n line (next ∷ ls) (steps (s ∷ ss)) h =
    ap (λ l. behind l n (read_lines (n + 1) (next ∷ ls))) (read_words-only (words_in line) (line_read s) h.0)
    ∙ ap (with_step s) (lines-only (n + 1) next ls (steps ss) h.1)
lines-only n line (next ∷ ls) (line_fault fault k) (inl h) =
    ap (λ l. behind l n (read_lines (n + 1) (next ∷ ls))) (read_words-only (words_in line) (line_at_fault fault) h.0)
    ∙ ap (line_fault fault) (sym h.1)
lines-only n line (next ∷ ls) (line_fault fault k) (inr h) =
    ap (λ l. behind l n (read_lines (n + 1) (next ∷ ls))) (read_words-only (words_in line) (line_read h.0.0) h.0.1)
    ∙ ap (with_step h.0.0) (lines-only (n + 1) next ls (line_fault fault k) h.1)
lines-only n line (next ∷ ls) too_long h = absurd h

text-only : (bytes : List ℕ) (r : ProofReading) → LinesRead 1 (lines_of bytes) r → reading_of_text bytes ≡ r
text-only bytes r h =
    let l = lines bytes in
    ap (read_lines 1) l.are ∙ lines-only 1 l.first l.rest r (subst (λ x. LinesRead 1 x r) l.are h)

-- A text is read in one way.
pub ProofReads-only : (L : Limits) (bytes : List ℕ) (r s : ProofReading) → ProofReadsWithin L bytes r → ProofReadsWithin L bytes s → r ≡ s
ProofReads-only L bytes too_long too_long h k = refl
ProofReads-only L bytes too_long (steps ss) h k = absurd (let short = k.0 in omega arith)
ProofReads-only L bytes too_long (line_fault f n) h k = absurd (let short = k.0 in omega arith)
ProofReads-only L bytes (steps ss) too_long h k = absurd (let short = h.0 in omega arith)
ProofReads-only L bytes (line_fault f n) too_long h k = absurd (let short = h.0 in omega arith)
ProofReads-only L bytes (steps ss) (steps ts) h k = sym (text-only bytes (steps ss) h.1) ∙ text-only bytes (steps ts) k.1
ProofReads-only L bytes (steps ss) (line_fault f n) h k = sym (text-only bytes (steps ss) h.1) ∙ text-only bytes (line_fault f n) k.1
ProofReads-only L bytes (line_fault f n) (steps ss) h k = sym (text-only bytes (line_fault f n) h.1) ∙ text-only bytes (steps ss) k.1
ProofReads-only L bytes (line_fault f n) (line_fault g m) h k = sym (text-only bytes (line_fault f n) h.1) ∙ text-only bytes (line_fault g m) k.1
