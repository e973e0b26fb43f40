-- What is left of a text from a place on is read as, by the byte and the word at the place.
use Rattle.std.proofs.Common.{◌≡◌, ℕ, ◌+◌, ◌<◌, Bool, true, false, List, ◌∷◌, length, drop, get_or, nat_eq, eqb-true, ◌||◌, refl, sym, ap, ◌∙◌, cond, Option, Some, None}
use Rattle.std.proofs.lemmas.List.{drop_more}
use Rattle.theory.specs.Texts.{lf}
use Rattle.theory.specs.Tokens.{lines_of, is_blank}
use Rattle.theory.specs.ProofReading.{ProofReading, line_fault, line_not_ended}
use Rattle.lrat_text.specs.LineWords.{ends_word, first_word, after_word, word_of}
use Rattle.lrat_text.specs.LineMachine.{LineState, at_id, on, fault_in, at_end, behind, read_lines, within, has_line_feed}
use Rattle.lrat_text.specs.declared.line.Line.{Line}
use Rattle.lrat_text.specs.LineStates.{state_of, IsTaken}
use Rattle.lrat_text.proofs.LineReadings.{within-blank, within-lf, read_lines-begin, within-taken, within-refused}

-- a line begins
pub at-begin : (n : ℕ) (bytes : List ℕ) (i : ℕ) → i < length bytes → within at_id n (lines_of (drop i bytes)) ≡ read_lines n (lines_of (drop i bytes))
at-begin n bytes i inside =
    let e = drop_more bytes i 0 inside in
    ap (λ x. within at_id n (lines_of x)) e ∙ sym (read_lines-begin n (get_or bytes i 0) (drop (i + 1) bytes)) ∙ ap (λ x. read_lines n (lines_of x)) (sym e)

pub at-blank : (s : LineState) (n : ℕ) (bytes : List ℕ) (i : ℕ) (r : ProofReading) → i < length bytes → is_blank (get_or bytes i 0) ≡ true
    → within s n (lines_of (drop i bytes)) ≡ r → within s n (lines_of (drop (i + 1) bytes)) ≡ r
at-blank s n bytes i r inside blank h =
    sym (within-blank s n (get_or bytes i 0) (drop (i + 1) bytes) blank) ∙ ap (λ x. within s n (lines_of x)) (sym (drop_more bytes i 0 inside)) ∙ h

pub at-lf : (s : LineState) (n : ℕ) (bytes : List ℕ) (i : ℕ) (r : ProofReading) → i < length bytes → get_or bytes i 0 ≡ lf
    → within s n (lines_of (drop i bytes)) ≡ r → behind (at_end s) n (read_lines (n + 1) (lines_of (drop (i + 1) bytes))) ≡ r
at-lf s n bytes i r inside feed h =
    sym (within-lf s n (drop (i + 1) bytes)) ∙ ap (λ b. within s n (lines_of (b ∷ drop (i + 1) bytes))) (sym feed)
    ∙ ap (λ x. within s n (lines_of x)) (sym (drop_more bytes i 0 inside)) ∙ h

pub at-taken : (s next : LineState) (n : ℕ) (bytes : List ℕ) (i e : ℕ) (r : ProofReading) → i < length bytes → ends_word (get_or bytes i 0) ≡ false
    → on s (word_of (first_word (drop i bytes))) ≡ Some next → drop e bytes ≡ after_word (drop i bytes)
    → within s n (lines_of (drop i bytes)) ≡ r → within next n (lines_of (drop e bytes)) ≡ r
at-taken s next n bytes i e r inside begins taken rest h =
    let more = drop_more bytes i 0 inside in
    ap (λ x. within next n (lines_of x)) (rest ∙ ap after_word more)
    ∙ sym (within-taken s next n (get_or bytes i 0) (drop (i + 1) bytes) begins (ap (λ x. on s (word_of (first_word x))) (sym more) ∙ taken))
    ∙ ap (λ x. within s n (lines_of x)) (sym more) ∙ h

pub at-refused : (s : LineState) (n : ℕ) (bytes : List ℕ) (i e : ℕ) (r : ProofReading) → i < length bytes → ends_word (get_or bytes i 0) ≡ false
    → on s (word_of (first_word (drop i bytes))) ≡ None → drop e bytes ≡ after_word (drop i bytes)
    → within s n (lines_of (drop i bytes)) ≡ r
    → line_fault (cond (has_line_feed (drop e bytes)) (fault_in s (word_of (first_word (drop i bytes)))) line_not_ended) n ≡ r
at-refused s n bytes i e r inside begins refused rest h =
    let more = drop_more bytes i 0 inside in
    ap (λ x. line_fault (cond (has_line_feed x) (fault_in s (word_of (first_word (drop i bytes)))) line_not_ended) n) (rest ∙ ap after_word more)
    ∙ ap (λ x. line_fault (cond (has_line_feed (after_word (get_or bytes i 0 ∷ drop (i + 1) bytes))) (fault_in s (word_of (first_word x))) line_not_ended) n) more
    ∙ sym (within-refused s n (get_or bytes i 0) (drop (i + 1) bytes) begins (ap (λ x. on s (word_of (first_word x))) (sym more) ∙ refused))
    ∙ ap (λ x. within s n (lines_of x)) (sym more) ∙ h

pub goes_on : (b : ℕ) → (b ≡ lf → ⊥) → is_blank b ≡ false → ends_word b ≡ false
goes_on b feed blank = go (nat_eq b lf) refl
  where
    go : (r : Bool) → nat_eq b lf ≡ r → ends_word b ≡ false
    go true e = absurd (feed (eqb-true b lf e))
    go false e = ap (λ r. r || is_blank b) e ∙ blank

-- what a taken or a refused word says
pub IsTaken-true : (o : Option LineState) (b : Bool) (old new : Line) → b ≡ true → IsTaken o b old new → o ≡ Some (state_of new)
IsTaken-true o true old new e h = h
IsTaken-true o false old new e h = absurd (cc)

pub IsTaken-false : (o : Option LineState) (b : Bool) (old new : Line) → b ≡ false → IsTaken o b old new → (o ≡ None) × (new ≡ old)
IsTaken-false o true old new e h = absurd (cc)
IsTaken-false o false old new e h = h
