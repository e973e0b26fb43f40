-- What is left of a text is read as, by its next byte and by its next word.
use Rattle.std.proofs.Common.{◌≡◌, ℕ, ◌+◌, Bool, true, false, List, [], ◌∷◌, ◌++◌, nat_eq, refl, sym, ap, ◌∙◌, arith, cond, Some, None}
use Rattle.theory.specs.Texts.{lf}
use Rattle.theory.specs.Tokens.{lines_of, is_blank}
use Rattle.theory.specs.ProofReading.{line_fault, line_not_ended, words_in}
use Rattle.lrat_text.specs.LineWords.{ends_word, first_word, after_word, word_of}
use Rattle.lrat_text.specs.LineMachine.{LineState, at_id, on, fault_in, at_end, behind, line_at_fault, read_words, read_lines, within, has_line_feed}
use Rattle.lrat_text.proofs.LineTexts.{onto_first, lines_of-byte, Lines, lines, words_in-texts, texts-blank, texts-word, Solid, BeginsBlank, lines_of-solid, first-after, first-Solid, after-BeginsApart, first-BeginsBlank, has_second, has_line_feed-lines_of}

-- a blank changes nothing
words-blank : (b : ℕ) (line : List ℕ) → is_blank b ≡ true → words_in (b ∷ line) ≡ words_in line
words-blank b line h = words_in-texts (b ∷ line) ∙ texts-blank b line h ∙ sym (words_in-texts line)

onto_first-blank : (s : LineState) (n b : ℕ) (ls : List (List ℕ)) → is_blank b ≡ true → within s n (onto_first b ls) ≡ within s n ls
onto_first-blank s n b [] h = refl
onto_first-blank s n b (line ∷ []) h = refl
onto_first-blank s n b (line ∷ next ∷ ls) h = ap (λ ws. behind (read_words s ws) n (read_lines (n + 1) (next ∷ ls))) (words-blank b line h)

blank_is_no_lf : (b : ℕ) → is_blank b ≡ true → nat_eq b lf ≡ false
blank_is_no_lf b h = grind arith

pub within-blank : (s : LineState) (n b : ℕ) (bytes : List ℕ) → is_blank b ≡ true → within s n (lines_of (b ∷ bytes)) ≡ within s n (lines_of bytes)
within-blank s n b bytes h = ap (within s n) (lines_of-byte b bytes (blank_is_no_lf b h)) ∙ onto_first-blank s n b (lines_of bytes) h

-- a line's end
pub within-lf : (s : LineState) (n : ℕ) (bytes : List ℕ) → within s n (lines_of (lf ∷ bytes)) ≡ behind (at_end s) n (read_lines (n + 1) (lines_of bytes))
within-lf s n bytes = let l = lines bytes in rw l.are refl

-- a line's begin
pub read_lines-begin : (n b : ℕ) (bytes : List ℕ) → read_lines n (lines_of (b ∷ bytes)) ≡ within at_id n (lines_of (b ∷ bytes))
read_lines-begin n b bytes = go (nat_eq b lf) refl (lines bytes)
  where
    ls : (first : List ℕ) (rest : List (List ℕ)) → read_lines n ((b ∷ first) ∷ rest) ≡ within at_id n ((b ∷ first) ∷ rest)
    ls first [] = refl
    ls first (next ∷ rest) = refl

    go : (r : Bool) → nat_eq b lf ≡ r → Lines bytes → read_lines n (lines_of (b ∷ bytes)) ≡ within at_id n (lines_of (b ∷ bytes))
    go true e l = rw (e, l.are) refl
    go false e l =
        let more : lines_of (b ∷ bytes) ≡ (b ∷ l.first) ∷ l.rest = lines_of-byte b bytes e ∙ ap (onto_first b) l.are in
        rw more (ls l.first l.rest)

words-word : (b : ℕ) (word line : List ℕ) → Solid (b ∷ word) → BeginsBlank line → words_in ((b ∷ word) ++ line) ≡ (b ∷ word) ∷ words_in line
words-word b word line s l = words_in-texts ((b ∷ word) ++ line) ∙ texts-word b word line s l ∙ ap (λ ts. (b ∷ word) ∷ ts) (sym (words_in-texts line))

-- the reading from a state on, where the next word can stand there, and where it can't
word_read : (s : LineState) (n b : ℕ) (word line : List ℕ) (ls : List (List ℕ)) (next : LineState) → Solid (b ∷ word) → BeginsBlank line → on s (word_of (b ∷ word)) ≡ Some next
    → within s n (((b ∷ word) ++ line) ∷ ls) ≡ within next n (line ∷ ls)
word_read s n b word line [] next solid blank taken = refl
word_read s n b word line (l ∷ ls) next solid blank taken =
    ap (λ ts. behind (read_words s ts) n (read_lines (n + 1) (l ∷ ls))) (words-word b word line solid blank)
    ∙ ap (λ o. behind (elim o [ Some next ↦ read_words next (words_in line) | None ↦ line_at_fault (fault_in s (word_of (b ∷ word))) ]) n (read_lines (n + 1) (l ∷ ls))) taken

word_refused : (s : LineState) (n b : ℕ) (word line : List ℕ) (ls : List (List ℕ)) → Solid (b ∷ word) → BeginsBlank line → on s (word_of (b ∷ word)) ≡ None
    → within s n (((b ∷ word) ++ line) ∷ ls) ≡ line_fault (cond (has_second (line ∷ ls)) (fault_in s (word_of (b ∷ word))) line_not_ended) n
word_refused s n b word line [] solid blank refused = refl
word_refused s n b word line (l ∷ ls) solid blank refused =
    ap (λ ts. behind (read_words s ts) n (read_lines (n + 1) (l ∷ ls))) (words-word b word line solid blank)
    ∙ ap (λ o. behind (elim o [ Some next ↦ read_words next (words_in line) | None ↦ line_at_fault (fault_in s (word_of (b ∷ word))) ]) n (read_lines (n + 1) (l ∷ ls))) refused

-- where the text has a word next
first_byte : (b : ℕ) (bytes : List ℕ) → ends_word b ≡ false → first_word (b ∷ bytes) ≡ b ∷ first_word bytes
first_byte b bytes h = rw h refl

after_byte : (b : ℕ) (bytes : List ℕ) → ends_word b ≡ false → after_word (b ∷ bytes) ≡ after_word bytes
after_byte b bytes h = rw h refl

split_lines : (b : ℕ) (bytes line : List ℕ) (ls : List (List ℕ)) → ends_word b ≡ false → lines_of (after_word bytes) ≡ line ∷ ls
    → lines_of (b ∷ bytes) ≡ ((b ∷ first_word bytes) ++ line) ∷ ls
split_lines b bytes line ls h e =
    ap (λ x. lines_of (b ∷ x)) (sym (first-after bytes))
    ∙ lines_of-solid (b ∷ first_word bytes) (after_word bytes) line ls (h, first-Solid bytes) e

pub within-taken : (s next : LineState) (n b : ℕ) (bytes : List ℕ) → ends_word b ≡ false → on s (word_of (first_word (b ∷ bytes))) ≡ Some next
    → within s n (lines_of (b ∷ bytes)) ≡ within next n (lines_of (after_word (b ∷ bytes)))
within-taken s next n b bytes h taken =
    let l = lines (after_word bytes) in
    let blank = first-BeginsBlank (after_word bytes) l.first l.rest (after-BeginsApart bytes) l.are in
    let on_word : on s (word_of (b ∷ first_word bytes)) ≡ Some next = ap (λ t. on s (word_of t)) (sym (first_byte b bytes h)) ∙ taken in
    ap (within s n) (split_lines b bytes l.first l.rest h l.are)
    ∙ word_read s n b (first_word bytes) l.first l.rest next (h, first-Solid bytes) blank on_word
    ∙ ap (within next n) (sym l.are)
    ∙ ap (λ x. within next n (lines_of x)) (sym (after_byte b bytes h))

pub within-refused : (s : LineState) (n b : ℕ) (bytes : List ℕ) → ends_word b ≡ false → on s (word_of (first_word (b ∷ bytes))) ≡ None
    → within s n (lines_of (b ∷ bytes))
    ≡ line_fault (cond (has_line_feed (after_word (b ∷ bytes))) (fault_in s (word_of (first_word (b ∷ bytes)))) line_not_ended) n
within-refused s n b bytes h refused =
    let l = lines (after_word bytes) in
    let blank = first-BeginsBlank (after_word bytes) l.first l.rest (after-BeginsApart bytes) l.are in
    let on_word : on s (word_of (b ∷ first_word bytes)) ≡ None = ap (λ t. on s (word_of t)) (sym (first_byte b bytes h)) ∙ refused in
    let feeds : has_second (l.first ∷ l.rest) ≡ has_line_feed (after_word (b ∷ bytes)) =
    ap has_second (sym l.are) ∙ sym (has_line_feed-lines_of (after_word bytes)) ∙ ap has_line_feed (sym (after_byte b bytes h)) in
    ap (within s n) (split_lines b bytes l.first l.rest h l.are)
    ∙ word_refused s n b (first_word bytes) l.first l.rest (h, first-Solid bytes) blank on_word
    ∙ ap (λ r. line_fault (cond r (fault_in s (word_of (b ∷ first_word bytes))) line_not_ended) n) feeds
    ∙ ap (λ t. line_fault (cond (has_line_feed (after_word (b ∷ bytes))) (fault_in s (word_of t)) line_not_ended) n) (sym (first_byte b bytes h))
