-- The lines of a text and the words of a line, by the next byte and by the next word.
use Rattle.std.proofs.Common.{◌≡◌, ℕ, ◌+◌, Bool, true, false, ◌||◌, List, [], ◌∷◌, ◌++◌, nat_eq, refl, sym, ap, ◌∙◌, cond, subst}
use Rattle.theory.specs.Texts.{lf}
use Rattle.theory.specs.Tokens.{Word, lines_of, words_from, texts_of, is_blank}
use Rattle.theory.specs.ProofReading.{words_in}
use Rattle.lrat_text.specs.LineWords.{ends_word, first_word, after_word}
use Rattle.lrat_text.specs.LineMachine.{has_line_feed}

-- a text's lines
abbrev pub onto_first : ℕ → List (List ℕ) → List (List ℕ)
onto_first b [] = (b ∷ []) ∷ []
onto_first b (line ∷ lines) = (b ∷ line) ∷ lines

pub lines_of-byte : (b : ℕ) (bytes : List ℕ) → nat_eq b lf ≡ false → lines_of (b ∷ bytes) ≡ onto_first b (lines_of bytes)
lines_of-byte b bytes h = go (lines_of bytes) refl
  where
    go : (lines : List (List ℕ)) → lines_of bytes ≡ lines → lines_of (b ∷ bytes) ≡ onto_first b lines
    go [] e = rw (e, h) refl
    go (line ∷ lines) e = rw (e, h) refl

-- a text has a first line
pub record Lines (bytes : List ℕ) : Type 0 where
  pub first : List ℕ
  pub rest : List (List ℕ)
  pub are : lines_of bytes ≡ first ∷ rest

pub lines : (bytes : List ℕ) → Lines bytes
lines [] = record { first = []; rest = []; are = refl }
lines (b ∷ bytes) = go (nat_eq b lf) refl (lines bytes)
  where
    go : (r : Bool) → nat_eq b lf ≡ r → Lines bytes → Lines (b ∷ bytes)
    go true e l = record { first = []; rest = lines_of bytes; are = rw e refl }
    go false e l = record { first = b ∷ l.first; rest = l.rest; are = lines_of-byte b bytes e ∙ ap (onto_first b) l.are }

-- a line's words, from the end on
abbrev pub onto_word : ℕ → List (List ℕ) → List (List ℕ)
onto_word b [] = (b ∷ []) ∷ []
onto_word b (t ∷ ts) = (b ∷ t) ∷ ts

abbrev touching : ℕ → List ℕ → List (List ℕ) → List (List ℕ)
touching b [] ts = (b ∷ []) ∷ ts
touching b (c ∷ line) ts = cond (is_blank c) ((b ∷ []) ∷ ts) (onto_word b ts)

abbrev pub texts : List ℕ → List (List ℕ)
texts [] = []
texts (b ∷ line) = cond (is_blank b) (texts line) (touching b line (texts line))

texts-words_from : (k : ℕ) (line : List ℕ) → texts_of (words_from k line) ≡ texts line
texts-words_from k [] = refl
texts-words_from k (b ∷ []) = go (is_blank b) refl
  where
    go : (r : Bool) → is_blank b ≡ r → texts_of (words_from k (b ∷ [])) ≡ texts (b ∷ [])
    go true e = rw e refl
    go false e = rw e refl
texts-words_from k (b ∷ c ∷ line) = go (is_blank b) refl (texts-words_from (k + 1) (c ∷ line))
  where
    joined : is_blank b ≡ false → is_blank c ≡ false → (W : List Word) → words_from (k + 1) (c ∷ line) ≡ W → texts_of (words_from k (b ∷ c ∷ line)) ≡ onto_word b (texts_of W)
    joined hb hc [] e = rw (e, hb, hc) refl
    joined hb hc (w ∷ W) e = rw (e, hb, hc) refl

    two : is_blank b ≡ false → is_blank c ≡ false → texts (b ∷ c ∷ line) ≡ onto_word b (texts (c ∷ line))
    two hb hc = rw (hb, hc) refl

    touched : (r : Bool) → is_blank c ≡ r → is_blank b ≡ false → texts_of (words_from (k + 1) (c ∷ line)) ≡ texts (c ∷ line) → texts_of (words_from k (b ∷ c ∷ line)) ≡ texts (b ∷ c ∷ line)
    touched true hc hb h = rw (hb, hc) (ap (λ ts. (b ∷ []) ∷ ts) (rw hc at h))
    touched false hc hb h = joined hb hc (words_from (k + 1) (c ∷ line)) refl ∙ ap (onto_word b) h ∙ sym (two hb hc)

    go : (r : Bool) → is_blank b ≡ r → texts_of (words_from (k + 1) (c ∷ line)) ≡ texts (c ∷ line) → texts_of (words_from k (b ∷ c ∷ line)) ≡ texts (b ∷ c ∷ line)
    go true e h = rw e h
    go false e h = touched (is_blank c) refl e h

pub words_in-texts : (line : List ℕ) → words_in line ≡ texts line
words_in-texts line = texts-words_from 1 line

-- bytes of a word alone; a line that begins with none of them; and bytes that do
abbrev pub Solid : List ℕ → Type 0
Solid [] = Unit {0}
Solid (b ∷ bytes) = (ends_word b ≡ false) × Solid bytes

abbrev pub BeginsBlank : List ℕ → Type 0
BeginsBlank [] = Unit {0}
BeginsBlank (b ∷ line) = is_blank b ≡ true

abbrev pub BeginsApart : List ℕ → Type 0
BeginsApart [] = Unit {0}
BeginsApart (b ∷ bytes) = ends_word b ≡ true

no_blank : (b : ℕ) → ends_word b ≡ false → is_blank b ≡ false
no_blank b h = go (nat_eq b lf) h
  where
    go : (r : Bool) → r || is_blank b ≡ false → is_blank b ≡ false
    go true e = absurd (cc)
    go false e = e

pub no_lf : (b : ℕ) → ends_word b ≡ false → nat_eq b lf ≡ false
no_lf b h = go (nat_eq b lf) h
  where
    go : (r : Bool) → r || is_blank b ≡ false → r ≡ false
    go true e = absurd (cc)
    go false e = refl

-- a blank adds no word
pub texts-blank : (b : ℕ) (line : List ℕ) → is_blank b ≡ true → texts (b ∷ line) ≡ texts line
texts-blank b line h = rw h refl

-- a word before a blank, or at the end
pub texts-word : (b : ℕ) (word line : List ℕ) → Solid (b ∷ word) → BeginsBlank line → texts ((b ∷ word) ++ line) ≡ (b ∷ word) ∷ texts line
texts-word b [] [] s l = let h = no_blank b s.0 in rw h refl
texts-word b [] (c ∷ line) s l = let h = no_blank b s.0 in rw (h, l) refl
texts-word b (c ∷ word) line s l =
    let h = no_blank b s.0 in
    let k = no_blank c s.1.0 in
    two ∙ ap (onto_word b) (texts-word c word line s.1 l)
  where
    two : texts (b ∷ c ∷ (word ++ line)) ≡ onto_word b (texts (c ∷ (word ++ line)))
    two = let h = no_blank b s.0 in let k = no_blank c s.1.0 in rw (h, k) refl

-- the lines of a word's bytes and what follows them
pub lines_of-solid : (word bytes line : List ℕ) (ls : List (List ℕ)) → Solid word → lines_of bytes ≡ line ∷ ls → lines_of (word ++ bytes) ≡ (word ++ line) ∷ ls
lines_of-solid [] bytes line ls s e = e
lines_of-solid (b ∷ word) bytes line ls s e = lines_of-byte b (word ++ bytes) (no_lf b s.0) ∙ ap (onto_first b) (lines_of-solid word bytes line ls s.1 e)

-- the first word and the rest
pub first-after : (bytes : List ℕ) → first_word bytes ++ after_word bytes ≡ bytes
first-after [] = refl
first-after (b ∷ bytes) = go (ends_word b) refl (first-after bytes)
  where
    go : (r : Bool) → ends_word b ≡ r → first_word bytes ++ after_word bytes ≡ bytes → first_word (b ∷ bytes) ++ after_word (b ∷ bytes) ≡ b ∷ bytes
    go true e h = rw e refl
    go false e h = rw e (ap (λ x. b ∷ x) h)

pub first-Solid : (bytes : List ℕ) → Solid (first_word bytes)
first-Solid [] = tt
first-Solid (b ∷ bytes) = go (ends_word b) refl (first-Solid bytes)
  where
    go : (r : Bool) → ends_word b ≡ r → Solid (first_word bytes) → Solid (first_word (b ∷ bytes))
    go true e s = rw e tt
    go false e s = let more : first_word (b ∷ bytes) ≡ b ∷ first_word bytes = rw e refl in subst Solid (sym more) (e, s)

pub after-BeginsApart : (bytes : List ℕ) → BeginsApart (after_word bytes)
after-BeginsApart [] = tt
after-BeginsApart (b ∷ bytes) = go (ends_word b) refl (after-BeginsApart bytes)
  where
    go : (r : Bool) → ends_word b ≡ r → BeginsApart (after_word bytes) → BeginsApart (after_word (b ∷ bytes))
    go true e s = let all : after_word (b ∷ bytes) ≡ b ∷ bytes = rw e refl in subst BeginsApart (sym all) e
    go false e s = rw e s

-- the first line of what begins with no word's byte
pub first-BeginsBlank : (bytes line : List ℕ) (ls : List (List ℕ)) → BeginsApart bytes → lines_of bytes ≡ line ∷ ls → BeginsBlank line
first-BeginsBlank [] line ls s e = let none : [] ≡ line = cc in subst BeginsBlank none tt
first-BeginsBlank (b ∷ bytes) line ls s e = go (nat_eq b lf) refl
  where
    go : (r : Bool) → nat_eq b lf ≡ r → BeginsBlank line
    go true h =
        let none : lines_of (b ∷ bytes) ≡ [] ∷ lines_of bytes = rw h refl in
        let empty : [] ≡ line = cc in
        subst BeginsBlank empty tt
    go false h =
        let l = lines bytes in
        let more : lines_of (b ∷ bytes) ≡ (b ∷ l.first) ∷ l.rest = lines_of-byte b bytes h ∙ ap (onto_first b) l.are in
        let begins : b ∷ l.first ≡ line = cc in
        subst BeginsBlank begins (rw h at s)

-- whether a second line is begun
abbrev pub has_second : List (List ℕ) → Bool
has_second [] = false
has_second (line ∷ []) = false
has_second (line ∷ next ∷ ls) = true

has_second-onto_first : (b : ℕ) (ls : List (List ℕ)) → has_second (onto_first b ls) ≡ has_second ls
has_second-onto_first b [] = refl
has_second-onto_first b (line ∷ []) = refl
has_second-onto_first b (line ∷ next ∷ ls) = refl

pub has_line_feed-lines_of : (bytes : List ℕ) → has_line_feed bytes ≡ has_second (lines_of bytes)
has_line_feed-lines_of [] = refl
has_line_feed-lines_of (b ∷ bytes) = go (nat_eq b lf) refl (has_line_feed-lines_of bytes)
  where
    go : (r : Bool) → nat_eq b lf ≡ r → has_line_feed bytes ≡ has_second (lines_of bytes) → has_line_feed (b ∷ bytes) ≡ has_second (lines_of (b ∷ bytes))
    go true e h = let l = lines bytes in rw (e, l.are) refl
    go false e h = ap (λ r. r || has_line_feed bytes) e ∙ h ∙ sym (has_second-onto_first b (lines_of bytes)) ∙ ap has_second (sym (lines_of-byte b bytes e))
