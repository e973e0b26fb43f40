-- The tokens of what is left of a line and of the lines behind it, by the first bytes.
use Rattle.std.proofs.Common.{◌≡◌, ℕ, ◌+◌, ◌<◌, Bool, true, false, not, ◌||◌, List, [], ◌∷◌, ◌++◌, map, length, get_or, nat_eq, refl, sym, ap, ap₂, ◌∙◌, arith, length-append, if◌then◌else◌}
use Rattle.theory.specs.Tokens.{Place, Word, lines_of, words_from, is_blank}
use Rattle.theory.specs.Reading.{Placed, word, header_end, is_comment, line_tokens, tokens_after_header, tokens_from}
use Rattle.cnf.specs.Tokens.{Part, before_header, in_header, behind_header, is_word_byte, placed, lines_tokens, line_rest, rest_tokens}

-- a text has a first line
pub record HasLines (lines : List (List ℕ)) : Type 0 where
  pub first : List ℕ
  pub others : List (List ℕ)
  pub are : lines ≡ first ∷ others

pub lines_of-other : (b : ℕ) (bs : List ℕ) (line : List ℕ) (lines : List (List ℕ)) → nat_eq b 10 ≡ false → lines_of bs ≡ line ∷ lines → lines_of (b ∷ bs) ≡ (b ∷ line) ∷ lines
lines_of-other b bs line lines n e = rw (n, e) refl

pub lines_of-lf : (b : ℕ) (bs : List ℕ) → nat_eq b 10 ≡ true → lines_of (b ∷ bs) ≡ [] ∷ lines_of bs
lines_of-lf b bs n = rw n refl

pub lines_of-some : (bs : List ℕ) → HasLines (lines_of bs)
lines_of-some [] = record { first = []; others = []; are = refl }
lines_of-some (b ∷ bs) = go (nat_eq b 10) refl (lines_of-some bs)
  where
    go : (r : Bool) → nat_eq b 10 ≡ r → HasLines (lines_of bs) → HasLines (lines_of (b ∷ bs))
    go true n h = record { first = []; others = lines_of bs; are = lines_of-lf b bs n }
    go false n h = record { first = b ∷ h.first; others = h.others; are = lines_of-other b bs h.first h.others n h.are }

-- bytes none of which is an LF
abbrev pub has_no_lf : List ℕ → Bool
has_no_lf [] = true
has_no_lf (b ∷ bs) = if nat_eq b 10 then false else has_no_lf bs

pub no_lf-first : (b : ℕ) (bs : List ℕ) → has_no_lf (b ∷ bs) ≡ true → nat_eq b 10 ≡ false
no_lf-first b bs h = go (nat_eq b 10) refl
  where
    go : (r : Bool) → nat_eq b 10 ≡ r → nat_eq b 10 ≡ false
    go true e = absurd (let never : false ≡ true = rw e at h in cc)
    go false e = e

pub no_lf-rest : (b : ℕ) (bs : List ℕ) → has_no_lf (b ∷ bs) ≡ true → has_no_lf bs ≡ true
no_lf-rest b bs h = rw (no_lf-first b bs h) at h

pub lines_of-front : (w bs : List ℕ) (line : List ℕ) (lines : List (List ℕ)) → has_no_lf w ≡ true → lines_of bs ≡ line ∷ lines → lines_of (w ++ bs) ≡ (w ++ line) ∷ lines
lines_of-front [] bs line lines n e = e
lines_of-front (b ∷ w) bs line lines n e = lines_of-other b (w ++ bs) (w ++ line) lines (no_lf-first b w n) (lines_of-front w bs line lines (no_lf-rest b w n) e)

-- bytes that all are a word's
abbrev pub is_word : List ℕ → Bool
is_word [] = true
is_word (b ∷ bs) = if is_word_byte b then is_word bs else false

is_word-first : (b : ℕ) (bs : List ℕ) → is_word (b ∷ bs) ≡ true → is_word_byte b ≡ true
is_word-first b bs h = go (is_word_byte b) refl
  where
    go : (r : Bool) → is_word_byte b ≡ r → is_word_byte b ≡ true
    go true e = e
    go false e = absurd (let never : false ≡ true = rw e at h in cc)

is_word-rest : (b : ℕ) (bs : List ℕ) → is_word (b ∷ bs) ≡ true → is_word bs ≡ true
is_word-rest b bs h = rw (is_word-first b bs h) at h

pub word_byte-blank : (b : ℕ) → is_word_byte b ≡ true → is_blank b ≡ false
word_byte-blank b h = go (is_blank b) (nat_eq b 10) h
  where
    go : (r s : Bool) → not (r || s) ≡ true → r ≡ false
    go true s h = absurd (cc)
    go false s h = refl

pub word_byte-lf : (b : ℕ) → is_word_byte b ≡ true → nat_eq b 10 ≡ false
word_byte-lf b h = go (is_blank b) (nat_eq b 10) h
  where
    go : (r s : Bool) → not (r || s) ≡ true → s ≡ false
    go true s h = absurd (cc)
    go false true h = absurd (cc)
    go false false h = refl

pub other_byte : (b : ℕ) → is_word_byte b ≡ false → nat_eq b 10 ≡ false → is_blank b ≡ true
other_byte b h n = go (is_blank b) (nat_eq b 10) h n
  where
    go : (r s : Bool) → not (r || s) ≡ false → s ≡ false → r ≡ true
    go true s h n = refl
    go false true h n = absurd (cc)
    go false false h n = absurd (cc)

pub is_word-no_lf : (w : List ℕ) → is_word w ≡ true → has_no_lf w ≡ true
is_word-no_lf [] h = refl
is_word-no_lf (b ∷ w) h = let n : nat_eq b 10 ≡ false = word_byte-lf b (is_word-first b w h) in rw n (is_word-no_lf w (is_word-rest b w h))

-- bytes that begin with no word
abbrev pub begins_no_word : List ℕ → Bool
begins_no_word [] = true
begins_no_word (b ∷ bs) = is_blank b

words_from-end : (k b : ℕ) (line : List ℕ) → is_blank b ≡ false → begins_no_word line ≡ true
    → words_from k (b ∷ line) ≡ record { column = k; text = b ∷ [] } ∷ words_from (k + 1) line
words_from-end k b [] w e = rw w refl
words_from-end k b (c ∷ line) w e = rw (w, e) refl

words_from-more : (k b c : ℕ) (line : List ℕ) (first : List ℕ) (words : List Word) → is_blank b ≡ false → is_blank c ≡ false
    → words_from (k + 1) (c ∷ line) ≡ record { column = k + 1; text = first } ∷ words
    → words_from k (b ∷ c ∷ line) ≡ record { column = k; text = b ∷ first } ∷ words
words_from-more k b c line first words w x e = rw (w, e, x) refl

-- a line that begins with a word
words_from-word : (k b : ℕ) (w line : List ℕ) → is_word (b ∷ w) ≡ true → begins_no_word line ≡ true
    → words_from k (b ∷ w ++ line) ≡ record { column = k; text = b ∷ w } ∷ words_from (k + length (b ∷ w)) line
words_from-word k b [] line h e = words_from-end k b line (word_byte-blank b (is_word-first b [] h)) e
words_from-word k b (c ∷ w) line h e =
    words_from-more k b c (w ++ line) (c ∷ w) (words_from (k + 1 + length (c ∷ w)) line) (word_byte-blank b (is_word-first b (c ∷ w) h)) (word_byte-blank c (is_word-first c w (is_word-rest b (c ∷ w) h)))
    (words_from-word (k + 1) c w line (is_word-rest b (c ∷ w) h) e)
    ∙ ap (λ n. record { column = k; text = b ∷ c ∷ w } ∷ words_from n line) (let e : k + 1 + length (c ∷ w) ≡ k + length (b ∷ c ∷ w) = omega arith in e)

-- the part that the text is in behind a word
abbrev pub behind_word : Part → Part
behind_word before_header = in_header
behind_word in_header = in_header
behind_word behind_header = behind_header

words-rest : (part : Part) (w : Word) (words : List Word) (p end : Place) (lines : List (List ℕ)) → end.line ≡ p.line
    → line_rest part (map (placed p.line) (w ∷ words)) end lines ≡ placed p.line w ∷ line_rest (behind_word part) (map (placed p.line) words) end lines
words-rest before_header w words p end lines e = refl
words-rest in_header w words p end lines e = refl
words-rest behind_header w words p end lines e = refl

abbrev pub at_column : Place → ℕ → Place
at_column p k = record { line = p.line; column = k }

pub rest-word : (part : Part) (p : Place) (b : ℕ) (w line : List ℕ) (lines : List (List ℕ)) → is_word (b ∷ w) ≡ true → begins_no_word line ≡ true
    → rest_tokens part p ((b ∷ w ++ line) ∷ lines)
    ≡ record { token = word (b ∷ w); place = p } ∷ rest_tokens (behind_word part) (at_column p (p.column + length (b ∷ w))) (line ∷ lines)
rest-word part p b w line lines h e =
    ap₂ (λ (words : List Word) (n : ℕ). line_rest part (map (placed p.line) words) (at_column p n) lines) (words_from-word p.column b w line h e)
    (let l : p.column + length (b ∷ w ++ line) ≡ p.column + length (b ∷ w) + length line = omega (arith, length-append w line) in l)
    ∙ words-rest part (record { column = p.column; text = b ∷ w }) (words_from (p.column + length (b ∷ w)) line) p (at_column p (p.column + length (b ∷ w) + length line)) lines refl

pub rest-blank : (part : Part) (p : Place) (b : ℕ) (line : List ℕ) (lines : List (List ℕ)) → is_blank b ≡ true
    → rest_tokens part p ((b ∷ line) ∷ lines) ≡ rest_tokens part (at_column p (p.column + 1)) (line ∷ lines)
rest-blank part p b line lines h =
    ap₂ (λ (words : List Word) (n : ℕ). line_rest part (map (placed p.line) words) (at_column p n) lines) (let e : words_from p.column (b ∷ line) ≡ words_from (p.column + 1) line = rw h refl in e)
    (let l : p.column + length (b ∷ line) ≡ p.column + 1 + length line = omega arith in l)

-- what begins with no word has a first line that doesn't
pub no_word-first : (bs : List ℕ) (line : List ℕ) (lines : List (List ℕ)) → lines_of bs ≡ line ∷ lines → (0 < length bs → is_word_byte (get_or bs 0 0) ≡ false) → begins_no_word line ≡ true
no_word-first [] line lines e h = let same : line ≡ [] = cc in rw same refl
no_word-first (b ∷ bs) line lines e h = go (nat_eq b 10) refl (lines_of-some bs)
  where
    go : (r : Bool) → nat_eq b 10 ≡ r → HasLines (lines_of bs) → begins_no_word line ≡ true
    go true n l = let f = lines_of-lf b bs n in let same : line ≡ [] = cc in rw same refl
    go false n l = let f = lines_of-other b bs l.first l.others n l.are in let same : line ≡ b ∷ l.first = cc in rw same (other_byte b (h (omega arith)) n)

-- the tokens of lines, by those of the first
abbrev tokens_first : ℕ → List Placed → ℕ → List (List ℕ) → List Placed
tokens_first n [] k lines = tokens_from (n + 1) lines
tokens_first n (t ∷ ts) k lines = (t ∷ ts) ++ record { token = header_end; place = record { line = n; column = k } } ∷ tokens_after_header (n + 1) lines

first-rest : (n k : ℕ) (ts : List Placed) (lines : List (List ℕ)) → tokens_first n ts k lines ≡ line_rest before_header ts (record { line = n; column = k }) lines
first-rest n k [] lines = refl
first-rest n k (t ∷ ts) lines = refl

from-first : (n : ℕ) (line : List ℕ) (lines : List (List ℕ)) → tokens_from n (line ∷ lines) ≡ tokens_first n (line_tokens n line) (length line + 1) lines
from-first n line lines = go (line_tokens n line) refl
  where
    go : (ts : List Placed) → line_tokens n line ≡ ts → tokens_from n (line ∷ lines) ≡ tokens_first n ts (length line + 1) lines
    go [] e = rw (e, tokens_from) refl
    go (t ∷ ts) e = rw (e, tokens_from) refl

plain-tokens : (n : ℕ) (line : List ℕ) → is_comment line ≡ false → line_tokens n line ≡ map (placed n) (words_from 1 line)
plain-tokens n line c = rw c refl

comment-tokens : (n : ℕ) (line : List ℕ) → is_comment line ≡ true → line_tokens n line ≡ []
comment-tokens n line c = rw c refl

-- a line that is no comment
pub lines-plain : (part : Part) (n : ℕ) (line : List ℕ) (lines : List (List ℕ)) → is_comment line ≡ false → (part ≡ in_header → ⊥)
    → lines_tokens part n (line ∷ lines) ≡ rest_tokens part (record { line = n; column = 1 }) (line ∷ lines)
lines-plain before_header n line lines c h =
    from-first n line lines
    ∙ ap₂ (λ (ts : List Placed) (k : ℕ). tokens_first n ts k lines) (plain-tokens n line c) (let k : length line + 1 ≡ 1 + length line = omega arith in k)
    ∙ first-rest n (1 + length line) (map (placed n) (words_from 1 line)) lines
lines-plain in_header n line lines c h = absurd (h refl)
lines-plain behind_header n line lines c h = ap (λ (ts : List Placed). ts ++ tokens_after_header (n + 1) lines) (plain-tokens n line c)

-- a comment
pub lines-comment : (part : Part) (n : ℕ) (line : List ℕ) (lines : List (List ℕ)) (p : Place) → is_comment line ≡ true → (part ≡ in_header → ⊥) → p.line ≡ n
    → lines_tokens part n (line ∷ lines) ≡ rest_tokens part p ([] ∷ lines)
lines-comment before_header n line lines p c h e =
    from-first n line lines ∙ ap (λ (ts : List Placed). tokens_first n ts (length line + 1) lines) (comment-tokens n line c) ∙ ap (λ k. tokens_from (k + 1) lines) (sym e)
lines-comment in_header n line lines p c h e = absurd (h refl)
lines-comment behind_header n line lines p c h e =
    ap (λ (ts : List Placed). ts ++ tokens_after_header (n + 1) lines) (comment-tokens n line c) ∙ ap (λ k. tokens_after_header (k + 1) lines) (sym e)

pub lines-newline : (part : Part) (p : Place) (lines : List (List ℕ)) → (part ≡ in_header → ⊥) → rest_tokens part p ([] ∷ lines) ≡ lines_tokens part (p.line + 1) lines
lines-newline before_header p lines h = refl
lines-newline in_header p lines h = absurd (h refl)
lines-newline behind_header p lines h = refl
