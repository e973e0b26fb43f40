-- The tokens of what is left of a text, from one of its bytes to a later one.
use Rattle.std.proofs.Common.{◌≡◌, ℕ, suc, ◌+◌, ◌-◌, ◌<◌, ◌≤◌, Bool, true, false, inl, inr, List, [], ◌∷◌, ◌++◌, length, get_or, drop, nat_eq, eq-eqb, refl, sym, ap, ap₂, subst, ◌∙◌, arith, length-drop, ne_eqb}
use Rattle.std.specs.List.{slice_range}
use Rattle.std.proofs.lemmas.List.{drop_more, drop_all, get_or-drop}
use Rattle.std.proofs.lemmas.Bool.{cases_lt}
use Rattle.theory.specs.Tokens.{Place, lines_of, is_blank}
use Rattle.theory.specs.Reading.{word, header_end, is_comment, tokens_after_header, tokens_of}
use Rattle.cnf.specs.Tokens.{Part, before_header, in_header, behind_header, is_word_byte, place_at, lines_tokens, rest_tokens, tokens_left}
use Rattle.cnf.specs.Words.{IsWordAt, word_at}
use Rattle.cnf.proofs.TokenLemmas.{HasLines, lines_of-some, lines_of-lf, lines_of-other, lines_of-front, has_no_lf, is_word, is_word-no_lf, other_byte, at_column, behind_word, rest-word, rest-blank, no_word-first, lines-plain, lines-comment, lines-newline}
use Rattle.cnf.proofs.SliceLemmas.{slice_append, length-slice, get_or-slice}
use Rattle.cnf.proofs.PlaceLemmas.{place_at-more, place_at-part, place_after-lf, place_after-other, place_behind-no_lf}

-- a blank
blank-rest : (part : Part) (p : Place) (b : ℕ) (bs : List ℕ) → nat_eq b 10 ≡ false → is_blank b ≡ true → HasLines (lines_of bs)
    → rest_tokens part p (lines_of (b ∷ bs)) ≡ rest_tokens part (at_column p (p.column + 1)) (lines_of bs)
blank-rest part p b bs n e h =
    ap (rest_tokens part p) (lines_of-other b bs h.first h.others n h.are) ∙ rest-blank part p b h.first h.others e ∙ ap (rest_tokens part (at_column p (p.column + 1))) (sym h.are)

pub tokens_left-blank : (part : Part) (bytes : List ℕ) (i : ℕ) → i < length bytes → is_word_byte (get_or bytes i 0) ≡ false → (get_or bytes i 0 ≡ 10 → ⊥)
    → tokens_left part bytes (i + 1) ≡ tokens_left part bytes i
unfolding tokens_left
tokens_left-blank part bytes i within other no_lf =
    let b = get_or bytes i 0 in
    let n : nat_eq (get_or bytes i 0) 10 ≡ false = ne_eqb (get_or bytes i 0) 10 no_lf in
    let p = place_at bytes i in
    ap (λ (q : Place). rest_tokens part q (lines_of (drop (i + 1) bytes))) (place_at-more bytes i within ∙ place_after-other (place_at bytes i) (get_or bytes i 0) n)
    ∙ sym (blank-rest part (place_at bytes i) (get_or bytes i 0) (drop (i + 1) bytes) n (other_byte (get_or bytes i 0) other n) (lines_of-some (drop (i + 1) bytes)))
    ∙ ap (λ (bs : List ℕ). rest_tokens part (place_at bytes i) (lines_of bs)) (sym (drop_more bytes i 0 within))

-- an LF
pub tokens_left-lf : (part : Part) (bytes : List ℕ) (i : ℕ) → i < length bytes → get_or bytes i 0 ≡ 10 → (part ≡ in_header → ⊥)
    → tokens_left part bytes i ≡ lines_tokens part (place_at bytes (i + 1)).line (lines_of (drop (i + 1) bytes))
unfolding tokens_left
tokens_left-lf part bytes i within lf h =
    let n : nat_eq (get_or bytes i 0) 10 ≡ true = eq-eqb (get_or bytes i 0) 10 lf in
    ap (λ (bs : List ℕ). rest_tokens part (place_at bytes i) (lines_of bs)) (drop_more bytes i 0 within)
    ∙ ap (rest_tokens part (place_at bytes i)) (lines_of-lf (get_or bytes i 0) (drop (i + 1) bytes) n)
    ∙ lines-newline part (place_at bytes i) (lines_of (drop (i + 1) bytes)) h
    ∙ ap (λ (q : Place). lines_tokens part q.line (lines_of (drop (i + 1) bytes))) (sym (place_at-more bytes i within ∙ place_after-lf (place_at bytes i) (get_or bytes i 0) n))

pub column-lf : (bytes : List ℕ) (i : ℕ) → i < length bytes → get_or bytes i 0 ≡ 10 → (place_at bytes (i + 1)).column ≡ 1
column-lf bytes i within lf =
    let n : nat_eq (get_or bytes i 0) 10 ≡ true = eq-eqb (get_or bytes i 0) 10 lf in
    ap (λ (q : Place). q.column) (place_at-more bytes i within ∙ place_after-lf (place_at bytes i) (get_or bytes i 0) n)

pub column-first : (bytes : List ℕ) → (place_at bytes 0).column ≡ 1
unfolding place_at
column-first bytes = refl

-- the end
pub tokens_left-end : (part : Part) (bytes : List ℕ) (i : ℕ) → length bytes ≤ i → (part ≡ in_header → ⊥) → tokens_left part bytes i ≡ []
unfolding tokens_left
tokens_left-end part bytes i past h = ap (λ (bs : List ℕ). rest_tokens part (place_at bytes i) (lines_of bs)) (drop_all i bytes past) ∙ empty part h
  where
    empty : (part : Part) → (part ≡ in_header → ⊥) → rest_tokens part (place_at bytes i) (lines_of []) ≡ []
    empty before_header h = refl
    empty in_header h = absurd (h refl)
    empty behind_header h = refl

-- the end of the header's line
header-lf : (p : Place) (b : ℕ) (bs : List ℕ) → nat_eq b 10 ≡ true
    → rest_tokens in_header p (lines_of (b ∷ bs)) ≡ record { token = header_end; place = p } ∷ rest_tokens behind_header p (lines_of (b ∷ bs))
header-lf p b bs n =
    ap (rest_tokens in_header p) (lines_of-lf b bs n)
    ∙ ap (λ k. record { token = header_end; place = at_column p k } ∷ tokens_after_header (p.line + 1) (lines_of bs)) (let e : p.column + 0 ≡ p.column = omega arith in e)
    ∙ ap (λ (lines : List (List ℕ)). record { token = header_end; place = p } ∷ rest_tokens behind_header p lines) (sym (lines_of-lf b bs n))

header-none : (p : Place) → rest_tokens in_header p (lines_of []) ≡ record { token = header_end; place = p } ∷ rest_tokens behind_header p (lines_of [])
header-none p = ap (λ k. record { token = header_end; place = at_column p k } ∷ []) (let e : p.column + 0 ≡ p.column = omega arith in e)

pub tokens_left-header_end : (bytes : List ℕ) (i : ℕ) → (i < length bytes → get_or bytes i 0 ≡ 10)
    → tokens_left in_header bytes i ≡ record { token = header_end; place = place_at bytes i } ∷ tokens_left behind_header bytes i
unfolding tokens_left
tokens_left-header_end bytes i h = go (drop i bytes) (λ some. get_or-drop i bytes 0 0 ∙ ap (λ k. get_or bytes k 0) (let e : i + 0 ≡ i = omega arith in e) ∙ h (omega (arith, length-drop i bytes)))
  where
    go : (bs : List ℕ) → (0 < length bs → get_or bs 0 0 ≡ 10)
        → rest_tokens in_header (place_at bytes i) (lines_of bs) ≡ record { token = header_end; place = place_at bytes i } ∷ rest_tokens behind_header (place_at bytes i) (lines_of bs)
    go [] h = header-none (place_at bytes i)
    go (b ∷ bs) h = header-lf (place_at bytes i) b bs (eq-eqb b 10 (h (omega arith)))

-- a comment, and a line that is none
comment-first : (b : ℕ) (w line : List ℕ) → b ≡ 99 → is_comment (b ∷ w ++ line) ≡ true
comment-first b w line e = eq-eqb b 99 e

-- what stands at the end of a line has an empty first line
ends_line : (bs : List ℕ) (line : List ℕ) (lines : List (List ℕ)) → lines_of bs ≡ line ∷ lines → (0 < length bs → get_or bs 0 0 ≡ 10) → line ≡ []
ends_line [] line lines e h = cc
ends_line (b ∷ bs) line lines e h = let f = lines_of-lf b bs (eq-eqb b 10 (h (omega arith))) in cc

comment-rest : (part : Part) (n : ℕ) (p : Place) (w bs : List ℕ) → has_no_lf w ≡ true → 0 < length w → get_or w 0 0 ≡ 99 → (0 < length bs → get_or bs 0 0 ≡ 10) → (part ≡ in_header → ⊥) → p.line ≡ n
    → HasLines (lines_of bs) → lines_tokens part n (lines_of (w ++ bs)) ≡ rest_tokens part p (lines_of bs)
comment-rest part n p [] bs no_lf some first end h e l = absurd (omega arith)
comment-rest part n p (b ∷ w) bs no_lf some first end h e l =
    let none : l.first ≡ [] = ends_line bs l.first l.others l.are end in
    ap (lines_tokens part n) (lines_of-front (b ∷ w) bs l.first l.others no_lf l.are)
    ∙ lines-comment part n (b ∷ w ++ l.first) l.others p (comment-first b w l.first first) h e
    ∙ ap (λ (line : List ℕ). rest_tokens part p (line ∷ l.others)) (sym none)
    ∙ ap (rest_tokens part p) (sym l.are)

no_lf-from : (w : List ℕ) → ((k : ℕ) → k < length w → get_or w k 0 ≡ 10 → ⊥) → has_no_lf w ≡ true
no_lf-from [] h = refl
no_lf-from (b ∷ w) h = let n : nat_eq b 10 ≡ false = ne_eqb b 10 (h 0 (omega arith)) in rw n (no_lf-from w (λ k i. h (suc k) (omega arith)))

-- the place behind bytes without an LF
pub place_at-slice : (bytes : List ℕ) (i j : ℕ) → i ≤ j → j ≤ length bytes → has_no_lf (slice_range bytes i j) ≡ true → place_at bytes j ≡ at_column (place_at bytes i) ((place_at bytes i).column + length (slice_range bytes i j))
place_at-slice bytes i j h within no_lf =
    place_at-part bytes i j h ∙ place_behind-no_lf (place_at bytes i) (slice_range bytes i j) no_lf

slice-no_lf : (bytes : List ℕ) (i j : ℕ) → i ≤ j → j ≤ length bytes → ((k : ℕ) → i ≤ k → k < j → get_or bytes k 0 ≡ 10 → ⊥) → has_no_lf (slice_range bytes i j) ≡ true
slice-no_lf bytes i j above within none =
    no_lf-from (slice_range bytes i j) (λ k l e. none (i + k) (omega arith) (omega (arith, length-slice bytes i j above within)) (sym (get_or-slice bytes i j k (omega (arith, length-slice bytes i j above within))) ∙ e))

-- the place of a byte in the line that begins at another
pub place_at-in_line : (bytes : List ℕ) (i j line before : ℕ) → i ≤ j → j ≤ length bytes → (place_at bytes i).column ≡ 1 → ((k : ℕ) → i ≤ k → k < j → get_or bytes k 0 ≡ 10 → ⊥)
    → line ≡ (place_at bytes j).line → before ≡ j - i → record { line = line; column = before + 1 } ≡ place_at bytes j
place_at-in_line bytes i j line before above within first none l b =
    ap₂ (λ (x y : ℕ). record { line = x; column = y }) l (b_is ∙ sym (ap (λ (q : Place). q.column) (place_at-slice bytes i j above within (slice-no_lf bytes i j above within none))))
  where
    b_is : before + 1 ≡ (place_at bytes i).column + length (slice_range bytes i j)
    b_is = omega (arith, length-slice bytes i j above within)

-- from the first byte of a comment to its end
pub tokens_left-comment : (part : Part) (bytes : List ℕ) (i j : ℕ) → i < length bytes → get_or bytes i 0 ≡ 99 → i ≤ j → j ≤ length bytes
    → ((k : ℕ) → i ≤ k → k < j → get_or bytes k 0 ≡ 10 → ⊥) → (j < length bytes → get_or bytes j 0 ≡ 10) → (part ≡ in_header → ⊥)
    → tokens_left part bytes j ≡ lines_tokens part (place_at bytes i).line (lines_of (drop i bytes))
unfolding tokens_left
tokens_left-comment part bytes i j some first above within none end h =
    sym (ap (λ (bs : List ℕ). lines_tokens part (place_at bytes i).line (lines_of bs)) (sym (slice_append bytes i j above))
    ∙ comment-rest part (place_at bytes i).line (place_at bytes j) (slice_range bytes i j) (drop j bytes) no_lf
    (let f = above_first in omega (arith, length-slice bytes i j above within)) (get_or-slice bytes i j 0 (let f = above_first in omega arith) ∙ ap (λ k. get_or bytes k 0) (let e : i + 0 ≡ i = omega arith in e) ∙ first)
    (λ l. get_or-drop j bytes 0 0 ∙ ap (λ k. get_or bytes k 0) (let e : j + 0 ≡ j = omega arith in e) ∙ end (omega (arith, length-drop j bytes))) h
    (ap (λ (p : Place). p.line) (place_at-slice bytes i j above within no_lf)) (lines_of-some (drop j bytes)))
  where
    above_first : i < j
    above_first = elim (cases_lt i j) [ inl l ↦ l | inr g ↦ absurd (let same : j ≡ i = omega arith in (let e = end (omega arith) in (let f : get_or bytes i 0 ≡ 10 = ap (λ k. get_or bytes k 0) (sym same) ∙ e in (omega arith)))) ]

    no_lf : has_no_lf (slice_range bytes i j) ≡ true
    no_lf = slice-no_lf bytes i j above within none

plain : (bs line : List ℕ) (lines : List (List ℕ)) → lines_of bs ≡ line ∷ lines → (0 < length bs → get_or bs 0 0 ≡ 99 → ⊥) → is_comment line ≡ false
plain [] line lines e h = let same : line ≡ [] = cc in rw same refl
plain (b ∷ bs) line lines e h = go (nat_eq b 10) refl (lines_of-some bs)
  where
    go : (r : Bool) → nat_eq b 10 ≡ r → HasLines (lines_of bs) → is_comment line ≡ false
    go true n l = let f = lines_of-lf b bs n in let same : line ≡ [] = cc in rw same refl
    go false n l = let f = lines_of-other b bs l.first l.others n l.are in let same : line ≡ b ∷ l.first = cc in rw same (ne_eqb b 99 (h (omega arith)))

-- from the first byte of a line that is no comment
pub tokens_left-plain : (part : Part) (bytes : List ℕ) (i : ℕ) → (i < length bytes → get_or bytes i 0 ≡ 99 → ⊥) → (place_at bytes i).column ≡ 1 → (part ≡ in_header → ⊥)
    → tokens_left part bytes i ≡ lines_tokens part (place_at bytes i).line (lines_of (drop i bytes))
unfolding tokens_left
tokens_left-plain part bytes i other first h =
    ap (λ k. rest_tokens part (at_column (place_at bytes i) k) (lines_of (drop i bytes))) first
    ∙ sym (go (lines_of-some (drop i bytes)) (drop i bytes) refl)
  where
    go : HasLines (lines_of (drop i bytes)) → (bs : List ℕ) → drop i bytes ≡ bs → lines_tokens part (place_at bytes i).line (lines_of (drop i bytes)) ≡ rest_tokens part (record { line = (place_at bytes i).line; column = 1 }) (lines_of (drop i bytes))
    go l bs e =
        ap (lines_tokens part (place_at bytes i).line) l.are
        ∙ lines-plain part (place_at bytes i).line l.first l.others (plain bs l.first l.others (ap lines_of (sym e) ∙ l.are)
        (λ some f. other (subst (λ (r : List ℕ). 0 < length r → i < length bytes) e (λ m. omega (arith, length-drop i bytes)) some)
        (ap (λ k. get_or bytes k 0) (let z : i ≡ i + 0 = omega arith in z) ∙ sym (get_or-drop i bytes 0 0) ∙ ap (λ (r : List ℕ). get_or r 0 0) e ∙ f))) h
        ∙ ap (rest_tokens part (record { line = (place_at bytes i).line; column = 1 })) (sym l.are)

-- a word
is_word-from : (w : List ℕ) → ((k : ℕ) → k < length w → is_word_byte (get_or w k 0) ≡ true) → is_word w ≡ true
is_word-from [] h = refl
is_word-from (b ∷ w) h = let y : is_word_byte b ≡ true = h 0 (omega arith) in rw y (is_word-from w (λ k i. h (suc k) (omega arith)))

word-rest : (part : Part) (p : Place) (w bs : List ℕ) → 0 < length w → is_word w ≡ true → (0 < length bs → is_word_byte (get_or bs 0 0) ≡ false) → HasLines (lines_of bs)
    → rest_tokens part p (lines_of (w ++ bs)) ≡ record { token = word w; place = p } ∷ rest_tokens (behind_word part) (at_column p (p.column + length w)) (lines_of bs)
word-rest part p [] bs some h e l = absurd (omega arith)
word-rest part p (b ∷ w) bs some h e l =
    ap (rest_tokens part p) (lines_of-front (b ∷ w) bs l.first l.others (is_word-no_lf (b ∷ w) h) l.are)
    ∙ rest-word part p b w l.first l.others h (no_word-first bs l.first l.others l.are e)
    ∙ ap (λ (lines : List (List ℕ)). record { token = word (b ∷ w); place = p } ∷ rest_tokens (behind_word part) (at_column p (p.column + length (b ∷ w))) lines) (sym l.are)

pub tokens_left-word : (part : Part) (bytes : List ℕ) (i j : ℕ) → IsWordAt bytes i j → j ≤ length bytes → (j < length bytes → is_word_byte (get_or bytes j 0) ≡ false)
    → tokens_left part bytes i ≡ word_at bytes i j ∷ tokens_left (behind_word part) bytes j
unfolding tokens_left
tokens_left-word part bytes i j w within end =
    ap (λ (bs : List ℕ). rest_tokens part (place_at bytes i) (lines_of bs)) (sym (slice_append bytes i j above))
    ∙ word-rest part (place_at bytes i) (slice_range bytes i j) (drop j bytes) (let s = w.some in omega (arith, size)) all
    (λ l. ap is_word_byte (get_or-drop j bytes 0 0 ∙ ap (λ k. get_or bytes k 0) (let e : j + 0 ≡ j = omega arith in e)) ∙ end (omega (arith, length-drop j bytes))) (lines_of-some (drop j bytes))
    ∙ ap (λ (q : Place). word_at bytes i j ∷ rest_tokens (behind_word part) q (lines_of (drop j bytes))) (sym (place_at-slice bytes i j above within (is_word-no_lf (slice_range bytes i j) all)))
  where
    above : i ≤ j
    above = let s = w.some in omega arith

    size : length (slice_range bytes i j) ≡ j - i
    size = length-slice bytes i j above within

    all : is_word (slice_range bytes i j) ≡ true
    all = is_word-from (slice_range bytes i j) (λ k l. ap is_word_byte (get_or-slice bytes i j k (omega (arith, size))) ∙ w.all (i + k) (omega arith) (omega (arith, size)))

-- the whole text
pub tokens_of-left : (bytes : List ℕ) → tokens_of bytes ≡ lines_tokens before_header (place_at bytes 0).line (lines_of (drop 0 bytes))
unfolding place_at
tokens_of-left bytes = refl
