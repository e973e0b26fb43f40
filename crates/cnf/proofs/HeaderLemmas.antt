-- The header's tokens and the machine.
use Rattle.std.proofs.Common.{◌≡◌, ℕ, ◌-◌, ◌<◌, ◌≤◌, min, Bool, true, false, not, ◌⊎◌, inl, inr, List, [], ◌∷◌, length, get_or, Option, Some, None, nat_le, codes, refl, sym, ap, ◌∙◌, arith, le-leb, leb-true}
use Rattle.std.specs.List.{slice_range}
use Rattle.std.proofs.lemmas.Bool.{cases_lt, cases_eq}
use Rattle.theory.specs.Tokens.{Place, is_text, is_natural_text, size_of}
use Rattle.theory.specs.Reading.{Limits, word, Placed, tokens_of, end_of, no_header, bad_header, over_limit, header_number_fault, refusal}
use Rattle.theory.proofs.reading.ReadingMachine.{at_p, at_cnf, at_vars, at_clauses, at_header_end, at_body, on_p, on_cnf, on_vars, on_clauses}
use Rattle.cnf.specs.Tokens.{before_header, in_header, behind_header, is_word_byte, place_at, tokens_left}
use Rattle.cnf.specs.Words.{IsWordAt, word_at}
use Rattle.cnf.specs.Machine.{run, reads_from, reading_of, number_limit, at_number, behind_number}
use Rattle.cnf.proofs.PlaceLemmas.{end_of-place}
use Rattle.cnf.proofs.MachineLemmas.{run-step, run-fault}
use Rattle.cnf.proofs.LeftTokens.{tokens_left-word, tokens_left-header_end, tokens_left-end}
use Rattle.cnf.proofs.SliceLemmas.{length-slice}

-- a longest run of word bytes: where it begins and ends
pub record IsRun (bytes : List ℕ) (i j : ℕ) : Type 0 where
  pub above : i ≤ j
  pub within : j ≤ length bytes
  pub all : (k : ℕ) → i ≤ k → k < j → is_word_byte (get_or bytes k 0) ≡ true
  pub end : j < length bytes → is_word_byte (get_or bytes j 0) ≡ false

-- it is a word, or is empty at the end of the text or before no word
run-cases : (bytes : List ℕ) (i j : ℕ) → IsRun bytes i j → IsWordAt bytes i j ⊎ (i ≡ j)
run-cases bytes i j r = elim (cases_lt i j) [ inl l ↦ inl (record { some = l; all = r.all }) | inr g ↦ inr (let a = r.above in omega arith) ]

pub word-run : (bytes : List ℕ) (i j : ℕ) → IsRun bytes i j → i < length bytes → is_word_byte (get_or bytes i 0) ≡ true → IsWordAt bytes i j
word-run bytes i j r l w = elim (run-cases bytes i j r) [
  | inl h ↦ h
  | inr e ↦ absurd (let n = r.end (omega arith) in let same : is_word_byte (get_or bytes i 0) ≡ is_word_byte (get_or bytes j 0) = ap (λ k. is_word_byte (get_or bytes k 0)) e in cc)
]

-- the empty text is none of the header's words
text-some : (bytes : List ℕ) (i j b : ℕ) (bs : List ℕ) → IsRun bytes i j → is_text (slice_range bytes i j) (b ∷ bs) ≡ true → IsWordAt bytes i j
text-some bytes i j b bs r h = elim (run-cases bytes i j r) [
  | inl w ↦ w
  | inr e ↦ absurd (empty (slice_range bytes i j) (length-slice bytes i j r.above r.within ∙ (let z : j - i ≡ 0 = omega arith in z)) h)
]
  where
    empty : (text : List ℕ) → length text ≡ 0 → is_text text (b ∷ bs) ≡ true → ⊥
    empty [] l h = cc
    empty (c ∷ text) l h = omega arith

-- the first token
p-step : (L : Limits) (text : List ℕ) (place : Place) (ts : List Placed) (end : Place) → is_text text (codes "p") ≡ true → run L at_p (record { token = word text; place = place } ∷ ts) end ≡ run L at_cnf ts end
p-step L text place ts end h = run-step L at_p at_cnf (record { token = word text; place = place }) ts end (let e : on_p text ≡ Some at_cnf = rw h refl in e)

p-fault : (L : Limits) (text : List ℕ) (place : Place) (ts : List Placed) (end : Place) → is_text text (codes "p") ≡ false → run L at_p (record { token = word text; place = place } ∷ ts) end ≡ refusal no_header place
p-fault L text place ts end h = run-fault L at_p (record { token = word text; place = place }) ts end (let e : on_p text ≡ None = rw h refl in e)

pub p-read : (L : Limits) (bytes : List ℕ) (i j : ℕ) → tokens_left before_header bytes i ≡ tokens_of bytes → IsRun bytes i j → is_text (slice_range bytes i j) (codes "p") ≡ true
    → reading_of L bytes ≡ reads_from L at_cnf in_header bytes j
p-read L bytes i j e r h =
    ap (λ (ts : List Placed). run L at_p ts (end_of bytes)) (sym e ∙ tokens_left-word before_header bytes i j (text-some bytes i j 112 [] r h) r.within r.end)
    ∙ p-step L (slice_range bytes i j) (place_at bytes i) (tokens_left in_header bytes j) (end_of bytes) h

pub p-refused : (L : Limits) (bytes : List ℕ) (i j : ℕ) → tokens_left before_header bytes i ≡ tokens_of bytes → IsRun bytes i j → (i < length bytes → is_word_byte (get_or bytes i 0) ≡ true)
    → is_text (slice_range bytes i j) (codes "p") ≡ false → reading_of L bytes ≡ refusal no_header (place_at bytes i)
p-refused L bytes i j e r w h = elim (cases_lt i (length bytes)) [
  | inl l ↦ ap (λ (ts : List Placed). run L at_p ts (end_of bytes)) (sym e ∙ tokens_left-word before_header bytes i j (word-run bytes i j r l (w l)) r.within r.end)
      ∙ p-fault L (slice_range bytes i j) (place_at bytes i) (tokens_left in_header bytes j) (end_of bytes) h
  | inr g ↦ ap (λ (ts : List Placed). run L at_p ts (end_of bytes)) (sym e ∙ tokens_left-end before_header bytes i g (λ x. cc))
      ∙ ap (λ (p : Place). refusal no_header p) (end_of-place bytes ∙ ap (place_at bytes) (let a = r.above in let b = r.within in let s : length bytes ≡ i = omega arith in s))
]

-- the second
cnf-step : (L : Limits) (text : List ℕ) (place : Place) (ts : List Placed) (end : Place) → is_text text (codes "cnf") ≡ true → run L at_cnf (record { token = word text; place = place } ∷ ts) end ≡ run L at_vars ts end
cnf-step L text place ts end h = run-step L at_cnf at_vars (record { token = word text; place = place }) ts end (let e : on_cnf text ≡ Some at_vars = rw h refl in e)

cnf-fault : (L : Limits) (text : List ℕ) (place : Place) (ts : List Placed) (end : Place) → is_text text (codes "cnf") ≡ false → run L at_cnf (record { token = word text; place = place } ∷ ts) end ≡ refusal bad_header place
cnf-fault L text place ts end h = run-fault L at_cnf (record { token = word text; place = place }) ts end (let e : on_cnf text ≡ None = rw h refl in e)

pub cnf-read : (L : Limits) (bytes : List ℕ) (i j : ℕ) → IsRun bytes i j → is_text (slice_range bytes i j) (codes "cnf") ≡ true
    → reads_from L at_cnf in_header bytes i ≡ reads_from L at_vars in_header bytes j
cnf-read L bytes i j r h =
    ap (λ (ts : List Placed). run L at_cnf ts (end_of bytes)) (tokens_left-word in_header bytes i j (text-some bytes i j 99 (codes "nf") r h) r.within r.end)
    ∙ cnf-step L (slice_range bytes i j) (place_at bytes i) (tokens_left in_header bytes j) (end_of bytes) h

-- where the header's line ends, or a word stands
pub line-cases : (bytes : List ℕ) (i : ℕ) → (i < length bytes → (get_or bytes i 0 ≡ 10 → ⊥) → is_word_byte (get_or bytes i 0) ≡ true)
    → ((i < length bytes) × (is_word_byte (get_or bytes i 0) ≡ true)) ⊎ (i < length bytes → get_or bytes i 0 ≡ 10)
line-cases bytes i h = elim (cases_lt i (length bytes)) [
  | inl l ↦ elim (cases_eq (get_or bytes i 0) 10) [ inl e ↦ inr (λ m. e) | inr n ↦ inl (l, h l n) ]
  | inr g ↦ inr (λ m. absurd (omega arith))
]

pub cnf-refused : (L : Limits) (bytes : List ℕ) (i j : ℕ) → IsRun bytes i j → (i < length bytes → (get_or bytes i 0 ≡ 10 → ⊥) → is_word_byte (get_or bytes i 0) ≡ true)
    → is_text (slice_range bytes i j) (codes "cnf") ≡ false → reads_from L at_cnf in_header bytes i ≡ refusal bad_header (place_at bytes i)
cnf-refused L bytes i j r w h = elim (line-cases bytes i w) [
  | inl s ↦ ap (λ (ts : List Placed). run L at_cnf ts (end_of bytes)) (tokens_left-word in_header bytes i j (word-run bytes i j r s.0 s.1) r.within r.end)
      ∙ cnf-fault L (slice_range bytes i j) (place_at bytes i) (tokens_left in_header bytes j) (end_of bytes) h
  | inr e ↦ ap (λ (ts : List Placed). run L at_cnf ts (end_of bytes)) (tokens_left-header_end bytes i e)
]

-- the third and the fourth
pub number-missing : (L : Limits) (vars : Option ℕ) (bytes : List ℕ) (i : ℕ) → (i < length bytes → get_or bytes i 0 ≡ 10) → reads_from L (at_number vars) in_header bytes i ≡ refusal bad_header (place_at bytes i)
number-missing L None bytes i e = ap (λ (ts : List Placed). run L at_vars ts (end_of bytes)) (tokens_left-header_end bytes i e)
number-missing L (Some V) bytes i e = ap (λ (ts : List Placed). run L (at_clauses V) ts (end_of bytes)) (tokens_left-header_end bytes i e)

other-fault : (text : List ℕ) → is_natural_text text ≡ false → header_number_fault (word text) ≡ bad_header
other-fault text h = rw h refl

above-fault : (text : List ℕ) → is_natural_text text ≡ true → header_number_fault (word text) ≡ over_limit
above-fault text h = rw h refl

other-step : (L : Limits) (vars : Option ℕ) (text : List ℕ) (place : Place) (ts : List Placed) (end : Place) → is_natural_text text ≡ false
    → run L (at_number vars) (record { token = word text; place = place } ∷ ts) end ≡ refusal bad_header place
other-step L None text place ts end h = run-fault L at_vars (record { token = word text; place = place }) ts end (let e : on_vars L text ≡ None = rw h refl in e) ∙ ap (λ f. refusal f place) (other-fault text h)
other-step L (Some V) text place ts end h = run-fault L (at_clauses V) (record { token = word text; place = place }) ts end (let e : on_clauses L V text ≡ None = rw h refl in e) ∙ ap (λ f. refusal f place) (other-fault text h)

above-step : (L : Limits) (vars : Option ℕ) (text : List ℕ) (place : Place) (ts : List Placed) (end : Place) → is_natural_text text ≡ true → nat_le (size_of text) (number_limit L vars) ≡ false
    → run L (at_number vars) (record { token = word text; place = place } ∷ ts) end ≡ refusal over_limit place
above-step L None text place ts end h g = run-fault L at_vars (record { token = word text; place = place }) ts end (let e : on_vars L text ≡ None = rw (h, g) refl in e) ∙ ap (λ f. refusal f place) (above-fault text h)
above-step L (Some V) text place ts end h g = run-fault L (at_clauses V) (record { token = word text; place = place }) ts end (let e : on_clauses L V text ≡ None = rw (h, g) refl in e) ∙ ap (λ f. refusal f place) (above-fault text h)

number-step : (L : Limits) (vars : Option ℕ) (text : List ℕ) (place : Place) (ts : List Placed) (end : Place) → is_natural_text text ≡ true → nat_le (size_of text) (number_limit L vars) ≡ true
    → run L (at_number vars) (record { token = word text; place = place } ∷ ts) end ≡ run L (behind_number vars (size_of text)) ts end
number-step L None text place ts end h g = run-step L at_vars (at_clauses (size_of text)) (record { token = word text; place = place }) ts end (let e : on_vars L text ≡ Some (at_clauses (size_of text)) = rw (h, g) refl in e)
number-step L (Some V) text place ts end h g = run-step L (at_clauses V) (at_header_end V (size_of text)) (record { token = word text; place = place }) ts end (let e : on_clauses L V text ≡ Some (at_header_end V (size_of text)) = rw (h, g) refl in e)

not_le : (m n : ℕ) → n < m → nat_le m n ≡ false
not_le m n h = go (nat_le m n) refl
  where
    go : (r : Bool) → nat_le m n ≡ r → nat_le m n ≡ false
    go true e = absurd (let l = leb-true m n e in omega arith)
    go false e = e

module _ (L : Limits) (vars : Option ℕ) (bytes : List ℕ) (i j : ℕ) (w : IsWordAt bytes i j) (within : j ≤ length bytes) (end : j < length bytes → is_word_byte (get_or bytes j 0) ≡ false) where
  here : reads_from L (at_number vars) in_header bytes i ≡ run L (at_number vars) (word_at bytes i j ∷ tokens_left in_header bytes j) (end_of bytes)
  here = ap (λ (ts : List Placed). run L (at_number vars) ts (end_of bytes)) (tokens_left-word in_header bytes i j w within end)

  pub number-other : is_natural_text (slice_range bytes i j) ≡ false → reads_from L (at_number vars) in_header bytes i ≡ refusal bad_header (place_at bytes i)
  number-other h = here ∙ other-step L vars (slice_range bytes i j) (place_at bytes i) (tokens_left in_header bytes j) (end_of bytes) h

  pub number-above : (most size : ℕ) → most ≡ number_limit L vars → most ≤ 1000000000 → is_natural_text (slice_range bytes i j) ≡ true → size ≡ min 10000000000 (size_of (slice_range bytes i j)) → most < size
      → reads_from L (at_number vars) in_header bytes i ≡ refusal over_limit (place_at bytes i)
  number-above most size limit small h s above =
      here ∙ above-step L vars (slice_range bytes i j) (place_at bytes i) (tokens_left in_header bytes j) (end_of bytes) h (not_le (size_of (slice_range bytes i j)) (number_limit L vars) (omega arith))

  pub number-read : (most size : ℕ) → most ≡ number_limit L vars → most ≤ 1000000000 → is_natural_text (slice_range bytes i j) ≡ true → size ≡ min 10000000000 (size_of (slice_range bytes i j)) → size ≤ most
      → reads_from L (at_number vars) in_header bytes i ≡ reads_from L (behind_number vars size) in_header bytes j
  number-read most size limit small h s le =
      here ∙ number-step L vars (slice_range bytes i j) (place_at bytes i) (tokens_left in_header bytes j) (end_of bytes) h (le-leb (size_of (slice_range bytes i j)) (number_limit L vars) (omega arith))
      ∙ ap (λ n. reads_from L (behind_number vars n) in_header bytes j) (let e : size_of (slice_range bytes i j) ≡ size = omega arith in e)

-- the end of the header's line
pub header_end-read : (L : Limits) (V C : ℕ) (bytes : List ℕ) (i : ℕ) → (i < length bytes → get_or bytes i 0 ≡ 10) → reads_from L (at_header_end V C) in_header bytes i ≡ reads_from L (at_body V C [] []) behind_header bytes i
header_end-read L V C bytes i e = ap (λ (ts : List Placed). run L (at_header_end V C) ts (end_of bytes)) (tokens_left-header_end bytes i e)

pub fifth-refused : (L : Limits) (V C : ℕ) (bytes : List ℕ) (i j : ℕ) → IsRun bytes i j → i < j → reads_from L (at_header_end V C) in_header bytes i ≡ refusal bad_header (place_at bytes i)
fifth-refused L V C bytes i j r l = ap (λ (us : List Placed). run L (at_header_end V C) us (end_of bytes)) (tokens_left-word in_header bytes i j (record { some = l; all = r.all }) r.within r.end)

pub line-ends : (bytes : List ℕ) (i j : ℕ) → IsRun bytes i j → j ≤ i → (i < length bytes → (get_or bytes i 0 ≡ 10 → ⊥) → is_word_byte (get_or bytes i 0) ≡ true) → i < length bytes → get_or bytes i 0 ≡ 10
line-ends bytes i j r le h l = elim (cases_eq (get_or bytes i 0) 10) [
  | inl e ↦ e
  | inr n ↦ absurd (let above = r.above in let w : is_word_byte (get_or bytes i 0) ≡ true = h l n in let same : is_word_byte (get_or bytes i 0) ≡ is_word_byte (get_or bytes j 0) = ap (λ k. is_word_byte (get_or bytes k 0)) (let e : i ≡ j = omega arith in e) in let f = r.end (omega arith) in cc)
]

pub not-false : (r : Bool) → not r ≡ false → r ≡ true
not-false true h = refl
not-false false h = absurd (cc)
