-- Digits, and words as numbers.
use Rattle.std.proofs.Common.{◌≡◌, ℕ, zero, suc, ◌+◌, ◌-◌, ◌*◌, ◌<◌, ◌≤◌, min, inl, inr, subst, Bool, true, false, not, ◌&&◌, ◌||◌, List, [], ◌∷◌, ◌++◌, length, get_or, nat_eq, eqb-true, eq-eqb, refl, sym, ap, ◌∙◌, arith, ne_eqb}
use Rattle.std.specs.Int.{from_bool}
use Rattle.std.specs.List.{slice_range}
use Rattle.std.proofs.lemmas.Bool.{cases_lt}
use Rattle.std.specs.Char.{is_ascii_digit, digit_value}
use Rattle.std.specs.Str.{all_ascii_digits}
use Rattle.std.specs.Str.Parse.{digits_value}
use Rattle.std.proofs.lemmas.Int.Digits.{digits_value_push}
use Rattle.std.proofs.lemmas.Str.{digit_value_digit}
use Rattle.theory.specs.Tokens.{is_positive_text, is_zero_text, is_natural_text}
use Rattle.theory.proofs.literals.LiteralLemmas.{and-left, and-right, or-right}
use Rattle.cnf.specs.Tokens.{is_word_byte}
use Rattle.cnf.specs.Words.{is_plain_text, IsNumberOf}
use Rattle.cnf.proofs.SliceLemmas.{length-slice, get_or-slice, slice-more, slice-first}
use Rattle.theory.proofs.reading.NumberTexts.{digit-range}

-- digits one by one
digits-push : (w : List ℕ) (b : ℕ) → all_ascii_digits w ≡ true → is_ascii_digit b ≡ true → all_ascii_digits (w ++ b ∷ []) ≡ true
digits-push [] b h d = rw d refl
digits-push (c ∷ w) b h d =
    let first : is_ascii_digit c ≡ true = and-left (is_ascii_digit c) (all_ascii_digits w) h in
    let rest : all_ascii_digits (w ++ b ∷ []) ≡ true = digits-push w b (and-right (is_ascii_digit c) (all_ascii_digits w) h) d in
    rw (first, rest) refl

digit_value-is : (b : ℕ) → is_ascii_digit b ≡ true → digit_value b ≡ b - 48
digit_value-is b h = let v = digit_value_digit b (digit-range b h) in omega arith

pub digit-small : (b : ℕ) → is_ascii_digit b ≡ true → b - 48 ≤ 9
digit-small b h = omega (arith, digit-range b h)

pub digits-next : (bytes : List ℕ) (i j size next : ℕ) → i ≤ j → j < length bytes → all_ascii_digits (slice_range bytes i j) ≡ true → is_ascii_digit (get_or bytes j 0) ≡ true
    → size ≡ digits_value 10 (slice_range bytes i j) → next ≡ size * 10 + (get_or bytes j 0 - 48)
    → (all_ascii_digits (slice_range bytes i (j + 1)) ≡ true) × (next ≡ digits_value 10 (slice_range bytes i (j + 1)))
digits-next bytes i j size next above within digits digit s n =
    let more = slice-more bytes i j above within in (
      ap all_ascii_digits more ∙ digits-push (slice_range bytes i j) (get_or bytes j 0) digits digit,
      (let v = digits_value_push 10 (slice_range bytes i j) (get_or bytes j 0) in
          let d = digit_value-is (get_or bytes j 0) digit in
          let e : next ≡ digits_value 10 (slice_range bytes i j ++ get_or bytes j 0 ∷ []) = omega arith in
          e ∙ ap (digits_value 10) (sym more)),
    )

-- the same where sizes above 100,000,000 are read as that
pub digits-more : (bytes : List ℕ) (i j size next : ℕ) → i ≤ j → j < length bytes → all_ascii_digits (slice_range bytes i j) ≡ true → is_ascii_digit (get_or bytes j 0) ≡ true
    → size ≡ min 10000000000 (digits_value 10 (slice_range bytes i j)) → next ≡ min 10000000000 (size * 10 + (get_or bytes j 0 - 48))
    → (all_ascii_digits (slice_range bytes i (j + 1)) ≡ true) × (next ≡ min 10000000000 (digits_value 10 (slice_range bytes i (j + 1))))
digits-more bytes i j size next above within digits digit s n =
    let exact = digits-next bytes i j (digits_value 10 (slice_range bytes i j)) (digits_value 10 (slice_range bytes i j) * 10 + (get_or bytes j 0 - 48)) above within digits digit refl refl in
    (exact.0, omega (arith, exact.1))

digits-at : (w : List ℕ) (k : ℕ) → all_ascii_digits w ≡ true → k < length w → is_ascii_digit (get_or w k 0) ≡ true
digits-at [] k h l = absurd (omega arith)
digits-at (b ∷ w) zero h l = and-left (is_ascii_digit b) (all_ascii_digits w) h
digits-at (b ∷ w) (suc k) h l = digits-at w k (and-right (is_ascii_digit b) (all_ascii_digits w) h) (omega arith)

digit-word : (b : ℕ) → is_ascii_digit b ≡ true → is_word_byte b ≡ true
digit-word b h =
    let r = digit-range b h in
    let s : nat_eq b 32 ≡ false = ne_eqb b 32 (λ e. omega arith) in
    let t : nat_eq b 9 ≡ false = ne_eqb b 9 (λ e. omega arith) in
    let c : nat_eq b 13 ≡ false = ne_eqb b 13 (λ e. omega arith) in
    let l : nat_eq b 10 ≡ false = ne_eqb b 10 (λ e. omega arith) in
    rw (s, t, c, l) refl

-- digits, and behind them bytes of a word
pub digits-word : (bytes : List ℕ) (i j k : ℕ) → i ≤ j → j ≤ length bytes → all_ascii_digits (slice_range bytes i j) ≡ true → i ≤ k → k < j → is_word_byte (get_or bytes k 0) ≡ true
digits-word bytes i j k above within h from to =
    digit-word (get_or bytes k 0)
    (ap is_ascii_digit (ap (λ n. get_or bytes n 0) (let e : k ≡ i + (k - i) = omega arith in e) ∙ sym (get_or-slice bytes i j (k - i) (omega arith)))
    ∙ digits-at (slice_range bytes i j) (k - i) h (omega (arith, length-slice bytes i j above within)))

-- digits without a leading zero
plain-nonzero : (m : Bool) (b : ℕ) (w : List ℕ) → all_ascii_digits (b ∷ w) ≡ true → nat_eq b 48 ≡ false → is_plain_text m (b ∷ w) ≡ true
plain-nonzero true b w h z = rw (z, h) refl
plain-nonzero false b w h z = or-right (is_zero_text (b ∷ w)) (is_positive_text (b ∷ w)) (rw (z, h) refl)

pub plain-first : (m : Bool) (bytes : List ℕ) (i j : ℕ) → i < j → j ≤ length bytes → all_ascii_digits (slice_range bytes i j) ≡ true → (get_or bytes i 0 ≡ 48 → ⊥) → is_plain_text m (slice_range bytes i j) ≡ true
plain-first m bytes i j l within h z =
    let e = slice-first bytes i j l within in
    ap (is_plain_text m) e ∙ plain-nonzero m (get_or bytes i 0) (slice_range bytes (i + 1) j) (ap all_ascii_digits (sym e) ∙ h) (ne_eqb (get_or bytes i 0) 48 z)

plain-zero : (m : Bool) (b : ℕ) (w : List ℕ) → b ≡ 48 → 0 < length w → is_plain_text m (b ∷ w) ≡ false
plain-zero true b w e l = let z : nat_eq b 48 ≡ true = eq-eqb b 48 e in rw z refl
plain-zero false b [] e l = absurd (omega arith)
plain-zero false b (c ∷ w) e l = let z : nat_eq b 48 ≡ true = eq-eqb b 48 e in rw z refl

pub plain-leading : (m : Bool) (bytes : List ℕ) (i j : ℕ) → i < j → j ≤ length bytes → get_or bytes i 0 ≡ 48 → (j ≡ i + 1 → ⊥) → is_plain_text m (slice_range bytes i j) ≡ false
plain-leading m bytes i j l within z more =
    ap (is_plain_text m) (slice-first bytes i j l within)
    ∙ plain-zero m (get_or bytes i 0) (slice_range bytes (i + 1) j) z (let n = length-slice bytes (i + 1) j (omega arith) within in omega arith)

-- bytes of which one is no digit
other-digits : (w : List ℕ) (k : ℕ) → k < length w → is_ascii_digit (get_or w k 0) ≡ false → all_ascii_digits w ≡ false
other-digits w k l h = go (all_ascii_digits w) refl
  where
    go : (r : Bool) → all_ascii_digits w ≡ r → all_ascii_digits w ≡ false
    go true e = absurd (let d = digits-at w k e l in cc)
    go false e = e

and-false : (r : Bool) → (r && false) ≡ false
and-false true = refl
and-false false = refl

and-true : (r : Bool) → (r && true) ≡ r
and-true true = refl
and-true false = refl

plain-other : (m : Bool) (w : List ℕ) → all_ascii_digits w ≡ false → is_plain_text m w ≡ false
plain-other m [] h = absurd (cc)
plain-other true (b ∷ w) h = ap (λ r. not (nat_eq b 48) && r) h ∙ and-false (not (nat_eq b 48))
plain-other false (b ∷ []) h = go (nat_eq b 48) refl
  where
    go : (r : Bool) → nat_eq b 48 ≡ r → is_plain_text false (b ∷ []) ≡ false
    go true e = absurd (let same : b ≡ 48 = eqb-true b 48 e in let d : all_ascii_digits (b ∷ []) ≡ true = rw same refl in cc)
    go false e = rw e (h ∙ refl)
plain-other false (b ∷ c ∷ w) h = ap (λ r. not (nat_eq b 48) && r) h ∙ and-false (not (nat_eq b 48))

pub plain-ended : (m : Bool) (bytes : List ℕ) (i k j : ℕ) → i ≤ k → k < j → j ≤ length bytes → is_ascii_digit (get_or bytes k 0) ≡ false → is_plain_text m (slice_range bytes i j) ≡ false
plain-ended m bytes i k j from to within h =
    plain-other m (slice_range bytes i j)
    (other-digits (slice_range bytes i j) (k - i) (let n = length-slice bytes i j (omega arith) within in omega arith)
    (ap is_ascii_digit (get_or-slice bytes i j (k - i) (omega arith) ∙ ap (λ n. get_or bytes n 0) (let e : i + (k - i) ≡ k = omega arith in e)) ∙ h))

-- a word as a number
plain-number : (b : ℕ) (w : List ℕ) (plain : Bool) (size : ℕ) → (b ≡ 45 → ⊥) → plain ≡ is_plain_text false (b ∷ w) → (plain ≡ true → size ≡ min 10000000000 (digits_value 10 (b ∷ w)))
    → IsNumberOf (b ∷ w) plain false size
plain-number b w plain size other p s =
    let n : nat_eq b 45 ≡ false = ne_eqb b 45 other in
    record { natural_is = p; negative_is = rw n refl; size_is = λ h. rw n (s (either plain h)) }
  where
    either : (r : Bool) → (r || false) ≡ true → r ≡ true
    either true e = refl
    either false e = absurd (cc)

minus-number : (b : ℕ) (w : List ℕ) (plain : Bool) (size : ℕ) → b ≡ 45 → plain ≡ is_plain_text true w → (plain ≡ true → size ≡ min 10000000000 (digits_value 10 w))
    → IsNumberOf (b ∷ w) false plain size
minus-number b w plain size e p s =
    let n : nat_eq b 45 ≡ true = eq-eqb b 45 e in
    record { natural_is = sym (no_natural b w e); negative_is = rw n p; size_is = λ h. rw n (s h) }
  where
    no_natural : (b : ℕ) (w : List ℕ) → b ≡ 45 → is_natural_text (b ∷ w) ≡ false
    no_natural b [] e = rw e refl
    no_natural b (c ∷ w) e = rw e refl

pub number-plain : (bytes : List ℕ) (i j : ℕ) (plain : Bool) (size : ℕ) → i < j → j ≤ length bytes → (get_or bytes i 0 ≡ 45 → ⊥) → plain ≡ is_plain_text false (slice_range bytes i j)
    → (plain ≡ true → size ≡ min 10000000000 (digits_value 10 (slice_range bytes i j))) → IsNumberOf (slice_range bytes i j) plain false size
number-plain bytes i j plain size l within other p s =
    let e = slice-first bytes i j l within in
    rw e (plain-number (get_or bytes i 0) (slice_range bytes (i + 1) j) plain size other (p ∙ ap (is_plain_text false) e) (λ h. s h ∙ ap (λ (w : List ℕ). min 10000000000 (digits_value 10 w)) e))

pub number-minus : (bytes : List ℕ) (i j : ℕ) (plain : Bool) (size : ℕ) → i < j → j ≤ length bytes → get_or bytes i 0 ≡ 45 → plain ≡ is_plain_text true (slice_range bytes (i + 1) j)
    → (plain ≡ true → size ≡ min 10000000000 (digits_value 10 (slice_range bytes (i + 1) j))) → IsNumberOf (slice_range bytes i j) false plain size
number-minus bytes i j plain size l within m p s =
    rw (slice-first bytes i j l within) (minus-number (get_or bytes i 0) (slice_range bytes (i + 1) j) plain size m p s)

-- what begins with a byte of a word and ends before a byte of none has a byte
pub word-some : (bytes : List ℕ) (i from j : ℕ) → i ≤ from → from ≤ j → i < length bytes → is_word_byte (get_or bytes i 0) ≡ true → (j < length bytes → is_word_byte (get_or bytes j 0) ≡ false) → i < j
word-some bytes i from j front above inside word end = elim (cases_lt i j) [
  | inl l ↦ l
  | inr g ↦ let same : j ≡ i = omega arith in let e : is_word_byte (get_or bytes i 0) ≡ false = subst (λ k. k < length bytes → is_word_byte (get_or bytes k 0) ≡ false) same end inside in absurd (cc)
]

-- a word behind a minus or not
pub number-any : (bytes : List ℕ) (i j from : ℕ) (minus plain : Bool) (size : ℕ) → i < j → j ≤ length bytes → minus ≡ nat_eq (get_or bytes i 0) 45 → from ≡ i + from_bool minus
    → plain ≡ is_plain_text minus (slice_range bytes from j) → (plain ≡ true → size ≡ min 10000000000 (digits_value 10 (slice_range bytes from j)))
    → IsNumberOf (slice_range bytes i j) (plain && not minus) (plain && minus) size
number-any bytes i j from true plain size l within m f p s =
    rw (and-true plain, and-false plain)
    (number-minus bytes i j plain size l within (eqb-true (get_or bytes i 0) 45 (sym m)) (p ∙ ap (λ k. is_plain_text true (slice_range bytes k j)) f) (λ h. s h ∙ ap (λ k. min 10000000000 (digits_value 10 (slice_range bytes k j))) f))
number-any bytes i j from false plain size l within m f p s =
    let e : from ≡ i = omega arith in
    rw (and-true plain, and-false plain)
    (number-plain bytes i j plain size l within (λ h. let y = eq-eqb (get_or bytes i 0) 45 h in cc) (p ∙ ap (λ k. is_plain_text false (slice_range bytes k j)) e) (λ h. s h ∙ ap (λ k. min 10000000000 (digits_value 10 (slice_range bytes k j))) e))
