-- A word that is read byte by byte is what its text is.
use Rattle.std.proofs.Common.{◌≡◌, ℕ, ◌+◌, ◌-◌, ◌*◌, ◌≤◌, Bool, true, false, not, ◌&&◌, List, [], ◌∷◌, ◌++◌, nat_eq, eqb-true, ne_eqb, codes, refl, sym, ap, ◌∙◌, arith, cond}
use Rattle.std.specs.Str.{all_ascii_digits}
use Rattle.std.specs.Str.Parse.{digits_value, digits_value_after}
use Rattle.std.specs.Char.{is_ascii_digit}
use Rattle.theory.specs.Texts.{minus}
use Rattle.theory.specs.Tokens.{is_text, is_zero_text, is_positive_text, is_negative_text, size_of}
use Rattle.theory.proofs.literals.LiteralLemmas.{and-left, and-right, not_true}
use Rattle.theory.proofs.literals.ListLemmas.{is_text-eq}
use Rattle.theory.proofs.reading.NumberTexts.{digit-range, zero_text-is}
use Rattle.lrat_text.specs.declared.word.Word.TheVariants.{Positive, Negative, Other}
use Rattle.lrat_text.specs.LineWords.{capped, word_of}
use Rattle.lrat_text.specs.LineMachine.{LineState}
use Rattle.lrat_text.specs.Streams.{Begun, nothing, zero_so_far, minus_so_far, mark_so_far, other_so_far, positive_so_far, negative_so_far, first_digit, one_digit_more, with_byte, with_bytes, word_so_far, taken, ended}
use Rattle.lrat_text.proofs.DigitLemmas.{size-more}
use Rattle.lrat_text.proofs.WordTexts.{word_cases}

others : (bs : List ℕ) → with_bytes other_so_far bs ≡ other_so_far
others [] = refl
others (b ∷ bs) = others bs

no_word : (bs : List ℕ) → word_so_far (with_bytes other_so_far bs) ≡ Other
no_word bs = ap word_so_far (others bs)

cut_off : (n : ℕ) → capped (capped n) ≡ capped n
cut_off n = omega arith

-- digits behind digits
positives : (n : ℕ) (bs : List ℕ) → capped n ≡ n → word_so_far (with_bytes (positive_so_far n) bs) ≡ cond (all_ascii_digits bs) (Positive (capped (digits_value_after 10 n bs))) Other
positives n [] h = ap Positive (sym h)
positives n (b ∷ bs) h = go (is_ascii_digit b) refl (positives (one_digit_more n b) bs (cut_off (n * 10 + (b - 48))))
  where
    go : (d : Bool) → is_ascii_digit b ≡ d
        → word_so_far (with_bytes (positive_so_far (one_digit_more n b)) bs) ≡ cond (all_ascii_digits bs) (Positive (capped (digits_value_after 10 (one_digit_more n b) bs))) Other
        → word_so_far (with_bytes (positive_so_far n) (b ∷ bs)) ≡ cond (all_ascii_digits (b ∷ bs)) (Positive (capped (digits_value_after 10 n (b ∷ bs)))) Other
    go true e r =
        let bounds = digit-range b e in
        rw e (r ∙ ap (λ m. cond (all_ascii_digits bs) (Positive m) Other) (sym (size-more n b bs bounds.0 bounds.1)))
    go false e r = rw e (no_word bs)

negatives : (n : ℕ) (bs : List ℕ) → capped n ≡ n → word_so_far (with_bytes (negative_so_far n) bs) ≡ cond (all_ascii_digits bs) (Negative (capped (digits_value_after 10 n bs))) Other
negatives n [] h = ap Negative (sym h)
negatives n (b ∷ bs) h = go (is_ascii_digit b) refl (negatives (one_digit_more n b) bs (cut_off (n * 10 + (b - 48))))
  where
    go : (d : Bool) → is_ascii_digit b ≡ d
        → word_so_far (with_bytes (negative_so_far (one_digit_more n b)) bs) ≡ cond (all_ascii_digits bs) (Negative (capped (digits_value_after 10 (one_digit_more n b) bs))) Other
        → word_so_far (with_bytes (negative_so_far n) (b ∷ bs)) ≡ cond (all_ascii_digits (b ∷ bs)) (Negative (capped (digits_value_after 10 n (b ∷ bs)))) Other
    go true e r =
        let bounds = digit-range b e in
        rw e (r ∙ ap (λ m. cond (all_ascii_digits bs) (Negative m) Other) (sym (size-more n b bs bounds.0 bounds.1)))
    go false e r = rw e (no_word bs)

-- a first digit, which is no zero
record IsFirst (b : ℕ) : Type 0 where
  digit : is_ascii_digit b ≡ true
  no_zero : nat_eq b 48 ≡ false
  low : 49 ≤ b
  high : b ≤ 57

first : (b : ℕ) → first_digit b ≡ true → IsFirst b
first b h =
    let d = and-left (is_ascii_digit b) (not (nat_eq b 48)) h in
    let z = not_true (nat_eq b 48) (and-right (is_ascii_digit b) (not (nat_eq b 48)) h) in
    let r = digit-range b d in
    record { digit = d; no_zero = z; low = grind arith; high = r.1 }

-- the value of digits that begin so
value_from : (b : ℕ) (bs : List ℕ) → 49 ≤ b → b ≤ 57 → capped (digits_value_after 10 (b - 48) bs) ≡ capped (digits_value 10 (b ∷ bs))
value_from b bs low high = ap (λ n. capped (digits_value_after 10 n bs)) cut ∙ sym (size-more 0 b bs (omega arith) high)
  where
    cut : b - 48 ≡ capped (0 * 10 + (b - 48))
    cut = omega arith

small : (b : ℕ) → b ≤ 57 → capped (b - 48) ≡ b - 48
small b high = omega arith

begins_positive : (b : ℕ) (bs : List ℕ) → first_digit b ≡ true → word_so_far (with_bytes nothing (b ∷ bs)) ≡ cond (all_ascii_digits bs) (Positive (capped (digits_value 10 (b ∷ bs)))) Other
begins_positive b bs h =
    let f = first b h in
    rw h (positives (b - 48) bs (small b f.high) ∙ ap (λ m. cond (all_ascii_digits bs) (Positive m) Other) (value_from b bs f.low f.high))

begins_negative : (c : ℕ) (bs : List ℕ) → first_digit c ≡ true → word_so_far (with_bytes minus_so_far (c ∷ bs)) ≡ cond (all_ascii_digits bs) (Negative (capped (digits_value 10 (c ∷ bs)))) Other
begins_negative b bs h =
    let f = first b h in
    rw h (negatives (b - 48) bs (small b f.high) ∙ ap (λ m. cond (all_ascii_digits bs) (Negative m) Other) (value_from b bs f.low f.high))

-- a positive number's text begins with such a digit, and has digits behind it
record IsPositive (b : ℕ) (bs : List ℕ) : Type 0 where
  begins : first_digit b ≡ true
  others : all_ascii_digits bs ≡ true
  size : size_of (b ∷ bs) ≡ digits_value 10 (b ∷ bs)

positive-parts : (b : ℕ) (bs : List ℕ) → is_positive_text (b ∷ bs) ≡ true → IsPositive b bs
positive-parts b bs h =
    let z = not_true (nat_eq b 48) (and-left (not (nat_eq b 48)) (all_ascii_digits (b ∷ bs)) h) in
    let all = and-right (not (nat_eq b 48)) (all_ascii_digits (b ∷ bs)) h in
    let d = and-left (is_ascii_digit b) (all_ascii_digits bs) all in
    let range = digit-range b d in
    let m : nat_eq b minus ≡ false = ne_eqb b minus (λ e. let low = range.0 in omega arith) in
    record { begins = rw (d, z) refl; others = and-right (is_ascii_digit b) (all_ascii_digits bs) all; size = rw m refl }

-- and none else does
positive-whole : (b : ℕ) (bs : List ℕ) → first_digit b ≡ true → is_positive_text (b ∷ bs) ≡ all_ascii_digits bs
positive-whole b bs h = let f = first b h in let d = f.digit in let z = f.no_zero in rw (d, z) refl

other_word : (b : ℕ) (bs : List ℕ) → is_zero_text (b ∷ bs) ≡ false → is_positive_text (b ∷ bs) ≡ false → is_negative_text (b ∷ bs) ≡ false → is_text (b ∷ bs) (codes "d") ≡ false
    → word_so_far (with_bytes nothing (b ∷ bs)) ≡ Other
other_word b bs z p n m = go (first_digit b) (nat_eq b 48) (nat_eq b minus) (nat_eq b 100) refl refl refl refl
  where
    zeros : (bs : List ℕ) → nat_eq b 48 ≡ true → is_zero_text (b ∷ bs) ≡ false → word_so_far (with_bytes zero_so_far bs) ≡ Other
    zeros [] e k = absurd (cc)
    zeros (c ∷ cs) e k = no_word cs

    marks : (bs : List ℕ) → nat_eq b 100 ≡ true → is_text (b ∷ bs) (codes "d") ≡ false → word_so_far (with_bytes mark_so_far bs) ≡ Other
    marks [] e k = absurd (let one : is_text (b ∷ []) (codes "d") ≡ true = rw e refl in cc)
    marks (c ∷ cs) e k = no_word cs

    signs : (bs : List ℕ) → nat_eq b minus ≡ true → is_negative_text (b ∷ bs) ≡ false → word_so_far (with_bytes minus_so_far bs) ≡ Other
    signs [] e k = refl
    signs (c ∷ cs) e k = digits (first_digit c) refl
      where
        digits : (d : Bool) → first_digit c ≡ d → word_so_far (with_bytes minus_so_far (c ∷ cs)) ≡ Other
        digits true f =
            let none : all_ascii_digits cs ≡ false = sym (positive-whole c cs f) ∙ (sym (ap (λ x. x && is_positive_text (c ∷ cs)) e) ∙ k) in
            begins_negative c cs f ∙ ap (λ x. cond x (Negative (capped (digits_value 10 (c ∷ cs)))) Other) none
        digits false f = rw f (no_word cs)

    go : (d z0 m0 k0 : Bool) → first_digit b ≡ d → nat_eq b 48 ≡ z0 → nat_eq b minus ≡ m0 → nat_eq b 100 ≡ k0 → word_so_far (with_bytes nothing (b ∷ bs)) ≡ Other
    go true z0 m0 k0 e1 e2 e3 e4 =
        begins_positive b bs e1 ∙ ap (λ x. cond x (Positive (capped (digits_value 10 (b ∷ bs)))) Other) (sym (positive-whole b bs e1) ∙ p)
    go false true m0 k0 e1 e2 e3 e4 = rw (e1, e2) (zeros bs e2 z)
    go false false true k0 e1 e2 e3 e4 = rw (e1, e2, e3) (signs bs e3 n)
    go false false false true e1 e2 e3 e4 = rw (e1, e2, e3, e4) (marks bs e4 m)
    go false false false false e1 e2 e3 e4 = rw (e1, e2, e3, e4) (no_word bs)

negative_word : (b : ℕ) (bs : List ℕ) → is_negative_text (b ∷ bs) ≡ true → word_so_far (with_bytes nothing (b ∷ bs)) ≡ Negative (capped (size_of (b ∷ bs)))
negative_word b [] h = absurd (let no = and-right (nat_eq b minus) false h in cc)
negative_word b (c ∷ cs) h =
    let e = and-left (nat_eq b minus) (is_positive_text (c ∷ cs)) h in
    let is : b ≡ minus = eqb-true b minus e in
    let f = positive-parts c cs (and-right (nat_eq b minus) (is_positive_text (c ∷ cs)) h) in
    ap (λ x. word_so_far (with_bytes nothing (x ∷ c ∷ cs))) is
    ∙ begins_negative c cs f.begins
    ∙ ap (λ x. cond x (Negative (capped (digits_value 10 (c ∷ cs)))) Other) f.others
    ∙ sym (ap (λ x. Negative (capped (size_of (x ∷ c ∷ cs)))) is)

pub begun-word : (b : ℕ) (bs : List ℕ) → word_so_far (with_bytes nothing (b ∷ bs)) ≡ word_of (b ∷ bs)
begun-word b bs =
    word_cases (λ w. word_so_far (with_bytes nothing (b ∷ bs)) ≡ w) (b ∷ bs)
    (λ z. ap (λ t. word_so_far (with_bytes nothing t)) (zero_text-is (b ∷ bs) z))
    (λ z p. let f = positive-parts b bs p in
    begins_positive b bs f.begins ∙ ap (λ x. cond x (Positive (capped (digits_value 10 (b ∷ bs)))) Other) f.others ∙ ap (λ n. Positive (capped n)) (sym f.size))
    (λ z p n. negative_word b bs n)
    (λ z p n m. ap (λ t. word_so_far (with_bytes nothing t)) (is_text-eq (b ∷ bs) (codes "d") m))
    (λ z p n m. other_word b bs z p n m)

-- a byte begins a word
abbrev IsSome : Begun → Type 0
IsSome nothing = ⊥
IsSome w = Unit {0}

byte-IsSome : (w : Begun) (b : ℕ) → IsSome (with_byte w b)
byte-IsSome nothing b = go (first_digit b) (nat_eq b 48) (nat_eq b minus) (nat_eq b 100) refl refl refl refl
  where
    go : (d z m k : Bool) → first_digit b ≡ d → nat_eq b 48 ≡ z → nat_eq b minus ≡ m → nat_eq b 100 ≡ k → IsSome (with_byte nothing b)
    go true z m k e1 e2 e3 e4 = rw e1 tt
    go false true m k e1 e2 e3 e4 = rw (e1, e2) tt
    go false false true k e1 e2 e3 e4 = rw (e1, e2, e3) tt
    go false false false true e1 e2 e3 e4 = rw (e1, e2, e3, e4) tt
    go false false false false e1 e2 e3 e4 = rw (e1, e2, e3, e4) tt
byte-IsSome zero_so_far b = tt
byte-IsSome mark_so_far b = tt
byte-IsSome other_so_far b = tt
byte-IsSome minus_so_far b = go (first_digit b) refl
  where
    go : (d : Bool) → first_digit b ≡ d → IsSome (with_byte minus_so_far b)
    go true e = rw e tt
    go false e = rw e tt
byte-IsSome (positive_so_far n) b = go (is_ascii_digit b) refl
  where
    go : (d : Bool) → is_ascii_digit b ≡ d → IsSome (with_byte (positive_so_far n) b)
    go true e = rw e tt
    go false e = rw e tt
byte-IsSome (negative_so_far n) b = go (is_ascii_digit b) refl
  where
    go : (d : Bool) → is_ascii_digit b ≡ d → IsSome (with_byte (negative_so_far n) b)
    go true e = rw e tt
    go false e = rw e tt

bytes-IsSome : (w : Begun) (bs : List ℕ) → IsSome w → IsSome (with_bytes w bs)
bytes-IsSome w [] h = h
bytes-IsSome w (b ∷ bs) h = bytes-IsSome (with_byte w b) bs (byte-IsSome w b)

some-ended : (s : LineState) (w : Begun) → IsSome w → ended s w ≡ taken s (word_so_far w)
some-ended s nothing h = absurd h
some-ended s zero_so_far h = refl
some-ended s mark_so_far h = refl
some-ended s minus_so_far h = refl
some-ended s other_so_far h = refl
some-ended s (positive_so_far n) h = refl
some-ended s (negative_so_far n) h = refl

pub ended-word : (s : LineState) (b : ℕ) (bs : List ℕ) → ended s (with_bytes nothing (b ∷ bs)) ≡ taken s (word_of (b ∷ bs))
ended-word s b bs =
    some-ended s (with_bytes nothing (b ∷ bs)) (bytes-IsSome (with_byte nothing b) bs (byte-IsSome nothing b))
    ∙ ap (taken s) (begun-word b bs)

-- one byte more of the word
pub with_bytes-push : (g : Begun) (w : List ℕ) (b : ℕ) → with_bytes g (w ++ b ∷ []) ≡ with_byte (with_bytes g w) b
with_bytes-push g [] b = refl
with_bytes-push g (c ∷ w) b = with_bytes-push (with_byte g c) w b
