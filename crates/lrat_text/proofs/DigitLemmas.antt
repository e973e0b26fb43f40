-- A word's bytes, one by one, and the value of its digits so far.
use Rattle.std.proofs.Common.{◌≡◌, ℕ, ◌+◌, ◌*◌, ◌-◌, ◌<◌, ◌≤◌, Bool, true, false, ◌&&◌, List, [], ◌∷◌, length, drop, get_or, refl, sym, ap, ◌∙◌, arith, cond}
use Rattle.std.specs.Str.{all_ascii_digits}
use Rattle.std.specs.Str.Parse.{digits_value_after}
use Rattle.std.specs.Char.{digit_value, is_ascii_digit}
use Rattle.std.proofs.lemmas.List.{drop_more}
use Rattle.lrat_text.specs.LineWords.{ends_word, first_word, after_word, capped}
use Rattle.theory.proofs.reading.NumberTexts.{digit-range}

-- the first word has one byte more
pub first_word-more : (bytes : List ℕ) (i : ℕ) → i < length bytes → ends_word (get_or bytes i 0) ≡ false
    → first_word (drop i bytes) ≡ get_or bytes i 0 ∷ first_word (drop (i + 1) bytes)
first_word-more bytes i inside goes_on =
    ap first_word (drop_more bytes i 0 inside) ∙ ap (λ b. cond b [] (get_or bytes i 0 ∷ first_word (drop (i + 1) bytes))) goes_on

pub after_word-more : (bytes : List ℕ) (i : ℕ) → i < length bytes → ends_word (get_or bytes i 0) ≡ false
    → after_word (drop i bytes) ≡ after_word (drop (i + 1) bytes)
after_word-more bytes i inside goes_on =
    ap after_word (drop_more bytes i 0 inside) ∙ ap (λ b. cond b (get_or bytes i 0 ∷ drop (i + 1) bytes) (after_word (drop (i + 1) bytes))) goes_on

capped-digit : (n d : ℕ) → capped (capped n * 10 + d) ≡ capped (n * 10 + d)
capped-digit n d = omega arith

-- a size that is cut off at the cap before more digits come is cut off the same behind them
capped-after : (n : ℕ) (bs : List ℕ) → capped (digits_value_after 10 (capped n) bs) ≡ capped (digits_value_after 10 n bs)
capped-after n [] = omega arith
capped-after n (b ∷ bs) =
    sym (capped-after (capped n * 10 + digit_value b) bs)
    ∙ ap (λ m. capped (digits_value_after 10 m bs)) (capped-digit n (digit_value b))
    ∙ capped-after (n * 10 + digit_value b) bs

digit_of : (b : ℕ) → 48 ≤ b → b ≤ 57 → digit_value b ≡ b - 48
digit_of b low high = grind arith

-- the value with one digit more
pub size-more : (n b : ℕ) (bs : List ℕ) → 48 ≤ b → b ≤ 57 → capped (digits_value_after 10 n (b ∷ bs)) ≡ capped (digits_value_after 10 (capped (n * 10 + (b - 48))) bs)
size-more n b bs low high =
    ap (λ d. capped (digits_value_after 10 (n * 10 + d) bs)) (digit_of b low high)
    ∙ sym (capped-after (n * 10 + (b - 48)) bs)

pub digit-goes_on : (b : ℕ) → 48 ≤ b → b ≤ 57 → ends_word b ≡ false
digit-goes_on b low high = grind arith

-- what is left gives the same with one byte less
pub place-more : (bytes : List ℕ) (i place : ℕ) → i < length bytes → ends_word (get_or bytes i 0) ≡ false
    → i + length (first_word (drop i bytes)) ≡ place → i + 1 + length (first_word (drop (i + 1) bytes)) ≡ place
place-more bytes i place inside goes_on h = let more = ap length (first_word-more bytes i inside goes_on) in omega arith

pub rest-more : (bytes rest : List ℕ) (i : ℕ) → i < length bytes → ends_word (get_or bytes i 0) ≡ false
    → after_word (drop i bytes) ≡ rest → after_word (drop (i + 1) bytes) ≡ rest
rest-more bytes rest i inside goes_on h = sym (after_word-more bytes i inside goes_on) ∙ h

digits-more : (bytes : List ℕ) (i : ℕ) → i < length bytes → ends_word (get_or bytes i 0) ≡ false
    → all_ascii_digits (first_word (drop i bytes)) ≡ is_ascii_digit (get_or bytes i 0) && all_ascii_digits (first_word (drop (i + 1) bytes))
digits-more bytes i inside goes_on = ap all_ascii_digits (first_word-more bytes i inside goes_on)

pub all-digit : (bytes : List ℕ) (i : ℕ) (all whole : Bool) → i < length bytes → ends_word (get_or bytes i 0) ≡ false → is_ascii_digit (get_or bytes i 0) ≡ true
    → all && all_ascii_digits (first_word (drop i bytes)) ≡ whole → all && all_ascii_digits (first_word (drop (i + 1) bytes)) ≡ whole
all-digit bytes i all whole inside goes_on digit h =
    sym (ap (λ b. all && b) (digits-more bytes i inside goes_on ∙ ap (λ b. b && all_ascii_digits (first_word (drop (i + 1) bytes))) digit)) ∙ h

and-false : (b : Bool) → b && false ≡ false
and-false true = refl
and-false false = refl

pub all-other : (bytes : List ℕ) (i : ℕ) (all whole : Bool) → i < length bytes → ends_word (get_or bytes i 0) ≡ false → is_ascii_digit (get_or bytes i 0) ≡ false
    → all && all_ascii_digits (first_word (drop i bytes)) ≡ whole → false ≡ whole
all-other bytes i all whole inside goes_on other h =
    sym (and-false all) ∙ sym (ap (λ b. all && b) (digits-more bytes i inside goes_on ∙ ap (λ b. b && all_ascii_digits (first_word (drop (i + 1) bytes))) other)) ∙ h

pub size-digit : (bytes : List ℕ) (i n size : ℕ) → i < length bytes → ends_word (get_or bytes i 0) ≡ false → is_ascii_digit (get_or bytes i 0) ≡ true
    → capped (digits_value_after 10 n (first_word (drop i bytes))) ≡ size
    → capped (digits_value_after 10 (capped (n * 10 + (get_or bytes i 0 - 48))) (first_word (drop (i + 1) bytes))) ≡ size
size-digit bytes i n size inside goes_on digit h =
    let bounds = digit-range (get_or bytes i 0) digit in
    sym (size-more n (get_or bytes i 0) (first_word (drop (i + 1) bytes)) bounds.0 bounds.1)
    ∙ sym (ap (λ w. capped (digits_value_after 10 n w)) (first_word-more bytes i inside goes_on)) ∙ h
