-- Numbers and their texts.
use Rattle.std.proofs.Common.{◌≡◌, ℕ, zero, suc, ◌^◌, ◌<◌, ◌≤◌, Bool, true, false, not, List, [], ◌∷◌, length, get_or, nat_eq, eqb-true, eq-eqb, ne_eqb, refl, sym, ap, subst, ◌∙◌, inl, inr, arith, decimal, cond}
use Rattle.std.specs.Str.{all_ascii_digits}
use Rattle.std.specs.Str.Parse.{digits_value}
use Rattle.std.proofs.lemmas.Str.Parse.{IsNumeralModel, numerals_by_value, tells_all_ascii_digits}
use Rattle.std.proofs.lemmas.Fmt.{digits_decimal, digits_value-decimal, decimal-digits_value, decimal_nonempty, first_decimal, decimal_digit}
use Rattle.theory.specs.Literals.{Literal}
use Rattle.theory.specs.Texts.{literal_text, minus}
use Rattle.theory.specs.Tokens.{is_positive_text, is_zero_text, is_natural_text, is_negative_text, is_number_text, size_of}
use Rattle.theory.proofs.literals.LiteralLemmas.{and-left, and-right, or-cases, or-left, or-right, not_true}
use Rattle.std.specs.Char.{is_ascii_digit}

pub digits_model : IsNumeralModel (λ ds. all_ascii_digits ds ≡ true) (digits_value 10)
digits_model = numerals_by_value _ tells_all_ascii_digits

pub digit-range : (b : ℕ) → is_ascii_digit b ≡ true → (48 ≤ b) × (b ≤ 57)
digit-range b h = (grind arith, grind arith)

-- the first byte of digits is a digit
first_digit : (b : ℕ) (bs : List ℕ) → all_ascii_digits (b ∷ bs) ≡ true → (48 ≤ b) × (b ≤ 57)
first_digit b bs h = let r = (tells_all_ascii_digits.parts b bs h).0 in omega arith

pub decimal-is_positive : (n : ℕ) → 0 < n → n < 2 ^ 64 → is_positive_text (decimal n) ≡ true
decimal-is_positive n pos small = go (decimal n) (decimal_nonempty n small) (first_decimal n pos small) (digits_decimal digits_model n small)
  where
    go : (t : List ℕ) → 0 < length t → 48 < get_or t 0 0 → all_ascii_digits t ≡ true → is_positive_text t ≡ true
    go [] l f d = absurd (omega arith)
    go (b ∷ bs) l f d = let n48 : nat_eq b 48 ≡ false = ne_eqb b 48 (λ e. omega arith) in rw (n48, d) refl

-- digits don't begin with a minus
digits-size : (t : List ℕ) → all_ascii_digits t ≡ true → size_of t ≡ digits_value 10 t
digits-size [] h = refl
digits-size (b ∷ bs) h = let f = first_digit b bs h in let m : nat_eq b minus ≡ false = ne_eqb b minus (λ e. omega arith) in rw m refl

pub size_of-decimal : (n : ℕ) → n < 2 ^ 64 → size_of (decimal n) ≡ n
size_of-decimal n small = digits-size (decimal n) (digits_decimal digits_model n small) ∙ digits_value-decimal digits_model n small

pub decimal-is_natural : (n : ℕ) → n < 2 ^ 64 → is_natural_text (decimal n) ≡ true
decimal-is_natural zero small = let z : decimal 0 ≡ 48 ∷ [] = decimal_digit 0 (omega arith) in rw z refl
decimal-is_natural (suc n) small = or-right (is_zero_text (decimal (suc n))) (is_positive_text (decimal (suc n))) (decimal-is_positive (suc n) (omega arith) small)

pub zero_text-is : (t : List ℕ) → is_zero_text t ≡ true → t ≡ 48 ∷ []
zero_text-is [] h = absurd (cc)
zero_text-is (b ∷ []) h = ap (λ x. x ∷ []) (eqb-true b 48 h)
zero_text-is (b ∷ c ∷ bs) h = absurd (cc)

positive-digits : (t : List ℕ) → is_positive_text t ≡ true → all_ascii_digits t ≡ true
positive-digits [] h = absurd (cc)
positive-digits (b ∷ bs) h = and-right (not (nat_eq b 48)) (all_ascii_digits (b ∷ bs)) h

pub positive-decimal : (t : List ℕ) → is_positive_text t ≡ true → digits_value 10 t < 2 ^ 64 → decimal (digits_value 10 t) ≡ t
positive-decimal [] h small = absurd (cc)
positive-decimal (b ∷ bs) h small =
    decimal-digits_value digits_model (b ∷ bs) (positive-digits (b ∷ bs) h) (omega arith)
    (λ e. absurd (let n : nat_eq b 48 ≡ false = not_true (nat_eq b 48) (and-left (not (nat_eq b 48)) (all_ascii_digits (b ∷ bs)) h) in let y : nat_eq b 48 ≡ true = eq-eqb b 48 e in cc)) small

pub natural-decimal : (t : List ℕ) → is_natural_text t ≡ true → size_of t < 2 ^ 64 → decimal (size_of t) ≡ t
natural-decimal t h small = elim (or-cases (is_zero_text t) (is_positive_text t) h) [
  | inl z ↦ (let one : t ≡ 48 ∷ [] = zero_text-is t z in rw one (decimal_digit 0 (omega arith)))
  | inr p ↦ (let s = digits-size t (positive-digits t p) in rw s (positive-decimal t p (subst (λ n. n < 2 ^ 64) s small)))
]

-- the texts of literals
abbrev pub literal_of_text : List ℕ → Literal
literal_of_text text = record { var = size_of text; positive = not (is_negative_text text) }

pub literal_text-is_number : (l : Literal) → 1 ≤ l.var → l.var < 2 ^ 64 → is_number_text (literal_text l) ≡ true
literal_text-is_number l pos small = go l.positive
  where
    go : (b : Bool) → is_number_text (cond b (decimal l.var) (minus ∷ decimal l.var)) ≡ true
    go true = or-left (is_natural_text (decimal l.var)) (is_negative_text (decimal l.var)) (decimal-is_natural l.var small)
    go false = or-right (is_natural_text (minus ∷ decimal l.var)) (is_negative_text (minus ∷ decimal l.var)) (decimal-is_positive l.var pos small)

pub literal_text-not_zero : (l : Literal) → 1 ≤ l.var → l.var < 2 ^ 64 → is_zero_text (literal_text l) ≡ false
literal_text-not_zero l pos small = go l.positive
  where
    plain : (t : List ℕ) → is_positive_text t ≡ true → is_zero_text t ≡ false
    plain [] h = refl
    plain (b ∷ []) h = not_true (nat_eq b 48) (and-left (not (nat_eq b 48)) (all_ascii_digits (b ∷ [])) h)
    plain (b ∷ c ∷ bs) h = refl

    signed : (t : List ℕ) → is_zero_text (minus ∷ t) ≡ false
    signed [] = refl
    signed (b ∷ bs) = refl

    go : (b : Bool) → is_zero_text (cond b (decimal l.var) (minus ∷ decimal l.var)) ≡ false
    go true = plain (decimal l.var) (decimal-is_positive l.var pos small)
    go false = signed (decimal l.var)

pub literal_text-of : (l : Literal) → 1 ≤ l.var → l.var < 2 ^ 64 → literal_of_text (literal_text l) ≡ l
literal_text-of l pos small = go l.positive refl
  where
    natural : is_negative_text (decimal l.var) ≡ false
    natural = plain (decimal l.var) (digits_decimal digits_model l.var small)
      where
        plain : (t : List ℕ) → all_ascii_digits t ≡ true → is_negative_text t ≡ false
        plain [] h = refl
        plain (b ∷ bs) h = let f = first_digit b bs h in let m : nat_eq b minus ≡ false = ne_eqb b minus (λ e. omega arith) in rw m refl

    negative : is_negative_text (minus ∷ decimal l.var) ≡ true
    negative = decimal-is_positive l.var pos small

    size_plain : size_of (decimal l.var) ≡ l.var
    size_plain = size_of-decimal l.var small

    size_minus : size_of (minus ∷ decimal l.var) ≡ l.var
    size_minus = digits_value-decimal digits_model l.var small

    go : (b : Bool) → l.positive ≡ b → literal_of_text (cond b (decimal l.var) (minus ∷ decimal l.var)) ≡ l
    go true e = λ i. record { var = size_plain i; positive = (ap not natural ∙ sym e) i }
    go false e = λ i. record { var = size_minus i; positive = (ap not negative ∙ sym e) i }

pub number-literal : (t : List ℕ) → is_number_text t ≡ true → is_zero_text t ≡ false → size_of t < 2 ^ 64 → literal_text (literal_of_text t) ≡ t
number-literal t h z small = go (is_negative_text t) refl
  where
    behind : (t : List ℕ) → is_negative_text t ≡ true → size_of t < 2 ^ 64 → minus ∷ decimal (size_of t) ≡ t
    behind [] n s = absurd (cc)
    behind (b ∷ bs) n s =
        let first : nat_eq b minus ≡ true = and-left (nat_eq b minus) (is_positive_text bs) n in
        let value : size_of (b ∷ bs) ≡ digits_value 10 bs = rw first refl in
        let small_value : digits_value 10 bs < 2 ^ 64 = subst (λ n. n < 2 ^ 64) value s in
        let digits : decimal (digits_value 10 bs) ≡ bs = positive-decimal bs (and-right (nat_eq b minus) (is_positive_text bs) n) small_value in
        rw (value, digits) (ap (λ x. x ∷ bs) (sym (eqb-true b minus first)))

    go : (b : Bool) → is_negative_text t ≡ b → literal_text (record { var = size_of t; positive = not b }) ≡ t
    go true e = behind t e small
    go false e = elim (or-cases (is_natural_text t) (is_negative_text t) h) [
      | inl n ↦ natural-decimal t n small
      | inr n ↦ absurd (cc)
    ]

-- a nonzero number has a size
positive-size : (t : List ℕ) → is_positive_text t ≡ true → 1 ≤ digits_value 10 t
positive-size t h = go (digits_value 10 t) refl
  where
    go : (n : ℕ) → digits_value 10 t ≡ n → 1 ≤ digits_value 10 t
    go zero e =
        let zero_text : t ≡ 48 ∷ [] = sym (positive-decimal t h (rw e (omega arith))) ∙ ap decimal e ∙ decimal_digit 0 (omega arith) in
        absurd (let never : is_positive_text (48 ∷ []) ≡ true = subst (λ x. is_positive_text x ≡ true) zero_text h in cc)
    go (suc n) e = omega arith

pub number-size : (t : List ℕ) → is_number_text t ≡ true → is_zero_text t ≡ false → 1 ≤ size_of t
number-size t h z = elim (or-cases (is_natural_text t) (is_negative_text t) h) [
  | inl n ↦ elim (or-cases (is_zero_text t) (is_positive_text t) n) [
    | inl y ↦ absurd (cc)
    | inr p ↦ (let s = digits-size t (positive-digits t p) in rw s (positive-size t p))
  ]
  | inr n ↦ behind t n
]
  where
    behind : (t : List ℕ) → is_negative_text t ≡ true → 1 ≤ size_of t
    behind [] n = absurd (cc)
    behind (b ∷ bs) n =
        let first : nat_eq b minus ≡ true = and-left (nat_eq b minus) (is_positive_text bs) n in
        rw first (positive-size bs (and-right (nat_eq b minus) (is_positive_text bs) n))
