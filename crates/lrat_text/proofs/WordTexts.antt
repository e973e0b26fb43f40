-- What a word is, and the texts of the words that a step has.
use Rattle.std.proofs.Common.{◌≡◌, ℕ, ◌≤◌, Bool, true, false, List, [], ◌∷◌, nat_eq, refl, sym, ap, ◌∙◌, arith, cond, eqb-true, decimal, codes, subst}
use Rattle.std.specs.Str.Parse.{digits_value}
use Rattle.std.proofs.lemmas.Fmt.{digits_value-decimal}
use Rattle.theory.specs.Texts.{minus, zero_text}
use Rattle.theory.specs.Tokens.{is_text, is_zero_text, is_positive_text, is_natural_text, is_negative_text, is_number_text, size_of}
use Rattle.theory.specs.ProofReading.{max_number}
use Rattle.theory.proofs.reading.NumberTexts.{number-size, zero_text-is, decimal-is_positive, size_of-decimal, positive-decimal, natural-decimal, digits_model}
use Rattle.theory.proofs.literals.LiteralLemmas.{or-left, or-right, and-left, and-right}
use Rattle.lrat_text.specs.declared.word.Word.{Word}
use Rattle.lrat_text.specs.declared.word.Word.TheVariants.{Zero, Positive, Negative, Mark, Other}
use Rattle.lrat_text.specs.LineWords.{capped, word_of, IsCounting}
use Rattle.theory.proofs.literals.ListLemmas.{is_text-eq}

-- what the tests of a text make of it
tested : Bool → Bool → Bool → Bool → ℕ → Word
tested z p n m size = cond z Zero (cond p (Positive (capped size)) (cond n (Negative (capped size)) (cond m Mark Other)))

word_of-tested : (t : List ℕ) (z p n m : Bool) → is_zero_text t ≡ z → is_positive_text t ≡ p → is_negative_text t ≡ n → is_text t (codes "d") ≡ m
    → word_of t ≡ tested z p n m (size_of t)
unfolding tested
word_of-tested t z p n m ez ep en em = rw (ez, ep, en, em) refl

-- one case for each outcome of the tests
pub word_cases : (P : Word → Type 0) (t : List ℕ)
    → (is_zero_text t ≡ true → P Zero)
    → (is_zero_text t ≡ false → is_positive_text t ≡ true → P (Positive (capped (size_of t))))
    → (is_zero_text t ≡ false → is_positive_text t ≡ false → is_negative_text t ≡ true → P (Negative (capped (size_of t))))
    → (is_zero_text t ≡ false → is_positive_text t ≡ false → is_negative_text t ≡ false → is_text t (codes "d") ≡ true → P Mark)
    → (is_zero_text t ≡ false → is_positive_text t ≡ false → is_negative_text t ≡ false → is_text t (codes "d") ≡ false → P Other)
    → P (word_of t)
unfolding tested
word_cases P t zero_case positive_case negative_case mark_case other_case =
    zeroed (is_zero_text t) refl
  where
    at : (z p n m : Bool) → is_zero_text t ≡ z → is_positive_text t ≡ p → is_negative_text t ≡ n → is_text t (codes "d") ≡ m → P (tested z p n m (size_of t)) → P (word_of t)
    at z p n m ez ep en em h = subst P (sym (word_of-tested t z p n m ez ep en em)) h

    marked : (m : Bool) → is_zero_text t ≡ false → is_positive_text t ≡ false → is_negative_text t ≡ false → is_text t (codes "d") ≡ m → P (word_of t)
    marked true z p n m = at false false false true z p n m (mark_case z p n m)
    marked false z p n m = at false false false false z p n m (other_case z p n m)

    negated : (n : Bool) → is_zero_text t ≡ false → is_positive_text t ≡ false → is_negative_text t ≡ n → P (word_of t)
    negated true z p n = at false false true (is_text t (codes "d")) z p n refl (negative_case z p n)
    negated false z p n = marked (is_text t (codes "d")) z p n refl

    plain : (p : Bool) → is_zero_text t ≡ false → is_positive_text t ≡ p → P (word_of t)
    plain true z p = at false true (is_negative_text t) (is_text t (codes "d")) z p refl refl (positive_case z p)
    plain false z p = negated (is_negative_text t) z p refl

    zeroed : (z : Bool) → is_zero_text t ≡ z → P (word_of t)
    zeroed true z = at true (is_positive_text t) (is_negative_text t) (is_text t (codes "d")) z refl refl refl (zero_case z)
    zeroed false z = plain (is_positive_text t) z refl

number_from_positive : (t : List ℕ) → is_positive_text t ≡ true → is_number_text t ≡ true
number_from_positive t p = or-left (is_natural_text t) (is_negative_text t) (or-right (is_zero_text t) (is_positive_text t) p)

number_from_negative : (t : List ℕ) → is_negative_text t ≡ true → is_number_text t ≡ true
number_from_negative t n = or-right (is_natural_text t) (is_negative_text t) n

pub word_of-IsCounting : (t : List ℕ) → IsCounting (word_of t)
word_of-IsCounting t =
    word_cases IsCounting t (λ z. tt)
    (λ z p. let s = number-size t (number_from_positive t p) z in omega arith)
    (λ z p n. let s = number-size t (number_from_negative t n) z in omega arith)
    (λ z p n m. tt) (λ z p n m. tt)

-- from what a word is to its text
pub text-Zero : (t : List ℕ) → word_of t ≡ Zero → t ≡ zero_text
text-Zero t =
    word_cases (λ w. w ≡ Zero → t ≡ zero_text) t (λ z e. zero_text-is t z)
    (λ z p e. absurd (cc)) (λ z p n e. absurd (cc)) (λ z p n m e. absurd (cc)) (λ z p n m e. absurd (cc))

positive-text : (t : List ℕ) (n : ℕ) → is_positive_text t ≡ true → capped (size_of t) ≡ n → n ≤ max_number → t ≡ decimal n
positive-text t n p e small =
    let size : size_of t ≡ n = omega arith in
    let printed : decimal (size_of t) ≡ t = natural-decimal t (or-right (is_zero_text t) (is_positive_text t) p) (omega arith) in
    sym printed ∙ ap decimal size

pub text-Positive : (t : List ℕ) (n : ℕ) → word_of t ≡ Positive n → n ≤ max_number → t ≡ decimal n
text-Positive t n =
    word_cases (λ w. w ≡ Positive n → n ≤ max_number → t ≡ decimal n) t (λ z e. absurd (cc))
    (λ z p e small. positive-text t n p (cc) small)
    (λ z p m e. absurd (cc)) (λ z p m k e. absurd (cc)) (λ z p m k e. absurd (cc))

negative-text : (t : List ℕ) (n : ℕ) → is_negative_text t ≡ true → capped (size_of t) ≡ n → n ≤ max_number → t ≡ minus ∷ decimal n
negative-text [] n h e small = absurd (cc)
negative-text (b ∷ bs) n h e small =
    let first : nat_eq b minus ≡ true = and-left (nat_eq b minus) (is_positive_text bs) h in
    let digits : is_positive_text bs ≡ true = and-right (nat_eq b minus) (is_positive_text bs) h in
    let value : size_of (b ∷ bs) ≡ digits_value 10 bs = rw first refl in
    let size : digits_value 10 bs ≡ n = omega arith in
    let printed : decimal (digits_value 10 bs) ≡ bs = positive-decimal bs digits (omega arith) in
    let byte : b ≡ minus = eqb-true b minus first in
    let text : bs ≡ decimal n = sym printed ∙ ap decimal size in
    cc

pub text-Negative : (t : List ℕ) (n : ℕ) → word_of t ≡ Negative n → n ≤ max_number → t ≡ minus ∷ decimal n
text-Negative t n =
    word_cases (λ w. w ≡ Negative n → n ≤ max_number → t ≡ minus ∷ decimal n) t (λ z e. absurd (cc)) (λ z p e. absurd (cc))
    (λ z p m e small. negative-text t n m (cc) small)
    (λ z p m k e. absurd (cc)) (λ z p m k e. absurd (cc))

pub text-Mark : (t : List ℕ) → word_of t ≡ Mark → t ≡ codes "d"
text-Mark t =
    word_cases (λ w. w ≡ Mark → t ≡ codes "d") t (λ z e. absurd (cc)) (λ z p e. absurd (cc)) (λ z p m e. absurd (cc))
    (λ z p m k e. is_text-eq t (codes "d") k) (λ z p m k e. absurd (cc))

-- and back
pub not_zero : (t : List ℕ) → is_positive_text t ≡ true → is_zero_text t ≡ false
not_zero [] h = refl
not_zero (b ∷ []) h = grind arith
not_zero (b ∷ c ∷ bs) h = refl

pub word_of-decimal : (n : ℕ) → 1 ≤ n → n ≤ max_number → word_of (decimal n) ≡ Positive n
unfolding tested
word_of-decimal n low high =
    let p : is_positive_text (decimal n) ≡ true = decimal-is_positive n (omega arith) (omega arith) in
    let size : size_of (decimal n) ≡ n = size_of-decimal n (omega arith) in
    word_of-tested (decimal n) false true (is_negative_text (decimal n)) (is_text (decimal n) (codes "d")) (not_zero (decimal n) p) p refl refl
    ∙ ap Positive (omega arith)

pub word_of-minus : (n : ℕ) → 1 ≤ n → n ≤ max_number → word_of (minus ∷ decimal n) ≡ Negative n
unfolding tested
word_of-minus n low high =
    let p : is_positive_text (decimal n) ≡ true = decimal-is_positive n (omega arith) (omega arith) in
    word_of-tested (minus ∷ decimal n) false false true false (no_zero (decimal n)) refl p refl
    ∙ ap Negative (let size = minus_size in omega arith)
  where
    no_zero : (t : List ℕ) → is_zero_text (minus ∷ t) ≡ false
    no_zero [] = refl
    no_zero (b ∷ t) = refl

    minus_size : size_of (minus ∷ decimal n) ≡ n
    minus_size = digits_value-decimal digits_model n (omega arith)
