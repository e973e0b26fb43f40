-- The words behind the header and the machine.
use Rattle.std.proofs.Common.{◌≡◌, ℕ, ◌<◌, min, Bool, true, false, ◌||◌, ◌⊎◌, inl, inr, List, [], ◌∷◌, ◌++◌, length, Some, nat_lt, refl, subst, arith, lt-ltb}
use Rattle.theory.specs.Literals.{Clause}
use Rattle.theory.specs.Tokens.{Place, is_zero_text, is_negative_text, is_number_text, size_of}
use Rattle.theory.specs.Reading.{Limits, word}
use Rattle.theory.proofs.reading.NumberTexts.{number-size}
use Rattle.theory.proofs.reading.ReadingMachine.{at_body, on_body}
use Rattle.cnf.specs.Words.{IsNumberOf}
use Rattle.cnf.specs.Machine.{TakesToken}

-- the only number of size 0
size-zero : (text : List ℕ) → is_number_text text ≡ true → size_of text ≡ 0 → is_zero_text text ≡ true
size-zero text n s = go (is_zero_text text) refl
  where
    go : (r : Bool) → is_zero_text text ≡ r → is_zero_text text ≡ true
    go true e = e
    go false e = absurd (let some = number-size text n e in omega arith)

-- a 0 ends a clause
pub takes-zero : (L : Limits) (V C : ℕ) (cs : List Clause) (part : Clause) (text : List ℕ) (place : Place) → is_number_text text ≡ true → length cs < C → size_of text ≡ 0
    → TakesToken L (at_body V C cs part) (record { token = word text; place = place }) (at_body V C (cs ++ part ∷ []) [])
takes-zero L V C cs part text place number room s = record {
  step_is = (let l : nat_lt (length cs) C ≡ true = lt-ltb (length cs) C room in let z = size-zero text number s in
      let e : on_body L V C cs part text ≡ Some (at_body V C (cs ++ part ∷ []) []) = rw (l, z) refl in e);
}

either : (r s : Bool) → (r ≡ true) ⊎ (s ≡ true) → (r || s) ≡ true
either true s e = refl
either false s (inl e) = absurd (cc)
either false s (inr e) = e

-- a word that says a number
pub says-number : (text : List ℕ) (natural negative : Bool) (size : ℕ) → IsNumberOf text natural negative size → (natural ≡ true) ⊎ (negative ≡ true) → is_number_text text ≡ true
says-number text natural negative size h e = subst (λ (r : Bool). (r || is_negative_text text) ≡ true) h.natural_is (subst (λ (r : Bool). (natural || r) ≡ true) h.negative_is (either natural negative e))

pub says-size : (text : List ℕ) (natural negative : Bool) (size : ℕ) → IsNumberOf text natural negative size → (natural ≡ true) ⊎ (negative ≡ true) → size ≡ min 10000000000 (size_of text)
says-size text natural negative size h e = h.size_is (either natural negative e)
