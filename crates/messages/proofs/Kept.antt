-- What is kept of a text around a place, a byte more.
use Rattle.std.proofs.Common.{◌≡◌, ℕ, zero, suc, ◌-◌, ◌<◌, ◌≤◌, List, [], ◌∷◌, ◌++◌, length, take, drop, nat_eq, Bool, IsTrue, true, false, if◌then◌else◌, refl, sym, ap, ◌∙◌, arith, append_assoc}
use Rattle.std.proofs.lemmas.Bool.{eqb-true}
use Rattle.std.proofs.lemmas.List.{take-append-le}
use mir.Val.{bool_byte}
use Rattle.std.specs.Prelude.{Result, Ok, Err, OnOk, OnErr}
use Rattle.messages.specs.Lines.{line_feeds}
use Rattle.messages.specs.Excerpts.{behind_lines}

pub behind-byte : (n b r : ℕ) (bs : List ℕ) → 0 < n → r ≡ bool_byte (nat_eq b 10) →
    behind_lines (n - r) bs ≡ behind_lines n (b ∷ bs)
behind-byte zero b r bs h e = absurd (omega arith)
behind-byte (suc n) b r bs h e =
    elim (nat_eq b 10) as (λ t. r ≡ bool_byte t →
    behind_lines (suc n - r) bs ≡ (if t then behind_lines n bs else behind_lines (suc n) bs)) [
      | true ↦ λ one. (let k : suc n - r ≡ n = omega arith in ap (λ m. behind_lines m bs) k)
      | false ↦ λ none. (let k : suc n - r ≡ suc n = omega arith in ap (λ m. behind_lines m bs) k)
    ] e

-- a piece with fewer line feeds than are to come
pub behind-piece : (n : ℕ) (piece more : List ℕ) → line_feeds piece < n →
    behind_lines (n - line_feeds piece) more ≡ behind_lines n (piece ++ more)
behind-piece n [] more h = let k : n - 0 ≡ n = omega arith in ap (λ m. behind_lines m more) k
behind-piece zero (b ∷ bs) more h = absurd (omega arith)
behind-piece (suc n) (b ∷ bs) more h =
    elim (nat_eq b 10) as (λ t. (if t then suc (line_feeds bs) else line_feeds bs) < suc n →
    behind_lines (suc n - (if t then suc (line_feeds bs) else line_feeds bs)) more ≡ (if t then behind_lines n (bs ++ more) else behind_lines (suc n) (bs ++ more))) [
      | true ↦ λ less. (let k : suc n - suc (line_feeds bs) ≡ n - line_feeds bs = omega arith in ap (λ m. behind_lines m more) k ∙ behind-piece n bs more (omega arith))
      | false ↦ λ less. behind-piece (suc n) bs more less
    ] h

pub behind-counted : (n k : ℕ) (piece more : List ℕ) → k ≡ line_feeds piece → k < n →
    behind_lines (n - k) more ≡ behind_lines n (piece ++ more)
behind-counted n k piece more e less = ap (λ m. behind_lines (n - m) more) e ∙ behind-piece n piece more (omega arith)

pub behind-none : (n : ℕ) (text : List ℕ) → n ≤ 0 → behind_lines n text ≡ text
behind-none zero text h = refl
behind-none (suc n) text h = absurd (omega arith)

pub drop-none : (n : ℕ) (text : List ℕ) → n ≤ 0 → drop n text ≡ text
drop-none zero text h = refl
drop-none (suc n) text h = absurd (omega arith)

pub drop-one_more : (n b : ℕ) (bs : List ℕ) → 0 < n → drop (n - 1) bs ≡ drop n (b ∷ bs)
drop-one_more zero b bs h = absurd (omega arith)
drop-one_more (suc n) b bs h =
    let k : suc n - 1 ≡ n = omega arith in ap (λ m. drop m bs) k

pub take-full : (n b : ℕ) (xs bs : List ℕ) → n ≤ length xs →
    take n (xs ++ bs) ≡ take n (xs ++ b ∷ bs)
take-full n b xs bs h = take-append-le n xs bs h ∙ sym (take-append-le n xs (b ∷ bs) h)

pub take-pushed : (n b : ℕ) (xs bs ys : List ℕ) → ys ≡ xs ++ b ∷ [] →
    take n (ys ++ bs) ≡ take n (xs ++ b ∷ bs)
take-pushed n b xs bs ys e =
    ap (λ z. take n (z ++ bs)) e ∙ ap (λ z. take n z) (append_assoc xs (b ∷ []) bs)

-- a byte that is pushed, or that has no room
pub take-push : {T E V : Type 0} (items : V → List ℕ) (old new : V) (b : ℕ) (bs : List ℕ) (r : Result T E) →
    OnOk r (items new ≡ items old ++ b ∷ []) → OnErr r (new ≡ old) → OnErr r (length (items old) ≡ 128) →
    take 128 (items new ++ bs) ≡ take 128 (items old ++ b ∷ bs)
take-push items old new b bs (Ok x) pushed same full = take-pushed 128 b (items old) bs (items new) pushed
take-push items old new b bs (Err e) pushed same full =
    ap (λ v. take 128 (items v ++ bs)) same ∙ take-full 128 b (items old) bs (omega arith)

pub take-full-any : (r : Bool) (xs bs cs : List ℕ) → r ≡ nat_eq (length xs) 128 → IsTrue r →
    take 128 (xs ++ bs) ≡ take 128 (xs ++ cs)
take-full-any r xs bs cs e is_true =
    let h : length xs ≡ 128 = eqb-true (length xs) 128 (sym e ∙ is_true) in
    take-append-le 128 xs bs (omega arith) ∙ sym (take-append-le 128 xs cs (omega arith))
