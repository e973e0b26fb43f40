-- What bytes, numbers and lines behind others say.
use Rattle.std.proofs.Common.{◌≡◌, ℕ, ◌+◌, ◌-◌, ◌/◌, ◌%◌, ◌^◌, ◌<◌, ◌≤◌, Bool, true, false, List, [], ◌∷◌, ◌++◌, length, refl, ap, subst, sym, ◌∙◌, arith, nat_lt, nat_eq, lt-ltb, le-ltb, length-append}
use Rattle.theory.specs.Learning.{Line}
use Rattle.std.proofs.lemmas.List.Elements.{All-push, All-tail}
use Rattle.lines.specs.declared.section.Section.{Section}
use Rattle.lines.specs.declared.section.Section.TheVariants.{Literals, Hints, Forgotten}
use Rattle.lines.specs.Rows.{Part, whole, with_bits, with_number, with_byte, with_bytes, row, AreWithin, IsBetween}

pub length-push : (lines : List Line) (l : Line) → length (lines ++ l ∷ []) ≡ length lines + 1
length-push lines l = length-append lines (l ∷ [])

pub with_bytes-append : (p : Part) (xs ys : List ℕ) → with_bytes p (xs ++ ys) ≡ with_bytes (with_bytes p xs) ys
with_bytes-append p [] ys = refl
with_bytes-append p (x ∷ xs) ys = with_bytes-append (with_byte p x) xs ys

pub row-push : (xs : List ℕ) (b : ℕ) → row (xs ++ b ∷ []) ≡ with_byte (row xs) b
row-push xs b = with_bytes-append (whole []) xs (b ∷ [])

-- seven bits more of a number that fits
more-bits : (n d : ℕ) → n < 2 ^ 64 → d ≡ n % 128 → with_bits (n / 128) d ≡ n
more-bits n d fits e = omega (arith, fits, e)

-- a byte with 128 more
not-last : (d : ℕ) → nat_lt (d + 128) 128 ≡ false
not-last d = le-ltb (d + 128) 128 (omega arith)

back : (d : ℕ) → (d + 128) - 128 ≡ d
back d = omega arith

is-last : (n : ℕ) → nat_lt (n % 128) 128 ≡ true
is-last n = lt-ltb (n % 128) 128 (omega arith)

abbrev between : Part → ℕ → Bool → Part
between p value begun = record p { value = value; begun = begun }

pub between-again : (p : Part) → IsBetween p → record p { value = 0; begun = false } ≡ p
between-again p (v, b) = ap (λ n. between p n false) (sym v) ∙ ap (λ c. between p p.value c) (sym b)

high-byte : (q : Part) (n : ℕ) → n < 2 ^ 64 → q.value ≡ n / 128 → with_byte q (n % 128 + 128) ≡ record q { value = n; begun = true }
high-byte q n fits v = rw (not-last (n % 128), back (n % 128), v, more-bits n (n % 128) fits refl) refl

last-byte : (q : Part) (n : ℕ) → n < 2 ^ 64 → q.value ≡ n / 128 → with_byte q (n % 128) ≡ with_number (record q { value = 0; begun = false }) n
last-byte q n fits v = rw (is-last n, v, more-bits n (n % 128) fits refl) refl

-- the high bits of a number stand behind a row's bytes
abbrev pub HasHigh : List ℕ → List ℕ → ℕ → Type 0
HasHigh old new n = IsBetween (row old) → row new ≡ record (row old) { value = n; begun = nat_lt 0 n }

pub high-pushed : (old mid new : List ℕ) (n : ℕ) → n < 2 ^ 64 → 0 < n → new ≡ mid ++ (n % 128 + 128) ∷ [] → HasHigh old mid (n / 128) → HasHigh old new n
high-pushed old mid new n fits some e high h =
    let m = high h in
    let v : (row mid).value ≡ n / 128 = ap (λ (p : Part). p.value) m in
    ap row e ∙ row-push mid (n % 128 + 128) ∙ high-byte (row mid) n fits v ∙ ap (λ (p : Part). set p true) m ∙ ap (λ b. set (row old) b) (sym (lt-ltb 0 n some))
  where
    set : Part → Bool → Part
    set p b = record p { value = n; begun = b }

pub number-pushed : (old mid new : List ℕ) (n : ℕ) → n < 2 ^ 64 → new ≡ mid ++ n % 128 ∷ [] → HasHigh old mid (n / 128) → IsBetween (row old) → row new ≡ with_number (row old) n
number-pushed old mid new n fits e high h =
    let m = high h in
    let v : (row mid).value ≡ n / 128 = ap (λ (p : Part). p.value) m in
    ap row e ∙ row-push mid (n % 128) ∙ last-byte (row mid) n fits v ∙ ap (λ (p : Part). with_number (between p 0 false) n) m ∙ ap (λ (p : Part). with_number p n) (between-again (row old) h)

-- a number below 128 has no high bits
none-high : (old : List ℕ) (n : ℕ) → n < 128 → HasHigh old old (n / 128)
none-high old n small between = go (n / 128) quotient
  where
    quotient : n / 128 ≡ 0
    quotient = omega (arith, small)

    go : (q : ℕ) → q ≡ 0 → row old ≡ record (row old) { value = q; begun = nat_lt 0 q }
    go q e = rw e (sym (between-again (row old) between))

pub one-high-pushed : (old new : List ℕ) (n : ℕ) → n < 128 → 0 < n → new ≡ old ++ (n + 128) ∷ [] → HasHigh old new n
one-high-pushed old new n small some e = high-pushed old old new n (omega (arith, small)) some (e ∙ ap (λ b. old ++ (b + 128) ∷ []) (rest n small)) (none-high old n small)
  where
    rest : (n : ℕ) → n < 128 → n ≡ n % 128
    rest n h = omega (arith, h)

pub one-pushed : (old new : List ℕ) (n : ℕ) → n < 128 → new ≡ old ++ n ∷ [] → IsBetween (row old) → row new ≡ with_number (row old) n
one-pushed old new n small e = number-pushed old old new n (omega (arith, small)) (e ∙ ap (λ b. old ++ b ∷ []) (rest n small)) (none-high old n small)
  where
    rest : (n : ℕ) → n < 128 → n ≡ n % 128
    rest n h = omega (arith, h)

-- a byte ends one line at most
line-ends : (p : Part) (n : ℕ) → length (with_number p n).lines ≤ length p.lines + 1
line-ends p n = go (nat_eq n 0) p.section refl refl
  where
    go : (z : Bool) (s : Section) → nat_eq n 0 ≡ z → p.section ≡ s → length (with_number p n).lines ≤ length p.lines + 1
    go true Literals e f = rw (e, f) (omega arith)
    go true Hints e f = rw (e, f) (omega arith)
    go true Forgotten e f = rw (e, f) (omega (arith, length-push p.lines (record { clause = p.clause; hints = p.hints; forgets = p.forgets })))
    go false Literals e f = rw (e, f) (omega arith)
    go false Hints e f = rw (e, f) (omega arith)
    go false Forgotten e f = rw (e, f) (omega arith)

byte-ends : (p : Part) (b : ℕ) → length (with_byte p b).lines ≤ length p.lines + 1
byte-ends p b = go (nat_lt b 128) refl
  where
    go : (low : Bool) → nat_lt b 128 ≡ low → length (with_byte p b).lines ≤ length p.lines + 1
    go true e = rw e (line-ends (record p { value = 0; begun = false }) (with_bits p.value b))
    go false e = rw e (omega arith)

pub lines-within : (p : Part) (bs : List ℕ) → length (with_bytes p bs).lines ≤ length p.lines + length bs
lines-within p [] = omega arith
lines-within p (b ∷ bs) = omega (arith, lines-within (with_byte p b) bs, byte-ends p b)

-- one line more, where both bounds grow with it
pub AreWithin-push : (literals numbers more_literals more_numbers : ℕ) (lines : List Line) (l : Line) → length l.clause ≤ more_literals → length l.hints ≤ more_numbers → length l.forgets ≤ more_numbers
    → literals ≤ more_literals → numbers ≤ more_numbers → AreWithin literals numbers lines → AreWithin more_literals more_numbers (lines ++ l ∷ [])
AreWithin-push literals numbers more_literals more_numbers lines l clause_fits hints_fit forgets_fit more most all =
    All-push (λ (m : Line). (length m.clause ≤ more_literals) × (length m.hints ≤ more_numbers) × (length m.forgets ≤ more_numbers)) lines l
    (λ i d inside. let old = all i d inside in let a = old.0 in let b = old.1 in let c = old.2 in (omega arith, omega arith, omega arith)) (clause_fits, hints_fit, forgets_fit)

-- what holds of all lines holds of those behind the first one
pub AreWithin-tail : (literals numbers : ℕ) (lines left : List Line) (l : Line) → lines ≡ l ∷ left → AreWithin literals numbers lines → AreWithin literals numbers left
AreWithin-tail literals numbers lines left l e all =
    All-tail (λ (l : Line). (length l.clause ≤ literals) × (length l.hints ≤ numbers) × (length l.forgets ≤ numbers)) l left (subst (AreWithin literals numbers) e all)
