-- Numbers, clauses and lists of numbers that are read.
use Rattle.std.proofs.Common.{◌≡◌, ℕ, suc, ◌+◌, ◌<◌, ◌≤◌, Bool, true, false, List, [], ◌∷◌, ◌++◌, length, drop, refl, ap, sym, ◌∙◌, arith, nat_eq, nat_lt, get_or, drop-cons, lt-ltb, ◌⊎◌, inl, inr}
use Rattle.std.proofs.lemmas.List.{drop_all}
use Rattle.std.proofs.lemmas.Bool.{cases_lt}
use Rattle.theory.specs.Literals.{Clause}
use Rattle.theory.specs.Learning.{Line}
use Rattle.lines.specs.declared.section.Section.{Section}
use Rattle.lines.specs.declared.section.Section.TheVariants.{Literals, Hints, Forgotten}
use Rattle.lines.specs.Rows.{Part, whole, with_bits, with_number, with_byte, with_bytes, row, listed, with_list, hint_behind, IsListing, IsBetween, IsWhole, clause_part, hints_part, forgets_part}
use Rattle.lines.proofs.RowLemmas.{between-again}
use Rattle.lines.proofs.LineLemmas.{hints-listing, between-listed, listed-more, listed-end}

-- of the number that begins at a place the bytes before the end have this value, and more are to
-- come
abbrev pub HasRead : List ℕ → ℕ → ℕ → ℕ → Type 0
HasRead bytes at end value = (p : Part) → IsBetween p → with_bytes p (drop at bytes) ≡ with_bytes (record p { value = value; begun = nat_lt at end }) (drop end bytes)

abbrev set : Part → ℕ → Bool → Part
set p value begun = record p { value = value; begun = begun }

split-at : (bytes : List ℕ) (end : ℕ) → end < length bytes → drop end bytes ≡ get_or bytes end 0 ∷ drop (end + 1) bytes
split-at bytes end inside = let e : suc end ≡ end + 1 = omega arith in drop-cons bytes end 0 inside ∙ ap (λ n. get_or bytes end 0 ∷ drop n bytes) e

byte-below : (q : Part) (b : ℕ) → b < 128 → with_byte q b ≡ with_number (set q 0 false) (with_bits q.value b)
byte-below q b low = rw (lt-ltb b 128 low) refl

pub number-read : (bytes : List ℕ) (at end value number : ℕ) → end < length bytes → get_or bytes end 0 < 128 → number ≡ with_bits value (get_or bytes end 0)
    → HasRead bytes at end value → (p : Part) → IsBetween p → with_bytes p (drop at bytes) ≡ with_bytes (with_number p number) (drop (end + 1) bytes)
number-read bytes at end value number inside low e h p between =
    h p between ∙ ap (with_bytes (set p value (nat_lt at end))) (split-at bytes end inside) ∙ ap (λ (q : Part). with_bytes q (drop (end + 1) bytes)) step
  where
    step : with_byte (set p value (nat_lt at end)) (get_or bytes end 0) ≡ with_number p number
    step = byte-below (set p value (nat_lt at end)) (get_or bytes end 0) low ∙ ap (with_number (set p 0 false)) (sym e) ∙ ap (λ (q : Part). with_number q number) (between-again p between)

-- a line in front of a part's
abbrev pub behind : Line → Part → Part
behind line p = record p { lines = line ∷ p.lines }

number-behind : (line : Line) (p : Part) (n : ℕ) → with_number (behind line p) n ≡ behind line (with_number p n)
number-behind line p n = go (nat_eq n 0) p.section refl refl
  where
    go : (z : Bool) (s : Section) → nat_eq n 0 ≡ z → p.section ≡ s → with_number (behind line p) n ≡ behind line (with_number p n)
    go true Literals e f = rw (e, f) refl
    go true Hints e f = rw (e, f) refl
    go true Forgotten e f = rw (e, f) refl
    go false Literals e f = rw (e, f) refl
    go false Hints e f = rw (e, f) refl
    go false Forgotten e f = rw (e, f) refl

byte-behind : (line : Line) (p : Part) (b : ℕ) → with_byte (behind line p) b ≡ behind line (with_byte p b)
byte-behind line p b = go (nat_lt b 128) refl
  where
    go : (low : Bool) → nat_lt b 128 ≡ low → with_byte (behind line p) b ≡ behind line (with_byte p b)
    go true e = rw e (number-behind line (set p 0 false) (with_bits p.value b))
    go false e = rw e refl

pub lines-behind : (line : Line) (p : Part) (bytes : List ℕ) → with_bytes (behind line p) bytes ≡ behind line (with_bytes p bytes)
lines-behind line p [] = refl
lines-behind line p (b ∷ bs) = ap (λ (q : Part). with_bytes q bs) (byte-behind line p b) ∙ lines-behind line (with_byte p b) bs

-- where a list of numbers isn't ended, bytes are left
not-ended : (bytes : List ℕ) (end : ℕ) (p : Part) (lines : List Line) → ¬ (p.section ≡ Literals) → with_bytes p (drop end bytes) ≡ whole lines → end < length bytes
not-ended bytes end p lines behind_clause w = go (cases_lt end (length bytes))
  where
    go : (end < length bytes) ⊎ (length bytes ≤ end) → end < length bytes
    go (inl h) = h
    go (inr h) = absurd (behind_clause (ap (λ (p : Part). p.section) (ap (with_bytes p) (sym (drop_all end bytes h)) ∙ w)))

-- and the clause's end
pub clause-read : (bytes : List ℕ) (at end next last n : ℕ) (c : Clause) → n ≡ 0 → next ≤ length bytes → IsWhole (drop at bytes)
    → row (drop at bytes) ≡ with_bytes (clause_part [] c last) (drop end bytes)
    → with_bytes (clause_part [] c last) (drop end bytes) ≡ with_bytes (with_number (clause_part [] c last) n) (drop next bytes)
    → (next < length bytes) × (row (drop at bytes) ≡ with_bytes (hints_part [] c [] 0) (drop next bytes))
clause-read bytes at end next last n c none within w e step =
    let all : row (drop at bytes) ≡ with_bytes (hints_part [] c [] 0) (drop next bytes) =
    e ∙ step ∙ ap (λ m. with_bytes (with_number (clause_part [] c last) m) (drop next bytes)) none in
    (not-ended bytes next (hints_part [] c [] 0) (row (drop at bytes)).lines (hints-listing [] c).is_behind (sym all ∙ w), all)

-- what the numbers so far leave to be read, whatever stands before them
abbrev pub NumbersLeft : List ℕ → ℕ → ℕ → List ℕ → ℕ → Type 0
NumbersLeft bytes at end ns last = (p : Part) → IsListing p → with_bytes p (drop at bytes) ≡ with_bytes (listed p.section p ns last) (drop end bytes)

section-listed : (p : Part) (ns : List ℕ) (last : ℕ) → (listed p.section p ns last).section ≡ p.section
section-listed p ns last = go p.section refl
  where
    go : (s : Section) → p.section ≡ s → (listed s p ns last).section ≡ s
    go Literals e = e
    go Hints e = e
    go Forgotten e = e

-- a list of numbers that begins at a place has bytes to be read
pub begins-inside : (bytes : List ℕ) (at : ℕ) (p : Part) (lines : List Line) → IsListing p → with_bytes p (drop at bytes) ≡ whole lines → at < length bytes
begins-inside bytes at p lines l w = not-ended bytes at p lines l.is_behind w

-- one number more
pub numbers-left : (bytes : List ℕ) (at end next : ℕ) (ns : List ℕ) (last n h : ℕ) → 1 ≤ n → hint_behind last n ≡ h → NumbersLeft bytes at end ns last
    → ((p : Part) → IsBetween p → with_bytes p (drop end bytes) ≡ with_bytes (with_number p n) (drop next bytes)) → NumbersLeft bytes at next (ns ++ h ∷ []) h
numbers-left bytes at end next ns last n h some coded left step p l =
    left p l ∙ step (listed p.section p ns last) (between-listed p.section p ns last l.between) ∙ ap (λ (q : Part). with_bytes q (drop next bytes)) (listed-more p ns last n h l some coded)

pub numbers-inside : (bytes : List ℕ) (at end : ℕ) (ns : List ℕ) (last : ℕ) (p : Part) (lines : List Line) → IsListing p → with_bytes p (drop at bytes) ≡ whole lines
    → NumbersLeft bytes at end ns last → end < length bytes
numbers-inside bytes at end ns last p lines l w left =
    not-ended bytes end (listed p.section p ns last) lines (λ e. l.is_behind (sym (section-listed p ns last) ∙ e)) (sym (left p l) ∙ w)

-- and the end of the list
pub numbers-read : (bytes : List ℕ) (at end next : ℕ) (ns : List ℕ) (last n : ℕ) → n ≡ 0 → NumbersLeft bytes at end ns last
    → ((p : Part) → IsBetween p → with_bytes p (drop end bytes) ≡ with_bytes (with_number p n) (drop next bytes))
    → (p : Part) → IsListing p → with_bytes p (drop at bytes) ≡ with_bytes (with_list p ns) (drop next bytes)
numbers-read bytes at end next ns last n none left step p l =
    left p l ∙ step (listed p.section p ns last) (between-listed p.section p ns last l.between)
    ∙ ap (λ (q : Part). with_bytes q (drop next bytes)) (ap (with_number (listed p.section p ns last)) none ∙ listed-end p ns last l)

-- a line is read
pub line-read : (bytes : List ℕ) (at behind_clause behind_hints end : ℕ) (c : Clause) (hs fs : List ℕ) → IsWhole (drop at bytes)
    → row (drop at bytes) ≡ with_bytes (hints_part [] c [] 0) (drop behind_clause bytes)
    → with_bytes (hints_part [] c [] 0) (drop behind_clause bytes) ≡ with_bytes (forgets_part [] c hs [] 0) (drop behind_hints bytes)
    → with_bytes (forgets_part [] c hs [] 0) (drop behind_hints bytes) ≡ with_bytes (whole (record { clause = c; hints = hs; forgets = fs } ∷ [])) (drop end bytes)
    → IsWhole (drop end bytes) × ((row (drop at bytes)).lines ≡ record { clause = c; hints = hs; forgets = fs } ∷ (row (drop end bytes)).lines)
line-read bytes at behind_clause behind_hints end c hs fs w e f g =
    let all = e ∙ f ∙ g ∙ lines-behind (record { clause = c; hints = hs; forgets = fs }) (whole []) (drop end bytes) in
    let kept = (row (drop end bytes)).lines in
    (ap (λ (p : Part). record p { lines = kept }) (sym all ∙ w), ap (λ (p : Part). p.lines) all)
