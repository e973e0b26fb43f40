-- Fronts of lists of bytes.
use Rattle.std.proofs.Common.{◌≡◌, ℕ, ◌-◌, Bool, true, false, not, refl, List, ◌++◌, length, take, drop, ap, sym, ◌∙◌, arith, length-append}
use Rattle.std.specs.Str.{bytes_eq}
use Rattle.std.proofs.lemmas.List.{take-append-drop}
use Rattle.std.proofs.lemmas.Slice.Eq.{bytes_eq-Decides}
use Rattle.std.proofs.Math.Seq.{take-append_seam, drop-append_seam}

-- what stands behind is turned to the front
pub turned : (xs ys all new : List ℕ) (n : ℕ) → all ≡ xs ++ ys → n ≡ length all → new ≡ drop (n - length ys) all ++ take (n - length ys) all → new ≡ ys ++ xs
turned xs ys all new n joined long e =
    let sum : length all ≡ length (xs ++ ys) = ap length joined in
    let parts = length-append xs ys in
    let seam : n - length ys ≡ length xs = omega (arith, sum, parts, long) in
    e
    ∙ (ap (λ (k : ℕ). drop k all ++ take k all) seam
    ∙ (ap (λ (zs : List ℕ). drop (length xs) zs ++ take (length xs) zs) joined ∙ (λ i. drop-append_seam xs ys i ++ take-append_seam xs ys i)))

-- a front that was taken off
pub taken_off : (all front rest : List ℕ) → bytes_eq (take (length front) all) front ≡ true → rest ≡ drop (length front) all → all ≡ front ++ rest
taken_off all front rest h e =
    let same : take (length front) all ≡ front = (bytes_eq-Decides (take (length front) all) front).0 h in
    sym (take-append-drop (length front) all) ∙ (λ i. same i ++ sym e i)

-- texts that aren't told apart
pub not-other : (r : Bool) (xs ys : List ℕ) → r ≡ not (bytes_eq xs ys) → r ≡ false → xs ≡ ys
not-other r xs ys e h = by (bytes_eq xs ys) (sym h ∙ e) (bytes_eq-Decides xs ys).0
  where
    by : (b : Bool) → false ≡ not b → (b ≡ true → xs ≡ ys) → xs ≡ ys
    by true f d = d refl
    by false f d = absurd (cc)

-- texts that are told apart
pub other : (r : Bool) (xs ys : List ℕ) → r ≡ not (bytes_eq xs ys) → r ≡ true → xs ≡ ys → ⊥
other r xs ys e h same = let yes : bytes_eq xs ys ≡ true = (bytes_eq-Decides xs ys).1 same in let no : true ≡ not true = sym h ∙ (e ∙ ap not yes) in absurd (cc)

-- a front that is there
pub stands : (all front rest : List ℕ) → all ≡ front ++ rest → bytes_eq (take (length front) all) front ≡ true
stands all front rest e = (bytes_eq-Decides (take (length front) all) front).1 (ap (take (length front)) e ∙ take-append_seam front rest)
