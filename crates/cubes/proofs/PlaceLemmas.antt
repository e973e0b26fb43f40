-- The place of a cube, one literal after the other.
use Rattle.std.proofs.Common.{◌≡◌, ℕ, zero, suc, ◌+◌, ◌-◌, ◌*◌, ◌^◌, ◌%◌, ◌<◌, ◌≤◌, Bool, true, false, List, ◌∷◌, drop, length, get_or, ap, sym, ◌∙◌, arith, if◌then◌else◌}
use Rattle.std.proofs.Math.Nat.{two-pow-succ}
use Rattle.std.proofs.lemmas.List.{drop_more}
use Rattle.theory.specs.Literals.{Literal}
use Rattle.theory.specs.Places.{place_in}

pub place_in-more : (place now left i total : ℕ) (Q : List Literal) (l : Literal) → 0 < left → i < length Q → l ≡ get_or Q i l → now ≡ (if l.positive then place + 2 ^ (left - 1) else place)
    → place + place_in left (drop i Q) ≡ total → place + 2 ^ left ≤ 2 ^ 32 → (now + place_in (left - 1) (drop (i + 1) Q) ≡ total) × (now + 2 ^ (left - 1) ≤ 2 ^ 32)
place_in-more place now zero i total Q l some inside is step rest room = absurd (omega arith)
place_in-more place now (suc k) i total Q l some inside is step rest room =
    let down : suc k - 1 ≡ k = omega arith in
    let here : drop i Q ≡ l ∷ drop (i + 1) Q = drop_more Q i l inside ∙ ap (λ d. d ∷ drop (i + 1) Q) (sym is) in
    go l.positive (rw down at step) (rw here at rest)
  where
    go : (b : Bool) → now ≡ (if b then place + 2 ^ k else place) → place + ((if b then 2 ^ k else 0) + place_in k (drop (i + 1) Q)) ≡ total
        → (now + place_in (suc k - 1) (drop (i + 1) Q) ≡ total) × (now + 2 ^ (suc k - 1) ≤ 2 ^ 32)
    go true e f = let down : suc k - 1 ≡ k = omega arith in let double = two-pow-succ k in rw down (omega arith, omega arith)
    go false e f = let down : suc k - 1 ≡ k = omega arith in let double = two-pow-succ k in rw down (omega arith, omega arith)

-- a bit of the place, as it is shifted
pub shifted : (place left now : ℕ) → 0 < left → place + 2 ^ left ≤ 2 ^ 32 → now ≡ place + (1 * 2 ^ (left - 1)) % 2 ^ 64 → now ≡ place + 2 ^ (left - 1)
shifted place zero now some room e = absurd (omega arith)
shifted place (suc k) now some room e =
    let double = two-pow-succ k in
    let down : suc k - 1 ≡ k = omega arith in
    rw down (let f : now ≡ place + (1 * 2 ^ k) % 2 ^ 64 = rw down at e in omega arith)
