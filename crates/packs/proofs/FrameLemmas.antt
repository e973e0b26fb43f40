-- Bytes behind their number.
use Rattle.std.proofs.Common.{◌≡◌, ℕ, ◌+◌, ◌<◌, ◌^◌, w64, List, [], ◌∷◌, ◌++◌, length, take, drop, get_or, refl, ap, sym, ◌∙◌, arith, length-append, append_assoc}
use Rattle.std.specs.Int.{to_le_bytes, from_le_bytes}
use Rattle.std.proofs.lemmas.Nat.{from_le_bytes-to_le_bytes_8}
use Rattle.std.proofs.Math.Seq.{take-append_seam, drop-append_seam}
use Rattle.packs.specs.Packs.{framed}

pub eight : (bs : List ℕ) → length bs ≡ 8
    → get_or bs 0 0 ∷ get_or bs 1 0 ∷ get_or bs 2 0 ∷ get_or bs 3 0 ∷ get_or bs 4 0 ∷ get_or bs 5 0 ∷ get_or bs 6 0 ∷ get_or bs 7 0 ∷ [] ≡ bs
eight [] h = absurd (omega arith)
eight (a ∷ []) h = absurd (omega arith)
eight (a ∷ b ∷ []) h = absurd (omega arith)
eight (a ∷ b ∷ c ∷ []) h = absurd (omega arith)
eight (a ∷ b ∷ c ∷ d ∷ []) h = absurd (omega arith)
eight (a ∷ b ∷ c ∷ d ∷ e ∷ []) h = absurd (omega arith)
eight (a ∷ b ∷ c ∷ d ∷ e ∷ f ∷ []) h = absurd (omega arith)
eight (a ∷ b ∷ c ∷ d ∷ e ∷ f ∷ g ∷ []) h = absurd (omega arith)
eight (a ∷ b ∷ c ∷ d ∷ e ∷ f ∷ g ∷ i ∷ []) h = refl
eight (a ∷ b ∷ c ∷ d ∷ e ∷ f ∷ g ∷ i ∷ j ∷ bs) h = absurd (omega arith)

pub length-head : (n : ℕ) → length (to_le_bytes w64 n) ≡ 8
length-head n = refl

pub length-framed : (body rest : List ℕ) → length (framed body ++ rest) ≡ 8 + length body + length rest
length-framed body rest =
    let a = length-append (framed body) rest in
    let b = length-append (to_le_bytes w64 (length body)) body in
    let c = length-head (length body) in
    omega (arith, a, b, c)

-- the front of a list, and what lies behind it
front-same : (b r c s : List ℕ) → length b ≡ length c → b ++ r ≡ c ++ s → b ≡ c
front-same b r c s h e = sym (take-append_seam b r) ∙ (ap (λ n. take n (b ++ r)) h ∙ (ap (take (length c)) e ∙ take-append_seam c s))

back-same : (b r c s : List ℕ) → length b ≡ length c → b ++ r ≡ c ++ s → r ≡ s
back-same b r c s h e = sym (drop-append_seam b r) ∙ (ap (λ n. drop n (b ++ r)) h ∙ (ap (drop (length c)) e ∙ drop-append_seam c s))

-- a number that fits in eight bytes is told by them
head-same : (n m : ℕ) → n < 2 ^ 64 → m < 2 ^ 64 → to_le_bytes w64 n ≡ to_le_bytes w64 m → n ≡ m
head-same n m a b e = sym (from_le_bytes-to_le_bytes_8 n a) ∙ (ap (from_le_bytes w64) e ∙ from_le_bytes-to_le_bytes_8 m b)

-- a body is split off
pub frame-split : (left head behind body rest : List ℕ) (n : ℕ) → left ≡ head ++ behind → behind ≡ body ++ rest → to_le_bytes w64 n ≡ head → n ≡ length body → left ≡ framed body ++ rest
frame-split left head behind body rest n a b h long =
    a ∙ (ap (λ (xs : List ℕ). head ++ xs) b ∙ (ap (λ (xs : List ℕ). xs ++ (body ++ rest)) (sym h ∙ ap (to_le_bytes w64) long) ∙ sym (append_assoc (to_le_bytes w64 (length body)) body rest)))

-- none is there
pub frame-short : (left body rest : List ℕ) → length left < 8 → left ≡ framed body ++ rest → ⊥
frame-short left body rest short e = let a = ap length e in let b = length-framed body rest in omega (arith, a, b)

pub frame-cut : (left head behind body rest : List ℕ) (n : ℕ) → left ≡ head ++ behind → length head ≡ 8 → to_le_bytes w64 n ≡ head → n < 2 ^ 64 → length behind < n → length left < 2 ^ 64
    → left ≡ framed body ++ rest → ⊥
frame-cut left head behind body rest n a eight_long h fits cut few e =
    let all = ap length e in
    let long = length-framed body rest in
    let parts : head ++ behind ≡ to_le_bytes w64 (length body) ++ (body ++ rest) = sym a ∙ (e ∙ append_assoc (to_le_bytes w64 (length body)) body rest) in
    let size = length-head (length body) in
    let same_head : head ≡ to_le_bytes w64 (length body) = front-same head behind (to_le_bytes w64 (length body)) (body ++ rest) (omega (arith, eight_long, size)) parts in
    let same_back : behind ≡ body ++ rest = back-same head behind (to_le_bytes w64 (length body)) (body ++ rest) (omega (arith, eight_long, size)) parts in
    let number : n ≡ length body = head-same n (length body) fits (omega (arith, all, long, few)) (h ∙ same_head) in
    let behind_long = ap length same_back ∙ length-append body rest in
    omega (arith, number, behind_long, cut)

-- one body at most stands in front
pub frame-same : (b r c s : List ℕ) → length (framed b ++ r) < 2 ^ 64 → framed b ++ r ≡ framed c ++ s → (b ≡ c) × (r ≡ s)
frame-same b r c s few e =
    let one = length-framed b r in
    let other = length-framed c s in
    let all = ap length e in
    let parts : to_le_bytes w64 (length b) ++ (b ++ r) ≡ to_le_bytes w64 (length c) ++ (c ++ s)
    = sym (append_assoc (to_le_bytes w64 (length b)) b r) ∙ (e ∙ append_assoc (to_le_bytes w64 (length c)) c s) in
    let first_size = length-head (length b) in
    let other_size = length-head (length c) in
    let heads : to_le_bytes w64 (length b) ≡ to_le_bytes w64 (length c)
    = front-same (to_le_bytes w64 (length b)) (b ++ r) (to_le_bytes w64 (length c)) (c ++ s) (omega (arith, first_size, other_size)) parts in
    let backs : b ++ r ≡ c ++ s
    = back-same (to_le_bytes w64 (length b)) (b ++ r) (to_le_bytes w64 (length c)) (c ++ s) (omega (arith, first_size, other_size)) parts in
    let long : length b ≡ length c = head-same (length b) (length c) (omega (arith, one, few)) (omega (arith, other, few, all)) heads in
    (front-same b r c s long backs, back-same b r c s long backs)
