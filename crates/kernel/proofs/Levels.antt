-- The levels of a lawful trail, and a decision in either sign.
use Rattle.std.proofs.Common.{◌≡◌, ℕ, ◌+◌, ◌≤◌, false, List, [], ◌∷◌, ◌++◌, length, Option, Some, None, refl, ap, inl, inr, append_assoc, append-nil, arith}
use Rattle.theory.specs.Literals.{Literal, Clause, has_var}
use Rattle.theory.specs.Trails.{Entry, Trail, literals, current_level}
use Rattle.theory.specs.Lawful.{IsGrounded, IsLawfulAfter, IsLawful}
use Rattle.theory.proofs.trails.LawfulTrails.{IsLawful-push}
use Rattle.theory.proofs.trails.TrailLists.{current_level-push}

-- an entry rises by at most one level
grounded-level : (K : List Clause) (before : Trail) (e : Entry) (r : Option ℕ) → IsGrounded K before e r → e.level ≤ current_level before + 1
grounded-level K before e (Some n) g = let same = g.0 in omega arith
grounded-level K before e None (inl h) = let none = h.0 in omega arith
grounded-level K before e None (inr h) = omega arith

level-length : (K : List Clause) (before T : Trail) → IsLawfulAfter K before T → current_level (before ++ T) ≤ current_level before + length T
level-length K before [] h = let same : current_level (before ++ []) ≡ current_level before = ap current_level (append-nil before) in omega arith
level-length K before (e ∷ T) h =
    let here : e.level ≤ current_level before + 1 = grounded-level K before e e.reason h.0.grounded in
    let level : current_level (before ++ e ∷ []) ≡ e.level = current_level-push before e in
    let more : current_level ((before ++ e ∷ []) ++ T) ≤ current_level (before ++ e ∷ []) + length T = level-length K (before ++ e ∷ []) T h.1 in
    let same_end : current_level ((before ++ e ∷ []) ++ T) ≡ current_level (before ++ e ∷ T) = ap current_level (append_assoc before (e ∷ []) T) in
    omega arith

pub current_level-length : (K : List Clause) (T : Trail) → IsLawful K T → current_level T ≤ length T
current_level-length K T h = let most : current_level T ≤ 0 + length T = level-length K [] T h in omega arith

pub IsLawful-decision : (K : List Clause) (T : Trail) (l : Literal) → IsLawful K T → has_var (literals T) l.var ≡ false
    → IsLawful K (T ++ record { lit = l; reason = None; level = current_level T + 1 } ∷ [])
IsLawful-decision K T l h free =
    IsLawful-push K T (record { lit = l; reason = None; level = current_level T + 1 }) h (record { is_new = free; grounded = inr refl })
