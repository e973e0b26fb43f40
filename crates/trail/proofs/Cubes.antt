-- Cubes: one literal more, and the trail of a cube's first literals.
use Rattle.std.proofs.Common.{◌≡◌, ℕ, zero, suc, ◌<◌, ◌≤◌, false, List, [], ◌∷◌, ◌++◌, length, take, get_or, None, Some, Option, MatchOption, refl, sym, subst, ◌∙◌, append_assoc, append-nil, arith}
use Rattle.std.specs.Option.{option_to_list}
use Rattle.std.proofs.lemmas.List.Elements.{All-push, All-take}
use Rattle.std.proofs.Math.Seq.{take-append_seam}
use Rattle.theory.specs.Literals.{Literal, has_var, IsCube}
use Rattle.theory.specs.Trails.{Entry, literals, cube_trail}
use Rattle.theory.proofs.trails.TrailLists.{literals-cube}
use Rattle.theory.proofs.trails.TrailEntries.{are_distinct-push}
use Rattle.theory.proofs.literals.CubeLiterals.{IsDistinctFrom, IsCube-from, IsDistinctFrom-cube}
use Rattle.trail.specs.Cubes.{AreOfVariables}

pub IsCube-push : (Q : List Literal) (l : Literal) → IsCube Q → has_var Q l.var ≡ false → IsCube (Q ++ l ∷ [])
IsCube-push Q l h free = are_distinct-push Q l h free

front-IsDistinctFrom : (P Q R : List Literal) → IsDistinctFrom P (Q ++ R) → IsDistinctFrom P Q
front-IsDistinctFrom P [] R h = tt
front-IsDistinctFrom P (l ∷ Q) R h = (h.0, front-IsDistinctFrom (P ++ l ∷ []) Q R h.1)

last-is_new : (P Q : List Literal) (l : Literal) → IsDistinctFrom P (Q ++ l ∷ []) → has_var (P ++ Q) l.var ≡ false
last-is_new P [] l h = subst (λ R. has_var R l.var ≡ false) (sym (append-nil P)) h.0
last-is_new P (k ∷ Q) l h = subst (λ R. has_var R l.var ≡ false) (append_assoc P (k ∷ []) Q) (last-is_new (P ++ k ∷ []) Q l h.1)

-- a cube without its last literal is a cube
pub IsCube-popped : (Q R : List Literal) (o : Option Literal) → IsCube Q → Q ≡ R ++ option_to_list o → IsCube R
IsCube-popped Q R o h e = IsCube-from R (front-IsDistinctFrom [] R (option_to_list o) (IsDistinctFrom-cube (R ++ option_to_list o) (subst IsCube e h)))

pub AreOfVariables-push : (Q : List Literal) (l : Literal) → AreOfVariables Q → 1 ≤ l.var → AreOfVariables (Q ++ l ∷ [])
AreOfVariables-push Q l all one = All-push (λ (k : Literal). 1 ≤ k.var) Q l all one

pub AreOfVariables-popped : (Q R : List Literal) (o : Option Literal) → AreOfVariables Q → Q ≡ R ++ option_to_list o → AreOfVariables R
AreOfVariables-popped Q R o all e =
    subst AreOfVariables (take-append_seam R (option_to_list o)) (All-take (λ (k : Literal). 1 ≤ k.var) (length R) (R ++ option_to_list o) (subst AreOfVariables e all))

-- and the last literal is of another variable
pub popped-is_new : (Q R : List Literal) (o : Option Literal) → IsCube Q → Q ≡ R ++ option_to_list o → (o ≡ None → Q ≡ [])
    → MatchOption o ((Q ≡ []) × (R ≡ [])) (λ l. (Q ≡ R ++ l ∷ []) × (has_var R l.var ≡ false))
popped-is_new Q R (Some l) h e empty = (e, last-is_new [] R l (IsDistinctFrom-cube (R ++ l ∷ []) (subst IsCube e h)))
popped-is_new Q R None h e empty = (empty refl, sym (append-nil R) ∙ (sym e ∙ empty refl))

-- the entry of a cube's literal
abbrev pub given : Literal → Entry
given l = record { lit = l; reason = None; level = 0 }

distinct-at : (P Q : List Literal) (i : ℕ) (d : Literal) → IsDistinctFrom P Q → i < length Q → has_var (P ++ take i Q) (get_or Q i d).var ≡ false
distinct-at P [] i d h less = absurd (omega arith)
distinct-at P (l ∷ Q) zero d h less = rw append-nil h.0
distinct-at P (l ∷ Q) (suc i) d h less =
    subst (λ c. has_var c (get_or Q i d).var ≡ false) (append_assoc P (l ∷ []) (take i Q)) (distinct-at (P ++ l ∷ []) Q i d h.1 (omega arith))

pub cube_trail-free : (Q : List Literal) (i : ℕ) (d : Literal) → IsCube Q → i < length Q → has_var (literals (cube_trail (take i Q))) (get_or Q i d).var ≡ false
cube_trail-free Q i d h less = rw (literals-cube (take i Q)) (distinct-at [] Q i d (IsDistinctFrom-cube Q h) less)
