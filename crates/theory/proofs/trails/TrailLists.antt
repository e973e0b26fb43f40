-- Trails as lists: the level of the last entry, and the literals.
use Rattle.std.proofs.Common.{◌≡◌, ◌+◌, ◌-◌, List, [], ◌∷◌, ◌++◌, length, length-append, slice_get, refl, ap, ◌∙◌, arith}
use Rattle.theory.specs.Literals.{Literal}
use Rattle.theory.specs.Trails.{Entry, Trail, literals, level_at, current_level, cube_trail}
use Rattle.theory.proofs.literals.ListLemmas.{slice_get-push}

pub current_level-push : (T : Trail) (e : Entry) → current_level (T ++ e ∷ []) ≡ e.level
current_level-push T e =
    let n : length (T ++ e ∷ []) ≡ length T + 1 = length-append T (e ∷ []) in
    let m : length (T ++ e ∷ []) - 1 ≡ length T = omega arith in
    ap (λ k. level_at (slice_get (T ++ e ∷ []) k)) m ∙ ap level_at (slice_get-push T e)

pub literals-append : (T U : Trail) → literals (T ++ U) ≡ literals T ++ literals U
literals-append [] U = refl
literals-append (e ∷ T) U = ap (λ x. e.lit ∷ x) (literals-append T U)

pub literals-cube : (P : List Literal) → literals (cube_trail P) ≡ P
literals-cube [] = refl
literals-cube (l ∷ P) = ap (λ x. l ∷ x) (literals-cube P)
