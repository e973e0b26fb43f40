-- Glues stay below bounds.
use Rattle.std.proofs.Common.{◌≡◌, ℕ, ◌+◌, ◌-◌, ◌*◌, ◌≤◌, List, [], ◌∷◌, ◌++◌, length, ap, Option, Some, None, inl, inr, append-nil, append_assoc, arith, All, nat_eq}
use Rattle.std.specs.List.{list_any}
use Rattle.std.proofs.lemmas.List.{length-drop}
use Rattle.std.proofs.lemmas.List.Elements.{All-push, All-drop}
use Rattle.std.proofs.lemmas.List.Sums.{count_by-le-length}
use Rattle.theory.specs.Literals.{Clause}
use Rattle.theory.specs.Plans.{Constants}
use Rattle.theory.specs.Trails.{Entry, Trail, current_level, level_of, variables}
use Rattle.theory.specs.Lawful.{IsGrounded, IsLawfulAfter, IsLawful}
use Rattle.theory.specs.Restarts.{glue, Glues, with_glue}
use Rattle.theory.proofs.searching.ModelLemmas.{length-variables}
use Rattle.theory.proofs.trails.TrailLists.{current_level-push}

-- a glue is at most the current level
pub glue-most : (T : Trail) (c : Clause) → glue T c ≤ current_level T
glue-most T c =
    let count = count_by-le-length (λ level. list_any (λ l. nat_eq (level_of T l) level) c) (variables (current_level T)) in
    let many = length-variables (current_level T) in
    omega (arith, count, many)

-- a lawful trail has no more levels than entries
level-most : (K : List Clause) (before : Trail) (e : Entry) (r : Option ℕ) → IsGrounded K before e r → e.level ≤ current_level before + 1
level-most K before e (Some n) g = let level = g.0 in omega arith
level-most K before e None (inl h) = let level = h.0 in omega arith
level-most K before e None (inr h) = omega arith

current_level-after : (K : List Clause) (before T : Trail) → IsLawfulAfter K before T → current_level (before ++ T) ≤ current_level before + length T
current_level-after K before [] h = let same = ap current_level (append-nil before) in omega arith
current_level-after K before (e ∷ T) h =
    let here : e.level ≤ current_level before + 1 = level-most K before e e.reason h.0.grounded in
    let level : current_level (before ++ e ∷ []) ≡ e.level = current_level-push before e in
    let more : current_level ((before ++ e ∷ []) ++ T) ≤ current_level (before ++ e ∷ []) + length T = current_level-after K (before ++ e ∷ []) T h.1 in
    let same : current_level ((before ++ e ∷ []) ++ T) ≡ current_level (before ++ e ∷ T) = ap current_level (append_assoc before (e ∷ []) T) in
    omega arith

pub current_level-most : (K : List Clause) (T : Trail) → IsLawful K T → current_level T ≤ length T
current_level-most K T h = let most : current_level T ≤ 0 + length T = current_level-after K [] T h in omega arith

-- the recent glues
pub recent-few : (c : Constants) (g : ℕ) (s : Glues) → length (with_glue c g s).recent ≤ c.window
recent-few c g s = let all = s.recent ++ g ∷ [] in let left = length-drop (length all - c.window) all in omega (arith, left)

pub recent-most : (c : Constants) (g : ℕ) (s : Glues) (b : ℕ) → g ≤ b → All (λ x. x ≤ b) s.recent → All (λ x. x ≤ b) (with_glue c g s).recent
recent-most c g s b low h = All-drop (λ x. x ≤ b) (length (s.recent ++ g ∷ []) - c.window) (s.recent ++ g ∷ []) (All-push (λ x. x ≤ b) s.recent g h low)

-- and their sum
pub total-most : (c : Constants) (g : ℕ) (s : Glues) (b : ℕ) → g ≤ b → s.total ≤ b * s.count → (with_glue c g s).total ≤ b * (with_glue c g s).count
total-most c g s b low h = let more : b * (s.count + 1) ≡ b * s.count + b = mul-succ b s.count in omega (arith, low, h, more)
  where
    mul-succ : (m n : ℕ) → m * (n + 1) ≡ m * n + m
    mul-succ m n = omega arith
