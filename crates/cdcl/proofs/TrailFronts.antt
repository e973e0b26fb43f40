-- The entries in front of a lawful trail.
use Rattle.std.proofs.Common.{◌≡◌, ℕ, suc, zero, ◌+◌, ◌-◌, ◌<◌, ◌≤◌, Bool, true, false, ◌||◌, List, [], ◌∷◌, ◌++◌, length, take, drop, get_or, refl, ap, sym, ◌∙◌, le-leb, nat_eq, arith, take-append-drop}
use Rattle.std.proofs.lemmas.List.{take_more}
use Rattle.std.proofs.lemmas.List.Folds.{list_any-append}
use Rattle.theory.specs.Literals.{Literal, Clause, has_var}
use Rattle.theory.specs.Trails.{Trail, Entry, literals, current_level, up_to}
use Rattle.theory.specs.Lawful.{IsLawful, IsLawfulAfter}
use Rattle.theory.proofs.trails.TrailEntries.{IsAt, level-at}
use Rattle.theory.proofs.trails.TrailLevels.{up_to-push}
use Rattle.theory.proofs.trails.TrailLists.{current_level-push, literals-append}

lawful-front : (K : List Clause) (before A B : Trail) → IsLawfulAfter K before (A ++ B) → IsLawfulAfter K before A
lawful-front K before [] B h = tt
lawful-front K before (e ∷ A) B h = (h.0, lawful-front K (before ++ e ∷ []) A B h.1)

pub IsLawful-take : (K : List Clause) (T : Trail) (n : ℕ) → IsLawful K T → IsLawful K (take n T)
IsLawful-take K T n h = lawful-front K [] (take n T) (drop n T) (rw take-append-drop h)

whole : (T : Trail) (b : ℕ) → ((e : Entry) → IsAt T e → e.level ≤ b) → up_to T b ≡ T
whole [] b h = refl
whole (e ∷ T) b h =
    let here = le-leb e.level b (h e (record { before = []; behind = T; split = refl })) in
    let rest : up_to T b ≡ T = whole T b (λ f a. h f (record { before = e ∷ a.before; behind = a.behind; split = ap (λ (U : Trail). e ∷ U) a.split })) in
    rw here (ap (λ (U : Trail). e ∷ U) rest)

-- a trail up to its current level or a higher one
pub up_to-high : (K : List Clause) (T : Trail) (b : ℕ) → IsLawful K T → current_level T ≤ b → up_to T b ≡ T
up_to-high K T b lawful low = whole T b (λ e a. let level = level-at K T e lawful a in omega arith)

pub last-of : (T : Trail) (n : ℕ) (d : Entry) → n < length T → take (n + 1) T ≡ take n T ++ get_or T n d ∷ []
last-of T n d h = take_more T n d h

-- no entry that goes is of the levels up to the given one, and the last one that stays is
pub up_to-kept : (K : List Clause) (T : Trail) (n level : ℕ) (d : Entry) → IsLawful K T → 0 < n → n ≤ length T → (get_or T (n - 1) d).level ≤ level
    → up_to (take n T) level ≡ up_to T level → take n T ≡ up_to T level
up_to-kept K T zero level d lawful some within low same = absurd (omega arith)
up_to-kept K T (suc n) level d lawful some within low same =
    let down : suc n - 1 ≡ n = omega arith in
    let up : suc n ≡ n + 1 = omega arith in
    let last : current_level (take (suc n) T) ≡ (get_or T n d).level = ap (λ k. current_level (take k T)) up ∙ ap current_level (last-of T n d (omega arith)) ∙ current_level-push (take n T) (get_or T n d) in
    let most : (get_or T n d).level ≤ level = rw down at low in
    sym (up_to-high K (take (suc n) T) level (IsLawful-take K T (suc n) lawful) (omega (arith, last, most))) ∙ same

pub up_to-dropped : (T : Trail) (n level : ℕ) (d : Entry) → 0 < n → n ≤ length T → level < (get_or T (n - 1) d).level → up_to (take n T) level ≡ up_to (take (n - 1) T) level
up_to-dropped T zero level d some within above = absurd (omega arith)
up_to-dropped T (suc n) level d some within above =
    let down : suc n - 1 ≡ n = omega arith in
    let up : suc n ≡ n + 1 = omega arith in
    rw (down, up) (ap (λ (U : Trail). up_to U level) (last-of T n d (omega arith)) ∙ up_to-push (take n T) (get_or T n d) level (rw down at above))

-- the variables of one entry more
pub has_var-last : (T : Trail) (n v : ℕ) (d : Entry) → n < length T → has_var (literals (take (n + 1) T)) v ≡ (has_var (literals (take n T)) v || nat_eq v (get_or T n d).lit.var)
has_var-last T n v d h =
    ap (λ (U : Trail). has_var (literals U) v) (last-of T n d h) ∙ (ap (λ (P : List Literal). has_var P v) (literals-append (take n T) (get_or T n d ∷ []))
    ∙ (list_any-append (λ (l : Literal). nat_eq v l.var) (literals (take n T)) ((get_or T n d).lit ∷ []) ∙ ap (λ b. has_var (literals (take n T)) v || b) (alone (nat_eq v (get_or T n d).lit.var))))
  where
    alone : (b : Bool) → (b || false) ≡ b
    alone true = refl
    alone false = refl
