-- The glue of a clause, counted by the levels that are met.
use Rattle.std.proofs.Common.{◌≡◌, ℕ, zero, suc, ◌+◌, ◌≤◌, Bool, true, false, ◌&&◌, ◌||◌, List, [], ◌∷◌, ◌++◌, length, count_by, refl, ap, sym, ◌∙◌, cond, nat_eq, nat_le, nat_lt, eqb-true, eq-eqb, leb-true, le-leb, lt-ltb, Option, Some, None, arith}
use Rattle.std.specs.List.{list_any}
use Rattle.std.proofs.lemmas.List.Sums.{sum_by_push}
use Rattle.theory.specs.Literals.{Literal, Clause}
use Rattle.theory.specs.Trails.{Entry, Trail, current_level, entry_of, level_of, level_at, variables}
use Rattle.theory.specs.Lawful.{IsLawful}
use Rattle.theory.specs.Restarts.{glue}
use Rattle.theory.proofs.literals.LiteralLemmas.{and-right}
use Rattle.theory.specs.Truth.{IsOver}
use Rattle.theory.specs.Trails.{literals}
use Rattle.theory.proofs.searching.GlueBounds.{glue-most, current_level-most}
use Rattle.theory.proofs.literals.OverVariables.{AreOver-from_IsOver}
use Rattle.lookahead.proofs.TrailLengths.{length-lawful}
use Rattle.theory.proofs.literals.LiteralSets.{false_unless, or-false_right}
use Rattle.theory.proofs.trails.TrailLevels.{level_of-most}
use Rattle.cdcl.specs.Numbers.{is_one_of, StandOnce}
use Rattle.cdcl.proofs.NumberSets.{count-cons, one-counted, none-counted, count-more}
use Rattle.cdcl.proofs.TrailValues.{entry_of-there}

-- no level is above the current one
pub level-most : (K : List Clause) (T : Trail) (l : Literal) → IsLawful K T → level_of T l ≤ current_level T
level-most K T l lawful = go (entry_of T l.var) refl
  where
    go : (o : Option Entry) → entry_of T l.var ≡ o → level_at o ≤ current_level T
    go None e = omega arith
    go (Some d) e =
        let there = entry_of-there T l.var d e in
        let most : level_of T d.lit ≤ current_level T = level_of-most K T d.lit lawful there.1 in
        let same : level_of T d.lit ≡ d.level = ap (λ v. level_at (entry_of T v)) there.0 ∙ ap level_at e in
        omega arith

-- the levels so far, of the literals so far
abbrev pub AreLevelsOf : Trail → Clause → List ℕ → Type 0
AreLevelsOf T c levels = (n : ℕ) → is_one_of levels n ≡ (nat_lt 0 n && list_any (λ l. nat_eq (level_of T l) n) c)

once-counted : (xs : List ℕ) (n : ℕ) → StandOnce xs → count_by (nat_eq n) xs ≡ cond (is_one_of xs n) 1 0
once-counted xs n once = go (is_one_of xs n) refl
  where
    go : (b : Bool) → is_one_of xs n ≡ b → count_by (nat_eq n) xs ≡ cond b 1 0
    go true q = let one = one-counted n xs q in let most = once n in omega arith
    go false q = none-counted n xs q

count-within : (V : ℕ) (xs : List ℕ) (p : ℕ → Bool) → StandOnce xs → is_one_of xs 0 ≡ false → ((n : ℕ) → 1 ≤ n → p n ≡ is_one_of xs n) → count_by p (variables V) ≡ count_by (λ x. nat_le x V) xs
count-within zero xs p once none same = sym (zeros xs none)
  where
    zeros : (xs : List ℕ) → is_one_of xs 0 ≡ false → count_by (λ x. nat_le x 0) xs ≡ 0
    zeros [] h = refl
    zeros (zero ∷ xs) h = absurd (cc)
    zeros (suc x ∷ xs) h =
        let sum = count-cons (λ x. nat_le x 0) (suc x) xs in
        let high : nat_le (suc x) 0 ≡ false = false_unless (nat_le (suc x) 0) (λ t. let e = leb-true (suc x) 0 t in absurd (omega arith)) in
        let here : ◌≡◌ {A = ℕ} (cond (nat_le (suc x) 0) 1 0) 0 = ap (λ b. cond b 1 0) high in
        let rest = zeros xs (or-false_right (nat_eq 0 (suc x)) (is_one_of xs 0) h) in
        omega (arith, sum, here, rest)
count-within (suc V) xs p once none same =
    let first = count-within V xs p once none same in
    let parts : count_by p (variables V ++ suc V ∷ []) ≡ count_by p (variables V) + cond (p (suc V)) 1 0 = sum_by_push (λ y. cond (p y) 1 0) (variables V) (suc V) in
    let more = count-more V xs in
    let last : cond (p (suc V)) 1 0 ≡ count_by (nat_eq (suc V)) xs = ap (λ b. cond b 1 0) (same (suc V) (omega arith)) ∙ sym (once-counted xs (suc V) once) in
    omega (arith, first, parts, more, last)

all-within : (V : ℕ) (xs : List ℕ) → ((n : ℕ) → is_one_of xs n ≡ true → n ≤ V) → count_by (λ x. nat_le x V) xs ≡ length xs
all-within V [] h = refl
all-within V (x ∷ xs) h =
    let here : nat_le x V ≡ true = le-leb x V (h x (ap (λ b. b || is_one_of xs x) (eq-eqb x x refl))) in
    let rest : count_by (λ x. nat_le x V) xs ≡ length xs = all-within V xs (λ n t. h n (rw t (or_true (nat_eq n x)))) in
    count-cons (λ x. nat_le x V) x xs ∙ rw here (let r = rest in omega arith)
  where
    or_true : (b : Bool) → (b || true) ≡ true
    or_true true = refl
    or_true false = refl

-- each is the current one or one below
list-most : (K : List Clause) (T : Trail) (n : ℕ) (d : Clause) → IsLawful K T → list_any (λ l. nat_eq (level_of T l) n) d ≡ true → n ≤ current_level T
list-most K T n [] lawful t = absurd (cc)
list-most K T n (l ∷ d) lawful t = go (nat_eq (level_of T l) n) refl t (list-most K T n d lawful)
  where
    go : (b : Bool) → nat_eq (level_of T l) n ≡ b → (b || list_any (λ l. nat_eq (level_of T l) n) d) ≡ true → (list_any (λ l. nat_eq (level_of T l) n) d ≡ true → n ≤ current_level T) → n ≤ current_level T
    go true q r more = let same = eqb-true (level_of T l) n q in let most = level-most K T l lawful in omega arith
    go false q r more = more r

pub AreLevelsOf-most : (K : List Clause) (T : Trail) (c : Clause) (levels : List ℕ) (n : ℕ) → IsLawful K T → AreLevelsOf T c levels → is_one_of levels n ≡ true → n ≤ current_level T
AreLevelsOf-most K T c levels n lawful h t = list-most K T n c lawful (and-right (nat_lt 0 n) (list_any (λ l. nat_eq (level_of T l) n) c) (sym (h n) ∙ t))

-- as many levels as the glue says
pub glue-counted : (K : List Clause) (T : Trail) (c : Clause) (levels : List ℕ) → IsLawful K T → StandOnce levels → AreLevelsOf T c levels → length levels ≡ glue T c
glue-counted K T c levels lawful once h =
    sym (count-within (current_level T) levels (λ n. list_any (λ l. nat_eq (level_of T l) n) c) once (h 0) (λ n low. met n (lt-ltb 0 n (omega arith)))
    ∙ all-within (current_level T) levels (λ n t. AreLevelsOf-most K T c levels n lawful h t))
  where
    met : (n : ℕ) → nat_lt 0 n ≡ true → list_any (λ l. nat_eq (level_of T l) n) c ≡ is_one_of levels n
    met n low = sym (h n ∙ ap (λ b. b && list_any (λ l. nat_eq (level_of T l) n) c) low)

-- a level fits the table, and so do they all
pub level-within : (V : ℕ) (K : List Clause) (T : Trail) (l : Literal) → IsLawful K T → IsOver V (literals T) → level_of T l ≤ V
level-within V K T l lawful over =
    let most = level-most K T l lawful in
    let few = current_level-most K T lawful in
    let long = length-lawful V K T lawful (AreOver-from_IsOver V (literals T) over) in
    omega arith

pub glue-within : (V : ℕ) (K : List Clause) (T : Trail) (c : Clause) → IsLawful K T → IsOver V (literals T) → glue T c ≤ V
glue-within V K T c lawful over =
    let most = glue-most T c in
    let few = current_level-most K T lawful in
    let long = length-lawful V K T lawful (AreOver-from_IsOver V (literals T) over) in
    omega arith
