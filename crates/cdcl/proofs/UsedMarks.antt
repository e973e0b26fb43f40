-- Marks of learnt clauses, of which some become used.
use Rattle.std.proofs.Common.{◌≡◌, ℕ, zero, suc, ◌+◌, ◌<◌, Bool, true, false, ◌||◌, List, [], ◌∷◌, ◌++◌, length, get_or, slice_set, refl, ap, ap₂, sym, ◌∙◌, nat_eq, eqb-true, eq-eqb, arith, if◌then◌else◌}
use Rattle.std.specs.List.{list_any}
use Rattle.theory.specs.Forgetting.{Mark, fresh_mark, with_used}
use Rattle.theory.proofs.literals.LiteralSets.{false_unless}

pub length-with_used : (ns : List ℕ) (n : ℕ) (marks : List Mark) → length (with_used ns n marks) ≡ length marks
length-with_used ns n [] = refl
length-with_used ns n (m ∷ marks) = ap suc (length-with_used ns (n + 1) marks)

pub with_used-first : (n : ℕ) (marks : List Mark) → marks ≡ with_used [] n marks
with_used-first n [] = refl
with_used-first n (m ∷ marks) = ap (λ (ms : List Mark). m ∷ ms) (with_used-first (n + 1) marks)

-- no number of theirs
pub with_used-none : (k n : ℕ) (marks : List Mark) → ((i : ℕ) → i < length marks → k ≡ n + i → ⊥) → with_used (k ∷ []) n marks ≡ marks
with_used-none k n [] out = refl
with_used-none k n (m ∷ marks) out =
    let here : nat_eq n k ≡ false = false_unless (nat_eq n k) (λ t. out 0 (omega arith) (let e = eqb-true n k t in omega arith)) in
    let rest = with_used-none k (n + 1) marks (λ i less e. out (i + 1) (omega arith) (omega (arith, e))) in
    rw (here, rest) refl

-- one of them
pub with_used-one : (n at : ℕ) (marks : List Mark) (d : Mark) → at < length marks → with_used ((n + at) ∷ []) n marks ≡ slice_set marks at (fresh_mark (get_or marks at d).glue)
with_used-one n at [] d h = absurd (omega arith)
with_used-one n zero (m ∷ marks) d h =
    let here : nat_eq n (n + 0) ≡ true = eq-eqb n (n + 0) (omega arith) in
    let rest = with_used-none (n + 0) (n + 1) marks (λ i less e. absurd (omega (arith, e))) in
    rw (here, rest) refl
with_used-one n (suc at) (m ∷ marks) d h =
    let here : nat_eq n (n + suc at) ≡ false = false_unless (nat_eq n (n + suc at)) (λ t. let e = eqb-true n (n + suc at) t in absurd (omega (arith, e))) in
    let up : n + suc at ≡ n + 1 + at = omega arith in
    let rest = with_used-one (n + 1) at marks d (omega arith) in
    rw here (ap (λ k. m ∷ with_used (k ∷ []) (n + 1) marks) up ∙ ap (λ (ms : List Mark). m ∷ ms) rest)

-- one number after the others
pub with_used-push : (ns : List ℕ) (k n : ℕ) (marks : List Mark) → with_used (k ∷ []) n (with_used ns n marks) ≡ with_used (ns ++ k ∷ []) n marks
with_used-push ns k n [] = refl
with_used-push ns k n (m ∷ marks) = ap₂ (λ (x : Mark) (xs : List Mark). x ∷ xs) (head ∙ ap (λ b. if b then fresh_mark m.glue else m) (sym (any-push ns))) (with_used-push ns k (n + 1) marks)
  where
    any-push : (xs : List ℕ) → list_any (nat_eq n) (xs ++ k ∷ []) ≡ (list_any (nat_eq n) xs || nat_eq n k)
    any-push [] = both (nat_eq n k)
      where
        both : (b : Bool) → (b || false) ≡ b
        both true = refl
        both false = refl
    any-push (x ∷ xs) = go (nat_eq n x) (any-push xs)
      where
        go : (b : Bool) → list_any (nat_eq n) (xs ++ k ∷ []) ≡ (list_any (nat_eq n) xs || nat_eq n k) → (b || list_any (nat_eq n) (xs ++ k ∷ [])) ≡ ((b || list_any (nat_eq n) xs) || nat_eq n k)
        go true e = refl
        go false e = e

    head : (if list_any (nat_eq n) (k ∷ []) then fresh_mark (if list_any (nat_eq n) ns then fresh_mark m.glue else m).glue else (if list_any (nat_eq n) ns then fresh_mark m.glue else m))
        ≡ (if list_any (nat_eq n) ns || nat_eq n k then fresh_mark m.glue else m)
    head = go (nat_eq n k) (list_any (nat_eq n) ns)
      where
        go : (b a : Bool) → (if b || false then fresh_mark (if a then fresh_mark m.glue else m).glue else (if a then fresh_mark m.glue else m)) ≡ (if a || b then fresh_mark m.glue else m)
        go true true = refl
        go true false = refl
        go false true = refl
        go false false = refl
