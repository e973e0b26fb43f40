-- A plan that divides no formula, and how many cubes a division gives.
use Rattle.std.proofs.Common.{◌≡◌, ℕ, zero, suc, ◌+◌, ◌*◌, ◌^◌, ◌≤◌, ◌<◌, ◌↔◌, Bool, true, false, nat_lt, ltb-true, ltb-false, List, [], ◌∷◌, ◌++◌, length, refl, subst, inl, inr, length-append, arith}
use Rattle.std.proofs.Math.Nat.{pow-succ'}
use Rattle.std.proofs.Math.Pow.{pow_mono}
use Rattle.theory.specs.Literals.{Literal}
use Rattle.theory.specs.Truth.{Formula, Assignment}
use Rattle.theory.specs.Plans.{Plan, undivided, unsimplifying}
use Rattle.theory.specs.Search.{Outcome}
use Rattle.theory.specs.Dividing.{IsDivisible, IsLookedAt}
use Rattle.theory.specs.Runs.{RunsBy, Runs, by_search, by_look}
use Rattle.theory.specs.Trees.{Tree, satisfied, refutation, split, IsTree, false_half, true_half, cubes_at, IsFirstLeaf, here, on_left, on_right}
use Rattle.theory.specs.Reading.{Limits, ReadsWithin, formula}
use Rattle.theory.specs.Beginnings.{Beginning, begun, model_back, IsToSimplify, Begins, directly, simpler}
use Rattle.theory.specs.FirstModel.{IsFound}
use Rattle.theory.specs.Written.{IsWrittenWithin}

-- the second plan gives each cube the outcome that the first one does
abbrev Agree : Formula → Plan → Plan → Type 0
Agree F p q = (Q : List Literal) (o : Outcome) → Runs F p Q o → Runs F q Q o

IsTree-agree : (F : Formula) (p q : Plan) (Q : List Literal) (t : Tree) → Agree F p q → IsTree F p Q t → IsTree F q Q t
IsTree-agree F p q Q (satisfied M) a h = a Q _ h
IsTree-agree F p q Q (refutation lines) a h = a Q _ h
IsTree-agree F p q Q (split x left right) a h = (a Q _ h.0, IsTree-agree F p q (false_half Q x) left a h.1, IsTree-agree F p q (true_half Q x) right a h.2)

IsFirstLeaf-agree : (F : Formula) (p q : Plan) (Q : List Literal) (M : Assignment) → Agree F p q → IsFirstLeaf F p Q M → IsFirstLeaf F q Q M
IsFirstLeaf-agree F p q Q M a (here h) = here (a Q _ h)
IsFirstLeaf-agree F p q Q M a (on_left {x = x} h more) = on_left (a Q _ h) (IsFirstLeaf-agree F p q (false_half Q x) M a more)
IsFirstLeaf-agree F p q Q M a (on_right {x = x} left h t none more) =
    on_right left (a Q _ h) (IsTree-agree F p q (false_half Q x) left a t) none (IsFirstLeaf-agree F p q (true_half Q x) M a more)

-- with no division wanted, no cube is looked at
never-looked : (F : Formula) (plan : Plan) (Q : List Literal) → IsLookedAt F (undivided plan) Q → ⊥
never-looked F plan Q l = let few = l.few in omega (arith, few)

pub Runs-undivided : (F : Formula) (plan : Plan) (Q : List Literal) (o : Outcome) → ¬ (IsDivisible F plan) → Runs F plan Q o → Runs F (undivided plan) Q o
Runs-undivided F plan Q o whole (by_search n runs) = by_search (never-looked F plan Q) runs
Runs-undivided F plan Q o whole (by_look l looks) = absurd (whole l.divisible)

pub Runs-divided : (F : Formula) (plan : Plan) (Q : List Literal) (o : Outcome) → ¬ (IsDivisible F plan) → Runs F (undivided plan) Q o → Runs F plan Q o
Runs-divided F plan Q o whole (by_search n runs) = by_search (λ l. whole l.divisible) runs
Runs-divided F plan Q o whole (by_look l looks) = absurd (never-looked F plan Q l)

search-of : (F : Formula) (plan : Plan) (Q : List Literal) (o : Outcome) → Runs F (undivided plan) Q o → RunsBy plan.search F plan.budget Q o
search-of F plan Q o (by_search n runs) = runs
search-of F plan Q o (by_look l looks) = absurd (never-looked F plan Q l)

-- the outcome by the search is the one by a plan that divides no formula
pub Runs-by_search : (F : Formula) (plan : Plan) (Q : List Literal) (o : Outcome) → plan.divide ≡ 0 → RunsBy plan.search F plan.budget Q o → Runs F plan Q o
Runs-by_search F plan Q o none runs = by_search (λ l. let few = l.few in omega (arith, few, none)) runs

pub Runs-searched : (F : Formula) (plan : Plan) (Q : List Literal) (o : Outcome) → (Runs F (undivided plan) Q o ↔ RunsBy plan.search F plan.budget Q o)
Runs-searched F plan Q o = (search-of F plan Q o, Runs-by_search F (undivided plan) Q o refl)

-- a division changes nothing of how a search begins
Begins-undivided : (F : Formula) (plan : Plan) (b : Beginning) → Begins plan F b → Begins (undivided plan) F b
Begins-undivided F plan b (directly n e) = directly (λ y. n (record { wanted = y.wanted; hard = y.hard })) e
Begins-undivided F plan b (simpler y s) = simpler (record { wanted = y.wanted; hard = y.hard }) s

-- The texts are the other plan's too, where its searches begin in the same way and agree.
IsWritten-agree : (L : Limits) (bytes : List ℕ) (plan other : Plan) (proof answer : List ℕ) → plan.search ≡ other.search
    → ((F : Formula) (b : Beginning) → ReadsWithin L bytes (formula F) → Begins plan F b → Begins other F b × Agree (begun F b) plan other)
    → IsWrittenWithin L bytes plan proof answer → IsWrittenWithin L bytes other proof answer
IsWritten-agree L bytes plan other proof answer same both w = record {
  value = w.value;
  reads = w.reads;
  texts = elim w.texts [
    | inl s ↦ inl (record {
      beginning = s.beginning;
      begins = (both w.value s.beginning w.reads s.begins).0;
      model = s.model;
      found = subst (λ search. IsFound search w.value (model_back w.value s.beginning s.model)) same s.found;
      is_result = IsFirstLeaf-agree (begun w.value s.beginning) plan other [] s.model (both w.value s.beginning w.reads s.begins).1 s.is_result;
      proof_is = s.proof_is;
      answer_is = s.answer_is;
    })
    | inr u ↦ inr (record {
      unsatisfiable = u.unsatisfiable;
      beginning = u.beginning;
      begins = (both w.value u.beginning w.reads u.begins).0;
      tree = u.tree;
      is_tree = IsTree-agree (begun w.value u.beginning) plan other [] u.tree (both w.value u.beginning w.reads u.begins).1 u.is_tree;
      proof_is = u.proof_is;
      answer_is = u.answer_is;
    })
  ];
}

-- so they are those of the same plan without a division
pub IsWritten-undivided : (L : Limits) (bytes : List ℕ) (plan : Plan) (proof answer : List ℕ)
    → ((F : Formula) (b : Beginning) → ReadsWithin L bytes (formula F) → Begins plan F b → ¬ (IsDivisible (begun F b) plan))
    → IsWrittenWithin L bytes plan proof answer → IsWrittenWithin L bytes (undivided plan) proof answer
IsWritten-undivided L bytes plan proof answer whole w =
    IsWritten-agree L bytes plan (undivided plan) proof answer refl
    (λ F b reads begins. (Begins-undivided F plan b begins, λ Q o runs. Runs-undivided (begun F b) plan Q o (whole F b reads begins) runs)) w

-- A plan that simplifies no formula gives each cube the same outcome,
pub Runs-unsimplifying : (F : Formula) (plan : Plan) (Q : List Literal) (o : Outcome) → Runs F plan Q o → Runs F (unsimplifying plan) Q o
Runs-unsimplifying F plan Q o (by_search n runs) = by_search (λ l. n (record { few = l.few; divisible = record { wanted = l.divisible.wanted; by = l.divisible.by } })) runs
Runs-unsimplifying F plan Q o (by_look l looks) = by_look (record { few = l.few; divisible = record { wanted = l.divisible.wanted; by = l.divisible.by } }) looks

pub Runs-simplifying : (F : Formula) (plan : Plan) (Q : List Literal) (o : Outcome) → Runs F (unsimplifying plan) Q o → Runs F plan Q o
Runs-simplifying F plan Q o (by_search n runs) = by_search (λ l. n (record { few = l.few; divisible = record { wanted = l.divisible.wanted; by = l.divisible.by } })) runs
Runs-simplifying F plan Q o (by_look l looks) = by_look (record { few = l.few; divisible = record { wanted = l.divisible.wanted; by = l.divisible.by } }) looks

-- and begins in the same way with a formula that isn't simplified,
pub Begins-unsimplifying : (F : Formula) (plan : Plan) (b : Beginning) → ¬ (IsToSimplify F plan) → Begins plan F b → Begins (unsimplifying plan) F b
Begins-unsimplifying F plan b soon (directly n e) = directly (λ y. (let w = y.wanted in absurd (cc))) e
Begins-unsimplifying F plan b soon (simpler y s) = absurd (soon y)

-- so the texts are the same.
pub IsWritten-unsimplifying : (L : Limits) (bytes : List ℕ) (plan : Plan) (proof answer : List ℕ) → ((F : Formula) → ReadsWithin L bytes (formula F) → ¬ (IsToSimplify F plan))
    → IsWrittenWithin L bytes plan proof answer → IsWrittenWithin L bytes (unsimplifying plan) proof answer
IsWritten-unsimplifying L bytes plan proof answer soon w =
    IsWritten-agree L bytes plan (unsimplifying plan) proof answer refl
    (λ F b reads begins. (Begins-unsimplifying F plan b (soon F reads) begins, λ Q o runs. Runs-unsimplifying (begun F b) plan Q o runs)) w

-- a tree has few cubes of a size
pub cubes_at-few : (n : ℕ) (t : Tree) → cubes_at n t ≤ 2 ^ n
cubes_at-few zero t = omega arith
cubes_at-few (suc n) (satisfied M) = omega arith
cubes_at-few (suc n) (refutation lines) = omega arith
cubes_at-few (suc n) (split x left right) =
    let one = cubes_at-few n left in
    let other = cubes_at-few n right in
    let twice : 2 ^ suc n ≡ 2 * 2 ^ n = pow-succ' 2 n in
    omega (arith, one, other, twice)

-- a cube that is looked at is small
pub IsLookedAt-small : (F : Formula) (plan : Plan) (Q : List Literal) (k : ℕ) → plan.divide ≤ 2 ^ k → IsLookedAt F plan Q → length Q < k
IsLookedAt-small F plan Q k wide l = go (nat_lt (length Q) k) refl
  where
    go : (b : Bool) → nat_lt (length Q) k ≡ b → length Q < k
    go true e = ltb-true (length Q) k e
    go false e = let more = pow_mono {i = k} {j = length Q} (ltb-false (length Q) k e) in let few = l.few in absurd (omega (arith, more, few, wide))

-- and a half of it that isn't looked at is of the first size that gives enough cubes
pub IsLookedAt-half : (F : Formula) (plan : Plan) (Q : List Literal) (l : Literal) → IsLookedAt F plan Q → ¬ (IsLookedAt F plan (Q ++ l ∷ []))
    → (plan.divide ≤ 2 ^ (length Q + 1)) × (2 ^ length Q < plan.divide)
IsLookedAt-half F plan Q l whole half = (go (nat_lt (2 ^ (length Q + 1)) plan.divide) refl, whole.few)
  where
    size : length (Q ++ l ∷ []) ≡ length Q + 1
    size = length-append Q (l ∷ [])

    go : (b : Bool) → nat_lt (2 ^ (length Q + 1)) plan.divide ≡ b → plan.divide ≤ 2 ^ (length Q + 1)
    go true e = absurd (half (record { few = rw size (ltb-true (2 ^ (length Q + 1)) plan.divide e); divisible = whole.divisible }))
    go false e = ltb-false (2 ^ (length Q + 1)) plan.divide e
