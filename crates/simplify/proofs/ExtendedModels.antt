-- The values of eliminated variables, from the last to the first, written into the values of all.
use Rattle.std.proofs.Common.{◌≡◌, ℕ, suc, ◌-◌, ◌<◌, Bool, true, false, not, cond, ◌||◌, nat_eq, eqb-true, eq-eqb, List, [], ◌∷◌, map, length, get_or, set, length-set, get_or-set_same, get_or-set_other, refl, ap, ap₂, sym, ◌∙◌, ◌⊎◌, inl, inr, All, arith}
use Rattle.std.proofs.lemmas.Bool.{cases_eq}
use Rattle.std.proofs.lemmas.List.{same_lists, get_or_default}
use Rattle.std.proofs.lemmas.List.Elements.{All-head, All-tail}
use Rattle.theory.specs.Literals.{Literal, Clause, same, same_sign, positive, without, IsVariable}
use Rattle.theory.specs.Truth.{Assignment, IsOver, value, is_true_clause}
use Rattle.theory.specs.Trails.{variables}
use Rattle.theory.specs.Simplifying.{Eliminated, with_value, is_needed, extended, extended_model}
use Rattle.theory.proofs.literals.LiteralSets.{false_unless}
use Rattle.theory.proofs.searching.MappedVariables.{at-variable, length-mapped}

-- truth values that are alike on the variables 1 to V
abbrev Agree : ℕ → (ℕ → Bool) → (ℕ → Bool) → Type 0
Agree V m n = (v : ℕ) → IsVariable V v → m v ≡ n v

clause-agrees : (V : ℕ) (m n : ℕ → Bool) (q : Literal) (c : Clause) → IsOver V c → Agree V m n → is_true_clause m (without c q) ≡ is_true_clause n (without c q)
clause-agrees V m n q [] over same_values = refl
clause-agrees V m n q (l ∷ c) over same_values =
    go (same q l) (clause-agrees V m n q c (All-tail (λ k. IsVariable V k.var) l c over) same_values)
  where
    here : m l.var ≡ n l.var
    here = same_values l.var (All-head (λ k. IsVariable V k.var) l c over)

    go : (b : Bool) → is_true_clause m (without c q) ≡ is_true_clause n (without c q)
        → is_true_clause m (cond (not b) (l ∷ without c q) (without c q)) ≡ is_true_clause n (cond (not b) (l ∷ without c q) (without c q))
    go true e = e
    go false e = ap₂ (λ a b. same_sign l.positive a || b) here e

needed-agrees : (V : ℕ) (m n : ℕ → Bool) (x : ℕ) (cs : List Clause) → All (IsOver V) cs → Agree V m n → is_needed m (record { var = x; clauses = cs }) ≡ is_needed n (record { var = x; clauses = cs })
needed-agrees V m n x [] over same_values = refl
needed-agrees V m n x (c ∷ cs) over same_values =
    ap₂ (λ a b. not a || b) (clause-agrees V m n (positive x) c (All-head (IsOver V) c cs over) same_values) (needed-agrees V m n x cs (All-tail (IsOver V) c cs over) same_values)

-- what stands at a place
at-place : (f : ℕ → Bool) (V k : ℕ) (d : Bool) → k < V → get_or (map f (variables V)) k d ≡ f (suc k)
at-place f V k d within = let at : suc k - 1 ≡ k = omega arith in ap (λ i. get_or (map f (variables V)) i d) (sym at) ∙ at-variable f V (suc k) d (omega arith, omega arith)

-- a value that is written at the place of a variable
written : (f : ℕ → Bool) (V x : ℕ) (b : Bool) → IsVariable V x → map (with_value f x b) (variables V) ≡ set (map f (variables V)) (x - 1) b
written f V x b h = same_lists (map (with_value f x b) (variables V)) (set (map f (variables V)) (x - 1) b) (length-mapped (with_value f x b) V ∙ sym (length-set (map f (variables V)) (x - 1) b ∙ length-mapped f V)) each
  where
    long : length (map f (variables V)) ≡ V
    long = length-mapped f V

    each : (k : ℕ) (d : Bool) → k < length (map (with_value f x b) (variables V)) → get_or (map (with_value f x b) (variables V)) k d ≡ get_or (set (map f (variables V)) (x - 1) b) k d
    each k d l = go (cases_eq (suc k) x)
      where
        within : k < V
        within = omega (arith, length-mapped (with_value f x b) V)

        go : (suc k ≡ x) ⊎ (suc k ≡ x → ⊥) → get_or (map (with_value f x b) (variables V)) k d ≡ get_or (set (map f (variables V)) (x - 1) b) k d
        go (inl e) =
            let at : k ≡ x - 1 = omega arith in
            let there : x - 1 < length (map f (variables V)) = omega (arith, long) in
            at-place (with_value f x b) V k d within ∙ (ap (λ c. cond c b (f (suc k))) (eq-eqb (suc k) x e) ∙ (sym (get_or-set_same (map f (variables V)) (x - 1) b d there) ∙ ap (λ i. get_or (set (map f (variables V)) (x - 1) b) i d) (sym at)))
        go (inr other) =
            let low = h.0 in
            let apart : ¬ (k ≡ x - 1) = λ at. other (omega arith) in
            at-place (with_value f x b) V k d within ∙ (ap (λ c. cond c b (f (suc k))) (false_unless (nat_eq (suc k) x) (λ t. other (eqb-true (suc k) x t)))
            ∙ (sym (at-place f V k d within) ∙ sym (get_or-set_other (map f (variables V)) (x - 1) k b d apart)))

-- one eliminated variable more
pub extended-first : (V : ℕ) (M : Assignment) (e : Eliminated) (es : List Eliminated) → IsVariable V e.var → All (IsOver V) e.clauses
    → extended_model V (e ∷ es) M ≡ set (extended_model V es M) (e.var - 1) (is_needed (value (extended_model V es M)) e)
extended-first V M e es h over =
    written (extended (value M) es) V e.var (is_needed (extended (value M) es) e) h
    ∙ ap (set (extended_model V es M) (e.var - 1)) (needed-agrees V (extended (value M) es) (value (extended_model V es M)) e.var e.clauses over (λ v w. sym (at-variable (extended (value M) es) V v false w)))

-- and none
pub extended-none : (M : Assignment) → extended_model (length M) [] M ≡ M
extended-none M = same_lists (map (value M) (variables (length M))) M (length-mapped (value M) (length M)) each
  where
    each : (k : ℕ) (d : Bool) → k < length (map (value M) (variables (length M))) → get_or (map (value M) (variables (length M))) k d ≡ get_or M k d
    each k d l =
        let within : k < length M = omega (arith, length-mapped (value M) (length M)) in
        let at : suc k - 1 ≡ k = omega arith in
        at-place (value M) (length M) k d within ∙ (ap (λ i. get_or M i false) at ∙ get_or_default M k false d within)

-- whether a clause has no true literal but perhaps the variable itself
abbrev pub is_without : (ℕ → Bool) → ℕ → Clause → Bool
is_without m x c = not (is_true_clause m (without c (positive x)))
