-- The pure variables made false in a model.
use Rattle.std.proofs.Common.{◌≡◌, ℕ, suc, ◌+◌, ◌-◌, ◌<◌, Bool, true, false, not, ◌&&◌, List, [], ◌∷◌, length, refl, sym, ap, subst, ◌∙◌, arith, get_or, if◌then◌else◌}
use Rattle.theory.specs.Literals.{Literal, IsVariable, has, negative}
use Rattle.theory.specs.Truth.{Formula, Assignment, IsOver, IsFormula, Satisfies, value}
use Rattle.theory.specs.Pure.{is_pure, pure_literals, searched}
use Rattle.theory.proofs.searching.PureModels.{purified, length-purified, value-purified, Satisfies-purified}
use Rattle.theory.proofs.searching.PureVariables.{IsOver-pure_literals, has-pure_literals, has-from_pure_literals}
use Rattle.strategies.specs.Lowering.{IsFalsified}

-- lists of the same values are the same
same-values : (M N : Assignment) → length M ≡ length N → ((i : ℕ) → i < length M → get_or M i false ≡ get_or N i false) → M ≡ N
same-values [] [] long each = refl
same-values [] (c ∷ N) long each = absurd (cc)
same-values (b ∷ M) [] long each = absurd (cc)
same-values (b ∷ M) (c ∷ N) long each =
    ap (λ x. x ∷ M) (each 0 (omega arith)) ∙ ap (λ L. c ∷ L) (same-values M N (omega arith) (λ i l. each (suc i) (omega arith)))

-- a variable's negation is a pure literal if the variable is pure
pure-has : (F : Formula) (v : ℕ) → IsVariable F.vars v → has (pure_literals F) (negative v) ≡ is_pure F.clauses v
pure-has F v variable = go (has (pure_literals F) (negative v)) (is_pure F.clauses v) refl refl
  where
    go : (h p : Bool) → has (pure_literals F) (negative v) ≡ h → is_pure F.clauses v ≡ p → h ≡ p
    go true p e q = sym (has-from_pure_literals F (negative v) e).2 ∙ q
    go false false e q = refl
    go false true e q = absurd (let there = has-pure_literals F v variable q in cc)

lowered-value : (b h : Bool) → (b && not h) ≡ (if h then false else b)
lowered-value true true = refl
lowered-value true false = refl
lowered-value false true = refl
lowered-value false false = refl

-- made false in a model of the formula, they give one of their clauses too
pub falsified-is : (F : Formula) (M N : Assignment) → Satisfies F M → length N ≡ length M → IsFalsified (pure_literals F) M N → N ≡ purified F M
falsified-is F M N h long is = same-values N (purified F M) (long ∙ sym (length-purified F M)) each
  where
    each : (i : ℕ) → i < length N → get_or N i false ≡ get_or (purified F M) i false
    each i l =
        let within = h.values in
        let variable : IsVariable (length M) (1 + i) = (omega arith, omega arith) in
        let variable_too : IsVariable F.vars (1 + i) = (omega arith, omega arith) in
        let place : 1 + i - 1 ≡ i = omega arith in
        let here : value N (1 + i) ≡ value (purified F M) (1 + i) =
        is (1 + i) variable ∙ lowered-value (value M (1 + i)) (has (pure_literals F) (negative (1 + i)))
        ∙ ap (λ p. if p then false else value M (1 + i)) (pure-has F (1 + i) variable_too) ∙ sym (value-purified F M (1 + i) (omega arith)) in
        subst (λ k. get_or N k false ≡ get_or (purified F M) k false) place here

pub Satisfies-falsified : (F : Formula) (units : List Literal) (M N : Assignment) → IsFormula F → units ≡ pure_literals F → Satisfies F M → length N ≡ length M → IsFalsified units M N → Satisfies (searched F) N
Satisfies-falsified F units M N formed pure h long is =
    subst (Satisfies (searched F)) (sym (falsified-is F M N h long (subst (λ ls. IsFalsified ls M N) pure is))) (Satisfies-purified F M formed h)

-- the pure literals are of the variables that a model has values of
pub over-units : (F : Formula) (units : List Literal) (M : Assignment) → units ≡ pure_literals F → Satisfies F M → IsOver (length M) units
over-units F units M pure h = subst (λ V. IsOver V units) (sym h.values) (subst (IsOver F.vars) (sym pure) (IsOver-pure_literals F))
