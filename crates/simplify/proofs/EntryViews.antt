-- The entries of a simplification's clauses say what its definitions say of the clauses.
use Rattle.std.proofs.Common.{◌≡◌, ℕ, ◌*◌, ◌||◌, List, length, refl, ap, ap₂, ◌∙◌, if◌then◌else◌}
use Rattle.std.specs.List.{list_any}
use Rattle.theory.specs.Literals.{Literal, positive, negative, has, has_var}
use Rattle.theory.specs.Checking.{is_empty}
use Rattle.theory.specs.Simplifying.{Simplified, AreNumbered, clauses_in}
use Rattle.theory.specs.Eliminating.{holders, is_alone, units_of, gone_with}
use Rattle.theory.specs.Trying.{has_unit, weight}
use Rattle.simplify.specs.Entries.{numbers_in, holding, units_in, is_unit_of, has_unit_in, has_empty_in, weight_in}
use Rattle.simplify.specs.Stored.{stored}
use Rattle.simplify.proofs.LiteralSets.{has-set, has_var-set, is_alone-set, is_empty-set}
use Rattle.simplify.proofs.EntryNumbers.{numbers-stored, any-stored}

pub holding-stored : (s : Simplified) (l : Literal) → holding l (stored s) ≡ holders l s
holding-stored s l = numbers-stored s (λ c. has c l) (λ c. has c l) (record { none = refl; same = λ n c e. has-set c l })

pub units-stored : (s : Simplified) (l : Literal) → units_in l (stored s) ≡ units_of l s
units-stored s l = numbers-stored s (is_alone l) (is_alone l) (record { none = refl; same = λ n c e. is_alone-set l c })

pub gone-stored : (s : Simplified) (x : ℕ) → numbers_in (λ c. has_var c x) 1 (stored s) ≡ gone_with x s
gone-stored s x = numbers-stored s (λ c. has_var c x) (λ c. has_var c x) (record { none = refl; same = λ n c e. has_var-set c x })

pub unit-stored : (s : Simplified) (x : ℕ) → AreNumbered s.last s.clauses → has_unit_in x (stored s) ≡ has_unit x s
unit-stored s x numbered = any-stored s (is_unit_of x) (is_unit_of x) (λ n c e. ap₂ (λ a b. a || b) (is_alone-set (positive x) c) (is_alone-set (negative x) c)) numbered

pub empty-stored : (s : Simplified) → AreNumbered s.last s.clauses → has_empty_in (stored s) ≡ list_any is_empty (clauses_in s.clauses)
empty-stored s numbered = any-stored s is_empty is_empty (λ n c e. is_empty-set c) numbered

pub weight-stored : (s : Simplified) (x : ℕ) → AreNumbered s.last s.clauses → weight_in (stored s) x ≡ weight s x
weight-stored s x numbered =
    ap (λ b. if b then 0 else length (holding (positive x) (stored s)) * length (holding (negative x) (stored s))) (unit-stored s x numbered)
    ∙ ap₂ (λ (ps qs : List ℕ). if has_unit x s then 0 else length ps * length qs) (holding-stored s (positive x)) (holding-stored s (negative x))
