-- The least variable that propagation from a cube leaves free.
use Rattle.std.proofs.Common.{◌≡◌, ◌↔◌, ℕ, false, IsTrue, List, take, nat_eq, eqb-true, eq-eqb, Some, None, ap, sym, subst, ◌∙◌}
use Rattle.theory.specs.Literals.{Literal}
use Rattle.theory.specs.Truth.{Formula}
use Rattle.theory.specs.Trails.{Trail, cube_trail, least_free}
use Rattle.theory.specs.Propagation.{Propagates, Closed, quiet, conflict, by_number}
use Rattle.theory.specs.Checked.{IsLeastSplit}
use Rattle.theory.proofs.searching.PropagationLemmas.{Propagates-unique}
use Rattle.kernel.specs.State.{State}
use Rattle.kernel.specs.Rules.{rule_of}
use Rattle.kernel.specs.declared.order.Order.TheVariants.{ByNumber}

-- propagation in a kernel that went over to the cube
pub in-cube : (F : Formula) (k m : State) (Q : List Literal) (a : Closed) (T : Trail) → m ≡ record k { clauses = take k.first k.clauses; trail = cube_trail Q } → k.order ≡ ByNumber
    → take k.first k.clauses ≡ F.clauses → Propagates (rule_of m.order) m.clauses m.trail a T → Propagates by_number F.clauses (cube_trail Q) a T
in-cube F k m Q a T e o same h =
    let there : Propagates (rule_of k.order) (take k.first k.clauses) (cube_trail Q) a T = subst (λ (s : State). Propagates (rule_of s.order) s.clauses s.trail a T) e h in
    subst (λ r. Propagates (rule_of r) F.clauses (cube_trail Q) a T) o (subst (λ K. Propagates (rule_of k.order) K (cube_trail Q) a T) same there)

pub least-told : (F : Formula) (Q : List Literal) (T : Trail) (least x : ℕ) → Propagates by_number F.clauses (cube_trail Q) quiet T → Some least ≡ least_free F.vars T
    → IsTrue (nat_eq least x) ↔ IsLeastSplit F Q x
least-told F Q T least x calm told = (
  λ t. record { trail = T; rests = calm; least = sym told ∙ ap Some (eqb-true least x t) },
  λ s.
      let one = Propagates-unique by_number F.clauses (cube_trail Q) T s.trail quiet quiet calm s.rests in
      let found : Some least ≡ Some x = told ∙ (ap (least_free F.vars) one.0 ∙ s.least) in
      let here : least ≡ x = cc in
      eq-eqb least x here,
)

pub none-told : (F : Formula) (Q : List Literal) (T : Trail) (x : ℕ) → Propagates by_number F.clauses (cube_trail Q) quiet T → None ≡ least_free F.vars T
    → IsTrue false ↔ IsLeastSplit F Q x
none-told F Q T x calm told = (
  λ t. absurd (cc),
  λ s.
      let one = Propagates-unique by_number F.clauses (cube_trail Q) T s.trail quiet quiet calm s.rests in
      let found : None ≡ Some x = told ∙ (ap (least_free F.vars) one.0 ∙ s.least) in
      absurd (cc),
)

-- where propagation finds a false clause, nothing is split
pub clash-told : (F : Formula) (Q : List Literal) (T : Trail) (n x : ℕ) → Propagates by_number F.clauses (cube_trail Q) (conflict n) T → IsTrue false ↔ IsLeastSplit F Q x
clash-told F Q T n x clash = (
  λ t. absurd (cc),
  λ s.
      let one = Propagates-unique by_number F.clauses (cube_trail Q) T s.trail (conflict n) quiet clash s.rests in
      let other : conflict n ≡ quiet = one.1 in
      absurd (cc),
)
