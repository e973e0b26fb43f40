use Rattle.std.proofs.Common.{◌≡◌, ℕ, List, ap, ap₂, sym, ◌∙◌, ◌++◌, ◌∷◌, [], map, length, arith}
use Rattle.theory.specs.Truth.{Formula}
use Rattle.theory.specs.Literals.{Clause}
use Rattle.theory.specs.Proofs.{numbers_from}
use Rattle.simplify.specs.Left.{left_at}
use Rattle.simplify.proofs.LeftClauses.{left-next}
use Rattle.simplify.proofs.left.left_formula.Goals as goal

pub loop-before-preserved : goal.loop-before-preserved
loop-before-preserved c =
    c.in_ok-push.ensures.pushed
    ∙ (ap (λ (f : Formula). record f { clauses = f.clauses ++ c.clause_left.result.now ∷ [] }) c.loop-before.invariant
    ∙ (ap (λ (d : Clause). record { vars = c.args.formula.now.vars; clauses = map (left_at c.args.formula.now c.args.database.now.entries) (numbers_from 1 c.loop-before.before) ++ d ∷ [] }) c.clause_left.ensures.clause
    ∙ ap (λ (K : List Clause). record { vars = c.args.formula.now.vars; clauses = K }) (left-next c.args.formula.now c.args.database.now.entries c.loop-before.before)))

pub returns : goal.returns
returns c =
    let end : c.loop-before.before ≡ length c.args.database.now.entries = (let a = c.loop-before-test.false in let b = c.last-before-end.ensures.last in let d = c.loop-before.auto.before-end in omega arith) in
    c.loop-before.invariant ∙ ap₂ (λ (V n : ℕ). record { vars = V; clauses = map (left_at c.args.formula.now c.args.database.now.entries) (numbers_from 1 n) }) (sym c.requires.1) end
