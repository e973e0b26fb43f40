use Rattle.std.proofs.Common.{◌∙◌, ◌++◌, ◌∷◌, [], List, ℕ, ap}
use Rattle.simplify.proofs.EliminatedRows.{variable-ends, variable-beside, variable-more}
use Rattle.simplify.proofs.eliminated.EliminatedVars.push.Goals as goal

pub invariant_of-self-in-Ok : goal.invariant_of-self-in-Ok
invariant_of-self-in-Ok c =
    let own = c.self.inside in
    let put = c.put_clauses.new in
    let es = c.push_reserved.ensures.items ∙ ap (λ (L : List ℕ). L ++ c.len.result ∷ []) c.reserve-2.ensures.items in
    let xs = c.push_reserved-in-Ok.ensures.items ∙ ap (λ (L : List ℕ). L ++ c.args.variable ∷ []) c.reserve.ensures.items in (
      c.in-Ok.ensures.ends,
      variable-ends own.literals.items put.literals.items own.ends.items put.ends.items own.clause_ends.items c.push_reserved.new.self.items own.vars.items c.push_reserved-in-Ok.new.self.items c.args.variable c.len.result _
          c.self.invariant.1 c.in-Ok.ensures.clauses (c.len.ensures ∙ put.ends.ok.0) es,
      variable-beside own.literals.items put.literals.items own.ends.items put.ends.items own.clause_ends.items c.push_reserved.new.self.items own.vars.items c.push_reserved-in-Ok.new.self.items c.args.variable c.len.result []
          c.self.invariant.2 es xs,
    )

pub returns-in-Ok : goal.returns-in-Ok
returns-in-Ok c =
    let own = c.self.inside in
    let put = c.put_clauses.new in
    let es = c.push_reserved.ensures.items ∙ ap (λ (L : List ℕ). L ++ c.len.result ∷ []) c.reserve-2.ensures.items in
    let xs = c.push_reserved-in-Ok.ensures.items ∙ ap (λ (L : List ℕ). L ++ c.args.variable ∷ []) c.reserve.ensures.items in
    variable-more own.literals.items put.literals.items own.ends.items put.ends.items own.clause_ends.items c.push_reserved.new.self.items own.vars.items c.push_reserved-in-Ok.new.self.items c.args.variable c.len.result _
    c.args.self.now c.self.view_is c.self.invariant.1 c.self.invariant.2 c.in-Ok.ensures.clauses (c.len.ensures ∙ put.ends.ok.0) es xs
