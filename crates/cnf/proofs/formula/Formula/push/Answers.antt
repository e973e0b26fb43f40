use Rattle.std.proofs.Common.{◌≡◌, ◌+◌, ◌∙◌, ◌∷◌, ◌++◌, [], List, length, length-append, ap, arith}
use Rattle.std.proofs.lemmas.List.Sums.{sum_by-append}
use Rattle.std.proofs.lemmas.List.Elements.{All-push}
use Rattle.std.specs.List.{sum_by}
use Rattle.theory.specs.Literals.{Clause}
use Rattle.theory.specs.Truth.{IsOver}
use Rattle.cnf.proofs.formula.Formula.push.Goals as goal

pub invariant_of-self : goal.invariant_of-self
invariant_of-self c = rw c.in_err-push.ensures.err c.self.invariant

pub invariant_of-self-2 : goal.invariant_of-self-2
invariant_of-self-2 c =
    let s = c.self.inside in
    let asked = (rw (← c.self.view_is) at c.requires) in
    let new : c.push.new.self ≡ s.clauses ++ c.args.clause.now ∷ [] = c.in_ok-push.ensures.ok in
    let many : length c.push.new.self ≡ length s.clauses + 1 = ap (λ (K : List Clause). length K) new ∙ length-append s.clauses (c.args.clause.now ∷ []) in
    let literals : sum_by length c.push.new.self ≡ sum_by length s.clauses + sum_by length (c.args.clause.now ∷ []) = ap (λ (K : List Clause). sum_by length K) new ∙ sum_by-append length s.clauses (c.args.clause.now ∷ []) in
    record {
      vars = c.self.invariant.vars;
      clauses = omega (arith, many);
      literals = omega (arith, literals);
      formula = rw new (All-push (IsOver s.vars) s.clauses c.args.clause.now c.self.invariant.formula asked);
    }
