use Rattle.std.proofs.Common.{◌≡◌, ◌≤◌, ◌+◌, ◌∙◌, ◌++◌, ◌∷◌, [], take, length, sym, ap, get_or, List, append_assoc, arith}
use Rattle.std.proofs.lemmas.List.{take_more}
use Rattle.std.proofs.lemmas.Option.{get_or_from_slice_get}
use Rattle.theory.specs.Literals.{Clause}
use Rattle.cnf.proofs.Pieces.{take-whole}
use Rattle.kernel.proofs.propagator.Propagator.attach_all.Goals as goal

pub loop-place-preserved : goal.loop-place-preserved
loop-place-preserved c =
    let i = c.loop-place.invariant in
    let e = c.in_ok-attach_first.ensures in
    let xs = c.args.formula.now.clauses in
    let K = c.args.self.now.clauses.given in
    let at = c.loop-place.place in
    let x = c.clause.result.now in
    let inside : at + 1 ≤ length xs = omega (arith, c.loop-place-test.true, c.clause_count-place-end.ensures.count) in
    let read : get_or xs at x ≡ x = get_or_from_slice_get xs at x x c.clause.ensures.clause in
    let one : take at xs ++ x ∷ [] ≡ take (at + 1) xs = sym (take_more xs at x (omega arith) ∙ ap (λ (d : Clause). take at xs ++ d ∷ []) read) in
    record {
      clauses = e.clauses ∙ (ap (λ (ks : List Clause). ks ++ x ∷ []) i.clauses ∙ (append_assoc K (take at xs) (x ∷ []) ∙ ap (λ (ks : List Clause). K ++ ks) one));
      watching = λ s. e.watching c.args.formula.now.vars c.clause.ensures.over (i.watching s);
      lists = e.lists ∙ i.lists;
    }

pub returns-clause-clauses : goal.returns-clause-clauses
returns-clause-clauses c =
    let xs = c.args.formula.now.clauses in
    c.loop-place.invariant.clauses
    ∙ ap (λ (ks : List Clause). c.args.self.now.clauses.given ++ ks) (take-whole c.loop-place.place xs (omega (arith, c.loop-place-test.false, c.loop-place.auto.place-end, c.clause_count-place-end.ensures.count)))
