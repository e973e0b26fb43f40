use Rattle.std.proofs.Common.{◌≡◌, ap, sym, subst, ◌∙◌, arith, length, nat_lt}
use Rattle.lrat.proofs.StreamLemmas.{lt-true, lt-false}
use Rattle.std.specs.List.{list_any}
use Rattle.tidying.specs.Tidied.{has_repeats, once}
use Rattle.tidying.proofs.TextLemmas.{clause-at, passed-over, stays, here, further}
use Rattle.tidying.proofs.literals.has_repeats.Goals.{else-is_open-via-then-is_open+else-literals-clause, else-is_open-via-else-is_open}
use Rattle.tidying.proofs.literals.has_repeats.Goals as goal

pub returns-then-literals-clause : goal.returns-then-literals-clause
returns-then-literals-clause c =
    let F = c.args.formula.now in
    let count = c.clause_count-place-end.ensures.count in
    let test = c.loop-place-test.true in
    let is = clause-at F.clauses c.loop-place.place c.clause-clause.result.now c.clause-clause.ensures.clause in
    let kept = c.if-is_open.true in
    let split = stays F.clauses c.loop-place.place c.clause-clause.result.now (omega (arith, count, test)) is (sym c.in_ok-is_open.ensures.both ∙ kept) in
    let lits = c.literals.ensures ∙ c.in_ok-is_open.ensures.once kept in
    let long = ap length lits in
    let less = c.if-literals-clause.true in
    here c.clause-clause.result.now _ _ (has_repeats F) split (lt-true _ _ (omega (arith, long, less))) c.loop-place.invariant.left

pub loop-place-preserved : goal.loop-place-preserved
loop-place-preserved c =
    let F = c.args.formula.now in
    let before = c.loop-place.invariant in
    let count = c.clause_count-place-end.ensures.count in
    let test = c.loop-place-test.true in
    let is = clause-at F.clauses c.loop-place.place c.clause-clause.result.now c.clause-clause.ensures.clause in
    record {
      left = elim c.else-is_open.branch [
        | else-is_open-via-then-is_open+else-literals-clause w ↦
            let kept = w.if-is_open.true in
            let split = stays F.clauses c.loop-place.place c.clause-clause.result.now (omega (arith, count, test)) is (sym c.in_ok-is_open.ensures.both ∙ kept) in
            let long = ap length (w.literals.ensures ∙ c.in_ok-is_open.ensures.once kept) in
            let less = w.if-literals-clause.false in
            further c.clause-clause.result.now _ _ (has_repeats F) split (lt-false _ _ (omega (arith, long, less))) before.left
        | else-is_open-via-else-is_open w ↦
            let both = w.if-is_open.false in
            subst (λ x. list_any (λ d. nat_lt (length (once d)) (length d)) x ≡ has_repeats F) (passed-over F.clauses c.loop-place.place c.clause-clause.result.now (omega (arith, count, test)) is (sym c.in_ok-is_open.ensures.both ∙ both)) before.left
      ];
      vars = c.take.ensures.vars ∙ before.vars;
    }
