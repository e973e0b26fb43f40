use Rattle.std.proofs.Common.{◌∙◌, ◌≤◌, length, sym, arith}
use Rattle.session.proofs.GatheredLemmas.{IsAttached-more, IsAttached-all}
use Rattle.session.proofs.loading.put_from.Goals as goal

pub loop-place-preserved : goal.loop-place-preserved
loop-place-preserved c =
    let before = c.loop-place.invariant in
    let kept = c.in_ok-put_clause.ensures.kept in
    record {
      attached = IsAttached-more c.args.formula.now.clauses c.args.kernel.now.clauses c.loop-place.kernel.clauses c.put_clause.new.kernel.clauses c.args.from c.loop-place.place c.clause-clause.result.now c.clause-clause.ensures.clause
          c.in_ok-put_clause.ensures.clauses before.attached;
      kept = record { vars = kept.vars ∙ before.kept.vars; order = kept.order ∙ before.kept.order; memory = kept.memory };
      room = c.put_clause.ensures.room ∙ (before.room ∙ sym kept.vars);
    }

pub returns-clause-all : goal.returns-clause-all
returns-clause-all c is =
    let past : length c.args.formula.now.clauses ≤ c.loop-place.place = let test = c.loop-place-test.false in let many = c.clause_count-place-end.ensures in omega (arith, test, many) in
    IsAttached-all c.args.formula.now.clauses c.args.kernel.now.clauses c.loop-place.kernel.clauses c.args.from c.loop-place.place past c.loop-place.invariant.attached
