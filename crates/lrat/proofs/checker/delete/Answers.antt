use Rattle.std.proofs.Common.{rules, drop, add-one, sym, ap, ◌∙◌}
use Rattle.theory.specs.Checking.{deleted}
use Rattle.lrat.specs.Slots.{there}
use Rattle.lrat.proofs.CheckLemmas.{deleted-next}
use Rattle.lrat.proofs.checker.delete.Goals as goal

pub returns-then-not-remove-clause-up_to : goal.returns-then-not-remove-clause-up_to
returns-then-not-remove-clause-up_to c = λ n h. c.remove.ensures.up_to n (c.loop-id.invariant.up_to n h)

pub loop-id-preserved : goal.loop-id-preserved
loop-id-preserved c =
    let removed = c.if-not-remove.false in
    record {
      left = ap (λ n. deleted (there c.remove.new.self) (drop n c.args.ids.now)) (add-one c.loop-id.id-index)
          ∙ deleted-next (there c.loop-id.clauses) (there c.remove.new.self) c.args.ids.now c.loop-id.id-index c.loop-id-test.true (sym c.remove.ensures.found ∙ removed) (c.remove.ensures.removed removed)
          ∙ c.loop-id.invariant.left;
      stay = search rules;
      up_to = λ n h. c.remove.ensures.up_to n (c.loop-id.invariant.up_to n h);
      vars = search rules;
    }
