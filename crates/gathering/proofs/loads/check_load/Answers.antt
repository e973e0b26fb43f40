use Rattle.std.proofs.lemmas.Result.{IfOk-weaker}
use Rattle.gathering.proofs.KeptResults.{Keeps-checked, Keeps-true}
use Rattle.gathering.proofs.loads.check_load.Goals as goal

pub returns-clause-home : goal.returns-clause-home
returns-clause-home c =
    let F = c.args.formula.now in
    let search = c.args.plan.search in
    let done = c.kept_results-results in
    record {
      checker = done.ensures.checking search c.requires;
      results = IfOk-weaker done.result _ _ (λ rs keeps. Keeps-checked search F c.args.load.facts.items rs.items keeps) (done.ensures.keeps search c.requires);
    }

pub returns-clause-own : goal.returns-clause-own
returns-clause-own c = λ are.
    let search = c.args.plan.search in
    let done = c.kept_results-results in
    IfOk-weaker done.result _ _ (λ rs keeps. Keeps-true search c.args.formula.now c.args.plan c.args.load.facts.items rs.items are keeps) (done.ensures.keeps search c.requires)
