use Rattle.gathering.specs.Kept.{nothing}
use Rattle.gathering.proofs.KeptResults.{Keeps-more}
use Rattle.gathering.proofs.checked.kept_results.Goals as goal

pub loop-fact-init : goal.loop-fact-init
loop-fact-init c = record { keeps = λ search checking. rw c.new-results.ensures.items nothing; checking = λ search checking. checking }

pub loop-fact-preserved : goal.loop-fact-preserved
loop-fact-preserved c =
    let inv = c.loop-fact.invariant in
    record {
      keeps = λ search checking.
          Keeps-more search c.args.formula.now c.loop-fact.yielded c.loop-fact.results.items c.put.new.results.items c.in-Some.fact c.in_ok-result.result (c.in_ok-result.ensures.solved search (inv.checking search checking)) c.in_ok-put.ensures (inv.keeps search checking);
      checking = λ search checking. c.solved.ensures.checking search (inv.checking search checking);
    }
