use Rattle.std.proofs.Common.{refl, ◌∙◌, arith, vec_len}
use Rattle.lrat.proofs.OccurrenceLemmas.{enter-more, enter-all, code-below}
use Rattle.lrat.proofs.occurrences.enter.Goals as goal

pub loop-lit-init : goal.loop-lit-init
loop-lit-init c = record {
  entered = λ k e. absurd (cc e);
  chains = c.requires.chains;
  keeps = λ n i on. on;
  len = refl;
}

pub put-requires-clause-code : goal.put-requires-clause-code
put-requires-clause-code c =
    let low = code-below c.args.clause.now c.loop-lit.lit-index c.lit-item.result c.args.vars (vec_len c.args.chains.now.heads) c.requires.over c.loop-lit-test.true c.lit-item.is c.requires.room in
    omega (arith, c.code.ensures, c.loop-lit.invariant.len)

pub returns-in_err-put-clause-keeps : goal.returns-in_err-put-clause-keeps
returns-in_err-put-clause-keeps c = λ n i on. c.put.ensures.keeps n i (c.loop-lit.invariant.keeps n i on)

pub loop-lit-preserved : goal.loop-lit-preserved
loop-lit-preserved c =
    let v = c.loop-lit.invariant in
    record {
      entered = enter-more c.loop-lit.chains c.put.new.self c.args.place c.args.clause.now c.loop-lit.lit-index c.lit-item.result c.loop-lit-test.true c.lit-item.is v.entered c.put.ensures.keeps
          (rw c.code.ensures at c.in_ok-put.ensures.entered);
      chains = c.put.ensures.chains;
      keeps = λ n i on. c.put.ensures.keeps n i (v.keeps n i on);
      len = c.put.ensures.len ∙ v.len;
    }

pub returns-clause-entered : goal.returns-clause-entered
returns-clause-entered c = enter-all c.loop-lit.chains c.args.place c.args.clause.now c.loop-lit.lit-index c.loop-lit-test.false c.loop-lit.invariant.entered
