use Rattle.std.proofs.Common.{◌∙◌, refl, arith}
use Rattle.theory.specs.Propagation.{clause_at}
use Rattle.cnf.specs.Lits.{code}
use Rattle.lookahead.specs.Tables.{at}
use Rattle.lookahead.proofs.ArrangedCounts.{arranged-over, counts-permuted}
use Rattle.lookahead.proofs.TableLemmas.{occurrences-more}
use Rattle.lookahead.proofs.occurrences.count_all.Goals as goal

pub count_clause-requires-clause-over : goal.count_clause-requires-clause-over
count_clause-requires-clause-over c =
    let k = c.args.kernel.now in
    let more = c.loop-before-test.true in
    let most = c.requires.first.0 in
    let next = c.from.ensures in
    rw c.vars-vars.ensures (arranged-over k.vars k.clauses c.from.result c.arranged-clause.result.now (omega (arith, next)) (omega (arith, more, most, next)) c.trail-trail.ensures.clauses_over c.arranged-clause.ensures)

pub loop-before-preserved : goal.loop-before-preserved
loop-before-preserved c =
    let k = c.args.kernel.now in
    let n = c.loop-before.before in
    let more = c.loop-before-test.true in
    let most = c.requires.first.0 in
    let vars = c.vars-vars.ensures in
    let clause = clause_at k.clauses c.from.result in
    record {
      counted = occurrences-more k.vars n c.from.result k.clauses clause c.loop-before.counts c.count_clause.new.counts (omega (arith, more, most)) c.from.ensures refl c.loop-before.invariant.counted
          (λ l u. c.count_clause.ensures.counted l (omega (arith, u, vars)) ∙ counts-permuted clause c.arranged-clause.result.now l (at c.loop-before.counts (code l)) c.arranged-clause.ensures);
      within = c.count_clause.ensures.within;
      room = (c.count_clause.ensures.room.0 ∙ c.loop-before.invariant.room.0, c.count_clause.ensures.room.1 ∙ c.loop-before.invariant.room.1);
    }
