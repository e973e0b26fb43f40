use Rattle.std.proofs.Common.{◌∙◌, subst, refl, sym, arith}
use Rattle.kernel.specs.Forgetting.{names}
use Rattle.kernel.proofs.Together.{IsTogether, together-none, together-end, together-low, together-high, together-gone, together-kept, together-within, together-ends, together-all}
use Rattle.kernel.proofs.clauses.clauses.move_together.Goals.{then-not-has, else-not-has}
use Rattle.kernel.proofs.clauses.clauses.move_together.Goals as goal

pub loop-index-init : goal.loop-index-init
loop-index-init c =
    let gone = names c.args.named.now in
    let L = c.args.lits.now in
    let E = c.args.ends.now in
    record {
      together = subst (λ n. IsTogether gone L E L E c.args.first n n) (sym c.start_of-start.ensures) (together-none gone L E c.requires.ends c.args.first c.requires.within c.requires.learnt);
    }

pub copy_within-requires-clause-start_le_end : goal.copy_within-requires-clause-start_le_end
copy_within-requires-clause-start_le_end c =
    let gone = names c.args.named.now in
    let t = c.loop-index.invariant.together in
    let low = together-low gone c.args.lits.now c.args.ends.now c.requires.ends c.loop-index.lits c.loop-index.ends c.loop-index.index c.loop-index.start c.loop-index.to t c.loop-index-test.true in
    let end = together-end gone c.args.lits.now c.args.ends.now c.requires.ends c.loop-index.lits c.loop-index.ends c.loop-index.index c.loop-index.start c.loop-index.to t c.loop-index-test.true in
    omega (arith, low, end)

pub copy_within-requires-clause-in_bounds : goal.copy_within-requires-clause-in_bounds
copy_within-requires-clause-in_bounds c =
    let gone = names c.args.named.now in
    let t = c.loop-index.invariant.together in
    let high = together-high gone c.args.lits.now c.args.ends.now c.requires.ends c.loop-index.lits c.loop-index.ends c.loop-index.index c.loop-index.start c.loop-index.to t c.loop-index-test.true in
    let end = together-end gone c.args.lits.now c.args.ends.now c.requires.ends c.loop-index.lits c.loop-index.ends c.loop-index.index c.loop-index.start c.loop-index.to t c.loop-index-test.true in
    omega (arith, high, end)

pub copy_within-requires-clause-dest_in_bounds : goal.copy_within-requires-clause-dest_in_bounds
copy_within-requires-clause-dest_in_bounds c =
    let gone = names c.args.named.now in
    let t = c.loop-index.invariant.together in
    let low = together-low gone c.args.lits.now c.args.ends.now c.requires.ends c.loop-index.lits c.loop-index.ends c.loop-index.index c.loop-index.start c.loop-index.to t c.loop-index-test.true in
    let high = together-high gone c.args.lits.now c.args.ends.now c.requires.ends c.loop-index.lits c.loop-index.ends c.loop-index.index c.loop-index.start c.loop-index.to t c.loop-index-test.true in
    let end = together-end gone c.args.lits.now c.args.ends.now c.requires.ends c.loop-index.lits c.loop-index.ends c.loop-index.index c.loop-index.start c.loop-index.to t c.loop-index-test.true in
    let before = t.before in
    omega (arith, low, high, end, before)

pub overflow_sub-to : goal.overflow_sub-to
overflow_sub-to c =
    let gone = names c.args.named.now in
    let t = c.loop-index.invariant.together in
    let low = together-low gone c.args.lits.now c.args.ends.now c.requires.ends c.loop-index.lits c.loop-index.ends c.loop-index.index c.loop-index.start c.loop-index.to t c.loop-index-test.true in
    let end = together-end gone c.args.lits.now c.args.ends.now c.requires.ends c.loop-index.lits c.loop-index.ends c.loop-index.index c.loop-index.start c.loop-index.to t c.loop-index-test.true in
    omega (arith, low, end)

pub loop-index-preserved : goal.loop-index-preserved
loop-index-preserved c =
    let gone = names c.args.named.now in
    let L = c.args.lits.now in
    let E = c.args.ends.now in
    let t = c.loop-index.invariant.together in
    let end = together-end gone L E c.requires.ends c.loop-index.lits c.loop-index.ends c.loop-index.index c.loop-index.start c.loop-index.to t c.loop-index-test.true in
    elim c.if-not-has.branch [
      | then-not-has w ↦ rw (w.lits-is, w.to-is, end) (record {
        together = together-kept gone L E c.requires.ends c.loop-index.lits c.loop-index.ends c.loop-index.index c.loop-index.start c.loop-index.to t c.loop-index-test.true
            w.copy_within.new.self (sym c.has.ensures ∙ w.if-not-has.true) (w.copy_within.ensures.after ∙ rw end refl);
      })
      | else-not-has w ↦ rw (w.lits-is, w.to-is, end) (record {
        together = together-gone gone L E c.requires.ends c.loop-index.lits c.loop-index.ends c.loop-index.index c.loop-index.start c.loop-index.to t c.loop-index-test.true
            (sym c.has.ensures ∙ w.if-not-has.false);
      })
    ]

pub returns-clause-within : goal.returns-clause-within
returns-clause-within c = together-within (names c.args.named.now) c.args.lits.now c.args.ends.now c.requires.ends c.loop-index.lits c.loop-index.ends c.loop-index.index c.loop-index.start c.loop-index.to c.loop-index.invariant.together c.loop-index-test.false

pub returns-clause-ends : goal.returns-clause-ends
returns-clause-ends c = together-ends (names c.args.named.now) c.args.lits.now c.args.ends.now c.requires.ends c.loop-index.lits c.loop-index.ends c.loop-index.index c.loop-index.start c.loop-index.to c.loop-index.invariant.together c.loop-index-test.false

pub returns-clause-left : goal.returns-clause-left
returns-clause-left c = together-all (names c.args.named.now) c.args.lits.now c.args.ends.now c.requires.ends c.loop-index.lits c.loop-index.ends c.loop-index.index c.loop-index.start c.loop-index.to c.loop-index.invariant.together c.loop-index-test.false
