use Rattle.std.proofs.Common.{◌+◌, ◌-◌, ◌/◌, ◌<◌, false, get_or, arith}
use Rattle.std.proofs.lemmas.Option.{slice_get-get_or, slice_get_within}
use Rattle.lrat.specs.declared.clauses.Head.{Head}
use Rattle.lrat.proofs.FlatLemmas.{below-more, beyond-more, formula-at}
use Rattle.lrat.proofs.clauses.place_of.Goals as goal

pub returns-then-number-first : goal.returns-then-number-first
returns-then-number-first c =
    let some = c.if-number-eq0.false in
    formula-at c.args.first c.args.id c.args.heads.now c.requires (omega arith) c.if-number-first.true

pub returns-then-heads-number : goal.returns-then-heads-number
returns-then-heads-number c =
    let some = c.if-number-eq0.false in
    let less = c.if-number-heads.true in
    (_, slice_get-get_or c.args.heads.now (c.args.id - 1) _ (omega arith), c.if-heads-number.true)

pub loop-low-init : goal.loop-low-init
loop-low-init c = record {
  from = omega arith;
  to = omega arith;
  ordered = c.requires.whole;
  below = λ i h g low high. absurd (omega arith);
  beyond = λ i h g high. absurd (let less = slice_get_within c.args.heads.now i h g in omega arith);
}

pub returns-then-found-id : goal.returns-then-found-id
returns-then-found-id c =
    let less = c.loop-low-test.true in
    let to = c.loop-low.invariant.to in
    (_, slice_get-get_or c.args.heads.now (c.loop-low.low + (c.loop-low.high - c.loop-low.low) / 2) _ (omega arith), c.if-found-id.true)

pub loop-low-preserved-then-found-id-2 : goal.loop-low-preserved-then-found-id-2
loop-low-preserved-then-found-id-2 c =
    let v = c.loop-low.invariant in
    let less = c.loop-low-test.true in
    let from = v.from in
    let to = v.to in
    let middle = c.loop-low.low + (c.loop-low.high - c.loop-low.low) / 2 in
    record {
      from = omega arith;
      to = to;
      ordered = omega arith;
      below = below-more c.args.first c.args.id middle c.args.heads.now _ c.requires (omega arith) (slice_get-get_or c.args.heads.now middle _ (omega arith)) c.if-found-id-2.true;
      beyond = v.beyond;
    }

pub loop-low-preserved : goal.loop-low-preserved
loop-low-preserved c =
    let v = c.loop-low.invariant in
    let less = c.loop-low-test.true in
    let from = v.from in
    let to = v.to in
    let middle = c.loop-low.low + (c.loop-low.high - c.loop-low.low) / 2 in
    let other = c.if-found-id.false in
    let more = c.if-found-id-2.false in
    let none : Head = record { id = 0; start = 0; end = 0; is_there = false } in
    let above : c.args.id < (get_or c.args.heads.now middle none).id = omega arith in
    record {
      from = from;
      to = omega arith;
      ordered = omega arith;
      below = v.below;
      beyond = beyond-more c.args.first c.args.id middle c.args.heads.now (get_or c.args.heads.now middle none) c.requires (omega arith) (slice_get-get_or c.args.heads.now middle none (omega arith)) above;
    }
