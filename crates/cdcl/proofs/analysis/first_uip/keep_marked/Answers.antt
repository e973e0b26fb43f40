use Rattle.std.proofs.Common.{◌<◌, ◌∙◌, length, arith}
use Rattle.std.proofs.lemmas.List.Filters.{FiltersInPlace-more_set, FiltersInPlace-more_no}
use Rattle.cdcl.proofs.SeenVariables.{unfiltered}
use Rattle.cdcl.proofs.analysis.first_uip.keep_marked.Goals as goal
use Rattle.cdcl.proofs.analysis.first_uip.keep_marked.Goals.{then-marked-var, else-marked-var}

pub bounds-marked-var : goal.bounds-marked-var
bounds-marked-var c =
    let len = c.len-at-end.ensures in
    let ok = c.args.seen.now.ok.0 in
    let inside : c.loop-at.at < length c.args.seen.now.items = omega (arith, c.loop-at-test.true) in
    let read = c.index-var.ensures ∙ unfiltered _ c.args.seen.now.items c.loop-at.seen.items c.loop-at.kept c.loop-at.at c.index-var.result.now c.loop-at.invariant in
    rw read (c.requires c.loop-at.at c.index-var.result.now inside)

pub loop-at-preserved : goal.loop-at-preserved
loop-at-preserved c =
    let len = c.len-at-end.ensures in
    let ok = c.args.seen.now.ok.0 in
    let long = c.loop-at.invariant.long in
    let inside : c.loop-at.at < length c.loop-at.seen.items = omega (arith, c.loop-at-test.true) in
    elim c.if-marked-var.branch [
      | then-marked-var w ↦ rw (w.seen-is, w.kept-is) (FiltersInPlace-more_set c.loop-at.invariant inside w.if-marked-var.true c.index-var.ensures)
      | else-marked-var w ↦ rw (w.seen-is, w.kept-is) (FiltersInPlace-more_no {x = c.index-var.result.now} c.loop-at.invariant inside w.if-marked-var.false c.index-var.ensures)
    ]
