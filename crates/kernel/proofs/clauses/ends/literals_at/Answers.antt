use Rattle.std.proofs.Common.{◌≤◌, length, get_or, arith, rules}
use Rattle.cnf.specs.Pieces.{start_at}
use Rattle.cnf.proofs.Pieces.{pieces-at, start-le, end-le}
use Rattle.kernel.proofs.clauses.ends.literals_at.Goals as goal

pub offset_bounds-literals-start : goal.offset_bounds-literals-start
offset_bounds-literals-start c =
    let start = c.start_of-start.ensures in
    let low : start_at 0 c.args.ends.now c.args.index ≤ get_or c.args.ends.now c.args.index 0 = start-le _ _ _ _ c.requires.ends c.requires.within in
    let high : get_or c.args.ends.now c.args.index 0 ≤ length c.args.literals.now = end-le _ _ _ _ c.requires.ends c.requires.within in
    search rules

pub slice_bounds-result-count : goal.slice_bounds-result-count
slice_bounds-result-count c =
    let start = c.start_of-start.ensures in
    let low : start_at 0 c.args.ends.now c.args.index ≤ get_or c.args.ends.now c.args.index 0 = start-le _ _ _ _ c.requires.ends c.requires.within in
    omega arith

pub slice_bounds-result-start : goal.slice_bounds-result-start
slice_bounds-result-start c =
    let start = c.start_of-start.ensures in
    let low : start_at 0 c.args.ends.now c.args.index ≤ get_or c.args.ends.now c.args.index 0 = start-le _ _ _ _ c.requires.ends c.requires.within in
    let high : get_or c.args.ends.now c.args.index 0 ≤ length c.args.literals.now = end-le _ _ _ _ c.requires.ends c.requires.within in
    search rules

pub slice_bounds-result-end : goal.slice_bounds-result-end
slice_bounds-result-end c =
    let high : get_or c.args.ends.now c.args.index 0 ≤ length c.args.literals.now = end-le _ _ _ _ c.requires.ends c.requires.within in
    search rules

pub returns : goal.returns
returns c = rw c.start_of-start.ensures (pieces-at 0 c.args.literals.now c.args.ends.now c.args.index c.requires.within)
