use Rattle.std.proofs.Common.{◌≡◌, ◌<◌, true, length, get_or, subst, arith}
use Rattle.kernel.specs.declared.watches.watch.Watched.{Watched}
use Rattle.kernel.specs.Keeping.{AreSinglesTo}
use Rattle.kernel.proofs.Places.{At-get}
use Rattle.kernel.proofs.Keeping.{singles-none, singles-more}
use Rattle.kernel.proofs.propagator.Propagator.note_singles.Goals as goal

pub loop-index-init : goal.loop-index-init
loop-index-init c = singles-none c.args.self.now.clauses.pairs c.args.first c.args.singles.now.items

pub loop-index-preserved : goal.loop-index-preserved
loop-index-preserved c =
    let end = c.len-index-end.ensures.pairs in
    let pairs = c.args.self.now.clauses.pairs in
    let d : Watched = record { first = record { var = 0; positive = true }; second = record { var = 0; positive = true } } in
    let inside : c.loop-index.index < length pairs = omega (arith, c.loop-index-test.true, end) in
    singles-more pairs c.args.first c.loop-index.index c.args.singles.now.items c.loop-index.singles.items c.note_single.new.singles.items (get_or pairs c.loop-index.index d) c.loop-index.auto.index
    (At-get pairs c.loop-index.index d inside) c.loop-index.invariant c.in_ok-note_single.ensures.noted

pub returns : goal.returns
returns c =
    let pairs = c.args.self.now.clauses.pairs in
    let end : c.loop-index.index ≡ length pairs = omega (arith, c.loop-index-test.false, c.loop-index.auto.index-end, c.len-index-end.ensures.pairs) in
    record { noted = subst (λ n. AreSinglesTo pairs c.args.first n c.args.singles.now.items c.loop-index.singles.items) end c.loop-index.invariant }
