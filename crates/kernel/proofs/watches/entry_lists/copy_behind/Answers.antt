use Rattle.std.proofs.Common.{length, take, drop, ap, arith}
use Rattle.std.proofs.lemmas.List.{length-append}
use Rattle.kernel.proofs.watches.entry_lists.copy_behind.Goals as goal

pub index-entry-requires : goal.index-entry-requires
index-entry-requires c =
    let now = c.loop-place.invariant.behind in
    let long = length-append c.args.entries.now.items (take c.loop-place.place (drop c.args.from c.args.entries.now.items)) in
    let size = ap length now in
    let within = c.requires in
    omega (arith, long, size, within, c.loop-place-test.true, c.loop-place.entries.ok.0)
