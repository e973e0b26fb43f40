use Rattle.std.proofs.Common.{arith, sym}
use Rattle.theory.proofs.searching.SearchSteps.{least_free-variable}
use Rattle.cdcl.proofs.search.ordered.OrderedSearch.on_quiet.Goals as goal

pub of-requires : goal.of-requires
of-requires c =
    let free = least_free-variable c.args.self.now.kernel.vars c.args.self.now.kernel.trail c.in-Some.var (sym c.in-Some.ensures) in
    let high = free.0.1 in
    record { some = free.0.0; below = omega (arith, c.requires.searching.few) }

pub decide-requires : goal.decide-requires
decide-requires c _ =
    let free = least_free-variable c.args.self.now.kernel.vars c.args.self.now.kernel.trail c.in-Some.var (sym c.in-Some.ensures) in
    rw (c.of.ensures, c.requires.searching.in_order) (free.0, free.1, c.requires.quiet)
