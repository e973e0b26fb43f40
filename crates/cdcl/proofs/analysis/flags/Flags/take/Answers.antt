use Rattle.std.proofs.Common.{arith}
use Rattle.cdcl.proofs.FlagLemmas.{flag-there, take-flag, AreWithin-taken}
use Rattle.cdcl.proofs.analysis.flags.Flags.take.Goals as goal

pub index_mut-requires : goal.index_mut-requires
index_mut-requires c =
    let there = flag-there c.self.inside.flags.items c.args.greatest (rw (← c.self.view_is) at c.requires.there) in
    let less = there.0 in
    let long = c.self.inside.flags.ok.0 in
    omega arith

pub invariant_of-self : goal.invariant_of-self
invariant_of-self c =
    let there = flag-there c.self.inside.flags.items c.args.greatest (rw (← c.self.view_is) at c.requires.there) in
    AreWithin-taken c.self.inside.low c.self.inside.top c.args.greatest c.self.inside.flags.items c.self.invariant there.0 (rw (← c.self.view_is) at c.requires.greatest)

pub returns : goal.returns
returns c =
    let there = flag-there c.self.inside.flags.items c.args.greatest (rw (← c.self.view_is) at c.requires.there) in
    rw (← c.self.view_is) (take-flag c.args.greatest c.self.inside.flags.items there.0 there.1)
