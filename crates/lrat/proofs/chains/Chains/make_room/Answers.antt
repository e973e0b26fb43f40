use Rattle.std.proofs.Common.{arith}
use Rattle.lrat.proofs.ChainLemmas.{more-keeps}
use Rattle.lrat.proofs.chains.Chains.make_room.Goals as goal

pub returns-in_err-reserve-clause-keeps : goal.returns-in_err-reserve-clause-keeps
returns-in_err-reserve-clause-keeps c =
    more-keeps c.args.self.now.heads.items c.resize.new.self.items c.args.self.now.entries.items c.reserve.new.self.items c.args.count _
    (let less = c.if-len-count.true in omega arith) c.in_ok-resize.ensures.items c.reserve.ensures.items

pub returns-in_ok-reserve-clause-keeps : goal.returns-in_ok-reserve-clause-keeps
returns-in_ok-reserve-clause-keeps c =
    more-keeps c.args.self.now.heads.items c.resize.new.self.items c.args.self.now.entries.items c.reserve.new.self.items c.args.count _
    (let less = c.if-len-count.true in omega arith) c.in_ok-resize.ensures.items c.reserve.ensures.items
