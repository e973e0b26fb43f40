use Rattle.std.proofs.Common.{◌<◌, length, arith}
use Rattle.lrat.proofs.ChainLemmas.{put-keeps, read-head}
use Rattle.lrat.proofs.chains.Chains.put.Goals as goal

pub returns-clause-keeps : goal.returns-clause-keeps
returns-clause-keeps c =
    let heads = c.args.self.now.heads in
    let entries = c.args.self.now.entries in
    let long = heads.ok.0 in
    let less : c.args.code < length heads.items = omega arith in
    put-keeps heads.items entries.items c.push.new.self.items c.args.code c.in_ok-link.link _ c.in_ok-push.ensures.items (let len = c.len.ensures in omega (arith, c.in_ok-link.ensures, entries.ok.0)) less
    (read-head heads.items c.args.code c.index-next.result.now less c.index-next.ensures) c.requires.chains.down c.requires.chains.heads

pub returns-in_err-push-clause-chains : goal.returns-in_err-push-clause-chains
returns-in_err-push-clause-chains c =
    record { down = λ j. rw c.in_err-push.ensures.items (c.requires.chains.down j); heads = λ n. rw c.in_err-push.ensures.items (c.requires.chains.heads n) }

pub returns-in_err-push-clause-keeps : goal.returns-in_err-push-clause-keeps
returns-in_err-push-clause-keeps c = λ n i on. rw c.in_err-push.ensures.items on
