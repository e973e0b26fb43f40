use Rattle.lrat.proofs.CountLemmas.{all-named}
use Rattle.std.proofs.Common.{arith}
use Rattle.lrat.proofs.groups.all_are_dealt_with.Goals as goal

pub returns-then-most-count-clause-dealt_with : goal.returns-then-most-count-clause-dealt_with
returns-then-most-count-clause-dealt_with c = λ L h.
    let named = c.requires.named in
    all-named c.args.clauses.now.slots c.args.held.now.literals c.args.pivot _ L named.list c.in_ok-most.most h named.named named.candidates c.in_ok-most.ensures.most
    (let many = named.many in let enough = c.if-most-count.true in omega arith)
