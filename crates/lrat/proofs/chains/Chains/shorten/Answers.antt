use Rattle.std.proofs.Common.{◌≡◌, ◌<◌, ◌≤◌, length, ap, sym, subst, arith}
use Rattle.lrat.specs.declared.chains.Entry.{Entry}
use Rattle.lrat.specs.Chained.{entry_at, IsOn}
use Rattle.lrat.proofs.ChainLemmas.{read, set-keeps}
use Rattle.lrat.proofs.chains.Chains.shorten.Goals as goal

pub returns-clause-keeps : goal.returns-clause-keeps
returns-clause-keeps c = λ n i s g t on.
    let entries = c.args.self.now.entries in
    let entry = c.index-entry.result.now in
    let long = entries.ok.0 in
    let less : c.args.index < length entries.items = omega arith in
    let is : entry ≡ entry_at entries.items c.args.index = read entries.items c.args.index entry less c.index-entry.ensures in
    let next : entry.next ≡ (entry_at entries.items c.args.index).next = ap (λ (x : Entry). x.next) is in
    let low : c.first_there-next.result ≤ c.args.index = (let a = c.first_there-next.ensures.down in let b = c.requires.chains.down c.args.index in omega arith) in
    set-keeps on.0 entries.items c.args.index _ _ i less (ap (λ (x : Entry). x.place) is) low c.requires.chains.down
    (λ h. c.first_there-next.ensures.keeps i s g t (subst (λ m. IsOn entries.items m i) (sym next) h)) on.1
