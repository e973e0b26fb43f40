use Rattle.std.proofs.Common.{◌++◌, take, drop, ap}
use Rattle.messages.proofs.Kept.{behind-counted}
use Rattle.messages.proofs.excerpt.Excerpt.add.Goals as goal

pub returns-then-lines-self : goal.returns-then-lines-self
returns-then-lines-self c = λ more.
    let e = c.args.self.now in
    ap (λ text. take 128 (e.bytes.items ++ drop e.columns text))
    (behind-counted e.lines c.line_feeds-lines.result c.args.piece.now more c.line_feeds-lines.ensures c.if-lines-self.true)
