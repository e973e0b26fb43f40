use Rattle.tidying.proofs.TextLemmas.{header-made}
use Rattle.tidying.proofs.text.header_of.Goals as goal

pub returns : goal.returns
returns c =
    header-made c.args.vars c.args.clauses c.in_ok-text.text.items c.append_number.new.text.items c.push.new.self.items c.append_number-2.new.text.items c.push-2.new.self.items
    c.in_ok-text.ensures.items (rw c.from.ensures at c.in_ok-append_number.ensures) c.in_ok-push.ensures.items c.in_ok-append_number-2.ensures c.in_ok-push-2.ensures.items
