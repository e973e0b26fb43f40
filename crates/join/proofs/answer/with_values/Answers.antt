use Rattle.join.proofs.LineLemmas.{values-behind}
use Rattle.join.proofs.answer.with_values.Goals as goal

pub returns : goal.returns
returns c =
    values-behind c.args.values.now c.args.text.items c.push.new.self.items c.put_values.new.self.text.items c.end.new.self.text.items c.put_values.new.self.width
    c.in_ok-push.ensures.items c.in_ok-put_values.ensures.text c.in_ok-end.ensures
