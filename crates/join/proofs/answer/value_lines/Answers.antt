use Rattle.join.proofs.LineLemmas.{literals-text}
use Rattle.join.proofs.answer.value_lines.Goals as goal

pub returns : goal.returns
returns c =
    literals-text c.args.lits.now c.in_ok-from_slice.field-0.items c.put_literals.new.self.text.items c.end.new.self.text.items c.put_literals.new.self.width
    c.in_ok-from_slice.ensures.items c.in_ok-put_literals.ensures.text c.in_ok-end.ensures
