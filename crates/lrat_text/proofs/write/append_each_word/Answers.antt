use Rattle.lrat_text.proofs.WordLemmas.{line-begun}
use Rattle.lrat_text.proofs.write.append_each_word.Goals as goal

pub returns-clause-ok : goal.returns-clause-ok
returns-clause-ok c =
    line-begun c.args.id c.args.clause.now c.args.hints.now c.args.out.now.items c.append_number.new.out.items c.append_literals.new.out.items c.extend_from_slice.new.self.items c.append_numbers.new.out.items
    c.in_ok-append_number.ensures.ok c.in_ok-append_literals.ensures.ok c.in_ok-extend_from_slice.ensures.items c.in_ok-append_numbers.ensures.ok
