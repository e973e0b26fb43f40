use Rattle.std.proofs.lemmas.Result.{IfOk-equal}
use Rattle.lrat_text.proofs.WordLemmas.{deletion-text}
use Rattle.lrat_text.proofs.write.append_ids.Goals as goal

pub returns-clause-ok : goal.returns-clause-ok
returns-clause-ok c =
    IfOk-equal _ _ _ _ c.append_end.ensures.ok
    (deletion-text (record { id = c.args.id; ids = c.args.ids.now }) c.args.out.now.items c.append_number.new.out.items c.extend_from_slice.new.self.items c.append_numbers.new.out.items
    c.in_ok-append_number.ensures.ok c.in_ok-extend_from_slice.ensures.items c.in_ok-append_numbers.ensures.ok)
