use Rattle.std.proofs.lemmas.Result.{IfOk-equal}
use Rattle.lrat_text.proofs.WordLemmas.{addition-text}
use Rattle.lrat_text.proofs.write.append_addition.Goals as goal

pub returns-clause-ok : goal.returns-clause-ok
returns-clause-ok c =
    IfOk-equal _ _ _ _ c.append_end.ensures.ok
    (addition-text c.args.addition.now c.args.out.now.items c.append_clause.new.out.items c.append_groups.new.out.items
    (rw (← c.id.ensures.id, ← c.clause.ensures.clause, ← c.hints.ensures.hints) c.in_ok-append_clause.ensures.ok) (rw (← c.groups.ensures.groups) c.in_ok-append_groups.ensures.ok))
