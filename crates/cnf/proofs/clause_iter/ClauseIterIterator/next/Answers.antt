use Rattle.std.proofs.Common.{◌∷◌, ◌+◌, drop, ap, ◌∙◌}
use Rattle.std.proofs.lemmas.List.{drop_more}
use Rattle.std.proofs.lemmas.Option.{slice_get_within, get_or_from_slice_get}
use Rattle.cnf.proofs.clause_iter.ClauseIterIterator.next.Goals as goal

pub returns-clause-steps : goal.returns-clause-steps
returns-clause-steps c =
    let it = c.args.self.now in
    let all = it.formula.now.clauses in
    let first = c.clause-clause.result.now in
    let here = c.clause-clause.ensures.clause in
    drop_more all it.place first (slice_get_within all it.place first here)
    ∙ ap (λ clause. clause ∷ drop (it.place + 1) all) (get_or_from_slice_get all it.place first first here)
