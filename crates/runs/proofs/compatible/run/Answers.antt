use Rattle.runs.proofs.compatible.run.Goals as goal

pub returns-clause-answer_is_right : goal.returns-clause-answer_is_right
returns-clause-answer_is_right g c = rw (c.in-Decided.is, c.of.ensures, c.ordered.ensures) at c.in_ok-end.ensures.answer_is_right
