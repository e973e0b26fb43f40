use Rattle.cdcl.proofs.analysis.first_uip.take_up.Goals as goal

pub returns-clause-clear : goal.returns-clause-clear
returns-clause-clear c = let h = c.requires.set in c.in_ok-take_clause.ensures.clear h.0 h.1 h.2
