use Rattle.lrat.proofs.occurrences.Occurrences.sweep.Goals as goal

pub returns-clause-indexed : goal.returns-clause-indexed
returns-clause-indexed c = record {
  counted = c.requires.counted;
  within = c.requires.within;
  chains = c.sweep.ensures.chains;
  entered = λ i s l less g t a. c.sweep.ensures.keeps _ i s g t (c.requires.entered i s l less g t a);
}
