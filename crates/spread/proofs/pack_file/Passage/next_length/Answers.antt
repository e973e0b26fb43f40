use Rattle.std.proofs.Common.{subst, Bool}
use Rattle.spread.specs.Passages.{IsFilled}
use Rattle.spread.proofs.PassageLemmas.{IsLength-cut, IsLength-there}
use Rattle.spread.proofs.pack_file.Passage.next_length.Goals as goal

pub returns-then-length-self-clause-bytes : goal.returns-then-length-self-clause-bytes
returns-then-length-self-clause-bytes g c before behind between =
    IsLength-cut g.R.Read.remaining c.fill.new.self before behind c.fill.new.buffer c.length_of-length.result c.length_of-length.ensures c.fill.auto.buffer c.length_of-length.type_inv c.if-length-self.true
    (subst (λ (b : Bool). IsFilled g.R.Read.remaining c.fill.new.self before behind c.fill.new.buffer b) c.if-not-branch.false (c.in_ok-fill.ensures.bytes before behind between))

pub returns-clause-bytes : goal.returns-clause-bytes
returns-clause-bytes g c before behind between =
    IsLength-there g.R.Read.remaining c.fill.new.self before behind c.fill.new.buffer c.length_of-length.result c.length_of-length.ensures c.if-length-self.false
    (subst (λ (b : Bool). IsFilled g.R.Read.remaining c.fill.new.self before behind c.fill.new.buffer b) c.if-not-branch.false (c.in_ok-fill.ensures.bytes before behind between))
