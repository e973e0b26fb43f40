use Rattle.std.proofs.Common.{[], refl}
use Rattle.lrat.proofs.HeldLemmas.{Extends-nothing}
use Rattle.packs.proofs.reader.FactReader.read.Goals as goal

pub invariant_of-self : goal.invariant_of-self
invariant_of-self c = c.go_back.ensures.left [] refl (Extends-nothing _)

pub invariant_of-self-in-Some-2 : goal.invariant_of-self-in-Some-2
invariant_of-self-in-Some-2 c = c.go_back.ensures.left [] refl (Extends-nothing _)

pub invariant_of-self-2 : goal.invariant_of-self-2
invariant_of-self-2 c = c.go_back.ensures.left [] refl (Extends-nothing _)
