use Rattle.std.proofs.Common.{◌≡◌, ◌-◌, length}
use Rattle.std.specs.Io.KnownBytes.{Keeps, prepend_known}
use Rattle.lrat_forms.proofs.reader.ProofText.fill_first.Given as goal

-- what is left stays the same, and the first bytes grow
abbrev pub invariant-loop-self : goal.invariant-loop-self
invariant-loop-self g l = record {
  keeps : Keeps (prepend_known l.fn.self.first.items (g.I.Read.remaining l.fn.self.inner)) (prepend_known l.self.first.items (g.I.Read.remaining l.self.inner));
  same : l.self.reading ≡ l.fn.self.reading;
}

abbrev pub decreases-loop-self : goal.decreases-loop-self
decreases-loop-self g l = 64 - length l.self.first.items
