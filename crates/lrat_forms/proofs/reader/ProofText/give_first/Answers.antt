use Rattle.std.proofs.Common.{arith}
use Rattle.lrat_forms.proofs.TextLemmas.{given-on}
use Rattle.lrat_forms.proofs.reader.ProofText.give_first.Goals as goal

pub returns-clause-bytes : goal.returns-clause-bytes
returns-clause-bytes g c =
    rw c.requires.reading
    (given-on c.args.self.now.first.items c.as_slice.result.now c.args.given c.min-count.result c.copy_from_slice.new.self _ (g.I.Read.remaining c.args.self.now.inner) c.as_slice.ensures.value c.copy_from_slice.ensures.after (omega (arith, c.min-count.ensures)))
