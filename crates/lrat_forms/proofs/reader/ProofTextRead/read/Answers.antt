use Rattle.lrat_forms.specs.Remaining.{text_remaining}
use Rattle.lrat_forms.proofs.TextLemmas.{kept-read}
use Rattle.lrat_forms.proofs.reader.ProofTextRead.read.Goals as goal

pub returns-clause-bytes : goal.returns-clause-bytes
returns-clause-bytes g c =
    kept-read (text_remaining g.I.Read.remaining c.args.self.now) (text_remaining g.I.Read.remaining c.look.new.self) (text_remaining g.I.Read.remaining c.read_on.new.self) c.read_on.result c.read_on.new.buf c.look.ensures.keeps c.read_on.ensures.bytes
