use Rattle.std.proofs.Common.{◌≡◌, length, sym, ◌∙◌, arith, rules}
use Rattle.std.specs.Io.Buffered.{reader_remaining}
use Rattle.lrat_forms.proofs.CommentLemmas.{byte-given}
use Rattle.lrat_forms.proofs.comments.Uncommented.read_byte.Goals as goal

pub returns-clause-bytes : goal.returns-clause-bytes
returns-clause-bytes g c =
    let self = c.args.self.now in
    let long : length c.read.new.buf ≡ 1 = search rules in
    let one : c.in_ok-read.field-0 ≡ 1 = search rules in
    rw c.line_behind-self.ensures
    (byte-given (reader_remaining g.I.Read.remaining self.inner) (reader_remaining g.I.Read.remaining c.read.new.self) self.line self.owed.now c.args.buf.now c.read.new.buf c.in_ok-read.field-0 c.requires.owed c.requires.line long one c.requires.room (sym c.begins.ensures ∙ c.if-begins.false) c.in_ok-read.ensures.bytes.0, λ none. absurd (omega (arith, none)))
