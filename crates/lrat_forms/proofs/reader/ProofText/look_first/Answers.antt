use Rattle.std.proofs.Common.{◌∙◌, sym}
use Rattle.std.specs.Io.KnownBytes.{prepend_known}
use Rattle.lrat_forms.specs.Forms.{text_of}
use Rattle.lrat_forms.proofs.TextLemmas.{text-kept, kept-kept, decided-text, decided-binary}
use Rattle.lrat_forms.proofs.reader.ProofText.look_first.Goals as goal

pub returns-in_err-fill_first-clause-keeps : goal.returns-in_err-fill_first-clause-keeps
returns-in_err-fill_first-clause-keeps g c =
    rw c.fill_first.ensures.same
    (rw c.requires
    (text-kept (prepend_known c.args.self.now.first.items (g.I.Read.remaining c.args.self.now.inner)) (prepend_known c.fill_first.new.self.first.items (g.I.Read.remaining c.fill_first.new.self.inner)) c.fill_first.ensures.keeps))

pub returns-then-is_binary-clause-keeps : goal.returns-then-is_binary-clause-keeps
returns-then-is_binary-clause-keeps g c =
    let first = c.fill_first.new.self.first.items in
    let rest = g.I.Read.remaining c.fill_first.new.self.inner in
    let old = prepend_known c.args.self.now.first.items (g.I.Read.remaining c.args.self.now.inner) in
    rw c.requires
    (kept-kept (text_of old) (text_of (prepend_known first rest)) _ (text-kept old (prepend_known first rest) c.fill_first.ensures.keeps)
    (decided-binary first c.as_slice-first.result.now rest c.as_slice-first.ensures.value c.as_slice-first.ensures.fits c.in_ok-fill_first.ensures.all (sym c.is_binary.ensures ∙ c.if-is_binary.true)))

pub returns-else-is_binary-clause-keeps : goal.returns-else-is_binary-clause-keeps
returns-else-is_binary-clause-keeps g c =
    let first = c.fill_first.new.self.first.items in
    let rest = g.I.Read.remaining c.fill_first.new.self.inner in
    let old = prepend_known c.args.self.now.first.items (g.I.Read.remaining c.args.self.now.inner) in
    rw c.requires
    (kept-kept (text_of old) (text_of (prepend_known first rest)) (prepend_known first rest) (text-kept old (prepend_known first rest) c.fill_first.ensures.keeps)
    (decided-text first c.as_slice-first.result.now rest c.as_slice-first.ensures.value c.as_slice-first.ensures.fits c.in_ok-fill_first.ensures.all (sym c.is_binary.ensures ∙ c.if-is_binary.false)))
