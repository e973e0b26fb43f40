use Rattle.std.proofs.Common.{◌≡◌, ℕ, false, take, get_or, sym, ap, ◌∙◌}
use Rattle.std.proofs.lemmas.List.{take_more}
use Rattle.lrat_forms.specs.PlainLines.{begins, line_after}
use Rattle.lrat_forms.proofs.CommentLemmas.{plain-more, after-more}
use Rattle.lrat_forms.proofs.comments.before_mark.Goals as goal

pub loop-at-preserved : goal.loop-at-preserved
loop-at-preserved c =
    let bytes = c.args.bytes.now in
    let at = c.loop-at.at in
    let before = take at bytes in
    let byte : ℕ = get_or bytes at 0 in
    let none : begins (line_after c.args.line before) byte ≡ false = ap (λ l. begins l byte) (sym c.loop-at.invariant.line) ∙ (sym c.begins.ensures ∙ c.if-begins.false) in
    rw (take_more bytes at 0 c.loop-at-test.true)
    record {
      plain = plain-more c.args.line before byte c.loop-at.invariant.plain none;
      line = c.line_behind-at_byte.ensures ∙ sym (after-more c.args.line before byte);
    }
