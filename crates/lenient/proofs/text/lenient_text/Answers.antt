use Rattle.std.proofs.Common.{◌≡◌, ap, sym, ◌∙◌, not, is_some}
use Rattle.theory.specs.Truth.{Formula}
use Rattle.theory.specs.Reading.{ReadsWithin, formula}
use Rattle.cnf.specs.Limits.{limits_of}
use Rattle.lenient.specs.declared.text.LenientText.{LenientText}
use Rattle.lenient.proofs.RefusedTexts.{refused-alone, of-none}
use Rattle.lenient.proofs.text.lenient_text.Goals as goal

pub returns : goal.returns
returns c =
    let L = limits_of c.args.limits in
    let text = c.args.text.items in
    let has_place = ap is_some (sym c.place.ensures) ∙ (c.is_none.ensures ∙ ap not c.if-is_none.false) in
    let refusal = rw c.deref.ensures.value at c.in-Err.ensures in
    of-none c.scanned.result (λ F. ReadsWithin L text (formula F)) (λ (t : LenientText). t.text.items ≡ text) (λ F h. refused-alone L text F c.in-Err.fault has_place refusal h)
