use Rattle.std.proofs.Common.{◌≡◌, Err, sym, ◌∙◌, rules}
use Rattle.lrat_text.specs.declared.fault.TextFault.TheVariants.{TooLong}
use Rattle.lrat.specs.declared.check_fault.CheckFault.TheVariants.{NoEmptyClause}
use Rattle.lrat.specs.declared.refusal.Refusal.TheVariants.{Text, Steps}
use Rattle.runs.proofs.CheckLemmas.{refused-says, whole-says}
use Rattle.runs.proofs.SaidLines.{said-accepted, said-too_long, said-text, said-steps, said-no_empty}
use Rattle.runs.proofs.checked_line.checked_line.Goals as goal

pub returns-in_ok-from_slice-in-Ok : goal.returns-in_ok-from_slice-in-Ok
returns-in_ok-from_slice-in-Ok c = λ L F bytes r reads says. rw c.in_ok-from_slice-in-Ok.ensures.items (said-accepted L F bytes r reads (rw c.in-Ok.is at says))

pub returns-in-Err-Text-TooLong : goal.returns-in-Err-Text-TooLong
returns-in-Err-Text-TooLong c = λ L F bytes r reads says.
    let is : c.args.verdict ≡ Err (Text TooLong) = search rules in
    whole-says L F bytes _ c.refused_whole.result c.refused_whole.ensures (said-too_long L F bytes r reads (rw is at says))

pub returns-in-Err-Text : goal.returns-in-Err-Text
returns-in-Err-Text c = λ L F bytes r reads says.
    let refusal : c.args.verdict ≡ Err (Text c.in-Err-Text.fault) = search rules in
    refused-says L F bytes c.number.result c.place_in_text.result c.refused.result c.refused.ensures
    (λ p is. rw c.number.ensures (said-text L F bytes r c.in-Err-Text.fault p reads (rw refusal at says) (sym c.place_in_text.ensures ∙ is)))

pub returns-in-Err-Steps-NoEmptyClause : goal.returns-in-Err-Steps-NoEmptyClause
returns-in-Err-Steps-NoEmptyClause c = λ L F bytes r reads says.
    let is : c.args.verdict ≡ Err (Steps NoEmptyClause) = search rules in
    whole-says L F bytes _ c.refused_whole-in-Err-Steps-NoEmptyClause.result c.refused_whole-in-Err-Steps-NoEmptyClause.ensures
    (said-no_empty L F bytes r reads (rw is at says))

pub returns-in-Err-Steps : goal.returns-in-Err-Steps
returns-in-Err-Steps c = λ L F bytes r reads says.
    let refusal : c.args.verdict ≡ Err (Steps c.in-Err-Steps.fault) = search rules in
    refused-says L F bytes c.number-in-Err-Steps.result c.place_in_steps.result c.refused-in-Err-Steps.result c.refused-in-Err-Steps.ensures
    (λ p is. rw c.number-in-Err-Steps.ensures (said-steps L F bytes r c.in-Err-Steps.fault p reads (rw refusal at says) (sym c.place_in_steps.ensures ∙ is)))
