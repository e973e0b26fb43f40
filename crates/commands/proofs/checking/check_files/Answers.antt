use Rattle.std.proofs.Common.{ap, refl, ◌∙◌, Err}
use Rattle.std.proofs.KnownBytes.{Keeps-refl}
use Rattle.cnf.specs.Limits.{limits_of}
use Rattle.lrat_forms.specs.Comments.{read_as, uncommented_known}
use Rattle.lrat_forms.specs.Forms.{text_of}
use Rattle.lrat_forms.specs.declared.comments.Line.TheVariants.{Start}
use Rattle.runs.specs.Check.{checked_by}
use Rattle.runs.specs.declared.fault.RunFault.TheVariants.{NoMemory}
use Rattle.commands.proofs.StatusLemmas.{check-end, checked-on}
use Rattle.commands.proofs.checking.check_files.Goals as goal

pub returns-clause-says : goal.returns-clause-says
returns-clause-says g c = (
  checked_by c.check_opened-answered.result,
  checked-on (limits_of c.args.rules.limits) c.args.rules.variables _ (g.F.Read.remaining c.args.formula.file) _ (read_as (g.P.Read.remaining c.args.proof.file)) _ _ (checked_by c.check_opened-answered.result)
      (ap g.F.Read.remaining c.of-text.ensures) (c.in-Ok.ensures ∙ ap (uncommented_known Start) (c.of-steps.ensures ∙ ap (λ r. text_of (g.P.Read.remaining r)) c.of.ensures)) c.check_opened-answered.ensures,
  c.end_check.ensures,
)

pub returns-clause-end : goal.returns-clause-end
unfolding returns-clause-says
returns-clause-end g c =
    let ends = returns-clause-says g c in
    rw c.end_check.ensures
    (check-end (limits_of c.args.rules.limits) c.args.rules.variables (g.F.Read.remaining c.args.formula.file) (read_as (g.P.Read.remaining c.args.proof.file)) _ _ (checked_by c.check_opened-answered.result) ends.1)

pub returns-in_default-clause-says : goal.returns-in_default-clause-says
returns-in_default-clause-says g c = (Err NoMemory, Keeps-refl _, refl)
