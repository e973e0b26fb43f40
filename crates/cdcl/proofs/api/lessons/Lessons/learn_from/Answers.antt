use Rattle.theory.specs.Literals.{IsVariable}
use Rattle.theory.specs.Lessons.{lesson_of}
use Rattle.std.proofs.Common.{◌∙◌, sym}
use Rattle.cdcl.proofs.SeenLemmas.{seen-variable, All-one_of}
use Rattle.cdcl.proofs.api.lessons.Lessons.learn_from.Goals as goal

pub returns-clause-variables : goal.returns-clause-variables
returns-clause-variables c =
    let k = c.args.kernel.now in
    All-one_of (IsVariable k.vars) _ (λ v h. seen-variable k.vars k.clauses k.trail (lesson_of k.clauses k.trail c.args.conflict).seen v c.trail-trail.ensures.over (sym (c.in_ok-glue.ensures.seen v) ∙ h))
