use Rattle.std.proofs.Common.{◌∙◌, sym, subst}
use Rattle.trail.specs.Cubes.{AreOfVariables}
use Rattle.cubes.proofs.KnownLemmas.{known-others}
use Rattle.cubes.proofs.known.Known.put.Goals as goal

pub returns-clause-others : goal.returns-clause-others
returns-clause-others g c Q q other =
    let same = c.in_ok-lits.ensures.items ∙ c.lits.ensures.lits in
    known-others c.in_ok-lits.lits.items Q c.args.self.now (record { outcomes = c.insert.new.self }) (subst AreOfVariables (sym same) c.lits.ensures.variables) q (λ e. other (e ∙ same)) c.in_ok-insert.ensures.updates.3
