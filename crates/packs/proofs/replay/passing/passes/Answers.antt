use Rattle.std.proofs.Common.{◌∙◌, sym}
use Rattle.lrat.proofs.HeldLemmas.{Extends-trans}
use Rattle.packs.specs.Known.{known}
use Rattle.packs.proofs.KnownLemmas.{AreHeld-Extends}
use Rattle.packs.proofs.HoldingLemmas.{AreHeld-holding}
use Rattle.packs.proofs.ReplayedLemmas.{taken-replays}
use Rattle.packs.proofs.replay.passing.passes.Goals as goal

pub returns-clause-passes : goal.returns-clause-passes
returns-clause-passes c = λ N Q forgets cube h.
    let held = AreHeld-Extends Q c.args.held.now.literals c.negate.new.held.literals c.negate.ensures.extends (AreHeld-holding Q c.args.held.now.literals h) in
    taken-replays c.args.formula.now.vars N Q c.negate.new.held.literals (known c.args.formula.now c.args.units.now c.args.lines.now) c.args.clause.now c.args.hints.now forgets c.in_ok-conflict.conflict
    (c.in_ok-conflict.ensures.conflict N Q held) (c.in_ok-negate.ensures.negated Q h c.if-branch.false) (sym c.if-branch.false ∙ c.in_ok-negate.ensures.both Q h)
    (rw (c.vars.ensures, c.requires.vars) at (c.is_over.ensures.over c.if-not-is_over.false)) cube

pub returns-clause-extends : goal.returns-clause-extends
returns-clause-extends c = Extends-trans _ _ _ c.negate.ensures.extends c.come_to_conflict.ensures.extends

pub returns-in_err-conflict-clause-extends : goal.returns-in_err-conflict-clause-extends
returns-in_err-conflict-clause-extends c = Extends-trans _ _ _ c.negate.ensures.extends c.come_to_conflict.ensures.extends
