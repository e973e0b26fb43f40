use Rattle.std.proofs.Common.{◌∙◌, not, ap, sym, arith}
use Rattle.theory.specs.Literals.{has_var}
use Rattle.theory.specs.Truth.{value}
use Rattle.theory.specs.Trails.{literals}
use Rattle.theory.specs.Scores.{best_outside}
use Rattle.theory.proofs.literals.LiteralLemmas.{and-left, and-right, not_true}
use Rattle.heuristics.proofs.WaitingOnes.{best_outside-waiting, best_outside-nobody}
use Rattle.heuristics.specs.Rankings.{Ranking}
use Rattle.cdcl.specs.Searching.{formula_of}
use Rattle.cdcl.proofs.WaitingLemmas.{fewer-wait, best-waits, AreWaiting-out, chosen-held}
use Rattle.cdcl.proofs.search.decisions.Decisions.best_free.Goals as goal

pub may_decide-requires : goal.may_decide-requires
may_decide-requires c =
    let w = best-waits c.waiting.self.scores c.in-Some.var (sym c.best.ensures ∙ c.in-Some.is) in
    rw (c.waiting.invariant.waiting.flags) (rw c.waiting.invariant.waiting.vars at w.0)

pub returns-then-may_decide-clause-best : goal.returns-then-may_decide-clause-best
returns-then-may_decide-clause-best c =
    let k = c.args.kernel.now in
    let P = literals k.trail in
    let x = c.in-Some.var in
    let d = c.waiting.self in
    let both = sym c.may_decide.ensures ∙ c.if-may_decide.true in
    let is_held = and-left (value d.held.items x) (not (has_var P x)) both in
    let free = not_true (has_var P x) (and-right (value d.held.items x) (not (has_var P x)) both) in
    let best = best_outside-waiting d.scores (value d.held.items) P x c.waiting.invariant.waiting.waits (sym c.best.ensures ∙ c.in-Some.is) is_held free in
    sym (rw (c.waiting.invariant.waiting.vars, c.waiting.invariant.kept.scores, c.waiting.invariant.kept.held) at best)
    ∙ ap (λ vs. best_outside vs P c.args.self.now.scores.scores) (chosen-held (formula_of k) c.args.self.now.held.items c.requires.held)

pub take_out-requires : goal.take_out-requires
take_out-requires c = (best-waits c.waiting.self.scores c.in-Some.var (sym c.best.ensures ∙ c.in-Some.is)).0

pub waiting-smaller : goal.waiting-smaller
waiting-smaller c =
    let w = best-waits c.waiting.self.scores c.in-Some.var (sym c.best.ensures ∙ c.in-Some.is) in
    let long = c.waiting.invariant.waiting.long in
    let many = c.waiting.invariant.waiting.vars in
    let low = w.0.0 in
    let high = w.0.1 in
    rw c.take_out.ensures (fewer-wait c.waiting.self.scores c.in-Some.var (omega (arith, long, many, low, high)) w.1)

pub waiting-preserved : goal.waiting-preserved
waiting-preserved c =
    let w = best-waits c.waiting.self.scores c.in-Some.var (sym c.best.ensures ∙ c.in-Some.is) in
    record {
      waiting = AreWaiting-out c.args.kernel.now.vars (literals c.args.kernel.now.trail) c.waiting.self _ c.in-Some.var c.waiting.invariant.waiting (rw c.waiting.invariant.waiting.vars at w.0)
          (sym c.may_decide.ensures ∙ c.if-may_decide.false) c.take_out.ensures (λ i. c.waiting.self.saved) (λ i. c.waiting.self.held);
      kept = record {
        scores = ap (λ (r : Ranking). r.scores) c.take_out.ensures ∙ c.waiting.invariant.kept.scores;
        constants = ap (λ (r : Ranking). r.constants) c.take_out.ensures ∙ c.waiting.invariant.kept.constants;
        held = c.waiting.invariant.kept.held;
      };
      saved = c.waiting.invariant.saved;
    }

pub returns-clause-best : goal.returns-clause-best
returns-clause-best c =
    let k = c.args.kernel.now in
    let P = literals k.trail in
    let d = c.waiting.self in
    let best = best_outside-nobody d.scores (value d.held.items) P c.waiting.invariant.waiting.waits (sym c.best.ensures ∙ c.in_default.is) in
    sym (rw (c.waiting.invariant.waiting.vars, c.waiting.invariant.kept.scores, c.waiting.invariant.kept.held) at best)
    ∙ ap (λ vs. best_outside vs P c.args.self.now.scores.scores) (chosen-held (formula_of k) c.args.self.now.held.items c.requires.held)
