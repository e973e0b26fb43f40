use Rattle.std.proofs.Common.{sym, ◌∙◌}
use Rattle.simplify.proofs.FollowedRuns.{underway-first, underway-next, underway-last, next-is, ready-tried}
use Rattle.simplify.proofs.trial.Trial.run.Goals as goal

pub loop-count-init : goal.loop-count-init
loop-count-init g c = record { follows = underway-first c.args.most c.args.self.now; ready = c.requires.0 }

pub returns-in_default : goal.returns-in_default
returns-in_default g c = underway-last c.args.most c.args.self.now c.loop-count.self c.loop-count.invariant.ready (sym c.next.ensures ∙ c.in_default.is) c.loop-count.invariant.follows

pub try_variable-requires-clause-variable : goal.try_variable-requires-clause-variable
try_variable-requires-clause-variable g c = (next-is c.args.most c.loop-count.self c.in-Some.variable c.loop-count.invariant.ready (sym c.next.ensures ∙ c.in-Some.is)).var

pub try_variable-requires-clause-ready : goal.try_variable-requires-clause-ready
try_variable-requires-clause-ready g c = c.loop-count.invariant.ready

pub try_variable-requires-clause-light : goal.try_variable-requires-clause-light
try_variable-requires-clause-light g c = (next-is c.args.most c.loop-count.self c.in-Some.variable c.loop-count.invariant.ready (sym c.next.ensures ∙ c.in-Some.is)).light

pub loop-count-preserved : goal.loop-count-preserved
loop-count-preserved g c = rw c.in_ok-try_variable.ensures (record {
  follows = underway-next c.args.most c.args.self.now c.loop-count.self c.in-Some.variable c.loop-count.invariant.ready (sym c.next.ensures ∙ c.in-Some.is) c.loop-count.invariant.follows;
  ready = ready-tried c.in-Some.variable c.loop-count.self;
})
