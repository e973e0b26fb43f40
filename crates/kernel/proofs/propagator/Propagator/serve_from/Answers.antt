use Rattle.std.proofs.Common.{◌≡◌, ◌∙◌, arith, length, subst, ap}
use Rattle.kernel.specs.Watching.{IsServed}
use Rattle.kernel.specs.Visiting.{tending}
use Rattle.kernel.specs.Placing.{kept_with}
use Rattle.kernel.proofs.propagator.Propagator.serve_from.Goals as goal

pub serve-requires-clause-served : goal.serve-requires-clause-served
serve-requires-clause-served c = (c.requires.served.0, rw c.loop-place.invariant.clauses (c.loop-place.invariant.served c.requires.served.0 c.requires.served.1))

pub loop-place-preserved : goal.loop-place-preserved
loop-place-preserved c = record {
  served = λ floor s. rw (← c.loop-place.invariant.clauses) (c.in_ok-serve.ensures.served floor (rw c.loop-place.invariant.clauses (c.loop-place.invariant.served floor s)));
  entries = rw (← c.loop-place.invariant.clauses) c.in_ok-serve.ensures.entries;
  clauses = c.in_ok-serve.ensures.kept.0 ∙ c.loop-place.invariant.clauses;
  lists = c.in_ok-serve.ensures.kept.1 ∙ c.loop-place.invariant.lists;
  line = λ h. rw (← c.loop-place.invariant.clauses) (c.in_ok-serve.ensures.line (rw c.loop-place.invariant.clauses (c.loop-place.invariant.line h)));
  units = c.in_ok-serve.ensures.kept.2 ∙ c.loop-place.invariant.units;
}

pub returns-clause-served : goal.returns-clause-served
returns-clause-served c floor s =
    let end : length c.entries-place-end.result.now ≡ length c.args.trail.now.entries = ap length c.entries-place-end.ensures.entries in
    let all : c.loop-place.place ≡ length c.args.trail.now.entries = omega arith in
    subst (λ n. IsServed floor c.args.self.now.clauses.given c.args.trail.now.entries n (tending (kept_with c.loop-place.self c.loop-place.line))) all (c.loop-place.invariant.served floor s)
