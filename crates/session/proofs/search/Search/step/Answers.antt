use Rattle.std.proofs.Common.{List, sym, subst}
use Rattle.theory.specs.Literals.{Clause}
use Rattle.theory.specs.Propagation.{by_place, Propagates, quiet}
use Rattle.theory.proofs.trails.LawfulTrails.{Propagates-conflict}
use Rattle.theory.proofs.searching.PropagationLemmas.{Propagates-rests}
use Rattle.kernel.specs.Answer.{closed_of}
use Rattle.kernel.specs.Rules.{rule_of}
use Rattle.kernel.specs.declared.closed.Closed.{Closed}
use Rattle.kernel.specs.declared.order.Order.{Order}
use Rattle.session.proofs.AskedLemmas.{IsAsked-Propagates}
use Rattle.session.proofs.search.Search.step.Goals as goal

pub on_quiet-requires-clause-asked : goal.on_quiet-requires-clause-asked
on_quiet-requires-clause-asked c =
    let s = c.args.self.now in
    let k = c.close.new.self in
    let kept = c.close.ensures.kept in
    IsAsked-Propagates c.args.formula.now c.args.assumptions.now s k (closed_of c.in_ok-close.field-0) c.requires kept.0 kept.1 kept.3 c.in_ok-close.ensures.has_memory
    (subst (λ (o : Order). Propagates (rule_of o) s.kernel.clauses s.kernel.trail (closed_of c.in_ok-close.field-0) k.trail) c.requires.fit.order c.in_ok-close.ensures.ok)

pub on_quiet-requires-clause-quiet : goal.on_quiet-requires-clause-quiet
on_quiet-requires-clause-quiet c =
    let s = c.args.self.now in
    let k = c.close.new.self in
    let closes = subst (λ (o : Order). Propagates (rule_of o) s.kernel.clauses s.kernel.trail (closed_of c.in_ok-close.field-0) k.trail) c.requires.fit.order c.in_ok-close.ensures.ok in
    subst (λ (C : List Clause). Propagates by_place C k.trail quiet k.trail) (sym c.close.ensures.kept.1)
    (Propagates-rests by_place s.kernel.clauses s.kernel.trail k.trail (subst (λ (x : Closed). Propagates by_place s.kernel.clauses s.kernel.trail (closed_of x) k.trail) c.in-Quiet.is closes))

pub on_conflict-requires-clause-asked : goal.on_conflict-requires-clause-asked
on_conflict-requires-clause-asked c =
    let s = c.args.self.now in
    let k = c.close.new.self in
    let kept = c.close.ensures.kept in
    IsAsked-Propagates c.args.formula.now c.args.assumptions.now s k (closed_of c.in_ok-close.field-0) c.requires kept.0 kept.1 kept.3 c.in_ok-close.ensures.has_memory
    (subst (λ (o : Order). Propagates (rule_of o) s.kernel.clauses s.kernel.trail (closed_of c.in_ok-close.field-0) k.trail) c.requires.fit.order c.in_ok-close.ensures.ok)

pub on_conflict-requires-clause-conflict : goal.on_conflict-requires-clause-conflict
on_conflict-requires-clause-conflict c =
    let s = c.args.self.now in
    let k = c.close.new.self in
    let closes = subst (λ (o : Order). Propagates (rule_of o) s.kernel.clauses s.kernel.trail (closed_of c.in_ok-close.field-0) k.trail) c.requires.fit.order c.in_ok-close.ensures.ok in
    rw c.close.ensures.kept.1
    (Propagates-conflict by_place s.kernel.clauses s.kernel.trail k.trail c.in-Conflict.number
    (subst (λ (x : Closed). Propagates by_place s.kernel.clauses s.kernel.trail (closed_of x) k.trail) c.in-Conflict.is closes))
