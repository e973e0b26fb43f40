use Rattle.std.proofs.Common.{◌≡◌, ◌∙◌, ◌<◌, ◌||◌, Some, None, ap, sym, arith}
use Rattle.std.proofs.lemmas.List.Elements.{All-weaker}
use Rattle.theory.specs.Literals.{IsVariable}
use Rattle.theory.specs.Trails.{Entry}
use Rattle.lookahead.proofs.ArrangedCounts.{arranged-over}
use Rattle.cdcl.specs.Numbers.{is_one_of}
use Rattle.cdcl.proofs.ReasonVariables.{found, makes_false, reason-inside, seen-reason, seen-none}
use Rattle.cdcl.proofs.analysis.reasons.see_reason.Goals as goal

pub arranged-requires : goal.arranged-requires
arranged-requires c =
    let there = found c.args.kernel.now.trail c.var.result c.args.lit.var _ c.var.ensures.var c.in-Some.ensures in
    let reason = ap (λ (e : Entry). e.reason) (sym c.entry-in-Some.view_is) ∙ c.in-Some-reason.is in
    reason-inside c.args.kernel.now.clauses c.args.kernel.now.trail c.args.lit c.in-Some.entry c.in-Some-reason.number c.trail-trail.ensures.lawful c.requires.false_literal there reason

pub see_clause-requires : goal.see_clause-requires
see_clause-requires c =
    let there = found c.args.kernel.now.trail c.var.result c.args.lit.var _ c.var.ensures.var c.in-Some.ensures in
    let reason = ap (λ (e : Entry). e.reason) (sym c.entry-in-Some.view_is) ∙ c.in-Some-reason.is in
    let inside = reason-inside c.args.kernel.now.clauses c.args.kernel.now.trail c.args.lit c.in-Some.entry c.in-Some-reason.number c.trail-trail.ensures.lawful c.requires.false_literal there reason in
    let room = c.requires.bound in
    All-weaker (λ l. IsVariable c.args.kernel.now.vars l.var) (λ l. l.var < c.args.seen.now.bound) (λ l h. (let most = h.1 in omega arith)) c.arranged.result.now
    (arranged-over c.args.kernel.now.vars c.args.kernel.now.clauses c.in-Some-reason.number c.arranged.result.now inside.0 inside.1 c.trail-trail.ensures.clauses_over c.arranged.ensures)

pub returns-in_ok-see_clause-clause-seen : goal.returns-in_ok-see_clause-clause-seen
returns-in_ok-see_clause-clause-seen c v =
    let there = found c.args.kernel.now.trail c.var.result c.args.lit.var _ c.var.ensures.var c.in-Some.ensures in
    let reason = ap (λ (e : Entry). e.reason) (sym c.entry-in-Some.view_is) ∙ c.in-Some-reason.is in
    c.in_ok-see_clause.ensures.seen v
    ∙ ap (λ b. is_one_of c.args.seen.now.numbers v || b)
    (seen-reason c.args.kernel.now.clauses c.args.kernel.now.trail c.args.lit c.in-Some.entry c.in-Some-reason.number c.arranged.result.now v c.trail-trail.ensures.lawful c.requires.false_literal there reason c.arranged.ensures)

pub returns-in_default-reason-clause-seen : goal.returns-in_default-reason-clause-seen
returns-in_default-reason-clause-seen c v =
    let there = found c.args.kernel.now.trail c.var.result c.args.lit.var _ c.var.ensures.var c.in-Some.ensures in
    let reason = ap (λ (e : Entry). e.reason) (sym c.entry-in-Some.view_is) ∙ c.in_default-reason.is in
    seen-none c.args.kernel.now.clauses c.args.kernel.now.trail c.args.lit c.in-Some.entry (is_one_of c.args.seen.now.numbers v) v c.trail-trail.ensures.lawful c.requires.false_literal there reason

pub returns-in_default-clause-seen : goal.returns-in_default-clause-seen
returns-in_default-clause-seen c v =
    let m = makes_false c.args.kernel.now.clauses c.args.kernel.now.trail c.args.lit c.trail-trail.ensures.lawful c.requires.false_literal in
    let none = found c.args.kernel.now.trail c.var.result c.args.lit.var None c.var.ensures.var c.in_default.ensures in
    let clash : None ≡ Some m.entry = sym none ∙ m.found in
    absurd (cc)
