use Rattle.std.proofs.Common.{◌∙◌, ◌||◌, ap, subst, []}
use Rattle.theory.specs.Literals.{Clause, has_var}
use Rattle.theory.proofs.literals.LiteralLemmas.{and-left}
use Rattle.cdcl.specs.Marks.{IsSet, is_resolvable}
use Rattle.cdcl.specs.Numbers.{is_one_of}
use Rattle.cdcl.proofs.ArrangedClauses.{CanResolve-arranged, others-arranged, others-vars, resolved-arranged}
use Rattle.cdcl.proofs.MetVariables.{met-seen, met-resolved}
use Rattle.cdcl.proofs.PlaceLemmas.{entry_of-placed}
use Rattle.cdcl.proofs.WalkLemmas.{reason-numbered, CanResolve-used, others-false, Resolves-used, Resolves-passed}
use Rattle.cdcl.proofs.analysis.first_uip.look_at.Goals as goal

pub arranged-requires : goal.arranged-requires
arranged-requires c =
    let h = c.requires.marks in
    let there = entry_of-placed _ _ h.joins.bound c.args.entry h.joins.lawful h.at in
    reason-numbered _ _ [] h.joins.set h.joins.bound c.args.entry c.in-Some.number h.joins.lawful h.at (c.in-Some.ensures _ h.joins.set h.joins.lawful h.joins.is.is there h.is_open_there)

pub resolve-requires-clause-marks : goal.resolve-requires-clause-marks
resolve-requires-clause-marks c =
    let h = c.requires.marks in
    let there = entry_of-placed _ _ h.joins.bound c.args.entry h.joins.lawful h.at in
    CanResolve-arranged c.args.kernel.now c.args.entry _ c.arranged.result.now c.args.marks.now c.arranged.ensures
    (CanResolve-used c.args.kernel.now c.in-Some.number c.args.entry c.args.marks.now h (c.in-Some.ensures _ h.joins.set h.joins.lawful h.joins.is.is there h.is_open_there))

pub returns-in_ok-put_last-clause-set : goal.returns-in_ok-put_last-clause-set
returns-in_ok-put_last-clause-set c S bound at o h =
    let there = entry_of-placed _ _ bound c.args.entry c.requires.marks.joins.lawful at in
    let used = c.in-Some.ensures _ S c.requires.marks.joins.lawful h.is there o in
    let others = others-false _ _ [] S bound c.args.entry c.in-Some.number c.requires.marks.joins.lawful at used in
    Resolves-used _ c.in-Some.number c.args.entry S bound _ _ _ used
    (subst (λ (R : Clause). IsSet c.args.kernel.now [] R bound c.resolve.new.marks)
    (resolved-arranged c.args.kernel.now S _ c.arranged.result.now c.args.entry.lit bound c.args.marks.now c.requires.marks.joins.lawful c.arranged.ensures h others)
    (c.in_ok-resolve.ensures.set S bound at (others-arranged _ _ _ c.args.entry.lit c.arranged.ensures others) h))
    c.in_ok-put_last.ensures.ok

pub returns-in_default-clause-set : goal.returns-in_default-clause-set
returns-in_default-clause-set c S bound at o h =
    let there = entry_of-placed _ _ bound c.args.entry c.requires.marks.joins.lawful at in
    Resolves-passed c.args.kernel.now c.args.entry S bound _ c.args.marks.now (rw c.in_default.is at (c.reason_used.ensures c.args.kernel.now S c.requires.marks.joins.lawful h.is there o)) h

pub returns-in_ok-put_last-clause-met : goal.returns-in_ok-put_last-clause-met
returns-in_ok-put_last-clause-met c met v =
    let h = c.requires.marks in
    let K = c.args.kernel.now.clauses in
    let is_in = and-left (has_var h.joins.set c.args.entry.lit.var) (is_resolvable c.args.kernel.now.trail [] c.args.entry) h.is_open_there in
    met-resolved K _ _ c.in-Some.number c.args.entry.lit _ _ v (met-seen c.args.marks.now.seen.items c.args.entry.lit.var (h.joins.is.seen.all c.args.entry.lit.var is_in))
    (c.in_ok-resolve.ensures.met v ∙ ap (λ b. b || is_one_of c.args.marks.now.seen.items v) (others-vars _ c.arranged.result.now c.args.entry.lit v c.arranged.ensures))
    (met v) c.in_ok-put_last.ensures.ok
