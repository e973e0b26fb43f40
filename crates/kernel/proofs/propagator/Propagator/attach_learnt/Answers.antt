use Rattle.std.proofs.Common.{◌≡◌, ◌∙◌, sym, length}
use Rattle.std.proofs.lemmas.List.{length-map}
use Rattle.kernel.specs.EntryLists.{entries_of}
use Rattle.kernel.specs.Visiting.{kept_of}
use Rattle.kernel.proofs.Visits.{code-within, over-var}
use Rattle.kernel.proofs.KernelSteps.{learnt-watching}
use Rattle.kernel.proofs.propagator.Propagator.attach_learnt.Goals as goal

pub attach-requires-clause-first : goal.attach-requires-clause-first
attach-requires-clause-first c =
    let p = c.in-Some.ensures.pair c.requires.learnable.free c.requires.learnable.unit in
    code-within c.in-Some.watched.first c.args.trail.now.vars _ (over-var c.args.trail.now.vars c.args.clause.now c.in-Some.watched.first c.requires.over p.1.first_in) c.requires.lists

pub attach-requires-clause-second : goal.attach-requires-clause-second
attach-requires-clause-second c =
    let p = c.in-Some.ensures.pair c.requires.learnable.free c.requires.learnable.unit in
    code-within c.in-Some.watched.second c.args.trail.now.vars _ (over-var c.args.trail.now.vars c.args.clause.now c.in-Some.watched.second c.requires.over p.1.second_in) c.requires.lists

pub returns-clause-watching : goal.returns-clause-watching
returns-clause-watching c first at floor single empty within s =
    let e = c.in_ok-attach-in-Some.ensures in
    let p = c.in-Some.ensures.pair c.requires.learnable.free c.requires.learnable.unit in
    let long : length (kept_of c.attach.new.self).lists ≡ length (kept_of c.args.self.now).lists = length-map c.attach.new.self.lists entries_of ∙ e.kept.2 ∙ sym (length-map c.args.self.now.lists entries_of) in
    rw e.clauses
    (learnt-watching c.args.trail.now.vars first c.args.self.now.clauses.given c.args.trail.now.entries at floor (kept_of c.args.self.now) (kept_of c.attach.new.self) single empty c.args.clause.now c.in-Some.watched within c.entries-entries.ensures.ordered
    c.requires.over c.requires.learnable p.0 p.1 p.2 e.pairs e.lists long (rw (e.kept.0, ← c.len-number.ensures.given) c.in_ok-push-in-Some.ensures) e.kept.1 s)
