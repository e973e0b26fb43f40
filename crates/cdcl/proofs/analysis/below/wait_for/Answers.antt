use Rattle.std.proofs.Common.{◌∙◌, refl}
use Rattle.cdcl.proofs.MarkedSets.{mark-read}
use Rattle.cdcl.proofs.AwaitedPlaces.{WaitsFor-found, WaitsFor-free}
use Rattle.cdcl.proofs.analysis.below.wait_for.Goals as goal

pub returns-in_ok-push_far-clause-waits : goal.returns-in_ok-push_far-clause-waits
returns-in_ok-push_far-clause-waits c =
    WaitsFor-found c.args.kernel.now.clauses c.args.kernel.now.trail c.args.marks.now.marked.items c.args.var c.in-Some.place _ _ c.trail-trail.ensures.lawful c.in-Some.ensures.found c.in-Some.ensures.inside
    (mark-read c.args.marks.now.marked.items c.args.var c.args.var c.index.result.now refl c.requires.inside c.index.ensures ∙ c.if-not-index.false)
    c.in_ok-push_far.ensures

pub returns-in_default-clause-waits : goal.returns-in_default-clause-waits
returns-in_default-clause-waits c = WaitsFor-free c.args.kernel.now.clauses c.args.kernel.now.trail c.args.marks.now.marked.items c.args.var c.args.marks.now.pending c.trail-trail.ensures.lawful c.in_default.ensures.free
