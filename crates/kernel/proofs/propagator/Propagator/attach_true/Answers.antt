use Rattle.std.proofs.Common.{◌≡◌, ◌∙◌, sym, refl, length}
use Rattle.std.proofs.lemmas.List.{length-map}
use Rattle.kernel.specs.EntryLists.{entries_of}
use Rattle.kernel.specs.Visiting.{kept_of}
use Rattle.kernel.proofs.TrueUnits.{true-watching}
use Rattle.kernel.proofs.propagator.Propagator.attach_true.Goals as goal

pub returns-clause-watching : goal.returns-clause-watching
returns-clause-watching c V first at floor T single empty within level holds s =
    let e = c.in_ok-attach.ensures in
    let size = length-map c.args.self.now.lists entries_of in
    let long : length (kept_of c.attach.new.self).lists ≡ length (kept_of c.args.self.now).lists = length-map c.attach.new.self.lists entries_of ∙ e.kept.2 ∙ sym size in
    rw e.clauses
    (true-watching V first c.args.self.now.clauses.given T at floor (kept_of c.args.self.now) (kept_of c.attach.new.self) single empty c.args.lit (record { first = c.args.lit; second = c.args.lit }) within refl (rw size c.requires)
    level holds e.pairs e.lists long e.kept.0 e.kept.1 s)
