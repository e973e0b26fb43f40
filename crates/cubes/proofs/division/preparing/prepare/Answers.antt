use Rattle.std.proofs.Common.{refl, arith}
use Rattle.theory.specs.Beginnings.{begun_by}
use Rattle.cubes.specs.declared.tree.Tree.TheVariants.{Model, Refuted}
use Rattle.cubes.specs.Result.{IsResultBy}
use Rattle.cubes.proofs.GatheringLemmas.{says}
use Rattle.cubes.proofs.RootResults.{root-result}
use Rattle.cubes.proofs.division.preparing.prepare.Given.{Over}
use Rattle.cubes.proofs.division.preparing.prepare.Goals as goal

pub solve-requires : goal.solve-requires
solve-requires g c = (begun_by c.args.plan.search c.args.formula.now, c.in_ok-solver.ensures, rw c.root-root.ensures (λ k d none. absurd (omega (arith, none))))

pub returns-in-Exhausted-clause-begins : goal.returns-in-Exhausted-clause-begins
returns-in-Exhausted-clause-begins g c =
    let F = begun_by c.args.plan.search c.args.formula.now in
    c.root-in-Exhausted.ensures F c.args.plan (c.in_ok-var.ensures.kept F c.in_ok-solver.ensures) (rw (c.root-root.ensures, c.in-Exhausted.is) at (c.in_ok-var.ensures.runs F c.in_ok-solver.ensures))

at-model : (g : Over) (c : goal.After-drop-root-inside-in-Model g) → IsResultBy g.L.KeepsLines.lines (begun_by c.args.plan.search c.args.formula.now) c.args.plan (Model c.in-Model.values)
at-model g c =
    root-result g.L.KeepsLines.lines (begun_by c.args.plan.search c.args.formula.now) c.args.plan (Model c.in-Model.values)
    (rw (c.root-root.ensures, c.in-Model.is) at (c.in_ok-var.ensures.runs (begun_by c.args.plan.search c.args.formula.now) c.in_ok-solver.ensures))

pub returns-in-Model-clause-begins : goal.returns-in-Model-clause-begins
returns-in-Model-clause-begins g c = rw c.decided.ensures (at-model g c)

pub returns-in-Model-clause-says : goal.returns-in-Model-clause-says
returns-in-Model-clause-says g c = rw c.decided.ensures (says g.L.KeepsLines.lines c.args.formula.now c.args.plan (Model c.in-Model.values) c.vars-vars.ensures.within.formula (at-model g c))

refuted : (g : Over) (c : goal.After-drop-root-inside-2 g) → IsResultBy g.L.KeepsLines.lines (begun_by c.args.plan.search c.args.formula.now) c.args.plan (Refuted c.push.new.self)
refuted g c =
    root-result g.L.KeepsLines.lines (begun_by c.args.plan.search c.args.formula.now) c.args.plan (Refuted c.push.new.self) (
      g.L.KeepsLines.lines c.in-Refuted.lines,
      rw (c.root-root.ensures, c.in-Refuted.is) at (c.in_ok-var.ensures.runs (begun_by c.args.plan.search c.args.formula.now) c.in_ok-solver.ensures),
      rw (c.in_ok-push-in-Refuted.ensures.items, c.new-nodes.ensures.items) refl,
    )

pub returns-clause-begins : goal.returns-clause-begins
returns-clause-begins g c = rw c.decided-in-Refuted.ensures (refuted g c)

pub returns-clause-says : goal.returns-clause-says
returns-clause-says g c = rw c.decided-in-Refuted.ensures (says g.L.KeepsLines.lines c.args.formula.now c.args.plan (Refuted c.push.new.self) c.vars-vars.ensures.within.formula (refuted g c))
