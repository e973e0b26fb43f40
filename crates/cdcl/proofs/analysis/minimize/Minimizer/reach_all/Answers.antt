use Rattle.std.proofs.Common.{◌∙◌, ◌++◌, ◌∷◌, [], ap, arith}
use Rattle.cdcl.specs.Numbers.{NumberSet}
use Rattle.cdcl.proofs.SetLemmas.{has-at}
use Rattle.cdcl.proofs.QuestionLemmas.{IsReachedBy, reason-variable, GoesThrough-covered, GoesThrough-reached, GoesThrough-kept, GoesThrough-all}
use Rattle.cdcl.proofs.analysis.minimize.Minimizer.reach_all.Goals as goal
use Rattle.cdcl.proofs.analysis.minimize.Minimizer.reach_all.Goals.{in-Covered, in-Unknown+in_ok-reach-in-Unknown}

pub standing_of-requires-clause-marks : goal.standing_of-requires-clause-marks
standing_of-requires-clause-marks c =
    let most = reason-variable c.args.kernel.now _ c.args.clause.now c.lit-item.result c.trail-trail.ensures.lawful c.trail-trail.ensures.clauses_over c.requires.reason
    (has-at c.args.clause.now c.loop-lit.lit-index c.lit-item.result c.loop-lit-test.true c.lit-item.is) in
    let long = c.requires.asking.1.long in
    omega (arith, most, long)

pub standing_of-requires-clause-room : goal.standing_of-requires-clause-room
standing_of-requires-clause-room c =
    let most = reason-variable c.args.kernel.now _ c.args.clause.now c.lit-item.result c.trail-trail.ensures.lawful c.trail-trail.ensures.clauses_over c.requires.reason
    (has-at c.args.clause.now c.loop-lit.lit-index c.lit-item.result c.loop-lit-test.true c.lit-item.is) in
    let room = c.loop-lit.invariant.goes.room in
    let reached = room.reached in
    let removable = room.removable in
    let kept = room.kept in
    (omega (arith, most, reached, removable), omega (arith, most, reached, kept), omega (arith, most, reached))

pub reach-requires-clause-room : goal.reach-requires-clause-room
reach-requires-clause-room c =
    let most = reason-variable c.args.kernel.now _ c.args.clause.now c.lit-item.result c.trail-trail.ensures.lawful c.trail-trail.ensures.clauses_over c.requires.reason
    (has-at c.args.clause.now c.loop-lit.lit-index c.lit-item.result c.loop-lit-test.true c.lit-item.is) in
    let var = c.var.ensures.var in
    let room = c.loop-lit.invariant.goes.room.reached in
    omega (arith, most, var, room)

pub returns-in-Kept-clause-asking : goal.returns-in-Kept-clause-asking
returns-in-Kept-clause-asking c S w q =
    let kept = c.standing_of.ensures.kept c.in-Kept.is in
    GoesThrough-kept c.args.kernel.now S c.args.marks.now.marked.items c.args.marks.now.current c.args.at c.loop-lit.lit-index c.args.clause.now c.args.self.now c.loop-lit.self c.lit-item.result
    c.trail-trail.ensures.lawful w c.requires.inside c.requires.reason (has-at c.args.clause.now c.loop-lit.lit-index c.lit-item.result c.loop-lit-test.true c.lit-item.is)
    kept.0 kept.1 kept.2 kept.3 c.loop-lit.invariant.goes q

pub loop-lit-preserved : goal.loop-lit-preserved
loop-lit-preserved c =
    let k = c.args.kernel.now in
    let marked = c.args.marks.now.marked.items in
    let l = c.lit-item.result in
    let there = has-at c.args.clause.now c.loop-lit.lit-index l c.loop-lit-test.true c.lit-item.is in
    elim c.match-standing_of.branch [
      | in-Covered w ↦ rw w.self-is record {
        goes = GoesThrough-covered k marked c.args.marks.now.current c.args.at c.loop-lit.lit-index c.args.clause.now c.args.self.now c.loop-lit.self l c.loop-lit-test.true c.lit-item.is
            (c.standing_of.ensures.covered w.in-Covered.is) c.loop-lit.invariant.goes;
      }
      | in-Unknown+in_ok-reach-in-Unknown w ↦ (
          let u = c.standing_of.ensures.unknown w.in-Unknown.is in
          let reach = w.in_ok-reach-in-Unknown.ensures in
          let by : IsReachedBy c.args.at l.var c.loop-lit.self w.reach.new.self = record {
            reached = ap (λ (s : NumberSet). s.numbers) reach.reached ∙ ap (λ v. c.loop-lit.self.reached.numbers ++ v ∷ []) w.var.ensures.var;
            parents = reach.parents;
            removable = reach.removable;
            kept = reach.kept;
            bound = ap (λ (s : NumberSet). s.bound) reach.reached;
          } in
          rw w.self-is record {
            goes = GoesThrough-reached k marked c.args.marks.now.current c.args.at c.loop-lit.lit-index c.args.clause.now c.args.self.now c.loop-lit.self w.reach.new.self l u.3.0 u.3.1
                c.trail-trail.ensures.lawful c.requires.inside c.requires.reason c.loop-lit-test.true c.lit-item.is there u.0 u.1 u.2 u.3.2 u.3.3 u.3.4
                by c.loop-lit.invariant.goes;
          })
    ]

pub returns-clause-asking : goal.returns-clause-asking
returns-clause-asking c S w q =
    GoesThrough-all c.args.kernel.now S c.args.marks.now.marked.items c.args.marks.now.current c.args.at c.loop-lit.lit-index c.args.clause.now c.args.self.now c.loop-lit.self
    w c.requires.inside c.requires.reason c.loop-lit-test.false c.loop-lit.invariant.goes q
