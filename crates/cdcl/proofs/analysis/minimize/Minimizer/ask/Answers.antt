use Rattle.std.proofs.Common.{Bool, length, ap, subst, arith}
use Rattle.cdcl.specs.Removing.{IsAnswered}
use Rattle.cdcl.proofs.QuestionLemmas.{between-variable, IsKnown-refused, IsKnown-accepted}
use Rattle.cdcl.proofs.analysis.minimize.Minimizer.ask.Goals as goal

pub begin-requires : goal.begin-requires
begin-requires c =
    let most = between-variable c.args.kernel.now c.args.root c.requires.between c.trail-trail.ensures.over in
    let room = c.requires.room.reached in
    record { room = omega (arith, most, room) }

pub returns-then-not-branch-clause-known : goal.returns-then-not-branch-clause-known
returns-then-not-branch-clause-known c S w known =
    let k = c.args.kernel.now in
    let marked = c.args.marks.now.marked.items in
    let answered = c.in_ok-go_through.ensures.asking S w (c.loop-at.invariant.asking S w known) in
    IsKnown-refused k S marked c.loop-at.at c.go_through.new.self c.refuse.new.self
    (subst (λ (b : Bool). IsAnswered k S marked c.loop-at.at b c.go_through.new.self) c.if-not-branch.true answered)
    c.refuse.ensures.removable c.in_ok-refuse.ensures.kept

pub returns-clause-known : goal.returns-clause-known
returns-clause-known c S w known =
    let end = c.loop-at-test.false in
    let same = ap length c.list.ensures.numbers in
    IsKnown-accepted c.args.kernel.now S c.args.marks.now.marked.items c.args.marks.now.current c.loop-at.at c.loop-at.self c.accept.new.self c.trail-trail.ensures.lawful w
    (c.loop-at.invariant.asking S w known) (omega (arith, end, same)) c.loop-at.invariant.inside c.accept.ensures.kept c.in_ok-accept.ensures.removable
