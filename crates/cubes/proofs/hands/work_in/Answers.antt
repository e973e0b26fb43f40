use Rattle.std.proofs.Common.{◌≡◌, true, false, refl, sym, ap, ◌∙◌, subst, is_ok, rules}
use Rattle.pool.specs.Hands.{HandView}
use Rattle.cubes.specs.declared.hands.Worker.{Worker}
use Rattle.cubes.specs.Solved.{results_by}
use Rattle.theory.specs.Round.{HasWorked}
use Rattle.theory.specs.Ledger.{halt, halted, still_open}
use Rattle.theory.specs.Beginnings.{begun_by}
use Rattle.cubes.specs.Hands.{GoesHome}
use Rattle.cubes.specs.Looks.{TakeTurns}
use Rattle.cubes.proofs.GoingOn.{GoesOn-itself, GoesOn-then, GoesOn-same, GoesOn-got, GoesOn-halted, GoesOn-open, GoesHome-at, GoesHome-halted, GoesHome-open, home-as}
use Rattle.cubes.proofs.OkLemmas.{at_ok}
use Rattle.cubes.proofs.Turns.{turns-begin, turns-call, turns-same, turns-more, turns-as}
use Rattle.cubes.proofs.SameHands.{SameHand-itself, SameHand-then, worked-as}
use Rattle.cubes.proofs.WorkSteps.{loop-begins, loop-round, loop-idle, end-open, end-halted, end-short}
use Rattle.cubes.proofs.hands.work_in.Goals.{in-None, in-Some+then-is_halted, in-Some+else-is_halted+in-None-next+then-open-eq0}
use Rattle.cubes.proofs.hands.work_in.Goals as goal

pub turns-init : goal.turns-init
turns-init g c = record {
  same = SameHand-itself c.args.hand;
  worker = (c.none.ensures (begun_by c.args.plan.search c.args.formula.now) c.args.plan c.requires.root, c.requires.vars);
  underway = loop-begins (begun_by c.args.plan.search c.args.formula.now) c.args.plan c.args.hand.ledger (results_by g.L.KeepsLines.lines c.new.result.items) (ap (results_by g.L.KeepsLines.lines) c.new.ensures.items);
  onward = GoesOn-itself c.args.hand.ledger;
  looks = turns-begin c.args.hand.ledger (results_by g.L.KeepsLines.lines c.new.result.items) (ap (results_by g.L.KeepsLines.lines) c.new.ensures.items);
}

pub returns-then-is_err-clause-work : goal.returns-then-is_err-clause-work
returns-then-is_err-clause-work g c =
    let got = (rw c.in-Some-next.is at c.next-in-turns.ensures.got).1 in
    worked-as (begun_by c.args.plan.search c.args.formula.now) c.args.plan true c.home.result.short_of_memory c.args.hand.ledger c.halt.new.self c.home.result.hand (results_by g.L.KeepsLines.lines c.round.new.self.solved.items) (results_by g.L.KeepsLines.lines c.home.result.solved.items) c.home.ensures.hand (ap (results_by g.L.KeepsLines.lines) c.home.ensures.solved) c.home.ensures.short_of_memory
    (end-short (begun_by c.args.plan.search c.args.formula.now) c.args.plan c.args.hand.ledger c.turns.worker.hand.ledger c.halted-is_halted.new.self.ledger c.next-in-turns.new.hand.ledger
    c.round.new.self.hand.ledger c.halt.new.self.ledger c.halted-is_halted.result (is_ok c.round.result) c.in-Some-next.cube (results_by g.L.KeepsLines.lines c.turns.worker.solved.items) (results_by g.L.KeepsLines.lines c.round.new.self.solved.items)
    c.turns.invariant.underway (ap (λ (h : HandView). h.ledger) c.halted-is_halted.ensures.noted) got c.round.ensures.part (ap (λ (h : HandView). h.ledger) c.halt.ensures.noted))

pub turns-preserved-else-is_err : goal.turns-preserved-else-is_err
turns-preserved-else-is_err g c =
    let got = (rw c.in-Some-next.is at c.next-in-turns.ensures.got).1 in
    let ok : is_ok c.round.result ≡ true = search rules in
    record {
      same = SameHand-then c.args.hand c.next-in-turns.new.hand c.round.new.self.hand (SameHand-then c.args.hand c.halted-is_halted.new.self c.next-in-turns.new.hand (SameHand-then c.args.hand c.turns.worker.hand c.halted-is_halted.new.self c.turns.invariant.same c.halted-is_halted.ensures.same) c.next-in-turns.ensures.same) c.round.ensures.same;
      worker = search rules;
      underway = loop-round (begun_by c.args.plan.search c.args.formula.now) c.args.plan c.args.hand.ledger c.turns.worker.hand.ledger c.halted-is_halted.new.self.ledger c.next-in-turns.new.hand.ledger
          c.round.new.self.hand.ledger c.halted-is_halted.result (is_ok c.round.result) c.in-Some-next.cube (results_by g.L.KeepsLines.lines c.turns.worker.solved.items) (results_by g.L.KeepsLines.lines c.round.new.self.solved.items)
          c.turns.invariant.underway (ap (λ (h : HandView). h.ledger) c.halted-is_halted.ensures.noted) got c.round.ensures.part ok;
      onward =
          let first = c.args.hand.ledger in
          let unhalted = GoesOn-halted first c.turns.worker.hand c.halted-is_halted.new.self c.turns.invariant.onward c.halted-is_halted.result c.if-is_halted.false c.halted-is_halted.ensures.noted in
          let taken = GoesOn-got first c.halted-is_halted.new.self c.next-in-turns.new.hand unhalted c.in-Some-next.cube got in
          GoesOn-then first c.next-in-turns.new.hand.ledger c.round.new.self.hand.ledger taken c.round.ensures.calls;
      looks =
          let first = c.args.hand.ledger in
          let solved = results_by g.L.KeepsLines.lines c.turns.worker.solved.items in
          turns-more first (begun_by c.args.plan.search c.args.formula.now) c.args.plan (is_ok c.round.result) c.halted-is_halted.new.self.ledger c.next-in-turns.new.hand.ledger c.round.new.self.hand.ledger c.in-Some-next.cube solved (results_by g.L.KeepsLines.lines c.round.new.self.solved.items)
          (turns-call first c.turns.worker.hand.ledger c.halted-is_halted.new.self.ledger (halted c.halted-is_halted.result) solved c.turns.invariant.looks (ap (λ (h : HandView). h.ledger) c.halted-is_halted.ensures.noted) refl)
          got c.round.ensures.part (at_ok c.round.result _ ok c.round.ensures.turn);
    }

pub turns-preserved : goal.turns-preserved
turns-preserved g c = record {
  same = SameHand-then c.args.hand c.next-in-turns.new.hand c.still_open-open.new.self (SameHand-then c.args.hand c.halted-is_halted.new.self c.next-in-turns.new.hand (SameHand-then c.args.hand c.turns.worker.hand c.halted-is_halted.new.self c.turns.invariant.same c.halted-is_halted.ensures.same) c.next-in-turns.ensures.same) c.still_open-open.ensures.same;
  worker = (c.turns.invariant.worker.0, c.still_open-open.ensures.same.2 ∙ (c.next-in-turns.ensures.same.2 ∙ (c.halted-is_halted.ensures.same.2 ∙ c.turns.invariant.worker.1)));
  underway = loop-idle (begun_by c.args.plan.search c.args.formula.now) c.args.plan c.args.hand.ledger c.turns.worker.hand.ledger c.halted-is_halted.new.self.ledger c.next-in-turns.new.hand.ledger
      c.still_open-open.new.self.ledger c.halted-is_halted.result c.still_open-open.result (results_by g.L.KeepsLines.lines c.turns.worker.solved.items)
      c.turns.invariant.underway (ap (λ (h : HandView). h.ledger) c.halted-is_halted.ensures.noted) (ap (λ (h : HandView). h.ledger) (rw c.in-None-next.is at c.next-in-turns.ensures.got)) (ap (λ (h : HandView). h.ledger) c.still_open-open.ensures.noted);
  onward =
      let first = c.args.hand.ledger in
      let unhalted = GoesOn-halted first c.turns.worker.hand c.halted-is_halted.new.self c.turns.invariant.onward c.halted-is_halted.result c.if-is_halted.false c.halted-is_halted.ensures.noted in
      let none = GoesOn-same first c.halted-is_halted.new.self c.next-in-turns.new.hand unhalted (rw c.in-None-next.is at c.next-in-turns.ensures.got) in
      GoesOn-open first c.next-in-turns.new.hand c.still_open-open.new.self none c.still_open-open.result c.if-open-eq0.false c.still_open-open.ensures.noted;
  looks =
      let first = c.args.hand.ledger in
      let solved = results_by g.L.KeepsLines.lines c.turns.worker.solved.items in
      turns-call first c.next-in-turns.new.hand.ledger c.still_open-open.new.self.ledger (still_open c.still_open-open.result) solved
      (turns-same first c.halted-is_halted.new.self.ledger c.next-in-turns.new.hand.ledger solved
      (turns-call first c.turns.worker.hand.ledger c.halted-is_halted.new.self.ledger (halted c.halted-is_halted.result) solved c.turns.invariant.looks (ap (λ (h : HandView). h.ledger) c.halted-is_halted.ensures.noted) refl)
      (ap (λ (h : HandView). h.ledger) (rw c.in-None-next.is at c.next-in-turns.ensures.got)))
      (ap (λ (h : HandView). h.ledger) c.still_open-open.ensures.noted) refl;
}

pub returns-clause-work : goal.returns-clause-work
returns-clause-work g c =
    worked-as (begun_by c.args.plan.search c.args.formula.now) c.args.plan false c.home-2.result.short_of_memory c.args.hand.ledger c.match-next.worker.hand c.home-2.result.hand (results_by g.L.KeepsLines.lines c.match-next.worker.solved.items) (results_by g.L.KeepsLines.lines c.home-2.result.solved.items) c.home-2.ensures.hand (ap (results_by g.L.KeepsLines.lines) c.home-2.ensures.solved)
    c.home-2.ensures.short_of_memory
    (elim c.match-next.branch [
      | in-None w ↦ absurd (search rules)
      | in-Some+then-is_halted w ↦ subst (λ (v : Worker _). HasWorked (begun_by c.args.plan.search c.args.formula.now) c.args.plan false c.args.hand.ledger v.hand.ledger (results_by g.L.KeepsLines.lines v.solved.items)) (sym w.worker-is)
          (end-halted (begun_by c.args.plan.search c.args.formula.now) c.args.plan c.args.hand.ledger c.turns.worker.hand.ledger w.halted-is_halted.new.self.ledger w.halted-is_halted.result (results_by g.L.KeepsLines.lines c.turns.worker.solved.items)
          c.turns.invariant.underway (ap (λ (h : HandView). h.ledger) w.halted-is_halted.ensures.noted) w.if-is_halted.true)
      | in-Some+else-is_halted+in-None-next+then-open-eq0 w ↦ subst (λ (v : Worker _). HasWorked (begun_by c.args.plan.search c.args.formula.now) c.args.plan false c.args.hand.ledger v.hand.ledger (results_by g.L.KeepsLines.lines v.solved.items)) (sym w.worker-is)
          (end-open (begun_by c.args.plan.search c.args.formula.now) c.args.plan c.args.hand.ledger c.turns.worker.hand.ledger w.halted-is_halted.new.self.ledger w.next-in-turns.new.hand.ledger
          w.still_open-open.new.self.ledger w.halted-is_halted.result w.still_open-open.result (results_by g.L.KeepsLines.lines c.turns.worker.solved.items)
          c.turns.invariant.underway (ap (λ (h : HandView). h.ledger) w.halted-is_halted.ensures.noted) (ap (λ (h : HandView). h.ledger) (rw w.in-None-next.is at w.next-in-turns.ensures.got)) (ap (λ (h : HandView). h.ledger) w.still_open-open.ensures.noted)
          w.if-open-eq0.true)
    ])

pub round-requires-clause-over : goal.round-requires-clause-over
round-requires-clause-over g c =
    let fit = (rw c.in-Some-next.is at c.next-in-turns.ensures.got).0 in
    let vars : c.halted-is_halted.new.self.vars ≡ c.args.formula.now.vars = c.halted-is_halted.ensures.same.2 ∙ c.turns.invariant.worker.1 in
    rw vars at fit.0

pub returns-clause-same : goal.returns-clause-same
returns-clause-same g c = elim c.match-next.branch [
  | in-None w ↦ absurd (search rules)
  | in-Some+then-is_halted w ↦
      rw (c.home-2.ensures.hand, w.worker-is) (SameHand-then c.args.hand c.turns.worker.hand w.halted-is_halted.new.self c.turns.invariant.same w.halted-is_halted.ensures.same)
  | in-Some+else-is_halted+in-None-next+then-open-eq0 w ↦
      rw (c.home-2.ensures.hand, w.worker-is) (SameHand-then c.args.hand w.next-in-turns.new.hand w.still_open-open.new.self (SameHand-then c.args.hand w.halted-is_halted.new.self w.next-in-turns.new.hand (SameHand-then c.args.hand c.turns.worker.hand w.halted-is_halted.new.self c.turns.invariant.same w.halted-is_halted.ensures.same) w.next-in-turns.ensures.same) w.still_open-open.ensures.same)
]

pub returns-then-is_err-clause-home : goal.returns-then-is_err-clause-home
returns-then-is_err-clause-home g c =
    let first = c.args.hand.ledger in
    let got = (rw c.in-Some-next.is at c.next-in-turns.ensures.got).1 in
    let unhalted = GoesOn-halted first c.turns.worker.hand c.halted-is_halted.new.self c.turns.invariant.onward c.halted-is_halted.result c.if-is_halted.false c.halted-is_halted.ensures.noted in
    let taken = GoesOn-got first c.halted-is_halted.new.self c.next-in-turns.new.hand unhalted c.in-Some-next.cube got in
    let worked = GoesOn-then first c.next-in-turns.new.hand.ledger c.round.new.self.hand.ledger taken c.round.ensures.calls in
    home-as true c.home.result.short_of_memory first c.halt.new.self c.home.result.hand c.home.ensures.hand c.home.ensures.short_of_memory
    (GoesHome-at first c.round.new.self.hand c.halt.new.self worked true halt c.halt.ensures.noted tt)

pub returns-clause-home : goal.returns-clause-home
returns-clause-home g c =
    let first = c.args.hand.ledger in
    home-as false c.home-2.result.short_of_memory first c.match-next.worker.hand c.home-2.result.hand c.home-2.ensures.hand c.home-2.ensures.short_of_memory
    (elim c.match-next.branch [
      | in-None w ↦ absurd (search rules)
      | in-Some+then-is_halted w ↦ subst (λ (v : Worker _). GoesHome false first v.hand.ledger) (sym w.worker-is)
          (GoesHome-halted first c.turns.worker.hand w.halted-is_halted.new.self c.turns.invariant.onward w.halted-is_halted.result w.if-is_halted.true w.halted-is_halted.ensures.noted)
      | in-Some+else-is_halted+in-None-next+then-open-eq0 w ↦ subst (λ (v : Worker _). GoesHome false first v.hand.ledger) (sym w.worker-is)
          (let unhalted = GoesOn-halted first c.turns.worker.hand w.halted-is_halted.new.self c.turns.invariant.onward w.halted-is_halted.result w.if-is_halted.false w.halted-is_halted.ensures.noted in
          let none = GoesOn-same first w.halted-is_halted.new.self w.next-in-turns.new.hand unhalted (rw w.in-None-next.is at w.next-in-turns.ensures.got) in
          GoesHome-open first w.next-in-turns.new.hand w.still_open-open.new.self none w.still_open-open.result w.if-open-eq0.true w.still_open-open.ensures.noted)
    ])

pub returns-then-is_err-clause-looks : goal.returns-then-is_err-clause-looks
returns-then-is_err-clause-looks g c = λ long. absurd (let short = c.home.ensures.short_of_memory in cc)

pub returns-clause-looks : goal.returns-clause-looks
returns-clause-looks g c = λ long.
    let first = c.args.hand.ledger in
    let solved = results_by g.L.KeepsLines.lines c.turns.worker.solved.items in
    turns-as first c.match-next.worker.hand.ledger c.home-2.result.hand.ledger (results_by g.L.KeepsLines.lines c.match-next.worker.solved.items) (results_by g.L.KeepsLines.lines c.home-2.result.solved.items)
    (ap (λ (h : HandView). h.ledger) c.home-2.ensures.hand) (ap (results_by g.L.KeepsLines.lines) c.home-2.ensures.solved)
    (elim c.match-next.branch [
      | in-None w ↦ absurd (search rules)
      | in-Some+then-is_halted w ↦ subst (λ (v : Worker _). TakeTurns first v.hand.ledger (results_by g.L.KeepsLines.lines v.solved.items)) (sym w.worker-is)
          (turns-call first c.turns.worker.hand.ledger w.halted-is_halted.new.self.ledger (halted w.halted-is_halted.result) solved c.turns.invariant.looks (ap (λ (h : HandView). h.ledger) w.halted-is_halted.ensures.noted) refl)
      | in-Some+else-is_halted+in-None-next+then-open-eq0 w ↦ subst (λ (v : Worker _). TakeTurns first v.hand.ledger (results_by g.L.KeepsLines.lines v.solved.items)) (sym w.worker-is)
          (turns-call first w.next-in-turns.new.hand.ledger w.still_open-open.new.self.ledger (still_open w.still_open-open.result) solved
          (turns-same first w.halted-is_halted.new.self.ledger w.next-in-turns.new.hand.ledger solved
          (turns-call first c.turns.worker.hand.ledger w.halted-is_halted.new.self.ledger (halted w.halted-is_halted.result) solved c.turns.invariant.looks (ap (λ (h : HandView). h.ledger) w.halted-is_halted.ensures.noted) refl)
          (ap (λ (h : HandView). h.ledger) (rw w.in-None-next.is at w.next-in-turns.ensures.got)))
          (ap (λ (h : HandView). h.ledger) w.still_open-open.ensures.noted) refl)
    ])
