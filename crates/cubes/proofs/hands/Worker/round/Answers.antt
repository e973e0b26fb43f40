use Rattle.std.proofs.Common.{◌≡◌, ◌++◌, ◌∷◌, [], is_ok, true, refl, sym, ap, ◌∙◌, subst, rules, arith}
use Rattle.std.proofs.lemmas.List.{map-append}
use Rattle.theory.specs.Ledger.{joined, calling, offer, look, less}
use Rattle.theory.specs.Places.{place_of}
use Rattle.theory.specs.Work.{IsNotBelow}
use Rattle.theory.specs.Beginnings.{begun_by}
use Rattle.pool.specs.Hands.{HandView}
use Rattle.cubes.specs.declared.solved.What.TheVariants.{Skipped}
use Rattle.cubes.specs.declared.hands.Worker.{Worker}
use Rattle.cubes.specs.Solved.{solved_by, results_by}
use Rattle.cubes.specs.Hands.{AddsRound, GoesOn}
use Rattle.cubes.proofs.GoingOn.{GoesOn-itself, GoesOn-then, GoesOn-call, GoesOn-same}
use Rattle.cubes.proofs.RoundParts.{look-part, skip-part, not-below-some, not-below-none}
use Rattle.cubes.proofs.RoundEndings.{ends-refuted, ends-model, ends-exhausted, ends-short}
use Rattle.cubes.specs.Looks.{AddsDone, looks_of}
use Rattle.cubes.proofs.Turns.{looks-call, looks-halves, done-nothing, turn-skipped, turn-done}
use Rattle.cubes.proofs.hands.Worker.round.Goals.{in-Some+else-least-place, in_default, in-Model, in-Refuted, in-Exhausted+in_ok-hand_on_halves-in-Exhausted}
use Rattle.cubes.proofs.hands.Worker.round.Goals as goal

pub returns-in_err-push-clause-part : goal.returns-in_err-push-clause-part
returns-in_err-push-clause-part g c =
    look-part (begun_by c.args.plan.search c.args.formula.now) c.args.plan c.args.cube c.args.self.now.hand.ledger c.look-seen.new.self.ledger (results_by g.L.KeepsLines.lines c.args.self.now.solved.items) (results_by g.L.KeepsLines.lines c.push.new.self.items) c.look-seen.result
    (is_ok c.from_residual.result) (search rules) (ap (λ (h : HandView). h.ledger) c.look-seen.ensures.noted) (ap (results_by g.L.KeepsLines.lines) (search rules))

pub returns-then-least-place-clause-part : goal.returns-then-least-place-clause-part
returns-then-least-place-clause-part g c =
    let items : c.push.new.self.items ≡ c.args.self.now.solved.items ++ record { cube = c.args.cube; what = Skipped c.in-Some.least } ∷ [] = search rules in
    skip-part (begun_by c.args.plan.search c.args.formula.now) c.args.plan c.args.cube c.args.self.now.hand.ledger c.look-seen.new.self.ledger c.less.new.self.ledger (results_by g.L.KeepsLines.lines c.args.self.now.solved.items)
    (results_by g.L.KeepsLines.lines c.push.new.self.items) c.look-seen.result c.in-Some.least (ap (λ (h : HandView). h.ledger) c.look-seen.ensures.noted) c.in-Some.is (let p = c.place_of-place.ensures.place in let l = c.if-least-place.true in omega arith)
    (ap (λ (h : HandView). h.ledger) c.less.ensures.noted) (ap (results_by g.L.KeepsLines.lines) items ∙ map-append (solved_by g.L.KeepsLines.lines) c.args.self.now.solved.items _)

pub returns-in_err-ending-clause-part : goal.returns-in_err-ending-clause-part
returns-in_err-ending-clause-part g c =
    rw c.settle-ending.ensures.hand
    (look-part (begun_by c.args.plan.search c.args.formula.now) c.args.plan c.args.cube c.args.self.now.hand.ledger c.look-seen.new.self.ledger (results_by g.L.KeepsLines.lines c.args.self.now.solved.items) (results_by g.L.KeepsLines.lines c.settle-ending.new.self.solved.items) c.look-seen.result
    (is_ok c.from_residual-in_err-ending.result) (search rules) (ap (λ (h : HandView). h.ledger) c.look-seen.ensures.noted) (ap (results_by g.L.KeepsLines.lines) c.in_err-ending.ensures.none))

pub returns-in_err-hand_on_halves-in-Exhausted-clause-part : goal.returns-in_err-hand_on_halves-in-Exhausted-clause-part
returns-in_err-hand_on_halves-in-Exhausted-clause-part g c =
    ends-short (begun_by c.args.plan.search c.args.formula.now) c.args.plan c.args.cube c.args.self.now.hand.ledger c.look-seen.new.self.ledger (results_by g.L.KeepsLines.lines c.args.self.now.solved.items) (results_by g.L.KeepsLines.lines c.settle-ending.new.self.solved.items) c.look-seen.result
    (ap (λ (h : HandView). h.ledger) c.look-seen.ensures.noted) c.in-Exhausted.var (rw c.in-Exhausted.is at c.in_ok-ending.ensures.settles) (is_ok c.hand_on_halves.result) c.hand_on_halves.new.self.hand.ledger
    (results_by g.L.KeepsLines.lines c.hand_on_halves.new.self.solved.items) (rw c.settle-ending.ensures.hand at c.hand_on_halves.ensures.part) (is_ok c.from_residual-in_err-hand_on_halves-in-Exhausted.result) (search rules)

pub returns-clause-part : goal.returns-clause-part
returns-clause-part g c = elim c.match-branch-3.branch [
  | in-Model w ↦ subst (λ (v : Worker _). AddsRound (begun_by c.args.plan.search c.args.formula.now) c.args.plan true c.args.cube c.args.self.now.hand.ledger c.less-2.new.self.ledger (results_by g.L.KeepsLines.lines c.args.self.now.solved.items) (results_by g.L.KeepsLines.lines v.solved.items)) (sym w.self-is)
      (ends-model (begun_by c.args.plan.search c.args.formula.now) c.args.plan c.args.cube c.args.self.now.hand.ledger c.look-seen.new.self.ledger (results_by g.L.KeepsLines.lines c.args.self.now.solved.items) (results_by g.L.KeepsLines.lines c.settle-ending.new.self.solved.items) c.look-seen.result
      (ap (λ (h : HandView). h.ledger) c.look-seen.ensures.noted) w.offer.new.self.ledger c.less-2.new.self.ledger c.place_of-place.result below (rw w.in-Model.is at c.in_ok-ending.ensures.settles) c.place_of-place.ensures.place
      (ap (λ (h : HandView). h.ledger) w.offer.ensures.noted ∙ ap (λ (h : HandView). joined h.ledger (calling (offer c.place_of-place.result))) c.settle-ending.ensures.hand)
      (ap (λ (h : HandView). h.ledger) c.less-2.ensures.noted ∙ ap (λ (v : Worker _). joined v.hand.ledger (calling less)) w.self-is))
  | in-Refuted w ↦ subst (λ (v : Worker _). AddsRound (begun_by c.args.plan.search c.args.formula.now) c.args.plan true c.args.cube c.args.self.now.hand.ledger c.less-2.new.self.ledger (results_by g.L.KeepsLines.lines c.args.self.now.solved.items) (results_by g.L.KeepsLines.lines v.solved.items)) (sym w.self-is)
      (ends-refuted (begun_by c.args.plan.search c.args.formula.now) c.args.plan c.args.cube c.args.self.now.hand.ledger c.look-seen.new.self.ledger (results_by g.L.KeepsLines.lines c.args.self.now.solved.items) (results_by g.L.KeepsLines.lines c.settle-ending.new.self.solved.items) c.look-seen.result
      (ap (λ (h : HandView). h.ledger) c.look-seen.ensures.noted) c.less-2.new.self.ledger below (rw w.in-Refuted.is at c.in_ok-ending.ensures.settles)
      (ap (λ (h : HandView). h.ledger) c.less-2.ensures.noted ∙ ap (λ (v : Worker _). joined v.hand.ledger (calling less)) w.self-is ∙ ap (λ (h : HandView). joined h.ledger (calling less)) c.settle-ending.ensures.hand))
  | in-Exhausted+in_ok-hand_on_halves-in-Exhausted w ↦ subst (λ (v : Worker _). AddsRound (begun_by c.args.plan.search c.args.formula.now) c.args.plan true c.args.cube c.args.self.now.hand.ledger c.less-2.new.self.ledger (results_by g.L.KeepsLines.lines c.args.self.now.solved.items) (results_by g.L.KeepsLines.lines v.solved.items)) (sym w.self-is)
      (ends-exhausted (begun_by c.args.plan.search c.args.formula.now) c.args.plan c.args.cube c.args.self.now.hand.ledger c.look-seen.new.self.ledger (results_by g.L.KeepsLines.lines c.args.self.now.solved.items) (results_by g.L.KeepsLines.lines c.settle-ending.new.self.solved.items) c.look-seen.result
      (ap (λ (h : HandView). h.ledger) c.look-seen.ensures.noted) w.in-Exhausted.var (rw w.in-Exhausted.is at c.in_ok-ending.ensures.settles) (is_ok w.hand_on_halves.result) w.hand_on_halves.new.self.hand.ledger
      (results_by g.L.KeepsLines.lines w.hand_on_halves.new.self.solved.items) (rw c.settle-ending.ensures.hand at w.hand_on_halves.ensures.part) c.less-2.new.self.ledger below (search rules)
      (ap (λ (h : HandView). h.ledger) c.less-2.ensures.noted ∙ ap (λ (v : Worker _). joined v.hand.ledger (calling less)) w.self-is))
]
  where
    below : IsNotBelow c.look-seen.result (place_of c.args.cube)
    below = elim c.match-seen.branch [
      | in-Some+else-least-place w ↦ not-below-some c.look-seen.result w.in-Some.least c.place_of-place.result (place_of c.args.cube) w.in-Some.is (let l = w.if-least-place.false in omega arith) c.place_of-place.ensures.place
      | in_default w ↦ not-below-none c.look-seen.result (place_of c.args.cube) w.in_default.is
    ]

pub returns-clause-calls : goal.returns-clause-calls
returns-clause-calls g c =
    let first = c.args.self.now.hand.ledger in
    let looked = GoesOn-call first c.args.self.now.hand c.look-seen.new.self (GoesOn-itself first) (look c.look-seen.result) c.look-seen.ensures.noted tt in
    let settled = GoesOn-same first c.look-seen.new.self c.settle-ending.new.self.hand looked c.settle-ending.ensures.hand in
    let ended : GoesOn first c.match-branch-3.self.hand.ledger = elim c.match-branch-3.branch [
      | in-Model w ↦ subst (λ (v : Worker _). GoesOn first v.hand.ledger) (sym w.self-is)
          (GoesOn-call first c.settle-ending.new.self.hand w.offer.new.self settled (offer c.place_of-place.result) w.offer.ensures.noted tt)
      | in-Refuted w ↦ subst (λ (v : Worker _). GoesOn first v.hand.ledger) (sym w.self-is) settled
      | in-Exhausted+in_ok-hand_on_halves-in-Exhausted w ↦ subst (λ (v : Worker _). GoesOn first v.hand.ledger) (sym w.self-is)
          (GoesOn-then first c.settle-ending.new.self.hand.ledger w.hand_on_halves.new.self.hand.ledger settled w.hand_on_halves.ensures.calls)
    ] in
    GoesOn-call first c.match-branch-3.self.hand c.less-2.new.self ended less c.less-2.ensures.noted tt

pub returns-then-least-place-clause-turn : goal.returns-then-least-place-clause-turn
returns-then-least-place-clause-turn g c =
    let items : c.push.new.self.items ≡ c.args.self.now.solved.items ++ record { cube = c.args.cube; what = Skipped c.in-Some.least } ∷ [] = search rules in
    turn-skipped c.args.cube c.args.self.now.hand.ledger c.look-seen.new.self.ledger c.less.new.self.ledger (results_by g.L.KeepsLines.lines c.args.self.now.solved.items)
    (results_by g.L.KeepsLines.lines c.push.new.self.items) c.look-seen.result c.in-Some.least (ap (λ (h : HandView). h.ledger) c.look-seen.ensures.noted) c.in-Some.is (let p = c.place_of-place.ensures.place in let l = c.if-least-place.true in omega arith)
    (ap (λ (h : HandView). h.ledger) c.less.ensures.noted) (ap (results_by g.L.KeepsLines.lines) items ∙ map-append (solved_by g.L.KeepsLines.lines) c.args.self.now.solved.items _)

pub returns-clause-turn : goal.returns-clause-turn
returns-clause-turn g c =
    turn-done (begun_by c.args.plan.search c.args.formula.now) c.args.plan c.args.cube _ c.args.self.now.hand.ledger c.look-seen.new.self.ledger c.match-branch-3.self.hand.ledger c.less-2.new.self.ledger
    (results_by g.L.KeepsLines.lines c.args.self.now.solved.items) (results_by g.L.KeepsLines.lines c.settle-ending.new.self.solved.items) (results_by g.L.KeepsLines.lines c.match-branch-3.self.solved.items) c.look-seen.result
    (ap (λ (h : HandView). h.ledger) c.look-seen.ensures.noted) below c.in_ok-ending.ensures.settles
    (elim c.match-branch-3.branch [
      | in-Model w ↦ subst (λ (v : Worker _). looks_of v.hand.ledger.calls ≡ looks_of c.look-seen.new.self.ledger.calls) (sym w.self-is)
          (looks-call c.look-seen.new.self.ledger w.offer.new.self.ledger (offer c.place_of-place.result)
          (ap (λ (h : HandView). h.ledger) w.offer.ensures.noted ∙ ap (λ (h : HandView). joined h.ledger (calling (offer c.place_of-place.result))) c.settle-ending.ensures.hand) refl)
      | in-Refuted w ↦ subst (λ (v : Worker _). looks_of v.hand.ledger.calls ≡ looks_of c.look-seen.new.self.ledger.calls) (sym w.self-is)
          (ap (λ (h : HandView). looks_of h.ledger.calls) c.settle-ending.ensures.hand)
      | in-Exhausted+in_ok-hand_on_halves-in-Exhausted w ↦ subst (λ (v : Worker _). looks_of v.hand.ledger.calls ≡ looks_of c.look-seen.new.self.ledger.calls) (sym w.self-is)
          (looks-halves (begun_by c.args.plan.search c.args.formula.now) c.args.plan (is_ok w.hand_on_halves.result) c.args.cube w.in-Exhausted.var c.look-seen.new.self.ledger w.hand_on_halves.new.self.hand.ledger
          (results_by g.L.KeepsLines.lines c.settle-ending.new.self.solved.items) (results_by g.L.KeepsLines.lines w.hand_on_halves.new.self.solved.items) (rw c.settle-ending.ensures.hand at w.hand_on_halves.ensures.part))
    ])
    (elim c.match-branch-3.branch [
      | in-Model w ↦ subst (λ (v : Worker _). AddsDone (results_by g.L.KeepsLines.lines c.settle-ending.new.self.solved.items) (results_by g.L.KeepsLines.lines v.solved.items)) (sym w.self-is)
          (done-nothing (results_by g.L.KeepsLines.lines c.settle-ending.new.self.solved.items))
      | in-Refuted w ↦ subst (λ (v : Worker _). AddsDone (results_by g.L.KeepsLines.lines c.settle-ending.new.self.solved.items) (results_by g.L.KeepsLines.lines v.solved.items)) (sym w.self-is)
          (done-nothing (results_by g.L.KeepsLines.lines c.settle-ending.new.self.solved.items))
      | in-Exhausted+in_ok-hand_on_halves-in-Exhausted w ↦ subst (λ (v : Worker _). AddsDone (results_by g.L.KeepsLines.lines c.settle-ending.new.self.solved.items) (results_by g.L.KeepsLines.lines v.solved.items)) (sym w.self-is)
          w.in_ok-hand_on_halves-in-Exhausted.ensures.done
    ])
    (ap (λ (h : HandView). h.ledger) c.less-2.ensures.noted)
  where
    below : IsNotBelow c.look-seen.result (place_of c.args.cube)
    below = elim c.match-seen.branch [
      | in-Some+else-least-place w ↦ not-below-some c.look-seen.result w.in-Some.least c.place_of-place.result (place_of c.args.cube) w.in-Some.is (let l = w.if-least-place.false in omega arith) c.place_of-place.ensures.place
      | in_default w ↦ not-below-none c.look-seen.result (place_of c.args.cube) w.in_default.is
    ]
