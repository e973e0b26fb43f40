use Rattle.std.proofs.Common.{◌≡◌, ◌∙◌, ◌+◌, ◌<◌, false, nat_eq, eqb-true, ap, arith}
use Rattle.theory.specs.Trails.{current_level}
use Rattle.theory.specs.Focused.{FocusedState}
use Rattle.theory.specs.Lessons.{lesson_of}
use Rattle.cdcl.specs.Focusing.{state_of, values_after}
use Rattle.cdcl.proofs.NextStates.{learnt_next-flat}
use Rattle.theory.proofs.literals.LiteralSets.{false_unless}
use Rattle.cdcl.proofs.FocusedSteps.{Follows-refuted, Follows-spent, Follows-learns}
use Rattle.cdcl.proofs.search.focused.FocusedSearch.on_conflict.Goals as goal

pub returns-then-self-last-clause-next : goal.returns-then-self-last-clause-next
returns-then-self-last-clause-next c saved h =
    let level = current_level c.args.self.now.kernel.trail in
    let above : nat_eq level 0 ≡ false = false_unless (nat_eq level 0) (λ t. let e = eqb-true level 0 t in let is = c.level.ensures in let other = c.if-level-eq0.false in absurd (omega arith)) in
    Follows-spent c.args.last c.args.number c.args.self.now saved c.requires.focusing c.requires.units above (let last = c.if-self-last.true in omega arith) h

pub returns-clause-next : goal.returns-clause-next
returns-clause-next c saved h =
    let s = c.args.self.now in
    let level = current_level s.kernel.trail in
    let above : nat_eq level 0 ≡ false = false_unless (nat_eq level 0) (λ t. let e = eqb-true level 0 t in let is = c.level.ensures in let other = c.if-level-eq0.false in absurd (omega arith)) in
    let counted = c.requires.counted.0 in
    let other = c.if-self-last.false in
    let fewer : s.conflicts + 1 < c.args.last = omega arith in
    let more : nat_eq (s.conflicts + 1) c.args.last ≡ false = false_unless (nat_eq (s.conflicts + 1) c.args.last) (λ t. let e = eqb-true (s.conflicts + 1) c.args.last t in absurd (omega arith)) in
    let l = c.in_ok-learn_from.ensures.next saved h in
    Follows-learns c.args.last c.args.number s c.learn_from.new.self saved (values_after s saved) above more fewer l.next l.saves l.focusing (ap (λ (t : FocusedState). t.conflicts) (l.next ∙ learnt_next-flat s.constants s.kernel.vars (state_of s saved) (lesson_of s.kernel.clauses s.kernel.trail c.args.number)))

pub returns-then-level-eq0-clause-next : goal.returns-then-level-eq0-clause-next
returns-then-level-eq0-clause-next c saved h =
    Follows-refuted c.args.last c.args.number c.args.self.now c.refuted.new.self saved c.in_ok-refuted.field-0 (let is = c.level.ensures in let low = c.if-level-eq0.true in omega (arith, is, low))
    c.in_ok-refuted.ensures.refuted c.in_ok-refuted.ensures.decided
