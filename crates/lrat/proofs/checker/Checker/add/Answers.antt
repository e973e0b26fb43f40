use Rattle.std.proofs.Common.{arith, ◌≡◌, ◌∙◌, ◌||◌, [], Bool, true, false, ap, sym, refl}
use Rattle.std.proofs.lemmas.Bool.{leb-false}
use Rattle.lrat.specs.CheckFaults.{faults_of}
use Rattle.lrat.specs.Tested.{checker_of}
use Rattle.theory.specs.Checking.{test}
use Rattle.theory.specs.Steps as theory
use Rattle.lrat.proofs.AdditionLemmas.{passed, fault-over, is_empty-length}
use Rattle.lrat.proofs.CheckLemmas.{add-leaves}
use Rattle.lrat.proofs.GroupLemmas.{no_fault}
use Rattle.lrat.proofs.OccurrenceLemmas.{IsIndexed-stay}
use Rattle.lrat.proofs.HeldLemmas.{Extends-nothing}
use Rattle.lrat.proofs.checker.Checker.add.Goals as goal

or-true : (a b : Bool) → b ≡ true → true ≡ a || b
or-true true b h = refl
or-true false b h = sym h

or-false : (a b : Bool) → b ≡ false → a ≡ a || b
or-false true b h = refl
or-false false b h = sym h

pub returns-then-is_empty-clause-tested : goal.returns-then-is_empty-clause-tested
returns-then-is_empty-clause-tested c =
    let s = checker_of c.make_room.new.self in
    let a = c.args.addition.now in
    let V = c.args.self.now.vars in
    let made = c.in_ok-make_room.ensures in
    let room = rw c.clause.ensures.clause at made.room in
    let fault = ap faults_of (sym (no_fault c.in_ok-fault.fault (sym c.is_some.ensures ∙ c.if-is_some.false))) ∙ c.in_ok-fault.ensures.fault in
    let none = fault ∙ fault-over c.make_room.new.self.held.vars V s.last s.clauses a room in
    let clauses = rw (c.id.ensures.id, c.clause-clause.ensures.clause) at c.in_ok-push.ensures.ok in
    let empty = sym (is_empty-length a.clause) ∙ (rw c.clause-clause.ensures.clause at (sym c.is_empty.ensures ∙ c.if-is_empty.true)) in (
      ap (λ x. test V x (theory.add a)) (sym made.same) ∙ add-leaves V s _ a none clauses c.id-self.ensures.id (or-true s.empty _ empty),
      record {
        vars = made.ready.vars;
        clauses_vars = c.push.ensures.vars ∙ (made.ready.clauses_vars ∙ sym (c.go_back.ensures.vars ∙ c.addition_fault.ensures.vars));
        held_vars = (let same = c.go_back.ensures.vars ∙ c.addition_fault.ensures.vars in let fits = made.ready.held_vars in omega (arith, same, fits));
        indexed = IsIndexed-stay _ _ c.addition_fault.new.occurrences c.in_ok-push.ensures.stay c.addition_fault.ensures.indexed;
        none_held = c.go_back.ensures.left [] refl (Extends-nothing c.addition_fault.new.held.literals);
        up_to = rw c.id-self.ensures.id (rw c.id.ensures.id at c.in_ok-push.ensures.up_to);
      },
    )

pub returns-else-is_empty-clause-tested : goal.returns-else-is_empty-clause-tested
returns-else-is_empty-clause-tested c =
    let s = checker_of c.make_room.new.self in
    let a = c.args.addition.now in
    let V = c.args.self.now.vars in
    let made = c.in_ok-make_room.ensures in
    let room = rw c.clause.ensures.clause at made.room in
    let fault = ap faults_of (sym (no_fault c.in_ok-fault.fault (sym c.is_some.ensures ∙ c.if-is_some.false))) ∙ c.in_ok-fault.ensures.fault in
    let none = fault ∙ fault-over c.make_room.new.self.held.vars V s.last s.clauses a room in
    let clauses = rw (c.id.ensures.id, c.clause-clause.ensures.clause) at c.in_ok-push.ensures.ok in
    let empty = sym (is_empty-length a.clause) ∙ (rw c.clause-clause.ensures.clause at (sym c.is_empty.ensures ∙ c.if-is_empty.false)) in (
      ap (λ x. test V x (theory.add a)) (sym made.same) ∙ add-leaves V s _ a none clauses c.id-self.ensures.id (or-false s.empty _ empty),
      record {
        vars = made.ready.vars;
        clauses_vars = c.push.ensures.vars ∙ (made.ready.clauses_vars ∙ sym (c.go_back.ensures.vars ∙ c.addition_fault.ensures.vars));
        held_vars = (let same = c.go_back.ensures.vars ∙ c.addition_fault.ensures.vars in let fits = made.ready.held_vars in omega (arith, same, fits));
        indexed = IsIndexed-stay _ _ c.addition_fault.new.occurrences c.in_ok-push.ensures.stay c.addition_fault.ensures.indexed;
        none_held = c.go_back.ensures.left [] refl (Extends-nothing c.addition_fault.new.held.literals);
        up_to = rw c.id-self.ensures.id (rw c.id.ensures.id at c.in_ok-push.ensures.up_to);
      },
    )

pub push-requires-clause-positive : goal.push-requires-clause-positive
push-requires-clause-positive c =
    let a = c.args.addition.now in
    let none = ap faults_of (sym (no_fault c.in_ok-fault.fault (sym c.is_some.ensures ∙ c.if-is_some.false))) ∙ c.in_ok-fault.ensures.fault in
    let rises = leb-false a.id c.make_room.new.self.last (passed _ _ _ a none).0 in
    rw c.id.ensures.id (omega arith)

pub push-requires-clause-above : goal.push-requires-clause-above
push-requires-clause-above c =
    let a = c.args.addition.now in
    let none = ap faults_of (sym (no_fault c.in_ok-fault.fault (sym c.is_some.ensures ∙ c.if-is_some.false))) ∙ c.in_ok-fault.ensures.fault in
    let rises = leb-false a.id c.make_room.new.self.last (passed _ _ _ a none).0 in
    let id = c.id.ensures.id in
    λ i s g. let up = c.in_ok-make_room.ensures.ready.up_to i s g in omega arith
