use Rattle.std.proofs.Common.{◌∙◌, length, length-append, sym, arith}
use Rattle.std.proofs.lemmas.List.Elements.{All-nil, All-push}
use Rattle.theory.specs.Truth.{IsOver}
use Rattle.theory.specs.Pure.{unit_clauses}
use Rattle.theory.proofs.literals.LiteralSets.{true_false}
use Rattle.packs.specs.Known.{begun}
use Rattle.packs.proofs.KnownLemmas.{length-units}
use Rattle.packs.proofs.PastLines.{IsPast-none, IsPast-more, IsPast-fails, IsPast-forgets, cube-beyond}
use Rattle.packs.proofs.replay.passing.refute.Goals as goal

pub returns-then-not-is_over-clause-refutes : goal.returns-then-not-is_over-clause-refutes
returns-then-not-is_over-clause-refutes c =
    let first = begun c.args.formula.now c.args.units.now in
    cube-beyond c.args.formula.now.vars (length first) c.args.cube.now first c.args.row.now
    (rw (c.lits-literals.ensures.lits, c.vars.ensures, c.requires.vars) at (c.is_over.ensures.beyond c.if-not-is_over.true))

pub lines-init : goal.lines-init
lines-init c =
    let F = c.args.formula.now in
    let units = c.args.units.now in
    record {
      past = rw (c.requires.no_lines, c.behind-forgotten.ensures.none, c.lines-left.ensures) (IsPast-none F.vars c.args.cube.now (begun F units) c.args.row.now);
      first = c.behind-forgotten.ensures.first ∙ (let clauses = c.clause_count.ensures.count in let both = length-append F.clauses (unit_clauses units) in let more = length-units units in omega arith);
      holding = rw c.lits-literals.ensures.lits at c.in_ok-hold.ensures.held;
      count = c.len-count.ensures;
      over = rw c.requires.no_lines (All-nil (IsOver F.vars));
      vars = c.hold.ensures.vars ∙ c.requires.vars;
    }

pub lines-preserved : goal.lines-preserved
lines-preserved c =
    let F = c.args.formula.now in
    let inv = c.lines.invariant in
    let first = begun F c.args.units.now in
    let cube : IsOver F.vars c.args.cube.now = rw (c.lits-literals.ensures.lits, c.vars.ensures, c.requires.vars) at (c.is_over.ensures.over c.if-not-is_over.false) in
    let line = rw c.if-not-branch.false at c.in_ok-next.ensures.line in
    let passed = rw (c.deref-in-lines-2.ensures.value, c.deref-in-lines-3.ensures.value) at c.in_ok-passes.ensures.passes in
    let over = rw c.deref-in-lines-2.ensures.value at (c.in_ok-passes.ensures.over c.if-not-branch-3.false) in
    let back = c.go_back.ensures.left c.lines.held.literals (sym inv.count) c.passes.ensures.extends in
    let clauses = rw c.deref-in-lines-4.ensures.value at c.in_ok-push.ensures.ok in
    let c2 = c.next.new.clause.items in
    let hints = c.next.new.hints.items in
    let forgets = c.next.new.forgets.items in
    let marks = c.lines.forgotten.marks.items in
    let added = rw (inv.first, c.deref.ensures.value, c.deref-in-lines.ensures.value) at c.in_ok-add_line.ensures.forgetting in
    let marked = rw (inv.first, c.deref-in-lines.ensures.value) at (c.in_ok-add_line.ensures.marked c.if-not-branch-2.false) in
    let ends = rw (c.deref-in-lines-5.ensures.value, c.deref-in-lines-6.ensures.value) at c.is_end-ends.ensures in
    record {
      past = rw clauses (IsPast-more F.vars c.args.cube.now first c.lines.lines marks c.add_line.new.self.marks.items c.args.row.now c.lines.left c.next.new.self c2 hints forgets c.lines.ends c.is_end-ends.result
          line ends ((passed (length first) c.args.cube.now forgets cube inv.holding).0 c.if-not-branch-3.false) (λ gone h. (added gone c2 h).0 c.if-not-branch-2.false) marked
          (c.in_ok-add_line.ensures.many c.if-not-branch-2.false) inv.past);
      first = c.add_line.ensures.first ∙ inv.first;
      holding = rw back inv.holding;
      count = rw back inv.count;
      over = rw clauses (All-push (IsOver F.vars) c.lines.lines c2 inv.over over);
      vars = c.go_back.ensures.vars ∙ (c.passes.ensures.vars ∙ inv.vars);
    }

pub returns-then-not-branch-2-clause-refutes : goal.returns-then-not-branch-2-clause-refutes
returns-then-not-branch-2-clause-refutes c =
    let F = c.args.formula.now in
    let inv = c.lines.invariant in
    let first = begun F c.args.units.now in
    let line = rw c.if-not-branch.false at c.in_ok-next.ensures.line in
    let added = rw (inv.first, c.deref.ensures.value, c.deref-in-lines.ensures.value) at c.in_ok-add_line.ensures.forgetting in
    IsPast-forgets F.vars c.args.cube.now first c.lines.lines c.lines.forgotten.marks.items c.args.row.now c.lines.left c.next.new.self c.next.new.clause.items c.next.new.hints.items c.next.new.forgets.items c.lines.ends
    line (λ gone h r. true_false _ ((added gone c.next.new.clause.items h).1 r) c.if-not-branch-2.true) inv.past

pub returns-then-not-branch-3-clause-refutes : goal.returns-then-not-branch-3-clause-refutes
returns-then-not-branch-3-clause-refutes c =
    let F = c.args.formula.now in
    let inv = c.lines.invariant in
    let first = begun F c.args.units.now in
    let cube : IsOver F.vars c.args.cube.now = rw (c.lits-literals.ensures.lits, c.vars.ensures, c.requires.vars) at (c.is_over.ensures.over c.if-not-is_over.false) in
    let line = rw c.if-not-branch.false at c.in_ok-next.ensures.line in
    let passed = rw (c.deref-in-lines-2.ensures.value, c.deref-in-lines-3.ensures.value) at c.in_ok-passes.ensures.passes in
    IsPast-fails F.vars c.args.cube.now first c.lines.lines c.lines.forgotten.marks.items c.args.row.now c.lines.left c.next.new.self c.next.new.clause.items c.next.new.hints.items c.next.new.forgets.items c.lines.ends
    line (λ r. true_false _ ((passed (length first) c.args.cube.now c.next.new.forgets.items cube inv.holding).1 r) c.if-not-branch-3.true) inv.past
