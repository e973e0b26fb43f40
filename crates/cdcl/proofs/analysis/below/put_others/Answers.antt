use Rattle.std.proofs.Common.{◌≡◌, arith, ◌-◌, ◌∙◌, [], ℕ, true, take, drop, length, subst, sym, refl, ap, inl, inr}
use Rattle.theory.specs.Literals.{Literal, Clause, has, without}
use Rattle.theory.specs.Trails.{literals}
use Rattle.theory.specs.Learning.{with_literals}
use Rattle.theory.proofs.literals.LiteralSets.{Refutes-from_is_false, has-without, has-with_literals, has-cases}
use Rattle.cdcl.specs.Marks.{IsSet}
use Rattle.cdcl.specs.Removing.{is_settled}
use Rattle.cdcl.proofs.SetLemmas.{drop-before, has-at, without-same, without-other}
use Rattle.cdcl.proofs.BelowLemmas.{settled-more}
use Rattle.cdcl.proofs.analysis.below.put_others.Goals as goal
use Rattle.cdcl.proofs.analysis.below.put_others.Goals.{then-not-same+in_ok-put, else-not-same}

pub put-requires : goal.put-requires
put-requires c =
    let l = c.index-clause-count.result in
    let all = without c.args.clause.now c.args.except in
    let S = c.requires.marks.set in
    let so_far = without (drop (length c.args.clause.now - c.loop-done.done) c.args.clause.now) c.args.except in
    let there : has all l ≡ true = has-without c.args.clause.now c.args.except l
    (has-at c.args.clause.now (length c.args.clause.now - 1 - c.loop-done.done) l (omega arith) c.index-clause-count.is) (sym c.if-not-same.ensures) in
    record {
      marks = record {
        lawful = c.requires.marks.lawful;
        over = c.requires.marks.over;
        above = c.requires.marks.above;
        removable = c.requires.marks.removable;
        set = with_literals so_far S;
        bound = c.requires.marks.bound;
        is = c.loop-done.invariant.set c.requires.marks.removable S c.requires.marks.bound c.requires.marks.below c.requires.marks.settled c.requires.marks.is;
        below = rw (Refutes-from_is_false (literals (take c.requires.marks.bound c.args.kernel.now.trail)) all c.requires.marks.below l there) refl;
        settled = λ k a. elim (has-cases l k [] a) [
          | inl e ↦ subst (λ (x : Literal). is_settled c.args.kernel.now.trail c.requires.marks.removable (with_literals so_far S) x ≡ true) (sym e)
              (settled-more c.args.kernel.now.trail c.requires.marks.removable S (with_literals so_far S) l (λ h. has-with_literals so_far S l (inr h)) (c.requires.marks.settled l there))
          | inr z ↦ absurd (cc)
        ];
      };
    }

pub loop-done-preserved : goal.loop-done-preserved
loop-done-preserved c =
    let l = c.index-clause-count.result in
    let rest = drop (length c.args.clause.now - c.loop-done.done) c.args.clause.now in
    let all = without c.args.clause.now c.args.except in
    let here = ap (λ d. without d c.args.except) (drop-before c.args.clause.now c.loop-done.done l (omega arith) c.index-clause-count.is) in
    elim c.if-not-same.branch [
      | then-not-same+in_ok-put w ↦ (
          let other = here ∙ without-other rest c.args.except l (sym w.if-not-same.ensures) in
          let there : has all l ≡ true = has-without c.args.clause.now c.args.except l
          (has-at c.args.clause.now (length c.args.clause.now - 1 - c.loop-done.done) l (omega arith) c.index-clause-count.is) (sym w.if-not-same.ensures) in
          rw w.marks-is
          record {
            set = λ R S bound f settled h. subst (λ (d : Clause). IsSet c.args.kernel.now R (with_literals d S) bound w.put.new.marks) (sym other)
                (w.in_ok-put.ensures.set R _ bound (Refutes-from_is_false (literals (take bound c.args.kernel.now.trail)) all f l there)
                (settled-more c.args.kernel.now.trail R S (with_literals (without rest c.args.except) S) l (λ a. has-with_literals (without rest c.args.except) S l (inr a)) (settled l there))
                (c.loop-done.invariant.set R S bound f settled h));
          })
      | else-not-same w ↦ (
          let same = here ∙ without-same rest c.args.except l (sym w.if-not-same.ensures) in
          rw w.marks-is
          record {
            set = λ R S bound f settled h. subst (λ (d : Clause). IsSet c.args.kernel.now R (with_literals d S) bound c.loop-done.marks) (sym same) (c.loop-done.invariant.set R S bound f settled h);
          })
    ]

pub returns : goal.returns
returns c = record {
  set = λ R S bound f settled h.
      let most = c.loop-done.auto.done-end in
      let end : length c.args.clause.now - c.loop-done.done ≡ 0 = omega (arith, c.loop-done-test.false) in
      subst (λ (i : ℕ). IsSet c.args.kernel.now R (with_literals (without (drop i c.args.clause.now) c.args.except) S) bound c.loop-done.marks) end
      (c.loop-done.invariant.set R S bound f settled h);
}
