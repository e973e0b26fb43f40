use Rattle.std.proofs.Common.{arith, ◌≡◌, ◌≤◌, ◌<◌, ◌∙◌, ℕ, All, get_or, false, refl, sym, length, []}
use Rattle.std.proofs.lemmas.List.{length-set, get_or_default}
use Rattle.std.proofs.lemmas.List.Elements.{All-get_or, All-filter}
use Rattle.std.proofs.lemmas.List.Sorted.{All-permutation, IsNonDecreasingBy-from_sort}
use Rattle.std.specs.List.Sorted.{IsNonDecreasing}
use Rattle.theory.specs.Literals.{Clause, has_var}
use Rattle.cdcl.specs.Marks.{IsSet}
use Rattle.cdcl.proofs.MarkedSets.{mark-read}
use Rattle.cdcl.proofs.TakenClauses.{IsTaken-begin, IsTaken-end, IsTaken-clear}
use Rattle.cdcl.proofs.SeenVariables.{last_of, IsTaken-found, IsTaken-gone, none-beyond}
use Rattle.cdcl.proofs.JoinedSets.{IsSet-sorted, IsSet-marked}
use Rattle.cdcl.proofs.analysis.first_uip.take_clause.Goals as goal
use Rattle.cdcl.proofs.analysis.first_uip.take_clause.Goals.{then-index+in_ok-put_negation, else-index}

pub loop-at-init : goal.loop-at-init
loop-at-init c = record {
  long = c.requires.long;
  seen = refl;
  pending = refl;
  taken = λ S bound h. rw c.clear.ensures.items (IsTaken-begin _ S _ _ c.trail-trail.ensures.over h.is);
}

pub index-requires : goal.index-requires
index-requires c =
    let all : All (λ v. v ≤ c.args.kernel.now.vars) c.loop-at.marks.seen.items =
    rw c.loop-at.invariant.seen (All-permutation (λ v. v ≤ c.args.kernel.now.vars) _ _ c.sort_unstable.ensures.permutation (rw c.keep_marked.ensures (All-filter _ (λ v. v ≤ c.args.kernel.now.vars) _ c.requires.seen))) in
    let len = c.len-at-end.ensures in
    let ok = c.sort_unstable.new.self.ok.0 in
    let inside : c.loop-at.at < length c.loop-at.marks.seen.items = rw c.loop-at.invariant.seen (omega (arith, c.loop-at-test.true)) in
    let most : c.index-var.result.now ≤ c.args.kernel.now.vars =
    rw c.index-var.ensures (All-get_or (λ v. v ≤ c.args.kernel.now.vars) c.loop-at.marks.seen.items c.loop-at.at c.index-var.result.now inside all) in
    let long = c.loop-at.invariant.long in
    omega arith

pub index_mut-requires : goal.index_mut-requires
index_mut-requires c =
    let all : All (λ v. v ≤ c.args.kernel.now.vars) c.loop-at.marks.seen.items =
    rw c.loop-at.invariant.seen (All-permutation (λ v. v ≤ c.args.kernel.now.vars) _ _ c.sort_unstable.ensures.permutation (rw c.keep_marked.ensures (All-filter _ (λ v. v ≤ c.args.kernel.now.vars) _ c.requires.seen))) in
    let len = c.len-at-end.ensures in
    let ok = c.sort_unstable.new.self.ok.0 in
    let inside : c.loop-at.at < length c.loop-at.marks.seen.items = rw c.loop-at.invariant.seen (omega (arith, c.loop-at-test.true)) in
    let most : c.index-var.result.now ≤ c.args.kernel.now.vars =
    rw c.index-var.ensures (All-get_or (λ v. v ≤ c.args.kernel.now.vars) c.loop-at.marks.seen.items c.loop-at.at c.index-var.result.now inside all) in
    let long = c.loop-at.invariant.long in
    omega arith

pub loop-at-preserved : goal.loop-at-preserved
loop-at-preserved c =
    let all : All (λ v. v ≤ c.args.kernel.now.vars) c.loop-at.marks.seen.items =
    rw c.loop-at.invariant.seen (All-permutation (λ v. v ≤ c.args.kernel.now.vars) _ _ c.sort_unstable.ensures.permutation (rw c.keep_marked.ensures (All-filter _ (λ v. v ≤ c.args.kernel.now.vars) _ c.requires.seen))) in
    let len = c.len-at-end.ensures in
    let ok = c.sort_unstable.new.self.ok.0 in
    let inside : c.loop-at.at < length c.loop-at.marks.seen.items = rw c.loop-at.invariant.seen (omega (arith, c.loop-at-test.true)) in
    let most : c.index-var.result.now ≤ c.args.kernel.now.vars =
    rw c.index-var.ensures (All-get_or (λ v. v ≤ c.args.kernel.now.vars) c.loop-at.marks.seen.items c.loop-at.at c.index-var.result.now inside all) in
    let long = c.loop-at.invariant.long in
    let there : c.index-var.result.now < length c.loop-at.marks.marked.items = omega arith in
    let read : c.index-var.result.now ≡ get_or c.loop-at.marks.seen.items c.loop-at.at 0 = c.index-var.ensures ∙ sym (get_or_default c.loop-at.marks.seen.items c.loop-at.at 0 c.index-var.result.now inside) in
    let sorted : IsNonDecreasing c.loop-at.marks.seen.items = rw c.loop-at.invariant.seen (IsNonDecreasingBy-from_sort (λ x. x) _ c.sort_unstable.ensures.sorted) in
    elim c.if-index.branch [
      | then-index+in_ok-put_negation w ↦
          rw (w.marks-is, w.clause-is)
          record {
            long = rw length-set long;
            seen = c.loop-at.invariant.seen;
            pending = c.loop-at.invariant.pending;
            taken = λ S bound h. IsTaken-found _ S _ _ _ _ c.loop-at.at c.index-var.result.now c.loop-at.marks.seen.items _ _ c.trail-trail.ensures.lawful h.is
                (rw c.loop-at.invariant.seen h.seen) sorted inside read (c.loop-at.invariant.taken S bound h)
                (mark-read _ _ _ _ refl there c.index.ensures ∙ w.if-index.true) there refl w.in_ok-put_negation.ensures;
          }
      | else-index w ↦
          rw (w.marks-is, w.clause-is)
          record {
            long = long;
            seen = c.loop-at.invariant.seen;
            pending = c.loop-at.invariant.pending;
            taken = λ S bound h. IsTaken-gone _ S _ c.loop-at.at c.index-var.result.now c.loop-at.marks.seen.items _
                (rw c.loop-at.invariant.seen h.seen) sorted inside read (c.loop-at.invariant.taken S bound h)
                (mark-read _ _ _ _ refl there c.index.ensures ∙ w.if-index.false);
          }
    ]

sorted_set : (c : goal.After-marks-2-1) → (S : Clause) → (bound : ℕ) → IsSet c.args.kernel.now [] S bound c.args.marks.now
    → IsSet c.args.kernel.now [] S bound (record c.args.marks.now { seen = c.sort_unstable.new.self })
sorted_set c S bound h =
    IsSet-sorted c.args.kernel.now S bound (record c.args.marks.now { seen = c.keep_marked.new.seen }) _ refl refl refl c.sort_unstable.ensures.permutation
    (IsSet-marked c.args.kernel.now S bound c.args.marks.now _ refl refl refl (rw c.deref.ensures.value at c.keep_marked.ensures) h)

beyond : (c : goal.After-marks-2-1) → (S : Clause) → (bound : ℕ) → IsSet c.args.kernel.now [] S bound c.args.marks.now
    → (v : ℕ) → last_of c.loop-at.marks.seen.items c.loop-at.at < v → has_var S v ≡ false
beyond c S bound h =
    let most = c.loop-at.auto.at-end in
    let len = c.len-at-end.ensures in
    let ok = c.sort_unstable.new.self.ok.0 in
    let end : c.loop-at.at ≡ length c.loop-at.marks.seen.items = rw c.loop-at.invariant.seen (omega (arith, c.loop-at-test.false)) in
    none-beyond c.args.kernel.now.vars S c.loop-at.marks.seen.items c.loop-at.at (rw c.loop-at.invariant.seen (sorted_set c S bound h).seen)
    (rw c.loop-at.invariant.seen (IsNonDecreasingBy-from_sort (λ x. x) _ c.sort_unstable.ensures.sorted)) end

pub returns-clause-clause : goal.returns-clause-clause
returns-clause-clause c S bound h =
    IsTaken-end _ S _ c.loop-at.marks.marked.items _ (c.loop-at.invariant.taken S bound (sorted_set c S bound h)) (beyond c S bound h)

pub returns-clause-clear : goal.returns-clause-clear
returns-clause-clear c S bound h = record {
  none = IsTaken-clear _ S _ c.loop-at.marks.marked.items _ (c.loop-at.invariant.taken S bound (sorted_set c S bound h)) (beyond c S bound h);
  zero = refl;
  unseen = c.clear-2.ensures.items;
  done = rw c.loop-at.invariant.pending c.requires.done;
}
