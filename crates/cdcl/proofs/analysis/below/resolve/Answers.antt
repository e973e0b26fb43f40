use Rattle.std.proofs.Common.{◌∙◌, false, slice_set, ap, sym, subst, refl, arith}
use Rattle.theory.specs.Literals.{Literal, negated, without}
use Rattle.theory.specs.Trails.{Entry}
use Rattle.theory.specs.Learning.{with_literals}
use Rattle.cdcl.specs.Marks.{IsSet}
use Rattle.std.specs.Vec.{with_item}
use Rattle.cdcl.specs.Removing.{CanFollow, AreSettled}
use Rattle.cdcl.proofs.PlaceLemmas.{entry_of-placed}
use Rattle.cdcl.proofs.MarkedSets.{entry-inside}
use Rattle.cdcl.proofs.BelowLemmas.{IsSet-taken}
use Rattle.cdcl.proofs.analysis.below.resolve.Goals as goal

pub index_mut-requires : goal.index_mut-requires
index_mut-requires c =
    let m = c.requires.marks in
    let there = entry_of-placed _ _ m.bound c.args.entry m.lawful m.at in
    let less = entry-inside c.args.kernel.now _ c.args.entry m.over m.is.is.long there in
    let v = c.var.ensures.var ∙ ap (λ (e : Entry). e.lit.var) c.entry.view_is in
    let long = c.args.marks.now.marked.ok.0 in
    omega arith

pub put_others-requires : goal.put_others-requires
put_others-requires c =
    let m = c.requires.marks in
    let v = c.var.ensures.var ∙ ap (λ (e : Entry). e.lit.var) c.entry.view_is in
    let lit = ap (λ (e : Entry). e.lit) c.entry.view_is in
    let now = record c.args.marks.now { marked = with_item c.args.marks.now.marked c.var.result false } in
    record {
      marks = subst (λ (l : Literal). CanFollow c.args.kernel.now (without c.args.reason.now l) now) (sym lit) (record {
        lawful = m.lawful;
        over = m.over;
        above = let low = m.lower in omega (arith, low);
        removable = m.removable;
        set = without m.set (negated c.args.entry.lit);
        bound = m.bound;
        is = IsSet-taken c.args.kernel.now m.removable m.set m.bound c.args.entry c.args.marks.now now m.lawful m.over m.lower m.at m.is_in (ap (λ x. slice_set c.args.marks.now.marked.items x false) v) refl refl refl m.is;
        below = m.below;
        settled = m.settled;
      });
    }

pub returns : goal.returns
returns c = record {
  set = λ R S bound at a f settled h.
      let m = c.requires.marks in
      let v = c.var.ensures.var ∙ ap (λ (e : Entry). e.lit.var) c.entry.view_is in
      let lit = ap (λ (e : Entry). e.lit) c.entry.view_is in
      let taken = IsSet-taken c.args.kernel.now R S bound c.args.entry c.args.marks.now _ m.lawful m.over m.lower at a (ap (λ x. slice_set c.args.marks.now.marked.items x false) v) refl refl refl h in
      subst (λ (l : Literal). IsSet c.args.kernel.now R (with_literals (without c.args.reason.now l) (without S (negated c.args.entry.lit))) bound c.put_others.new.marks) lit
      (c.in_ok-put_others.ensures.set R (without S (negated c.args.entry.lit)) bound (rw (← lit) at f)
      (subst (λ (l : Literal). AreSettled c.args.kernel.now.trail R (without S (negated c.args.entry.lit)) (without c.args.reason.now l)) (sym lit) settled) taken);
}
