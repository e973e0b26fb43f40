use Rattle.std.proofs.Common.{◌≡◌, ◌<◌, ◌∙◌, true, false, length, get_or, refl, sym, subst, inl, inr, arith}
use Rattle.theory.proofs.literals.LiteralSets.{true_false}
use Rattle.cdcl.specs.Removing.{IsBetween, is_known}
use Rattle.cdcl.proofs.MarkedSets.{mark-read}
use Rattle.cdcl.proofs.QuestionLemmas.{one_of-take}
use Rattle.cdcl.proofs.analysis.minimize.Minimizer.ask_for_all.Goals as goal
use Rattle.cdcl.proofs.analysis.minimize.Minimizer.ask_for_all.Goals.{then-index+in_ok-ask_for, else-index}

pub loop-at-preserved : goal.loop-at-preserved
loop-at-preserved c =
    let k = c.args.kernel.now in
    let seen = c.args.marks.now.seen.items in
    let at = c.loop-at.at in
    let var = c.index-var.result.now in
    let many = c.len-at-end.ensures in
    let test = c.loop-at-test.true in
    let less : at < length seen = omega (arith, many, test) in
    let inv = c.loop-at.invariant in
    elim c.if-index.branch [
      | then-index+in_ok-ask_for w ↦ rw w.self-is record {
        known = λ S m. w.in_ok-ask_for.ensures.known S m (inv.known S m);
        answered = λ v t marked between. elim (one_of-take seen at var v less t) [
          | inl before ↦ w.in_ok-ask_for.ensures.still v (inv.answered v before marked between)
          | inr e ↦ subst (λ x. is_known w.ask_for.new.self x ≡ true) (sym (e ∙ sym c.index-var.ensures)) (w.in_ok-ask_for.ensures.answered (subst (IsBetween k) (e ∙ sym c.index-var.ensures) between))
        ];
        room = w.in_ok-ask_for.ensures.room;
      }
      | else-index w ↦ rw w.self-is record {
        known = inv.known;
        answered = λ v t marked between. elim (one_of-take seen at var v less t) [
          | inl before ↦ inv.answered v before marked between
          | inr e ↦ (
              let same : v ≡ var = e ∙ sym c.index-var.ensures in
              let most = c.requires.set.2.within at var less in
              let long = c.requires.set.1.long in
              let is = c.index-var.ensures in
              let inside : var < length c.args.marks.now.marked.items = omega (arith, most, long, is) in
              let read = mark-read c.args.marks.now.marked.items var var c.index.result.now refl inside c.index.ensures in
              true_false (get_or c.args.marks.now.marked.items var false) (subst (λ x. get_or c.args.marks.now.marked.items x false ≡ true) same marked) (read ∙ w.if-index.false))
        ];
        room = inv.room;
      }
    ]
