use Rattle.std.proofs.Common.{◌≡◌, subst, arith, sym, ap, refl, ◌∙◌, slice_get}
use Rattle.lrat.specs.Chained.{IsOn}
use Rattle.lrat.proofs.CandidateLemmas.{all-dealt_with}
use Rattle.lrat.proofs.ChainLemmas.{not-at-end}
use Rattle.std.proofs.lemmas.Option.{slice_get_within}
use Rattle.lrat.proofs.groups.are_dealt_with.Goals as goal

pub returns-clause-dealt_with : goal.returns-clause-dealt_with
returns-clause-dealt_with c = λ L h.
    let end : c.loop-link.link ≡ 0 = omega arith in
    let entries = c.args.occurrences.now.chains.entries.items in
    all-dealt_with c.args.clauses.now.slots c.args.held.now.literals c.args.pivot L
    (λ i s g t a left. not-at-end entries i (subst (λ l. IsOn entries l i) end (c.loop-link.invariant.left L h i s g t a left)))

pub loop-link-init : goal.loop-link-init
loop-link-init c = record {
  left = λ L h i s g t a unmet.
      let less = slice_get_within c.args.clauses.now.slots i s g in
      c.first-link.ensures.first i (c.requires.indexed.entered i s c.args.pivot (omega (arith, c.requires.all)) g t a);
  within = c.first-link.ensures.within;
  kept = refl;
  vars = refl;
}

pub loop-link-preserved : goal.loop-link-preserved
loop-link-preserved c =
    let v = c.loop-link.invariant in
    record {
      left = λ L h i s g t a unmet.
          c.at-place.ensures.next i (v.left L h i s g t a unmet)
          (λ same. unmet (rw v.kept at (c.in_ok-is_dealt_with.ensures.yes L h c.if-not-branch.false s (ap (slice_get c.args.clauses.now.slots) same ∙ g) t)));
      within = let down = c.at-place.ensures.down in let low = v.within in omega arith;
      kept = c.in_ok-is_dealt_with.ensures.kept ∙ v.kept;
      vars = c.is_dealt_with.ensures.vars ∙ v.vars;
    }

pub returns-then-not-branch-clause-dealt_with : goal.returns-then-not-branch-clause-dealt_with
returns-then-not-branch-clause-dealt_with c = λ L h. sym (rw c.loop-link.invariant.kept at (c.in_ok-is_dealt_with.ensures.no L h c.if-not-branch.true))
