use Rattle.std.proofs.Common.{◌≡◌, ◌≤◌, ◌<◌, ◌∙◌, ℕ, false, List, length, get_or, nat_eq, eqb-true, ap, sym, subst, inl, inr, arith}
use Rattle.std.proofs.lemmas.List.{get_or_default}
use Rattle.theory.proofs.literals.LiteralLemmas.{or-cases, or-right}
use Rattle.cdcl.specs.Numbers.{NumberSet, is_one_of}
use Rattle.cdcl.proofs.analysis.minimize.Minimizer.refuse.Goals as goal

pub parents-preserved : goal.parents-preserved
parents-preserved c =
    let is = c.parents.invariant in
    let at = c.parents.at in
    let reached = c.args.self.now.reached.numbers in
    let listed : c.list.result.now ≡ reached = c.list.ensures.numbers ∙ ap (λ (s : NumberSet). s.numbers) is.reached in
    let value : get_or c.list.result.now at 0 ≡ get_or reached at 0 = ap (λ (xs : List ℕ). get_or xs at 0) listed in
    let inside = is.inside in
    let many = c.requires.parents.0 in
    let parents = c.args.self.now.parents.items in
    let long : at < length parents = omega (arith, inside, many) in
    let not_first = c.if-at-eq0.false in
    let one : 1 ≤ at = omega (arith, not_first) in
    let parent : c.index-at.result.now ≡ get_or parents at 0 = rw is.parents at c.index-at.ensures ∙ sym (get_or_default parents at 0 c.index-at.result.now long) in
    let before = c.requires.parents.1 at one inside in
    record {
      inside = omega (arith, parent, before, inside);
      more = λ v t. c.in_ok-insert.ensures.inserted v ∙ or-right (nat_eq v (get_or c.list.result.now at 0)) (is_one_of c.parents.self.kept.numbers v) (is.more v t);
      refused = λ p own up old.
          let h = is.refused p own up old in (
            subst (λ i. p (get_or reached i 0) ≡ false) (sym parent) (up at one inside h.0),
            λ v t. elim (or-cases (nat_eq v (get_or c.list.result.now at 0)) (is_one_of c.parents.self.kept.numbers v) (sym (c.in_ok-insert.ensures.inserted v) ∙ t)) [
              | inl e ↦ ap p (eqb-true v (get_or c.list.result.now at 0) e ∙ value) ∙ h.0
              | inr r ↦ h.1 v r
            ],
          );
      bound = c.in_ok-insert.ensures.bound ∙ is.bound;
      removable = is.removable;
      reached = is.reached;
      parents = is.parents;
    }
