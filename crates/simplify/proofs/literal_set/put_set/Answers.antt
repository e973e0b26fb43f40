use Rattle.std.proofs.Common.{◌∙◌, ◌≡◌, ap, subst, IsTrue, ◌↔◌, [], ◌++◌, sym}
use Rattle.theory.specs.Literals.{Clause}
use Rattle.theory.specs.Learning.{IsRising}
use Rattle.simplify.specs.Entries.{set}
use Rattle.simplify.proofs.SortedLiterals.{set-says, rising-set}
use Rattle.simplify.proofs.literal_set.put_set.Goals as goal

copied-rising : (out empty mine clause : Clause) → mine ≡ out → out ≡ empty ++ clause → empty ≡ [] → IsRising mine → (clause ≡ out) × IsRising clause
copied-rising out empty mine clause a b d r = let is : clause ≡ out = sym (b ∙ ap (λ c. c ++ clause) d) in (is, subst IsRising (a ∙ sym is) r)

pub returns-then-is_rising-clause-one_sign : goal.returns-then-is_rising-clause-one_sign
returns-then-is_rising-clause-one_sign c =
    let same = copied-rising _ _ _ _ c.deref.ensures.value c.in_ok-put_literals.ensures.ok c.clear.ensures.items (c.is_rising.ensures.0 c.if-is_rising.true) in
    (rising-set _ same.1).0

pub returns-then-is_rising-clause-set : goal.returns-then-is_rising-clause-set
returns-then-is_rising-clause-set c =
    let same = copied-rising _ _ _ _ c.deref.ensures.value c.in_ok-put_literals.ensures.ok c.clear.ensures.items (c.is_rising.ensures.0 c.if-is_rising.true) in
    sym same.0 ∙ (rising-set _ same.1).1

pub returns-clause-one_sign : goal.returns-clause-one_sign
returns-clause-one_sign c =
    let copied = c.in_ok-put_literals.ensures.ok ∙ ap (λ (x : Clause). x ++ c.args.clause.now) c.clear.ensures.items in
    set-says _ c.args.clause.now c.sort.new.lits.items (c.in_ok-sort.ensures ∙ ap (λ (x : Clause). set x) copied) (subst (λ x. IsTrue c.is_rising-2.result ↔ IsRising x) c.deref-2.ensures.value c.is_rising-2.ensures)

pub returns-clause-set : goal.returns-clause-set
returns-clause-set c =
    c.in_ok-sort.ensures ∙ ap (λ (x : Clause). set x) (c.in_ok-put_literals.ensures.ok ∙ ap (λ (x : Clause). x ++ c.args.clause.now) c.clear.ensures.items)
