use Rattle.std.proofs.Common.{◌≡◌, Bool, ◌∙◌, true, false, not, length, sym, ap}
use Rattle.theory.specs.Literals.{Clause, has_both_signs}
use Rattle.theory.specs.Trying.{size}
use Rattle.simplify.specs.Entries.{set}
use Rattle.simplify.proofs.LiteralSets.{has-set}
use Rattle.simplify.proofs.DistinctLiterals.{length-set_of, size-same}
use Rattle.simplify.proofs.literal_set.distinct_count.Goals as goal

one_signed : (a b : Bool) → a ≡ true → a ≡ not b → b ≡ false
one_signed a true e i = absurd (cc)
one_signed a false e i = λ j. false

pub returns-then-branch : goal.returns-then-branch
returns-then-branch c =
    c.len.ensures ∙ (c.put_set.new.out.ok.0 ∙ (ap (λ (d : Clause). length d) c.in_ok-put_set.ensures.set
    ∙ length-set_of c.args.clause.now (one_signed c.in_ok-put_set.field-0 (has_both_signs c.args.clause.now) c.if-branch.true c.in_ok-put_set.ensures.one_sign)))

pub returns : goal.returns
returns c =
    c.len-2.ensures ∙ (c.sort_by_code.new.lits.ok.0 ∙ (c.in_ok-sort_by_code.ensures
    ∙ (ap size c.in_ok-put_set.ensures.set ∙ size-same (set c.args.clause.now) c.args.clause.now (has-set c.args.clause.now))))
