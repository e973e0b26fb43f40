use Rattle.std.proofs.Common.{map, refl}
use Rattle.theory.specs.Texts.{literal_text}
use Rattle.lrat_text.proofs.WordLemmas.{words-done, words-more, IsBegunBy-trans}
use Rattle.lrat_text.proofs.write.append_literals.Goals as goal

pub loop-lit-preserved : goal.loop-lit-preserved
loop-lit-preserved c =
    let l = c.loop-lit in
    record {
      left = words-more literal_text _ l.out.items c.append_literal.new.out.items c.args.lits.now l.lit-index c.lit-item.result c.loop-lit-test.true c.lit-item.is l.invariant.left c.in_ok-append_literal.ensures.ok;
      extends = IsBegunBy-trans c.args.out.now.items l.out.items c.append_literal.new.out.items l.invariant.extends c.append_literal.ensures.extends;
    }

pub returns-in_err-append_literal-clause-extends : goal.returns-in_err-append_literal-clause-extends
returns-in_err-append_literal-clause-extends c = IsBegunBy-trans c.args.out.now.items c.loop-lit.out.items c.append_literal.new.out.items c.loop-lit.invariant.extends c.append_literal.ensures.extends

pub returns-clause-ok : goal.returns-clause-ok
returns-clause-ok c = words-done (map literal_text) _ c.loop-lit.out.items c.args.lits.now c.loop-lit.lit-index refl c.loop-lit-test.false c.loop-lit.invariant.left

pub returns-clause-extends : goal.returns-clause-extends
returns-clause-extends c = c.loop-lit.invariant.extends
