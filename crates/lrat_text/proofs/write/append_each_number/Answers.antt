use Rattle.std.proofs.Common.{map, refl, decimal, get_or}
use Rattle.std.proofs.lemmas.List.{get_or_default}
use Rattle.lrat_text.proofs.WordLemmas.{words-done, words-more, IsBegunBy-trans}
use Rattle.lrat_text.proofs.write.append_each_number.Goals as goal

pub loop-number-preserved : goal.loop-number-preserved
loop-number-preserved c =
    let l = c.loop-number in
    record {
      left = words-more decimal _ l.out.items c.append_number.new.out.items c.args.numbers.now l.number-index (get_or c.args.numbers.now l.number-index 0) c.loop-number-test.true (get_or_default c.args.numbers.now l.number-index 0 _ c.loop-number-test.true) l.invariant.left c.in_ok-append_number.ensures.ok;
      extends = IsBegunBy-trans c.args.out.now.items l.out.items c.append_number.new.out.items l.invariant.extends c.append_number.ensures.extends;
    }

pub returns-in_err-append_number-clause-extends : goal.returns-in_err-append_number-clause-extends
returns-in_err-append_number-clause-extends c = IsBegunBy-trans c.args.out.now.items c.loop-number.out.items c.append_number.new.out.items c.loop-number.invariant.extends c.append_number.ensures.extends

pub returns-clause-ok : goal.returns-clause-ok
returns-clause-ok c = words-done (map decimal) _ c.loop-number.out.items c.args.numbers.now c.loop-number.number-index refl c.loop-number-test.false c.loop-number.invariant.left

pub returns-clause-extends : goal.returns-clause-extends
returns-clause-extends c = c.loop-number.invariant.extends
