use Rattle.std.proofs.Common.{refl}
use Rattle.theory.specs.Texts.{groups_words}
use Rattle.lrat_text.proofs.WordLemmas.{groups-more, words-done, IsBegunBy-trans}
use Rattle.lrat_text.proofs.write.append_groups.Goals as goal

pub loop-group-preserved : goal.loop-group-preserved
loop-group-preserved c =
    let g = c.loop-group.invariant in
    record {
      left = groups-more _ c.loop-group.out.items c.append_group.new.out.items c.args.groups.now c.loop-group.group-index c.group-item.result c.loop-group-test.true c.group-item.is g.left c.in_ok-append_group.ensures.ok;
      extends = IsBegunBy-trans c.args.out.now.items c.loop-group.out.items c.append_group.new.out.items g.extends c.append_group.ensures.extends;
    }

pub returns-in_err-append_group-clause-extends : goal.returns-in_err-append_group-clause-extends
returns-in_err-append_group-clause-extends c = IsBegunBy-trans c.args.out.now.items c.loop-group.out.items c.append_group.new.out.items c.loop-group.invariant.extends c.append_group.ensures.extends

pub returns-clause-ok : goal.returns-clause-ok
returns-clause-ok c = words-done groups_words _ c.loop-group.out.items c.args.groups.now c.loop-group.group-index refl c.loop-group-test.false c.loop-group.invariant.left

pub returns-clause-extends : goal.returns-clause-extends
returns-clause-extends c = c.loop-group.invariant.extends
