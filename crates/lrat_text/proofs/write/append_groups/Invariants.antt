use Rattle.std.proofs.Common.{◌≡◌, ◌++◌, drop}
use Rattle.theory.specs.Texts.{groups_words}
use Rattle.lrat_text.specs.Words.{spaced, IsBegunBy}
use Rattle.lrat_text.proofs.write.append_groups.Given as goal

-- the groups that are left complete the text
abbrev pub invariant-loop-group : goal.invariant-loop-group
invariant-loop-group l = record {
  left : l.out.items ++ spaced (groups_words (drop l.group-index l.groups)) ≡ l.fn.out.items ++ spaced (groups_words l.groups);
  extends : IsBegunBy l.fn.out.items l.out.items;
}
