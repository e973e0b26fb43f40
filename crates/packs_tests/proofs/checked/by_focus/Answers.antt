use Rattle.theory.specs.Plans.{focused, default_constants}
use Rattle.packs_tests.proofs.checked.by_focus.Goals as goal

pub is_checked-requires : goal.is_checked-requires
is_checked-requires c = (focused default_constants, c.in_ok-checker.ensures default_constants)
