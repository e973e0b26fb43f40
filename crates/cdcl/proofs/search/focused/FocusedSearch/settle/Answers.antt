use Rattle.std.proofs.Common.{◌≡◌, false, nat_eq, eqb-true, arith}
use Rattle.theory.specs.Trails.{current_level}
use Rattle.theory.proofs.literals.LiteralSets.{false_unless}
use Rattle.cdcl.proofs.SettledSearches.{settled-above}
use Rattle.cdcl.proofs.search.focused.FocusedSearch.settle.Goals as goal

pub settle_from-requires-clause-level : goal.settle_from-requires-clause-level
settle_from-requires-clause-level c = let is = c.level.ensures in let low = c.if-level-eq0.true in omega (arith, is, low)

pub settle_from-requires-clause-units : goal.settle_from-requires-clause-units
settle_from-requires-clause-units c = c.requires.before (let is = c.level.ensures in let low = c.if-level-eq0.true in omega (arith, is, low))

pub returns-else-level-eq0 : goal.returns-else-level-eq0
returns-else-level-eq0 c =
    let level = current_level c.args.self.now.kernel.trail in
    let above : nat_eq level 0 ≡ false = false_unless (nat_eq level 0) (λ t. let e = eqb-true level 0 t in let is = c.level.ensures in let other = c.if-level-eq0.false in absurd (omega arith)) in
    settled-above c.args.self.now c.requires.focusing above (c.requires.above (let is = c.level.ensures in let other = c.if-level-eq0.false in omega (arith, is, other)))
