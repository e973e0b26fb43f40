use Rattle.std.proofs.Common.{◌≡◌, ◌+◌, ◌≤◌, subst, arith}
use Rattle.theory.specs.Trails.{literals}
use Rattle.kernel.specs.Seeing.{IsFound}
use Rattle.kernel.proofs.Replacements.{found-behind, last-parts}
use Rattle.kernel.proofs.watches.replacement.long_replacement.Goals as goal

pub returns-in-Some-clause-some : goal.returns-in-Some-clause-some
returns-in-Some-clause-some c =
    let same_place : 2 + c.in-Some.place ≡ c.in-Some.place + 2 = omega arith in
    let behind : 2 ≤ c.in-Some.place + 2 = omega arith in (
      behind,
      subst (λ n. IsFound (literals c.args.trail.now.entries) c.args.clause.now c.args.except n) same_place
          (found-behind (literals c.args.trail.now.entries) c.args.clause.now 2 c.args.except c.in-Some.place c.in-Some.ensures.some),
    )

pub returns-in-None-clause-none : goal.returns-in-None-clause-none
returns-in-None-clause-none c = last-parts (literals c.args.trail.now.entries) c.args.clause.now 2 c.args.except c.in-None.ensures.none c.requires.front
