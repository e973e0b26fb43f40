use Rattle.std.proofs.Common.{◌∙◌, ◌||◌, length, ap, arith}
use Rattle.std.proofs.lemmas.List.{take_all}
use Rattle.cdcl.specs.Numbers.{is_one_of}
use Rattle.cdcl.proofs.analysis.minimize.Minimizer.accept.Goals as goal

pub returns-clause-removable : goal.returns-clause-removable
returns-clause-removable c v =
    let same = ap length c.list-at-end.ensures.numbers in
    let end = c.loop-at-test.false in
    c.loop-at.invariant.removable v ∙ ap (λ ns. is_one_of ns v || is_one_of c.args.self.now.removable.numbers v) (take_all c.loop-at.at c.args.self.now.reached.numbers (omega (arith, same, end)))
