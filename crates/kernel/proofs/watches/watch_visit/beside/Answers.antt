use Rattle.std.proofs.Common.{ℕ, ◌/◌, ◌%◌, ap, ◌∙◌, nat_eq}
use Rattle.kernel.specs.Arranging.{front}
use Rattle.kernel.specs.Seeing.{other_front}
use Rattle.kernel.proofs.Beside.{clause-beside, var-beside, some-half, literal-code}
use Rattle.kernel.proofs.watches.watch_visit.beside.Goals as goal

pub of-requires-clause-some : goal.of-requires-clause-some
of-requires-clause-some c =
    let first = c.index-lits-0.result in
    let second = c.index-lits-1.result in
    some-half (other_front (front c.args.lits.now) c.args.gone) _
    (clause-beside c.args.lits.now c.args.gone first second _ _ _ c.requires.long c.requires.front c.index-lits-0.is c.index-lits-1.is c.code_of.ensures.code c.code_of-2.ensures.code c.code_of-3.ensures.code)
    (var-beside c.args.lits.now c.args.gone first second c.requires.long c.index-lits-0.is c.index-lits-1.is c.code_of.ensures.var.0 c.code_of-2.ensures.var.0)

pub returns : goal.returns
returns c =
    let code = clause-beside c.args.lits.now c.args.gone c.index-lits-0.result c.index-lits-1.result _ _ _ c.requires.long c.requires.front c.index-lits-0.is c.index-lits-1.is
    c.code_of.ensures.code c.code_of-2.ensures.code c.code_of-3.ensures.code in
    c.of.ensures ∙ ap (λ (n : ℕ). record { var = n / 2; positive = nat_eq (n % 2) 1 }) code ∙ literal-code (other_front (front c.args.lits.now) c.args.gone)
