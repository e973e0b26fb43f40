use Rattle.std.proofs.Common.{sym, ◌∙◌, ap, option_map}
use Rattle.theory.specs.Trails.{Entry, entry_of}
use Rattle.session.proofs.TrailTruths.{value-has, free-absent}
use Rattle.session.proofs.values.is_true.Goals as goal

pub returns-in-Some : goal.returns-in-Some
returns-in-Some c =
    let T = c.args.kernel.now.trail in
    rw c.positive.ensures (value-has c.args.kernel.now.clauses T c.args.lit c.in-Some.positive c.trail-trail.ensures.lawful
    (ap (λ v. option_map (λ (e : Entry). e.lit.positive) (entry_of T v)) (sym c.var.ensures.var) ∙ (sym c.value.ensures ∙ c.in-Some.is)))

pub returns-in-None : goal.returns-in-None
returns-in-None c =
    let T = c.args.kernel.now.trail in
    sym (free-absent T c.args.lit (ap (λ v. option_map (λ (e : Entry). e.lit.positive) (entry_of T v)) (sym c.var.ensures.var) ∙ (sym c.value.ensures ∙ c.in-None.is)))
