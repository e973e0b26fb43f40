use Rattle.std.proofs.Common.{◌≡◌, ◌∙◌, sym, subst, false}
use Rattle.std.proofs.lemmas.List.{get_or_default}
use Rattle.theory.specs.Literals.{Literal, same}
use Rattle.theory.specs.Trails.{literals}
use Rattle.kernel.proofs.Replacements.{found-first}
use Rattle.kernel.proofs.watches.replacement.replacement.Goals as goal

pub returns-else-same-clause-some : goal.returns-else-same-clause-some
returns-else-same-clause-some c =
    let first = c.in-Some.ensures.some in
    let read = c.index-clause-place.is ∙ (get_or_default c.args.clause.now c.in-Some.place c.index-clause-place.result first.lit first.at.0 ∙ first.at.1) in (
      first.behind,
      found-first (literals c.args.truths.trail.now.entries) c.args.clause.now c.args.except 2 c.in-Some.place first
          (subst (λ (l : Literal). same l c.args.except ≡ false) read (sym c.same.ensures ∙ c.if-same.false)),
    )
