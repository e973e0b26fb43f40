use Rattle.std.proofs.Common.{◌≡◌, ◌∙◌, ap, sym, subst, true, false, Some, None, Option, Bool, List, is_some}
use Rattle.std.specs.Option.{option_eq}
use Rattle.std.proofs.Math.Bool.{beq}
use Rattle.theory.specs.Literals.{Literal, has, has_var, negated}
use Rattle.theory.specs.Trails.{literals, entry_of}
use Rattle.trail.specs.Tables.{IsTruth}
use Rattle.trail.proofs.Tables.{is_some-entry_of}
use Rattle.kernel.proofs.LiteralFacts.{true_false, has-var}
use Rattle.kernel.proofs.LastFalse.{last_false-none, last_false-at}
use Rattle.kernel.proofs.TrailFacts.{distinct-consistent}
use Rattle.kernel.proofs.Visits.{is-some, isnt-some, not-false}
use Rattle.kernel.proofs.units.last_false.false_place.Goals as goal

gone : (P : List Literal) (l : Literal) (o : Option Bool) (b : Bool) → b ≡ option_eq beq o (Some false) → b ≡ true → IsTruth P l o → has P (negated l) ≡ true
gone P l o b is holds truth = subst (λ x. IsTruth P l x) (is-some o false (sym is ∙ holds)) truth

pub returns-in-None : goal.returns-in-None
returns-in-None c =
    let none : entry_of c.args.trail.now.entries c.args.lit.var ≡ None = rw c.var.ensures.var at c.in-None.ensures.free in
    absurd (true_false (has_var (literals c.args.trail.now.entries) c.args.lit.var) (has-var (literals c.args.trail.now.entries) (negated c.args.lit) (gone (literals c.args.trail.now.entries) c.args.lit c.truth.result c.eq.result c.eq.ensures c.if-eq.true c.truth.ensures.truth)) (sym (is_some-entry_of c.args.trail.now.entries c.args.lit.var) ∙ ap is_some none))

pub returns-in-Some : goal.returns-in-Some
returns-in-Some c =
    sym (last_false-at c.args.trail.now.entries c.args.lit c.in-Some.place c.truth.ensures.ordered.distinct c.in-Some.ensures.inside (rw c.var.ensures.var at c.in-Some.ensures.found) (gone (literals c.args.trail.now.entries) c.args.lit c.truth.result c.eq.result c.eq.ensures c.if-eq.true c.truth.ensures.truth))

pub returns-else-eq : goal.returns-else-eq
returns-else-eq c =
    sym (last_false-none c.args.trail.now.entries c.args.lit
    (not-false (literals c.args.trail.now.entries) c.args.lit c.truth.result (distinct-consistent (literals c.args.trail.now.entries) c.truth.ensures.ordered.distinct) c.truth.ensures.truth
    (isnt-some c.truth.result false (sym c.eq.ensures ∙ c.if-eq.false))))
