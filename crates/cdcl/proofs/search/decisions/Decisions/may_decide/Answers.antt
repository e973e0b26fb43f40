use Rattle.std.proofs.Common.{◌≡◌, ◌∙◌, Bool, true, false, not, ◌&&◌, is_some, ap, sym, refl}
use Rattle.theory.specs.Literals.{has_var}
use Rattle.theory.specs.Trails.{literals}
use Rattle.lookahead.proofs.RankingLemmas.{entry-there}
use Rattle.cdcl.proofs.search.decisions.Decisions.may_decide.Goals as goal

other : (a b : Bool) → a ≡ not b → b ≡ not a
other true true h = absurd (cc)
other true false h = refl
other false true h = refl
other false false h = absurd (cc)

pub returns-then-not-holds : goal.returns-then-not-holds
returns-then-not-holds c =
    let P = literals c.args.kernel.now.trail in
    sym (ap (λ b. b && not (has_var P c.args.var)) (sym c.holds.ensures ∙ c.if-not-holds.true))

pub returns : goal.returns
returns c =
    let T = c.args.kernel.now.trail in
    let there : has_var (literals T) c.args.var ≡ not c.is_none.result = sym (ap is_some c.value.ensures ∙ entry-there T c.args.var) ∙ c.is_none.ensures in
    other (has_var (literals T) c.args.var) c.is_none.result there ∙ sym (ap (λ b. b && not (has_var (literals T) c.args.var)) (sym c.holds.ensures ∙ c.if-not-holds.false))
