use Rattle.std.proofs.Common.{◌≡◌, ◌≢◌, List, subst, arith}
use Rattle.theory.specs.Literals.{Literal}
use Rattle.theory.specs.Truth.{Formula}
use Rattle.theory.specs.Runs.{Runs}
use Rattle.kernel.specs.declared.order.Order.TheVariants.{ByPlace}
use Rattle.cdcl.specs.Outcome.{outcome_of}
use Rattle.cdcl.specs.Focusing.{state_of, RunsTo}
use Rattle.cubes.specs.declared.division.dividing.First.TheVariants.{Ended, FewDecisions, ManyDecisions}
use Rattle.cdcl.proofs.SearchedFormulas.{formula-ready}
use Rattle.cdcl.proofs.FocusedSteps.{if_ok-map}
use Rattle.cubes.proofs.DividingLemmas.{first-whole}
use Rattle.cubes.proofs.DividedSearches.{first-runs, first-goes-on, kept-then, dividing-kept}
use Rattle.cubes.proofs.division.dividing.DividingSearch.solve_first.Goals as goal

pub returns-in-Ended-clause-runs : goal.returns-in-Ended-clause-runs
returns-in-Ended-clause-runs g c F plan d wanted is =
    let s = c.args.self.now in
    let says = rw c.in-Ended.is at (c.in_ok-outcome.ensures.says F d.ready) in
    let other : Ended c.in-Ended.outcome ≢ FewDecisions = λ e. cc in
    first-runs F plan s.search.constants s.asked c.args.budget _ _ d.search d.asked is d.within.0
    (first-whole s.search.constants F plan s.asked (Ended c.in-Ended.outcome) c.ask.new.self.search d.search d.asked says other) says.0 says.1

pub returns-in-FewDecisions-clause-runs : goal.returns-in-FewDecisions-clause-runs
returns-in-FewDecisions-clause-runs g c =
    if_ok-map c.solve_upper.result _ _ (λ o h F plan d wanted is.
    subst (λ (Q : List Literal). Runs F plan Q (outcome_of o)) c.requires.root
    (h F plan (c.in_ok-outcome.ensures.kept F plan d) (c.in_ok-outcome.ensures.division F plan d wanted) (rw c.requires.root (omega (arith, wanted))) (rw c.requires.root is))) c.solve_upper.ensures.runs

pub returns-in-FewDecisions-clause-kept : goal.returns-in-FewDecisions-clause-kept
returns-in-FewDecisions-clause-kept g c = kept-then c.solve_upper.result c.args.self.now c.ask.new.self c.solve_upper.new.self c.in_ok-outcome.ensures.kept c.solve_upper.ensures.kept

pub returns-in-ManyDecisions-clause-runs : goal.returns-in-ManyDecisions-clause-runs
returns-in-ManyDecisions-clause-runs g c =
    if_ok-map c.resume.result _ _ (λ o runs F plan d wanted is.
    let s = c.args.self.now in
    let t = c.ask.new.self in
    let e = c.in_ok-outcome.ensures.kept F plan d in
    let one = d.search in
    let two = e.search in
    let same : t.search.constants ≡ s.search.constants = cc in
    let says = rw c.in-ManyDecisions.is at (c.in_ok-outcome.ensures.says F d.ready) in
    let other : ManyDecisions ≢ FewDecisions = λ e. cc in
    first-goes-on F plan s.search.constants s.asked c.args.budget c.resume.new.self.decided t.search (outcome_of o) d.search d.asked is d.within.0
    (first-whole s.search.constants F plan s.asked ManyDecisions t.search d.search d.asked says other) says.0
    (λ saved h. subst (λ (G : Formula). RunsTo s.search.constants G c.args.budget (state_of t.search saved) (outcome_of o) c.resume.new.self.decided) (formula-ready ByPlace F t.search.kernel e.ready) (rw same at (runs saved h)))) c.resume.ensures.runs

pub returns-in-ManyDecisions-clause-kept : goal.returns-in-ManyDecisions-clause-kept
returns-in-ManyDecisions-clause-kept g c = dividing-kept c.resume.result c.args.self.now c.ask.new.self c.resume.new.self c.in_ok-outcome.ensures.kept (search Rattle.std.proofs.Common.rules)
