use Rattle.std.proofs.Common.{◌≡◌, ◌∙◌, [], ℕ, length, get_or, ap, subst, sym, arith, true, false, List, not}
use Rattle.std.proofs.lemmas.List.Sorted.{length_permutation, IsPermutation-map}
use Rattle.theory.specs.Literals.{Literal, has_var}
use Rattle.theory.specs.Trails.{literals}
use Rattle.kernel.specs.Watching.{IsServed}
use Rattle.kernel.specs.Visiting.{kept_of, tending}
use Rattle.kernel.specs.Placing.{clauses_of}
use Rattle.kernel.proofs.TrailFacts.{distinct-consistent}
use Rattle.kernel.proofs.Visits.{over-var, truth-none, truth-found}
use Rattle.kernel.proofs.Popping.{popped, none-is_unit}
use Rattle.kernel.proofs.Places.{At-get}
use Rattle.kernel.proofs.Placed.{AreInLine-grow, AreInLine-pop, first-by, none-by, in-line}
use Rattle.kernel.proofs.propagator.Propagator.next_in_line.Goals as goal

pub truth-requires : goal.truth-requires
truth-requires c =
    let f = popped c.requires.served.0 c.args.self.now.clauses.given c.args.trail.now.entries (record (tending (kept_of c.args.self.now)) { units = clauses_of c.loop-waiting.line }) (clauses_of c.pop.new.self) c.in-Some.waiting.clause c.in-Some.waiting.lit
    (distinct-consistent (literals c.args.trail.now.entries) c.entries-trail.ensures.ordered.distinct) c.requires.none (IsPermutation-map (λ w. w.clause) _ _ c.in-Some.ensures.taken)
    (λ d a. (c.loop-waiting.invariant.line c.requires.line.0 c.requires.line.1).last c.in-Some.waiting d (in-line _ _ c.in-Some.waiting c.in-Some.ensures.taken) a)
    (c.loop-waiting.invariant.served c.requires.served.0 c.requires.served.1) in
    over-var c.args.trail.now.vars (get_or c.args.self.now.clauses.given c.in-Some.waiting.clause []) c.in-Some.waiting.lit (c.requires.over c.in-Some.waiting.clause [] f.inside) f.member

pub returns-then-is_none-clause-unit : goal.returns-then-is_none-clause-unit
returns-then-is_none-clause-unit c o h =
    let f = popped c.requires.served.0 c.args.self.now.clauses.given c.args.trail.now.entries (record (tending (kept_of c.args.self.now)) { units = clauses_of c.loop-waiting.line }) (clauses_of c.pop.new.self) c.in-Some.waiting.clause c.in-Some.waiting.lit
    (distinct-consistent (literals c.args.trail.now.entries) c.entries-trail.ensures.ordered.distinct) c.requires.none (IsPermutation-map (λ w. w.clause) _ _ c.in-Some.ensures.taken)
    (λ d a. (c.loop-waiting.invariant.line c.requires.line.0 c.requires.line.1).last c.in-Some.waiting d (in-line _ _ c.in-Some.waiting c.in-Some.ensures.taken) a)
    (c.loop-waiting.invariant.served c.requires.served.0 c.requires.served.1) in
    let w = c.in-Some.waiting in
    let free : has_var (literals c.args.trail.now.entries) w.lit.var ≡ false = truth-none (literals c.args.trail.now.entries) w.lit c.truth.result c.truth.ensures.truth (c.is_none.ensures ∙ ap not c.if-is_none.true) in
    first-by o c.args.self.now.clauses.given c.args.trail.now.entries c.loop-waiting.line w (get_or c.args.self.now.clauses.given w.clause []) w.lit (c.loop-waiting.invariant.line o h)
    (in-line _ _ w c.in-Some.ensures.taken) c.in-Some.ensures.first (At-get c.args.self.now.clauses.given w.clause [] f.inside) (f.unit free) f.waited

pub returns-then-is_none-clause-grows : goal.returns-then-is_none-clause-grows
returns-then-is_none-clause-grows c floor e lit level served =
    let f = popped floor c.args.self.now.clauses.given c.args.trail.now.entries (record (tending (kept_of c.args.self.now)) { units = clauses_of c.loop-waiting.line }) (clauses_of c.pop.new.self) c.in-Some.waiting.clause c.in-Some.waiting.lit
    (distinct-consistent (literals c.args.trail.now.entries) c.entries-trail.ensures.ordered.distinct) c.requires.none (IsPermutation-map (λ w. w.clause) _ _ c.in-Some.ensures.taken)
    (λ d a. (c.loop-waiting.invariant.line c.requires.line.0 c.requires.line.1).last c.in-Some.waiting d (in-line _ _ c.in-Some.waiting c.in-Some.ensures.taken) a)
    (c.loop-waiting.invariant.served floor served) in
    f.entry e lit level

pub returns-then-is_none-clause-line : goal.returns-then-is_none-clause-line
returns-then-is_none-clause-line c o e lit h =
    let free : has_var (literals c.args.trail.now.entries) c.in-Some.waiting.lit.var ≡ false = truth-none (literals c.args.trail.now.entries) c.in-Some.waiting.lit c.truth.result c.truth.ensures.truth (c.is_none.ensures ∙ ap not c.if-is_none.true) in
    AreInLine-grow o c.args.self.now.clauses.given c.args.trail.now.entries c.pop.new.self e (subst (λ (l : Literal). has_var (literals c.args.trail.now.entries) l.var ≡ false) (sym lit) free)
    (AreInLine-pop o c.args.self.now.clauses.given c.args.trail.now.entries c.loop-waiting.line c.pop.new.self c.in-Some.waiting c.in-Some.ensures.taken (c.loop-waiting.invariant.line o h))

pub loop-waiting-smaller : goal.loop-waiting-smaller
loop-waiting-smaller c = omega (arith, length_permutation _ _ c.in-Some.ensures.taken)

pub loop-waiting-preserved : goal.loop-waiting-preserved
loop-waiting-preserved c =
    let taken : has_var (literals c.args.trail.now.entries) c.in-Some.waiting.lit.var ≡ true = truth-found (literals c.args.trail.now.entries) c.in-Some.waiting.lit c.truth.result c.truth.ensures.truth (c.is_none.ensures ∙ ap not c.if-is_none.false) in
    record {
      served = λ floor served.
          let f = popped floor c.args.self.now.clauses.given c.args.trail.now.entries (record (tending (kept_of c.args.self.now)) { units = clauses_of c.loop-waiting.line }) (clauses_of c.pop.new.self) c.in-Some.waiting.clause c.in-Some.waiting.lit
          (distinct-consistent (literals c.args.trail.now.entries) c.entries-trail.ensures.ordered.distinct) c.requires.none (IsPermutation-map (λ w. w.clause) _ _ c.in-Some.ensures.taken)
          (λ d a. (c.loop-waiting.invariant.line c.requires.line.0 c.requires.line.1).last c.in-Some.waiting d (in-line _ _ c.in-Some.waiting c.in-Some.ensures.taken) a)
          (c.loop-waiting.invariant.served floor served) in
          f.stale taken;
      line = λ o h. AreInLine-pop o c.args.self.now.clauses.given c.args.trail.now.entries c.loop-waiting.line c.pop.new.self c.in-Some.waiting c.in-Some.ensures.taken (c.loop-waiting.invariant.line o h);
    }

pub returns-clause-none : goal.returns-clause-none
returns-clause-none c o =
    let ok = distinct-consistent (literals c.args.trail.now.entries) c.entries-trail.ensures.ordered.distinct in
    none-by o c.args.self.now.clauses.given c.args.trail.now.entries
    (none-is_unit c.requires.served.0 c.args.self.now.clauses.given c.args.trail.now.entries (record (tending (kept_of c.args.self.now)) { units = clauses_of c.loop-waiting.line }) ok (c.loop-waiting.invariant.served c.requires.served.0 c.requires.served.1) c.requires.none (ap (λ ws. clauses_of ws) c.in_default.ensures.none.0))

pub returns-clause-rest : goal.returns-clause-rest
returns-clause-rest c floor served =
    subst (λ (us : List ℕ). IsServed floor c.args.self.now.clauses.given c.args.trail.now.entries (length c.args.trail.now.entries) (record (tending (kept_of c.args.self.now)) { units = us })) (ap (λ ws. clauses_of ws) c.in_default.ensures.none.0) (c.loop-waiting.invariant.served floor served)
