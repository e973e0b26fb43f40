use Rattle.std.proofs.Common.{◌≡◌, ◌∙◌, ◌+◌, ◌++◌, ◌∷◌, [], None, ap, sym, if◌then◌else◌, arith}
use Rattle.theory.specs.Propagation.{by_place, quiet}
use Rattle.theory.specs.Modes.{Mode, is_restarting}
use Rattle.theory.specs.Focused.{saved_literal}
use Rattle.theory.proofs.searching.SearchSoundness.{Propagates-says}
use Rattle.theory.specs.Trails.{literals, current_level}
use Rattle.theory.proofs.literals.OverVariables.{AreOver-from_IsOver}
use Rattle.lookahead.proofs.TrailLengths.{length-lawful}
use Rattle.cdcl.specs.Searching.{formula_of}
use Rattle.cdcl.proofs.FocusedLemmas.{if-false}
use Rattle.cdcl.proofs.FocusedSteps.{Follows-decided}
use Rattle.cdcl.proofs.WaitingLemmas.{best-held}
use Rattle.cdcl.proofs.search.focused.FocusedSearch.on_quiet.Goals as goal

pub literal-requires-clause-saved : goal.literal-requires-clause-saved
literal-requires-clause-saved c =
    let k = c.args.self.now.kernel in
    let x = best-held (formula_of k) (literals k.trail) c.args.self.now.decisions.scores.scores c.in-Some.var (sym c.best_free.ensures.best ∙ c.in-Some.is) in
    rw c.best_free.ensures.waiting.saved x.0

pub literal-requires-clause-small : goal.literal-requires-clause-small
literal-requires-clause-small c =
    let k = c.args.self.now.kernel in
    let x = best-held (formula_of k) (literals k.trail) c.args.self.now.decisions.scores.scores c.in-Some.var (sym c.best_free.ensures.best ∙ c.in-Some.is) in
    let high = x.0.1 in
    let few = c.requires.focusing.searching.few in
    omega arith

pub overflow_add-self : goal.overflow_add-self
overflow_add-self c =
    let k = c.args.self.now.kernel in
    let f = c.requires.focusing in
    let long = length-lawful k.vars k.clauses k.trail f.searching.lawful (AreOver-from_IsOver k.vars (literals k.trail) f.searching.trail_over) in
    let few = f.few in
    let most = f.decided in
    omega arith

pub decide-requires : goal.decide-requires
decide-requires c memory =
    let k = c.args.self.now.kernel in
    let x = best-held (formula_of k) (literals k.trail) c.args.self.now.decisions.scores.scores c.in-Some.var (sym c.best_free.ensures.best ∙ c.in-Some.is) in
    rw (c.literal.ensures, c.requires.focusing.searching.in_order) (x.0, x.1, c.requires.quiet)

pub returns-in-Some-clause-next : goal.returns-in-Some-clause-next
returns-in-Some-clause-next c saved budget counted h =
    let k = c.args.self.now.kernel in
    let went : c.decide.new.self ≡ record k { trail = k.trail ++ record { lit = saved_literal c.args.self.now.decisions.saved c.in-Some.var; reason = None; level = current_level k.trail + 1 } ∷ [] } =
    rw (c.literal.ensures, c.best_free.ensures.saved) at (c.decide.ensures
    ∙ if-false k.out_of_memory k (record k { trail = k.trail ++ record { lit = c.literal.result; reason = None; level = current_level k.trail + 1 } ∷ [] }) c.requires.focusing.searching.has_memory) in
    let one : c.from.result ≡ (if is_restarting c.args.self.now.pace.mode then 0 else 1) = c.from.ensures ∙ (c.if_stable.ensures ∙ ap (λ (m : Mode). if is_restarting m then 0 else 1) c.mode.ensures) in
    Follows-decided budget c.args.self.now _ saved c.in-Some.var c.requires.focusing counted (Propagates-says by_place k.clauses k.trail k.trail quiet c.requires.quiet)
    (sym c.best_free.ensures.best ∙ c.in-Some.is) h went c.trail-trail.ensures.lawful c.trail-trail.ensures.over c.trail-trail.ensures.clauses_over
    c.best_free.ensures.waiting c.best_free.ensures.kept.scores c.best_free.ensures.kept.constants c.best_free.ensures.saved c.best_free.ensures.kept.held
    (ap (λ n. record c.args.self.now { kernel = c.decide.new.self; decisions = c.best_free.new.self; decided = c.args.self.now.decided + n }) one)
