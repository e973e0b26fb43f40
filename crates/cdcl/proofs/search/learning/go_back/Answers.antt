use Rattle.std.proofs.Common.{◌≡◌, ◌∙◌, ap, arith, ◌++◌, ◌∷◌, [], if◌then◌else◌}
use Rattle.theory.specs.Literals.{Clause}
use Rattle.theory.specs.Trails.{Trail, up_to, current_level}
use Rattle.theory.proofs.trails.TrailLevels.{up_to-up_to}
use Rattle.kernel.specs.State.{State}
use Rattle.kernel.specs.declared.order.Order.TheVariants.{ByPlace}
use Rattle.cdcl.proofs.SearchingLemmas.{may_learn}
use Rattle.cdcl.proofs.FocusedLemmas.{removed, lower-level, if-false}
use Rattle.cdcl.proofs.search.learning.go_back.Goals as goal

pub back_to-requires : goal.back_to-requires
back_to-requires c memory = (lower-level c.args.kernel.now c.requires.taught.0 c.args.learnt.now.clause.items c.args.learnt.now.level c.args.restarts c.requires.searching c.requires.taught.1).0

pub learn-requires : goal.learn-requires
learn-requires c memory =
    let t = c.requires.taught.1 in
    may_learn ByPlace (removed c.args.kernel.now.clauses c.args.kernel.now.trail c.requires.taught.0) c.args.kernel.now c.back_to.new.self c.deref.result.now c.args.learnt.now.level c.requires.taught.0 c.requires.searching t.above t.conflict (c.deref.ensures.value ∙ t.learnt) t.back c.back_to.ensures

pub back_to-requires-2-clause-level : goal.back_to-requires-2-clause-level
back_to-requires-2-clause-level c =
    let k = c.args.kernel.now in
    let low = lower-level k c.requires.taught.0 c.args.learnt.now.clause.items c.args.learnt.now.level c.args.restarts c.requires.searching c.requires.taught.1 in
    let went : c.back_to.new.self.trail ≡ up_to k.trail c.args.learnt.now.level = ap (λ (x : State). x.trail) (rw c.requires.searching.has_memory at c.back_to.ensures) in
    let now : c.learn.new.self.trail ≡ up_to k.trail c.args.learnt.now.level = ap (λ (x : State). x.trail) c.in_ok-number.ensures.learnt ∙ went in
    let level = c.level_back-level.ensures in
    let current : current_level c.learn.new.self.trail ≡ c.args.learnt.now.level = ap current_level now ∙ low.2 in
    let less = low.1 in
    omega arith

pub returns-clause-kernel : goal.returns-clause-kernel
returns-clause-kernel c =
    let k = c.args.kernel.now in
    let low = lower-level k c.requires.taught.0 c.args.learnt.now.clause.items c.args.learnt.now.level c.args.restarts c.requires.searching c.requires.taught.1 in
    let went : c.back_to.new.self ≡ record k { trail = up_to k.trail c.args.learnt.now.level } = c.back_to.ensures ∙ if-false k.out_of_memory k (record k { trail = up_to k.trail c.args.learnt.now.level }) c.requires.searching.has_memory in
    let learnt : c.learn.new.self ≡ record k { clauses = k.clauses ++ c.args.learnt.now.clause.items ∷ []; trail = up_to k.trail c.args.learnt.now.level } =
    c.in_ok-number.ensures.learnt ∙ (ap (λ (x : State). record x { clauses = x.clauses ++ c.deref.result.now ∷ [] }) went
    ∙ ap (λ (d : Clause). record k { clauses = k.clauses ++ d ∷ []; trail = up_to k.trail c.args.learnt.now.level }) c.deref.ensures.value) in
    c.back_to-2.ensures ∙ (ap (λ (x : State). record x { trail = up_to x.trail c.level_back-level.result }) learnt
    ∙ (ap (λ i. record k { clauses = k.clauses ++ c.args.learnt.now.clause.items ∷ []; trail = up_to (up_to k.trail c.args.learnt.now.level) i }) c.level_back-level.ensures
    ∙ ap (λ (T : Trail). record k { clauses = k.clauses ++ c.args.learnt.now.clause.items ∷ []; trail = T }) (up_to-up_to k.trail c.args.learnt.now.level (if c.args.restarts then 0 else c.args.learnt.now.level) low.1)))
