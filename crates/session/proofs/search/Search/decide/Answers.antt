use Rattle.std.proofs.Common.{◌≡◌, ◌∙◌, Bool, min, ap, refl, sym, subst, if◌then◌else◌}
use Rattle.theory.specs.Trails.{current_level, decide}
use Rattle.theory.specs.Propagation.{by_place}
use Rattle.theory.specs.Search.{values}
use Rattle.session.specs.Asking.{IsAssumed}
use Rattle.session.proofs.AskedLemmas.{IsAsked-decide, IsAsked-with, IsAssumed-decide, model-says, quiet-open}
use Rattle.session.proofs.search.Search.decide.Goals as goal

pub returns-in_ok-model-in-None-clause-says : goal.returns-in_ok-model-in-None-clause-says
returns-in_ok-model-in-None-clause-says c =
    let s = c.args.self.now in
    model-says c.args.formula.now c.args.assumptions.now s c.requires.asked c.in_ok-model-in-None.model.items (c.in_ok-model-in-None.ensures ∙ ap (λ v. values v s.kernel.trail) c.vars.ensures.vars) c.in-None.ensures.none
    (quiet-open by_place s.kernel.clauses s.kernel.trail s.kernel.trail c.requires.quiet) c.requires.assumed

pub returns-in-Some-clause-asked : goal.returns-in-Some-clause-asked
returns-in-Some-clause-asked c =
    let s = c.args.self.now in
    let h = c.requires.asked in
    let F = c.args.formula.now in
    let A = c.args.assumptions.now in
    let T = s.kernel.trail in
    let l = c.in-Some.lit in
    let free = c.in-Some.ensures.free in
    let is : c.decide.new.self ≡ record s.kernel { trail = decide T l } = c.decide.ensures ∙ ap (λ (b : Bool). if b then s.kernel else record s.kernel { trail = decide T l }) h.fit.memory in
    let asked = IsAsked-decide F A s h l (quiet-open by_place s.kernel.clauses T T c.requires.quiet) free.0 free.1 (min s.base (current_level T)) (IsAssumed-decide s.kernel.clauses T A s.assumed s.base l h.lawful c.requires.assumed h.assumed) in
    IsAsked-with F A _ _ asked is refl refl c.best.ensures.room refl
    (subst (λ b. IsAssumed A s.assumed b (decide T l)) (sym (c.min-self.ensures ∙ ap (λ n. min s.base n) c.level.ensures)) asked.assumed)
