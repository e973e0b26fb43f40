use Rattle.std.proofs.Common.{◌≡◌, ◌∙◌, ◌≤◌, Bool, false, option_map, ap, sym, subst, arith, if◌then◌else◌}
use Rattle.theory.specs.Literals.{has_var}
use Rattle.theory.specs.Trails.{Entry, literals, entry_of, current_level, decide}
use Rattle.theory.specs.Propagation.{quiet, Propagates}
use Rattle.theory.proofs.literals.OverVariables.{AreOver-from_IsOver}
use Rattle.kernel.specs.State.{State}
use Rattle.kernel.specs.Rules.{rule_of}
use Rattle.kernel.specs.declared.order.Order.{Order}
use Rattle.session.specs.Asking.{IsAsked}
use Rattle.session.proofs.TrailTruths.{false-unless_free, free-without_value}
use Rattle.session.proofs.AskedLemmas.{IsCore-needed, IsAsked-decide, IsAssumed-assume, quiet-open}
use Rattle.session.proofs.search.Search.assume.Goals as goal

pub needed-requires-clause-failed : goal.needed-requires-clause-failed
needed-requires-clause-failed c =
    let T = c.args.self.now.kernel.trail in
    false-unless_free T c.args.lit c.value.result (c.value.ensures ∙ ap (λ v. option_map (λ (e : Entry). e.lit.positive) (entry_of T v)) c.var.ensures.var) (sym c.is_some.ensures ∙ c.if-is_some.true) c.requires.untrue

pub returns-then-is_some-clause-says : goal.returns-then-is_some-clause-says
returns-then-is_some-clause-says c =
    IsCore-needed c.args.formula.now c.args.assumptions.now c.args.self.now c.requires.asked c.args.lit c.in_ok-core.core.items c.requires.assumption c.requires.base c.in_ok-core.ensures

pub decide-requires : goal.decide-requires
decide-requires c memory =
    let s = c.args.self.now in
    let h = c.requires.asked in
    let T = s.kernel.trail in
    let v = AreOver-from_IsOver c.args.formula.now.vars c.args.assumptions.now h.assumptions c.args.lit c.requires.assumption in
    let high : c.args.lit.var ≤ s.kernel.vars = let top = v.1 in let more = h.vars in omega (arith, top, more) in (
      (v.0, high),
      free-without_value T c.args.lit.var c.value.result (c.value.ensures ∙ ap (λ x. option_map (λ (e : Entry). e.lit.positive) (entry_of T x)) c.var.ensures.var) (sym c.is_some.ensures ∙ c.if-is_some.false),
      subst (λ (o : Order). Propagates (rule_of o) s.kernel.clauses T quiet T) (sym h.fit.order) c.requires.quiet,
    )

pub returns-clause-asked : goal.returns-clause-asked
returns-clause-asked c =
    let s = c.args.self.now in
    let h = c.requires.asked in
    let F = c.args.formula.now in
    let A = c.args.assumptions.now in
    let T = s.kernel.trail in
    let l = c.args.lit in
    let v = AreOver-from_IsOver F.vars A h.assumptions l c.requires.assumption in
    let high : l.var ≤ s.kernel.vars = let top = v.1 in let more = h.vars in omega (arith, top, more) in
    let free : has_var (literals T) l.var ≡ false = free-without_value T l.var c.value.result (c.value.ensures ∙ ap (λ x. option_map (λ (e : Entry). e.lit.positive) (entry_of T x)) c.var.ensures.var) (sym c.is_some.ensures ∙ c.if-is_some.false) in
    let is : c.decide.new.self ≡ record s.kernel { trail = decide T l } = c.decide.ensures ∙ ap (λ (b : Bool). if b then s.kernel else record s.kernel { trail = decide T l }) h.fit.memory in
    let asked : IsAsked F A (record s { kernel = record s.kernel { trail = decide T l }; base = current_level (decide T l) }) =
    IsAsked-decide F A s h l (quiet-open _ s.kernel.clauses T T c.requires.quiet) (v.0, high) free (current_level (decide T l)) (IsAssumed-assume s.kernel.clauses T A s.assumed s.base l h.lawful free c.requires.assumption c.requires.base h.assumed) in
    subst (λ b. IsAsked F A (record s { kernel = c.decide.new.self; base = b })) (sym c.level-self.ensures)
    (subst (λ (k : State). IsAsked F A (record s { kernel = k; base = current_level k.trail })) (sym is) asked)
