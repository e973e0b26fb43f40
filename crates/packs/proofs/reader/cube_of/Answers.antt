use Rattle.std.proofs.Common.{◌≡◌, ◌+◌, Bool, true, false, Option, Some, None, is_some, [], ◌∷◌, ◌++◌, ap, sym, subst, ◌∙◌, refl, take, arith}
use Rattle.std.proofs.lemmas.List.{take_more}
use Rattle.std.proofs.lemmas.List.Elements.{All-push}
use Rattle.theory.specs.Literals.{Literal, IsVariable, IsCube, has_var}
use Rattle.theory.specs.Truth.{IsOver}
use Rattle.trail.proofs.Cubes.{IsCube-push}
use Rattle.lrat.specs.Held.{value_in}
use Rattle.lrat.proofs.Values.{value-none}
use Rattle.packs.specs.Known.{IsHolding}
use Rattle.packs.proofs.HoldingLemmas.{cube-free, IsHolding-more, free-same}
use Rattle.packs.proofs.UnheldVariables.{unheld}
use Rattle.packs.proofs.reader.cube_of.Goals as goal

none_from : (o : Option Bool) → is_some o ≡ false → o ≡ None
none_from None h = refl
none_from (Some b) h = absurd (cc)

pub returns-then-is_some-clause-cube : goal.returns-then-is_some-clause-cube
returns-then-is_some-clause-cube c = λ cube over.
    let free = cube-free c.args.literals.now c.loop-lit.held.literals c.loop-lit.lit-index c.lit-item.result cube c.loop-lit-test.true c.lit-item.is c.loop-lit.invariant.held in
    let none : c.value.result ≡ None = c.value.ensures.value ∙ (ap (value_in c.loop-lit.held.literals) c.var-in-loop-lit.ensures.var ∙ unheld c.loop-lit.held.literals c.lit-item.result.var free) in
    let both : true ≡ false = sym c.if-is_some.true ∙ (c.is_some.ensures ∙ ap is_some none) in
    absurd (cc)

pub push-requires-clause-is_free : goal.push-requires-clause-is_free
push-requires-clause-is_free c =
    let none : c.value.result ≡ None = none_from c.value.result (sym c.is_some.ensures ∙ c.if-is_some.false) in
    value-none c.loop-lit.held.literals c.lit-item.result.var (ap (value_in c.loop-lit.held.literals) (sym c.var-in-loop-lit.ensures.var) ∙ (sym c.value.ensures.value ∙ none))

pub push-requires-in-loop-lit : goal.push-requires-in-loop-lit
push-requires-in-loop-lit c =
    let none : c.value.result ≡ None = none_from c.value.result (sym c.is_some.ensures ∙ c.if-is_some.false) in
    let free : has_var c.loop-lit.held.literals c.lit-item.result.var ≡ false
    = value-none c.loop-lit.held.literals c.lit-item.result.var (ap (value_in c.loop-lit.held.literals) (sym c.var-in-loop-lit.ensures.var) ∙ (sym c.value.ensures.value ∙ none)) in
    rw c.loop-lit.invariant.literals
    (free-same c.loop-lit.held.literals (take c.loop-lit.lit-index c.args.literals.now) c.lit-item.result.var (sym c.loop-lit.invariant.held.same) free)

pub loop-lit-preserved : goal.loop-lit-preserved
loop-lit-preserved c =
    let inv = c.loop-lit.invariant in
    let xs = c.args.literals.now in
    let at = c.loop-lit.lit-index in
    let lit = c.lit-item.result in
    let none : c.value.result ≡ None = none_from c.value.result (sym c.is_some.ensures ∙ c.if-is_some.false) in
    let free : has_var c.loop-lit.held.literals lit.var ≡ false
    = value-none c.loop-lit.held.literals lit.var (ap (value_in c.loop-lit.held.literals) (sym c.var-in-loop-lit.ensures.var) ∙ (sym c.value.ensures.value ∙ none)) in
    let fresh = free-same c.loop-lit.held.literals (take at xs) lit.var (sym inv.held.same) free in
    let longer : take at xs ++ lit ∷ [] ≡ take (at + 1) xs = ap (λ k. take at xs ++ k ∷ []) c.lit-item.is ∙ sym (take_more xs at lit c.loop-lit-test.true) in
    let high = c.if-var-vars.false in
    let same = inv.vars in
    let within : IsVariable c.args.held.now.vars lit.var = (omega arith, omega arith) in
    record {
      literals = c.in_ok-push-2.ensures.ok ∙ (ap (λ q. q ++ lit ∷ []) inv.literals ∙ longer);
      cube = subst IsCube longer (IsCube-push (take at xs) lit inv.cube fresh);
      over = subst (IsOver c.args.held.now.vars) longer (All-push (λ (l : Literal). IsVariable c.args.held.now.vars l.var) (take at xs) lit inv.over within);
      held = rw c.in_ok-push.ensures.ok (subst (λ q. IsHolding q (lit ∷ c.loop-lit.held.literals)) longer (IsHolding-more (take at xs) c.loop-lit.held.literals lit free inv.held));
      vars = c.push.ensures.vars ∙ inv.vars;
    }
