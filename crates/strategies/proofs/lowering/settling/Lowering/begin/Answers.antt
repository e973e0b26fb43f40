use Rattle.std.proofs.Common.{◌≡◌, ◌∙◌, length, ap, sym, subst, Vec, Global}
use Rattle.std.specs.Vec.{with_items}
use Rattle.std.proofs.lemmas.List.{with_items_is}
use Rattle.theory.specs.Literals.{Literal}
use Rattle.theory.specs.Truth.{Assignment, Satisfies}
use Rattle.theory.specs.Pure.{searched}
use Rattle.strategies.specs.Lowering.{IsFalsified, IsPrefix}
use Rattle.strategies.proofs.FirstBelow.{IsFirstBelow-first}
use Rattle.strategies.proofs.FalseVariables.{over-units, Satisfies-falsified}
use Rattle.strategies.proofs.lowering.settling.Lowering.begin.Goals as goal

pub make_false-requires : goal.make_false-requires
make_false-requires c = rw (c.deref.ensures.value, c.deref_mut.ensures.value) (over-units c.args.formula.now c.in_ok-units.units.items c.args.model.items c.in_ok-units.ensures c.requires)

pub open-requires-clause-model : goal.open-requires-clause-model
open-requires-clause-model c =
    let M = c.args.model in
    let N = c.make_false.new.model in
    let long : length N ≡ length M.items = rw c.deref_mut.ensures.value at c.make_false.auto.model in
    let made : IsFalsified c.in_ok-units.units.items M.items N = rw (c.deref.ensures.value, c.deref_mut.ensures.value) at c.make_false.ensures in
    let same : (with_items M N).items ≡ N = with_items_is M N (long ∙ sym M.ok.0) in
    subst (Satisfies (searched c.args.formula.now)) (sym (c.deref-3.ensures.value ∙ same))
    (Satisfies-falsified c.args.formula.now c.in_ok-units.units.items M.items N c.vars-vars.ensures.within.formula c.in_ok-units.ensures c.requires long made)

pub returns : goal.returns
returns c =
    let F = c.args.formula.now in
    let M = c.args.model in
    let N = c.make_false.new.model in
    let long : length N ≡ length M.items = rw c.deref_mut.ensures.value at c.make_false.auto.model in
    let made : IsFalsified c.in_ok-units.units.items M.items N = rw (c.deref.ensures.value, c.deref_mut.ensures.value) at c.make_false.ensures in
    let same : (with_items M N).items ≡ N = with_items_is M N (long ∙ sym M.ok.0) in
    let satisfies = Satisfies-falsified F c.in_ok-units.units.items M.items N c.vars-vars.ensures.within.formula c.in_ok-units.ensures c.requires long made in
    record {
      first = IsFirstBelow-first (searched F) (with_items M N).items (subst (Satisfies (searched F)) (sym same) satisfies);
      prefix = subst (λ (m : Assignment). IsPrefix F 1 m c.in_ok-prefix.prefix) c.deref-3.ensures.value c.in_ok-prefix.ensures;
      units = ap (λ (v : Vec Literal Global). v.items) c.none-questions.ensures.units ∙ c.in_ok-units.ensures;
      session = rw c.none-questions.ensures.session tt;
    }
