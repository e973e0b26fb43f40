use Rattle.std.proofs.Common.{◌≡◌, ◌+◌, ◌-◌, ◌≤◌, ◌∙◌, ℕ, length, drop, ap, sym, arith}
use Rattle.std.proofs.lemmas.List.{drop_all}
use Rattle.theory.specs.Literals.{IsVariable}
use Rattle.theory.specs.Simplifying.{extended_model}
use Rattle.simplify.proofs.EliminatedRows.{count-all, place-variable, extended-place}
use Rattle.simplify.proofs.ExtendedModels.{extended-none}
use Rattle.simplify.proofs.eliminated.EliminatedVars.extend.Goals as goal

pub loop-place-init : goal.loop-place-init
loop-place-init c =
    let all = c.args.self.now in
    let M = c.args.values.now in
    let len = c.len-place.ensures in
    let past : length all ≤ c.len-place.result = omega arith in record {
      within = omega arith;
      values = sym (ap (λ es. extended_model (length M) es M) (drop_all c.len-place.result all past) ∙ extended-none M);
    }

pub index-requires : goal.index-requires
index-requires c =
    let own = c.self.inside in
    let count = count-all own.literals.items own.ends.items own.clause_ends.items own.vars.items c.args.self.now c.loop-place.place c.self.view_is c.self.invariant.2 in
    let within = c.loop-place.invariant.within in
    let some = c.loop-place-test.true in
    omega (arith, count, own.vars.ok.0)

-- the variable at the place is one of those that have values
variable : (c : goal.After-row_known-1) → IsVariable (length c.args.values.now) c.index.result.now
variable c =
    let own = c.self.inside in
    let count = count-all own.literals.items own.ends.items own.clause_ends.items own.vars.items c.args.self.now c.loop-place.place c.self.view_is c.self.invariant.2 in
    let within = c.loop-place.invariant.within in
    let some = c.loop-place-test.true in
    let same = c.self.invariant.2 in
    place-variable own.literals.items own.ends.items own.clause_ends.items own.vars.items c.args.self.now (c.loop-place.place - 1) (length c.args.values.now) c.index.result.now c.self.view_is c.requires (omega arith)
    (omega (arith, count, same)) c.index.ensures

pub overflow_sub-values : goal.overflow_sub-values
overflow_sub-values c = (variable c).0

pub bounds-values-index : goal.bounds-values-index
bounds-values-index c = let is = variable c in let low = is.0 in let high = is.1 in let same = c.loop-place.auto.values in omega arith

pub loop-place-preserved : goal.loop-place-preserved
loop-place-preserved c =
    let own = c.self.inside in
    let all = c.args.self.now in
    let M = c.args.values.now in
    let place : ℕ = c.loop-place.place - 1 in
    let count = count-all own.literals.items own.ends.items own.clause_ends.items own.vars.items all place c.self.view_is c.self.invariant.2 in
    let within = c.loop-place.invariant.within in
    let some = c.loop-place-test.true in
    let same = c.self.invariant.2 in
    let next : c.loop-place.place ≡ place + 1 = omega arith in record {
      within = omega arith;
      values = extended-place own.literals.items own.ends.items own.clause_ends.items own.vars.items all place (length M) c.index.result.now M c.loop-place.values c.is_needed-needed.result c.self.view_is c.requires (omega arith)
          (omega (arith, count, same)) c.index.ensures (c.loop-place.invariant.values ∙ ap (λ n. extended_model (length M) (drop n all) M) next) c.is_needed-needed.ensures;
    }
