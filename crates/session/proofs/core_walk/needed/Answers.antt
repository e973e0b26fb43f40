use Rattle.std.proofs.Common.{◌≡◌, ◌<◌, ◌+◌, ◌-◌, ◌∙◌, ◌++◌, ◌∷◌, [], List, Bool, true, false, length, slice_index_or, slice_set, ap, sym, subst, arith}
use Rattle.std.proofs.lemmas.List.{get_or-set_same}
use Rattle.theory.specs.Literals.{Literal, negated}
use Rattle.theory.specs.Trails.{literals}
use Rattle.theory.proofs.literals.OverVariables.{AreOver-from_IsOver}
use Rattle.session.specs.Needing.{IsWalked}
use Rattle.session.proofs.NeededLemmas.{IsWalked-first, IsNeeded-walked}
use Rattle.session.proofs.core_walk.needed.Goals as goal

pub bounds-marked-var : goal.bounds-marked-var
bounds-marked-var c =
    let variable = AreOver-from_IsOver c.args.kernel.now.vars (literals c.args.kernel.now.trail) c.trail-place.ensures.over (negated c.args.failed) c.requires.failed in
    let high = variable.1 in
    let long = c.requires.marked in
    let same = c.var.ensures.var in
    omega (arith, high, long, same)

pub loop-place-init : goal.loop-place-init
loop-place-init c =
    let K = c.args.kernel.now.clauses in
    let T = c.args.kernel.now.trail in
    let failed = c.args.failed in
    let variable = AreOver-from_IsOver c.args.kernel.now.vars (literals T) c.trail-place.ensures.over (negated failed) c.requires.failed in
    let long : length c.trail-place.result.now ≡ length T = ap length c.trail-place.ensures.trail in
    let pushed : c.push.new.self.items ≡ failed ∷ [] = c.in_ok-push.ensures.items ∙ ap (λ (xs : List Literal). xs ++ failed ∷ []) c.new-core.ensures.items in
    let marked : List Bool = slice_set c.args.marked.now c.var.result true in
    let inside : failed.var < length c.args.marked.now = let high = variable.1 in let many = c.requires.marked in omega (arith, high, many) in
    let mark : slice_index_or marked failed.var false ≡ true =
    subst (λ i. slice_index_or (slice_set c.args.marked.now i true) failed.var false ≡ true) (sym c.var.ensures.var) (get_or-set_same c.args.marked.now failed.var true false inside) in
    record {
      within = omega (arith, long);
      walked = subst (λ n. IsWalked K T failed n marked c.push.new.self.items) (sym long)
          (subst (λ (core : List Literal). IsWalked K T failed (length T) marked core) (sym pushed) (IsWalked-first K T failed marked c.requires.failed mark));
    }

pub loop-place-preserved : goal.loop-place-preserved
loop-place-preserved c =
    let some = c.loop-place-test.true in
    let most = c.loop-place.invariant.within in
    let up : c.loop-place.place ≡ c.loop-place.place - 1 + 1 = omega (arith, some) in
    record {
      within = omega (arith, most);
      walked = c.in_ok-look_at.ensures c.args.failed
          (subst (λ n. IsWalked c.args.kernel.now.clauses c.args.kernel.now.trail c.args.failed n c.loop-place.marked c.loop-place.core.items) up c.loop-place.invariant.walked);
    }

pub returns : goal.returns
returns c =
    let done : c.loop-place.place ≡ 0 = let past = c.loop-place-test.false in omega (arith, past) in
    IsNeeded-walked c.args.kernel.now.clauses c.args.kernel.now.trail c.args.failed c.loop-place.marked c.loop-place.core.items
    (subst (λ n. IsWalked c.args.kernel.now.clauses c.args.kernel.now.trail c.args.failed n c.loop-place.marked c.loop-place.core.items) done c.loop-place.invariant.walked)
