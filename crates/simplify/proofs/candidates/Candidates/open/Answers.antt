use Rattle.std.proofs.Common.{◌≡◌, ℕ, List, Bool, true, length, replicate, ap, sym, ◌∙◌, subst, arith}
use Rattle.theory.proofs.searching.MappedVariables.{length-mapped}
use Rattle.simplify.specs.Entries.{weight_in}
use Rattle.simplify.specs.LeastKeys.{AreKeys}
use Rattle.simplify.proofs.Lightest.{all-wait}
use Rattle.simplify.proofs.candidates.Candidates.open.Goals as goal

pub keys_of-requires : goal.keys_of-requires
keys_of-requires c =
    let d = c.args.database.now in
    let long : length c.deref.result.now ≡ d.vars = ap length (c.deref.ensures.value ∙ c.in_ok-weights.ensures) ∙ length-mapped (weight_in d.entries) d.vars in
    let few = c.vars-vars.ensures.few in
    let vars = c.vars-vars.ensures.vars in
    omega arith

pub invariant_of-result : goal.invariant_of-result
invariant_of-result c =
    let d = c.args.database.now in
    let W = c.in_ok-weights.weights.items in
    let long : length W ≡ c.vars-vars.result = ap length c.in_ok-weights.ensures ∙ (length-mapped (weight_in d.entries) d.vars ∙ sym c.vars-vars.ensures.vars) in
    let keys : AreKeys W (replicate (length W) true) c.in_ok-keys.keys.items = subst (λ (w : List ℕ). AreKeys w (replicate (length w) true) c.in_ok-keys.keys.items) c.deref.ensures.value c.in_ok-keys.ensures in
    subst (λ (m : List Bool). AreKeys W m c.in_ok-keys.keys.items) (ap (λ n. replicate n true) long ∙ sym (c.in_ok-waits.ensures.items_if_clones_equal (λ y h. h))) keys

pub returns : goal.returns
returns c =
    let d = c.args.database.now in
    let waits = c.in_ok-waits.ensures.items_if_clones_equal (λ y h. h) ∙ (ap (λ n. replicate n true) c.vars-vars.ensures.vars ∙ sym (all-wait d.vars)) in
    λ i. record { weights = c.in_ok-weights.ensures i; waits = waits i }
