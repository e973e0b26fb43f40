use Rattle.std.proofs.Common.{◌∙◌, ◌++◌, ◌∷◌, [], List, ℕ, ap}
use Rattle.simplify.specs.declared.resolvents.Pair.{Pair}
use Rattle.simplify.proofs.PairLines.{kept, kept-lines}
use Rattle.simplify.proofs.resolvents.Resolvents.put.Goals as goal

pub invariant_of-self-then-branch : goal.invariant_of-self-then-branch
invariant_of-self-then-branch c =
    let own = c.self.inside in
    kept own.literals.items c.resolve.new.out.items _ own.ends.items c.push_reserved.new.self.items own.pairs.items c.push_reserved-then-branch.new.self.items c.args.pair c.len.result
    c.self.invariant.0 c.self.invariant.1 (c.in_ok-resolve.ensures.set c.if-branch.true) (c.len.ensures ∙ c.resolve.new.out.ok.0)
    (c.push_reserved.ensures.items ∙ ap (λ (L : List ℕ). L ++ c.len.result ∷ []) c.reserve.ensures.items)
    (c.push_reserved-then-branch.ensures.items ∙ ap (λ (L : List Pair). L ++ c.args.pair ∷ []) c.reserve-2.ensures.items)

pub returns-then-branch : goal.returns-then-branch
returns-then-branch c =
    let own = c.self.inside in
    kept-lines own.literals.items c.resolve.new.out.items _ own.ends.items c.push_reserved.new.self.items own.pairs.items c.push_reserved-then-branch.new.self.items c.args.pair c.len.result
    c.args.self.now c.self.view_is c.self.invariant.0 c.self.invariant.1 (c.in_ok-resolve.ensures.set c.if-branch.true) (c.len.ensures ∙ c.resolve.new.out.ok.0)
    (c.push_reserved.ensures.items ∙ ap (λ (L : List ℕ). L ++ c.len.result ∷ []) c.reserve.ensures.items)
    (c.push_reserved-then-branch.ensures.items ∙ ap (λ (L : List Pair). L ++ c.args.pair ∷ []) c.reserve-2.ensures.items)
    (rw c.if-branch.true at c.in_ok-resolve.ensures.one_sign)
