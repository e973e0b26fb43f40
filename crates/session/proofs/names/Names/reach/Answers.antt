use Rattle.std.proofs.Common.{◌≡◌, ◌-◌, ◌++◌, List, replicate, ap, sym, subst, ◌∙◌, arith, ℕ}
use Rattle.std.specs.Vec.{vec_len}
use Rattle.std.proofs.lemmas.List.{take_all}
use Rattle.session.specs.Naming.{IsNaming}
use Rattle.session.proofs.NamingLemmas.{IsNaming-wider}
use Rattle.session.proofs.names.Names.reach.Goals as goal

pub invariant_of-self : goal.invariant_of-self
invariant_of-self c =
    let X = c.self.inside.numbers in
    let k = c.args.var - vec_len X in
    let wider : c.resize.new.self.items ≡ X.items ++ replicate k 0 = c.in_ok-resize.ensures.items ∙ ap (λ (xs : List ℕ). xs ++ replicate k 0) (take_all c.args.var X.items (omega arith)) in
    subst (λ (xs : List ℕ). IsNaming (record { numbers = xs; variables = c.self.inside.variables.items })) (sym wider)
    (IsNaming-wider (record { numbers = X.items; variables = c.self.inside.variables.items }) k c.self.invariant (let few = c.vars.ensures.few in omega arith))
