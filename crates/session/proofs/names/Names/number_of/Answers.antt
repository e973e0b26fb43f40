use Rattle.std.proofs.Common.{◌≡◌, ◌-◌, ◌+◌, ◌≤◌, ◌<◌, List, length, set, sym, subst, arith, ℕ}
use Rattle.std.proofs.lemmas.List.{get_or_read}
use Rattle.theory.specs.Literals.{IsVariable}
use Rattle.session.specs.Naming.{Naming, IsNaming, number_of}
use Rattle.session.proofs.NamingLemmas.{IsNaming-next}
use Rattle.session.proofs.names.Names.number_of.Goals as goal

pub invariant_of-self-2 : goal.invariant_of-self-2
invariant_of-self-2 c =
    let v = c.args.var in
    let X = c.self.inside.numbers.items in
    let W = c.self.inside.variables.items in
    let N : Naming = record { numbers = X; variables = W } in
    let variable : IsVariable (length X) v = (c.requires, subst (λ (P : Naming). v ≤ length P.numbers) (sym c.self.view_is) c.in_ok-reach.ensures.reached) in
    let inside : v - 1 < length X = let low = variable.0 in let high = variable.1 in omega (arith, low, high) in
    let read = get_or_read X (v - 1) c.index-known.result.now inside c.index-known.ensures 0 in
    let free : number_of N v ≡ 0 = let none = c.if-known-gt0.false in omega (arith, read, none) in
    let number : c.len-number.result ≡ length W + 1 = let is = c.len-number.ensures in let more = c.in_ok-push.ensures.len in omega (arith, is, more) in
    subst (λ n. IsNaming (record { numbers = set X (v - 1) n; variables = c.push.new.self.items })) (sym number)
    (subst (λ (ws : List ℕ). IsNaming (record { numbers = set X (v - 1) (length W + 1); variables = ws })) (sym c.in_ok-push.ensures.items) (IsNaming-next N v c.self.invariant variable free))
