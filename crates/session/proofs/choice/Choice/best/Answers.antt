use Rattle.std.proofs.Common.{◌≡◌, ◌∙◌, ◌≤◌, false, not, ap, sym, arith, Option, Some, None, is_some, refl}
use Rattle.theory.proofs.searching.SearchSteps.{least_free-variable}
use Rattle.cdcl.proofs.WaitingLemmas.{best-waits, free-none}
use Rattle.session.proofs.choice.Choice.best.Goals as goal

none-is : {X : Type 0} (o : Option X) → is_some o ≡ false → o ≡ None
none-is None h = refl
none-is (Some x) h = absurd (cc)

pub index-requires : goal.index-requires
index-requires c =
    let w = best-waits c.loop.self.scores c.in-Some.var (sym c.best.ensures ∙ c.in-Some.is) in
    let high = w.0.1 in
    let many = c.loop.invariant.scores in
    let long = c.loop.invariant.saved in
    omega arith

pub of-requires-clause-some : goal.of-requires-clause-some
of-requires-clause-some c = (best-waits c.loop.self.scores c.in-Some.var (sym c.best.ensures ∙ c.in-Some.is)).0.0

pub of-requires-clause-below : goal.of-requires-clause-below
of-requires-clause-below c =
    let w = best-waits c.loop.self.scores c.in-Some.var (sym c.best.ensures ∙ c.in-Some.is) in
    let high = w.0.1 in
    let many = c.loop.invariant.scores in
    let few = c.requires.few in
    omega arith

pub returns-then-is_none-clause-free : goal.returns-then-is_none-clause-free
returns-then-is_none-clause-free c =
    let w = best-waits c.loop.self.scores c.in-Some.var (sym c.best.ensures ∙ c.in-Some.is) in
    let high : c.in-Some.var ≤ c.args.kernel.now.vars = let top = w.0.1 in let many = c.loop.invariant.scores in omega arith in
    rw c.of.ensures
    ((w.0.0, high), free-none c.args.kernel.now.trail c.in-Some.var (sym c.value.ensures ∙ none-is c.value.result (c.is_none.ensures ∙ ap not c.if-is_none.true)))

pub take_out-requires : goal.take_out-requires
take_out-requires c = (best-waits c.loop.self.scores c.in-Some.var (sym c.best.ensures ∙ c.in-Some.is)).0

pub index-requires-2 : goal.index-requires-2
index-requires-2 c =
    let w = least_free-variable c.args.kernel.now.vars c.args.kernel.now.trail c.in_ok-var.var (sym c.least_free.ensures ∙ c.in_ok-var.was) in
    let high = w.0.1 in
    let long = c.loop.invariant.saved in
    omega arith

pub of-requires-2-clause-some : goal.of-requires-2-clause-some
of-requires-2-clause-some c = (least_free-variable c.args.kernel.now.vars c.args.kernel.now.trail c.in_ok-var.var (sym c.least_free.ensures ∙ c.in_ok-var.was)).0.0

pub of-requires-2-clause-below : goal.of-requires-2-clause-below
of-requires-2-clause-below c =
    let w = least_free-variable c.args.kernel.now.vars c.args.kernel.now.trail c.in_ok-var.var (sym c.least_free.ensures ∙ c.in_ok-var.was) in
    let high = w.0.1 in
    let few = c.requires.few in
    omega arith

pub returns-clause-free : goal.returns-clause-free
returns-clause-free c = rw c.of-2.ensures (least_free-variable c.args.kernel.now.vars c.args.kernel.now.trail c.in_ok-var.var (sym c.least_free.ensures ∙ c.in_ok-var.was))
