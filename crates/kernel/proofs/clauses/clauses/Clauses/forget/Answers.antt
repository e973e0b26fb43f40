use Rattle.std.proofs.Common.{◌≡◌, ◌∙◌, ap, sym, subst, length, take, arith}
use Rattle.std.specs.Vec.{with_items}
use Rattle.std.proofs.lemmas.List.{with_items_is}
use Rattle.theory.specs.Forgetting.{forget}
use Rattle.kernel.specs.Forgetting.{names}
use Rattle.cnf.specs.Pieces.{pieces}
use Rattle.kernel.specs.Shown.{shown, emptied}
use Rattle.cnf.proofs.Pieces.{length-pieces}
use Rattle.kernel.proofs.Shown.{length-shown, shown-less, shown-emptied, gone-behind, NoneEmpty}
use Rattle.kernel.proofs.clauses.clauses.Clauses.forget.Goals as goal

pub move_together-left-requires-clause-within : goal.move_together-left-requires-clause-within
move_together-left-requires-clause-within c =
    let long : length c.args.self.now ≡ length c.self.inside.ends.items = sym (ap length c.self.view_is) ∙ (length-shown c.self.inside.first _ ∙ length-pieces _ _ _) in
    rw c.deref_mut-2.ensures.value (omega (arith, long, c.requires.within))

ends-are : (c : goal.After-truncate) → (with_items c.self.inside.ends c.move_together-left.new.ends).items ≡ c.move_together-left.new.ends
ends-are c = with_items_is c.self.inside.ends c.move_together-left.new.ends (sym (c.self.inside.ends.ok.0 ∙ (ap length (sym c.deref_mut-2.ensures.value) ∙ sym c.move_together-left.auto.ends)))

lits-are : (c : goal.After-truncate) → c.truncate.new.self.items ≡ take c.move_together-left.result c.move_together-left.new.lits
lits-are c = c.truncate.ensures.items ∙ ap (take c.move_together-left.result) (with_items_is c.self.inside.lits c.move_together-left.new.lits (sym (c.self.inside.lits.ok.0 ∙ (ap length (sym c.deref_mut.ensures.value) ∙ sym c.move_together-left.auto.lits))))

pub returns : goal.returns
returns c numbers tells =
    let gone = names c.args.named.now in
    let K = pieces 0 c.self.inside.lits.items c.self.inside.ends.items in
    let first = c.min-self-inside.result in
    let left : pieces 0 (take c.move_together-left.result c.move_together-left.new.lits) c.move_together-left.new.ends ≡ emptied gone 0 K =
    c.move_together-left.ensures.left ∙ (λ i. emptied gone 0 (pieces 0 (c.deref_mut.ensures.value i) (c.deref_mut-2.ensures.value i))) in
    let none : NoneEmpty c.args.first (shown c.self.inside.first K) = subst (NoneEmpty c.args.first) (sym c.self.view_is) c.requires.some in
    rw (lits-are c, ends-are c, left)
    (shown-emptied gone numbers first K tells (gone-behind gone c.args.first first (let z = c.min-self-inside.ensures in omega (arith, z)) c.requires.learnt)
    ∙ (ap (forget numbers 1) (shown-less c.self.inside.first c.args.first first K c.min-self-inside.ensures none) ∙ ap (forget numbers 1) c.self.view_is))
