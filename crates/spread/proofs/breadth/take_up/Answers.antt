use Rattle.std.proofs.Common.{◌≡◌, ◌++◌, ◌∷◌, [], List, length, refl, arith, ap, ◌∙◌}
use Rattle.std.proofs.lemmas.List.Elements.{All-same}
use Rattle.theory.specs.Literals.{Literal}
use Rattle.theory.specs.Trees.{false_half, true_half}
use Rattle.spread.specs.Dividing.{from_longer}
use Rattle.spread.specs.Solving.{IsOfTree}
use Rattle.spread.proofs.BreadthLemmas.{both-pushed, halves-of}
use Rattle.spread.proofs.DividingLemmas.{from-cubes, refuted-fact, model-fact, split-fact}
use Rattle.spread.proofs.breadth.take_up.Goals as goal

pub split-requires-clause-var : goal.split-requires-clause-var
split-requires-clause-var c =
    let fit = c.requires c.in-Split.var c.in-Split.is in
    let within = c.vars-vars.ensures.within in
    let here = fit.0 in
    (omega (arith, here), omega (arith, here, within))

pub returns-in-Refuted-clause-waits : goal.returns-in-Refuted-clause-waits
returns-in-Refuted-clause-waits c plan before known fact waits =
    refuted-fact c.args.formula.now plan before c.args.fact.now c.args.queue.now.items c.args.queue.now.items known waits fact c.in-Refuted.field-0 c.in-Refuted.is refl

pub returns-in_ok-drop_right-in-Model-clause-cubes : goal.returns-in_ok-drop_right-in-Model-clause-cubes
returns-in_ok-drop_right-in-Model-clause-cubes c plan here fact all =
    let P = IsOfTree c.args.formula.now plan in
    let count = length c.args.fact.now.cube in
    let left = from_longer count c.args.queue.now.items in
    let lits : c.lits.result.now ≡ c.args.fact.now.cube = c.lits.ensures.lits in
    All-same P c.drop_right.new.queue.items left (c.in_ok-drop_right-in-Model.ensures ∙ ap (λ (Q : List Literal). from_longer (length Q) c.args.queue.now.items) lits) (from-cubes P count c.args.queue.now.items all)

pub returns-in_ok-drop_right-in-Model-clause-waits : goal.returns-in_ok-drop_right-in-Model-clause-waits
returns-in_ok-drop_right-in-Model-clause-waits c plan before known fact waits =
    model-fact c.args.formula.now plan before c.args.fact.now c.args.queue.now.items c.drop_right.new.queue.items known waits fact c.in-Model.is
    (c.in_ok-drop_right-in-Model.ensures ∙ ap (λ (Q : List Literal). from_longer (length Q) c.args.queue.now.items) c.lits.ensures.lits)

pub returns-in_ok-push_back-in-Split-2-clause-cubes : goal.returns-in_ok-push_back-in-Split-2-clause-cubes
returns-in_ok-push_back-in-Split-2-clause-cubes c plan here fact all =
    let F = c.args.formula.now in
    let f = c.args.fact.now in
    let x = c.in-Split.var in
    let both = halves-of F plan f x here fact c.in-Split.is (c.requires x c.in-Split.is) in
    let halves = c.in_ok-left-in-Split in
    both-pushed (IsOfTree F plan) c.args.queue.now.items c.push_back.new.self.items c.push_back-in-Split.new.self.items (false_half f.cube x) (true_half f.cube x) all both.0 both.1
    (c.in_ok-push_back-in-Split.ensures.items ∙ ap (λ (Q : List Literal). c.args.queue.now.items ++ Q ∷ []) halves.ensures.left)
    (c.in_ok-push_back-in-Split-2.ensures.items ∙ ap (λ (Q : List Literal). c.push_back.new.self.items ++ Q ∷ []) halves.ensures.right)

pub returns-in_ok-push_back-in-Split-2-clause-waits : goal.returns-in_ok-push_back-in-Split-2-clause-waits
returns-in_ok-push_back-in-Split-2-clause-waits c plan before known fact waits =
    let f = c.args.fact.now in
    let x = c.in-Split.var in
    let halves = c.in_ok-left-in-Split in
    let old = c.args.queue.now.items in
    let low : c.push_back.new.self.items ≡ old ++ false_half f.cube x ∷ [] = c.in_ok-push_back-in-Split.ensures.items ∙ ap (λ (Q : List Literal). old ++ Q ∷ []) halves.ensures.left in
    let high = c.in_ok-push_back-in-Split-2.ensures.items ∙ ap (λ (Q : List Literal). c.push_back.new.self.items ++ Q ∷ []) halves.ensures.right in
    split-fact c.args.formula.now plan before f old c.push_back-in-Split.new.self.items known waits fact x c.in-Split.is
    (high ∙ ap (λ (Qs : List (List Literal)). Qs ++ true_half f.cube x ∷ []) low)
