use Rattle.std.proofs.Common.{◌≡◌, ◌<◌, ◌≤◌, List, [], ◌∷◌, ◌++◌, length, sym, ap, subst, ◌∙◌}
use Rattle.std.proofs.lemmas.List.{append-nil}
use Rattle.std.proofs.lemmas.List.Elements.{All-push}
use Rattle.theory.specs.Literals.{Literal}
use Rattle.spread.specs.Dividing.{from_longer}
use Rattle.spread.proofs.DividingLemmas.{at-longer, none-longer, gone-on, nothing-left}
use Rattle.spread.proofs.breadth.drop_right.Goals as goal

pub returns-then-lits-count : goal.returns-then-lits-count
returns-then-lits-count c =
    let gone = c.cubes.invariant.0 in
    let Q = c.in-Some.cube in
    let rest = c.pop_front.new.self.items in
    let longer : c.args.count < length Q = subst (λ (P : List Literal). c.args.count < length P) c.lits.ensures.lits c.if-lits-count.true in
    let all : c.args.queue.now.items ≡ gone ++ Q ∷ rest = c.cubes.invariant.1 ∙ ap (λ Qs. gone ++ Qs) c.in-Some.ensures.items in
    c.in_ok-push_front.ensures.items ∙ sym (ap (from_longer c.args.count) all ∙ at-longer c.args.count gone rest Q c.cubes.invariant.2 longer)

pub cubes-preserved : goal.cubes-preserved
cubes-preserved c =
    let gone = c.cubes.invariant.0 in
    let Q = c.in-Some.cube in
    let short : length Q ≤ c.args.count = subst (λ (P : List Literal). length P ≤ c.args.count) c.lits.ensures.lits c.if-lits-count.false in (
      gone ++ Q ∷ [],
      gone-on c.args.queue.now.items gone c.cubes.queue.items c.pop_front.new.self.items Q c.cubes.invariant.1 c.in-Some.ensures.items,
      All-push (λ (P : List Literal). length P ≤ c.args.count) gone Q c.cubes.invariant.2 short,
    )

pub returns : goal.returns
returns c =
    let gone = c.cubes.invariant.0 in
    let none = nothing-left c.cubes.queue.items c.cubes.queue.len c.cubes.queue.ok.0 c.in_default.ensures.cases.0 in
    let all : c.args.queue.now.items ≡ gone ++ [] = c.cubes.invariant.1 ∙ ap (λ Qs. gone ++ Qs) none in
    (sym c.in_default.ensures.items ∙ none) ∙ sym (ap (from_longer c.args.count) (all ∙ append-nil gone) ∙ none-longer c.args.count gone c.cubes.invariant.2)
