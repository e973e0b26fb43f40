use Rattle.std.proofs.Common.{◌≡◌, ◌<◌, ◌≤◌, List, ◌++◌, length, arith, sym, subst, ◌∙◌}
use Rattle.theory.specs.Literals.{Literal}
use Rattle.spread.specs.Dividing.{from_longer, before_longer, longer_first}
use Rattle.spread.proofs.DividingLemmas.{by-first, all-turned, stopped-turned, one-turned}
use Rattle.spread.proofs.breadth.put_in_order.Goals as goal

pub returns-then-lits-count : goal.returns-then-lits-count
returns-then-lits-count c =
    let old = c.args.queue.now.items in
    let Q = c.in-Some-pop_front.next in
    let count = length c.lits.result.now in
    let longer : count < length Q = subst (λ (P : List Literal). count < length P) c.lits-in-cubes.ensures.lits c.if-lits-count.true in
    let first : longer_first old ≡ from_longer count old ++ before_longer count old =
    subst (λ (P : List Literal). longer_first old ≡ from_longer (length P) old ++ before_longer (length P) old) (sym c.lits.ensures.lits) (by-first old c.in-Some.first.now c.in-Some.ensures.lookup) in
    c.in_ok-push_front.ensures.items ∙ (stopped-turned count old Q c.pop_front.new.self.items c.cubes.queue.items c.cubes._moved c.cubes.invariant c.in-Some-pop_front.ensures.items longer ∙ sym first)

pub cubes-preserved : goal.cubes-preserved
cubes-preserved c =
    let old = c.args.queue.now.items in
    let Q = c.in-Some-pop_front.next in
    let count = length c.lits.result.now in
    let short : length Q ≤ count = subst (λ (P : List Literal). length P ≤ count) c.lits-in-cubes.ensures.lits c.if-lits-count.false in
    let whole : c.args.queue.now.len ≡ length old = c.args.queue.now.ok.0 in
    let end = c.len-moved-end.ensures in
    let less : c.cubes._moved < length old = omega arith in
    one-turned count old Q c.pop_front.new.self.items c.cubes.queue.items c.push_back.new.self.items c.cubes._moved c.cubes.invariant c.in-Some-pop_front.ensures.items less short c.in_ok-push_back.ensures.items

pub returns : goal.returns
returns c =
    let old = c.args.queue.now.items in
    let count = length c.lits.result.now in
    let whole : c.args.queue.now.len ≡ length old = c.args.queue.now.ok.0 in
    let end = c.len-moved-end.ensures in
    let all : length old ≤ c.cubes._moved = omega arith in
    let first : longer_first old ≡ from_longer count old ++ before_longer count old =
    subst (λ (P : List Literal). longer_first old ≡ from_longer (length P) old ++ before_longer (length P) old) (sym c.lits.ensures.lits) (by-first old c.in-Some.first.now c.in-Some.ensures.lookup) in
    all-turned count old c.cubes.queue.items c.cubes._moved c.cubes.invariant all ∙ sym first
