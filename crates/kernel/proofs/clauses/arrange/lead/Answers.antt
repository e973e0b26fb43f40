use Rattle.std.proofs.Common.{◌∙◌, sym}
use Rattle.kernel.proofs.Arranged.{led-same, led-apart, led-two, led-both}
use Rattle.kernel.proofs.clauses.arrange.lead.Goals as goal

pub returns-then-same-clause-front : goal.returns-then-same-clause-front
returns-then-same-clause-front c =
    led-same c.args.lits.now c.swap.new.self c.find-first.result c.args.watched c.requires c.find-first.ensures.within c.find-first.ensures.found c.swap.ensures.after (sym c.same.ensures ∙ c.if-same.true)

pub find-second-requires : goal.find-second-requires
find-second-requires c =
    led-apart c.args.lits.now c.swap.new.self c.find-first.result c.args.watched c.requires c.find-first.ensures.within c.find-first.ensures.found c.swap.ensures.after (sym c.same.ensures ∙ c.if-same.false)

pub returns-clause-permutes : goal.returns-clause-permutes
returns-clause-permutes c = led-both c.args.lits.now c.swap.new.self c.swap-2.new.self c.find-second.result c.swap.ensures.permutation c.find-second.ensures.behind c.find-second.ensures.within c.swap-2.ensures.after

pub returns-clause-front : goal.returns-clause-front
returns-clause-front c =
    led-two c.args.lits.now c.swap.new.self c.find-first.result c.args.watched c.requires c.find-first.ensures.within c.find-first.ensures.found c.swap.ensures.after
    c.swap-2.new.self c.find-second.result c.find-second.ensures.behind c.find-second.ensures.within c.find-second.ensures.found c.swap-2.ensures.after
