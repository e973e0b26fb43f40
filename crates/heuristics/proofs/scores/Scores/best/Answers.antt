use Rattle.std.proofs.Common.{◌≡◌, slice_index, sym, ap, ◌∙◌, Some, arith}
use Rattle.std.proofs.lemmas.List.{get_or_read}
use Rattle.heuristics.proofs.RankingViews.{root-none, root-some}
use Rattle.heuristics.proofs.scores.Scores.best.Goals as goal

pub returns-then-variable-eq0 : goal.returns-then-variable-eq0
returns-then-variable-eq0 c =
    let i = c.self.invariant.0 in
    let long = i.played.field.long in
    let some = i.played.field.some in
    let read : c.index-variable.result.now ≡ slice_index c.self.inside.winners.items 1 = get_or_read c.self.inside.winners.items 1 c.index-variable.result.now (omega arith) c.index-variable.ensures 0 in
    rw (← c.self.view_is) (sym (root-none c.self.inside.constants c.self.inside.scores.items c.self.inside.step c.self.inside.winners.items i.played i.none (sym read ∙ c.if-variable-eq0.true)))

pub returns-else-variable-eq0 : goal.returns-else-variable-eq0
returns-else-variable-eq0 c =
    let i = c.self.invariant.0 in
    let long = i.played.field.long in
    let some = i.played.field.some in
    let read : c.index-variable.result.now ≡ slice_index c.self.inside.winners.items 1 = get_or_read c.self.inside.winners.items 1 c.index-variable.result.now (omega arith) c.index-variable.ensures 0 in
    rw (← c.self.view_is) (ap Some read ∙ sym (root-some c.self.inside.constants c.self.inside.scores.items c.self.inside.step c.self.inside.winners.items i.played (λ e. c.if-variable-eq0.false (read ∙ e))))
