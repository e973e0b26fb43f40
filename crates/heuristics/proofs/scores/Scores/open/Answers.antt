use Rattle.std.proofs.Common.{◌≡◌, ◌+◌, ◌∙◌, length, drop, replicate, sym, ap}
use Rattle.std.proofs.lemmas.List.{take_at}
use Rattle.theory.specs.Plans.{Constants}
use Rattle.heuristics.proofs.RankingViews.{open-view}
use Rattle.heuristics.proofs.scores.Scores.open.Goals as goal

pub returns : goal.returns
returns c =
    let X = c.play_all.new.winners in
    let W = c.in_ok-winners.winners in
    let S = c.in_ok-scores.scores.items in
    let zeros : S ≡ replicate (c.args.vars + 1) 0 = c.in_ok-scores.ensures.items_if_clones_equal (λ y h. h) in
    let wins : length X ≡ length W.items = rw c.deref_mut.ensures.value at c.play_all.auto.winners in
    let leaves : drop (length S) X ≡ drop (length S) W.items = rw (c.deref.ensures.value, c.deref_mut.ensures.value) at c.play_all.ensures.leaves in
    let first = ap (λ (k : Constants). k.first_step) c.constants.view_is in
    open-view c.args.constants c.args.vars S c.constants.inside.first_step W.items X _ first zeros (take_at X _ W.len (wins ∙ sym W.ok.0)) leaves (λ e. (c.in_ok-winners.ensures S e).1)
