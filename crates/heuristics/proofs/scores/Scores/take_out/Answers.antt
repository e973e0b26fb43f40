use Rattle.std.proofs.Common.{◌≡◌, ◌∙◌, length, drop, slice_set, false, sym, refl}
use Rattle.std.proofs.lemmas.List.{take_at}
use Rattle.heuristics.proofs.RankingViews.{entered}
use Rattle.heuristics.proofs.scores.Scores.take_out.Goals as goal

pub returns : goal.returns
returns c =
    let S = c.self.inside.scores.items in
    let W = c.self.inside.winners.items in
    let X = c.enter.new.winners in
    let long : length X ≡ c.self.inside.winners.len = (let a = c.enter.auto.winners in let b = c.deref_mut.ensures.len in let o = c.self.inside.winners.ok.0 in let v = c.deref_mut.ensures.value in rw v at a ∙ sym o) in
    let leaves : drop (length S) X ≡ slice_set (drop (length S) W) c.args.variable 0 = rw (c.deref.ensures.value, c.deref_mut.ensures.value) at c.enter.ensures.leaves in
    rw (← c.self.view_is) (entered c.self.inside.constants S c.self.inside.step W X _ c.args.variable 0 false c.requires.0 (refl) (take_at X _ c.self.inside.winners.len long) leaves)
