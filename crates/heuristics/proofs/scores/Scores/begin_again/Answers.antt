use Rattle.std.proofs.Common.{◌≡◌, ◌∙◌, length, drop, sym, ap, arith}
use Rattle.std.proofs.lemmas.List.{take_at}
use Rattle.theory.specs.Plans.{Constants}
use Rattle.heuristics.proofs.RankingLemmas.{AreRanked-none}
use Rattle.heuristics.proofs.RankingViews.{reset-view, bounded-first}
use Rattle.heuristics.proofs.scores.Scores.begin_again.Goals as goal

pub returns : goal.returns
returns c =
    let a = c.self.inside in
    let S = a.scores.items in
    let W = a.winners.items in
    let T = c.reset_all.new.scores in
    let X = c.reset_all.new.winners in
    let same : length T ≡ length S = rw c.deref_mut.ensures.value at c.reset_all.auto.scores in
    let wins : length X ≡ length W = rw c.deref_mut-2.ensures.value at c.reset_all.auto.winners in
    let leaves : drop (length S) X ≡ drop (length S) W = rw (c.deref_mut.ensures.value, c.deref_mut-2.ensures.value) at c.reset_all.ensures.leaves in
    let first = ap (λ (k : Constants). k.first_step) c.constants.view_is in
    rw (← c.self.view_is)
    (reset-view a.constants S T _ a.step c.constants.inside.first_step W X _ first (take_at T _ a.scores.len (same ∙ sym a.scores.ok.0)) (take_at X _ a.winners.len (wins ∙ sym a.winners.ok.0)) same leaves c.reset_all.ensures.scores)

pub invariant_of-self : goal.invariant_of-self
invariant_of-self c =
    let a = c.self.inside in
    let T = c.reset_all.new.scores in
    let X = c.reset_all.new.winners in
    let i = c.self.invariant in
    let range = i.1 in
    let same : length T ≡ length a.scores.items = rw c.deref_mut.ensures.value at c.reset_all.auto.scores in
    let wins : length X ≡ length a.winners.items = rw c.deref_mut-2.ensures.value at c.reset_all.auto.winners in
    let zeros = c.reset_all.ensures.scores in
    let first : c.constants.inside.first_step ≡ a.constants.first_step = ap (λ (k : Constants). k.first_step) c.constants.view_is in
    rw (take_at T _ a.scores.len (same ∙ sym a.scores.ok.0), take_at X _ a.winners.len (wins ∙ sym a.winners.ok.0))
    (AreRanked-none T X _ zeros c.reset_all.ensures.played c.clear.ensures.items, range, omega (arith, first, range.first_step.0), omega (arith, first, range.first_step.1), bounded-first T _ zeros)
