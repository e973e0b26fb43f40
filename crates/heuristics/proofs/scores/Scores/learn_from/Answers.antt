use Rattle.std.proofs.Common.{◌≡◌, ◌∙◌, length, drop, nat_eq, sym}
use Rattle.std.specs.List.{list_any}
use Rattle.std.proofs.lemmas.List.{take_at}
use Rattle.heuristics.specs.Modes.{mode_of}
use Rattle.heuristics.proofs.RankingViews.{bounds-after}
use Rattle.heuristics.proofs.scores.Scores.learn_from.Goals as goal

pub invariant_of-self-2 : goal.invariant_of-self-2
invariant_of-self-2 c =
    let a = c.self.inside in
    let S = a.scores.items in
    let T = c.gain_and_grow.new.scores in
    let X = c.gain_and_grow.new.winners in
    let same : length T ≡ length S = rw c.deref_mut.ensures.value at c.gain_and_grow.auto.scores in
    let wins : length X ≡ length a.winners.items = rw c.deref_mut-2.ensures.value at c.gain_and_grow.auto.winners in
    let i = c.self.invariant in
    let after = rw c.deref_mut.ensures.value at c.in_ok-self-inside.ensures.after in
    let bounds = bounds-after a.constants (mode_of c.args.mode) (length (drop 1 S)) (λ v. list_any (nat_eq v) c.args.seen.now) _ _ i.1 i.2 i.3 i.4 after in
    rw (take_at T _ a.scores.len (same ∙ sym a.scores.ok.0), take_at X _ a.winners.len (wins ∙ sym a.winners.ok.0))
    (c.gain_and_grow.ensures.ranked, i.1, bounds.0, bounds.1, bounds.2)
