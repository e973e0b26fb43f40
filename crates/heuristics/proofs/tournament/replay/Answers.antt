use Rattle.std.proofs.Common.{◌<◌, ◌≤◌, ◌/◌, length, ◌∙◌, arith}
use Rattle.std.proofs.lemmas.List.{drop-set-lt, length-set}
use Rattle.heuristics.proofs.TournamentLemmas.{IsPlayedBut-played}
use Rattle.heuristics.proofs.tournament.replay.Goals as goal

pub loop-node-preserved : goal.loop-node-preserved
loop-node-preserved c =
    let S = c.args.scores.now in
    let W = c.loop-node.winners in
    let p = c.loop-node.node / 2 in
    let i = c.loop-node.invariant in
    let more = c.loop-node-test.true in
    let long = i.played.field.long in
    let within = i.inside in
    let inside : p < length S = omega arith in
    let low : 1 ≤ p = omega arith in
    let same = length-set W p c.winner_at-winner.result in
    record {
      played = IsPlayedBut-played S W p c.winner_at-winner.result low inside i.played c.winner_at-winner.ensures;
      inside = omega arith;
      leaves = drop-set-lt (length S) W p c.winner_at-winner.result inside ∙ i.leaves;
    }
