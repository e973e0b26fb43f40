use Rattle.std.proofs.Common.{◌<◌, ◌≤◌, ◌+◌, ◌-◌, length, ℕ, ◌∙◌, arith}
use Rattle.std.proofs.lemmas.List.{drop-set-lt}
use Rattle.heuristics.specs.Tournaments.{IsMatch}
use Rattle.heuristics.proofs.TournamentLemmas.{matches-played, IsField-won}
use Rattle.heuristics.proofs.tournament.play_all.Goals as goal

pub loop-node-preserved : goal.loop-node-preserved
loop-node-preserved c =
    let S = c.args.scores.now in
    let W = c.loop-node.winners in
    let p = c.loop-node.node - 1 in
    let i = c.loop-node.invariant in
    let more = c.loop-node-test.true in
    let most = i.most in
    let inside : p < length S = omega arith in
    let low : 1 ≤ p = omega arith in
    let rest : (k : ℕ) → 1 ≤ k → p + 1 ≤ k → k < length S → IsMatch S W k = λ k l m u. i.matches k l (omega arith) u in
    record {
      field = IsField-won S W p c.better.result inside i.field c.better.ensures;
      most = omega arith;
      matches = matches-played S W p c.better.result low inside i.field c.better.ensures rest;
      leaves = drop-set-lt (length S) W p c.better.result inside ∙ i.leaves;
    }
