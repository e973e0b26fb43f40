use Rattle.std.proofs.Common.{◌≡◌, ◌+◌, ◌≤◌, ◌∙◌, ◌++◌, ◌∷◌, [], List, Bool, ap, sym, arith}
use Rattle.theory.specs.Held.{is_held}
use Rattle.theory.specs.Looking.{rank}
use Rattle.lookahead.specs.Rankings.{ranked_by}
use Rattle.lookahead.specs.declared.ranking.Ranked.{Ranked}
use Rattle.lookahead.proofs.HeldCounts.{chosen-more, chosen-less}
use Rattle.lookahead.proofs.ranking.rank_held.Goals as goal
use Rattle.lookahead.proofs.ranking.rank_held.Goals.{then-is_held+in_ok-push, else-is_held}

pub loop-before-preserved : goal.loop-before-preserved
loop-before-preserved c K counted =
    let n = c.loop-before.before in
    let more = c.loop-before-test.true in
    let within : n + 1 ≤ c.args.vars = omega arith in
    let same = c.is_held.ensures K c.args.vars counted within in
    elim c.if-is_held.branch [
      | then-is_held+in_ok-push w ↦
          let is = w.rank_of-rank.ensures K c.args.vars counted within in
          rw w.ranked-is (w.in_ok-push.ensures.items
          ∙ (ap (λ r. c.loop-before.ranked.items ++ record { rank = r; var = n + 1 } ∷ []) is
          ∙ (ap (λ (xs : List Ranked). xs ++ ranked_by (rank K) (n + 1) ∷ []) (c.loop-before.invariant K counted)
          ∙ sym (chosen-more (is_held K) (ranked_by (rank K)) n (sym same ∙ w.if-is_held.true)))))
      | else-is_held w ↦ rw w.ranked-is (c.loop-before.invariant K counted ∙ sym (chosen-less (is_held K) (ranked_by (rank K)) n (sym same ∙ w.if-is_held.false)))
    ]
