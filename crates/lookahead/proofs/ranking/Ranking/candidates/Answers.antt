use Rattle.std.proofs.Common.{◌≡◌, ◌∙◌, ◌<◌, not, length, length-append, get_or, is_some, [], ◌∷◌, List, ap, sym, arith}
use Rattle.theory.specs.Literals.{has_var}
use Rattle.theory.specs.Trails.{literals}
use Rattle.theory.specs.Looking.{max_candidates}
use Rattle.lookahead.specs.Rankings.{first_free}
use Rattle.lookahead.specs.declared.ranking.Ranked.{Ranked}
use Rattle.lookahead.proofs.RankingLemmas.{found-free, found-taken, found-enough, found-last, entry-there}
use Rattle.lookahead.proofs.ranking.Ranking.candidates.Goals as goal
use Rattle.lookahead.proofs.ranking.Ranking.candidates.Goals.{then-is_none+in_ok-push, else-is_none, then-loop-place-test+else-len-lt-MAX_CANDIDATES, else-loop-place-test}

pub loop-place-preserved : goal.loop-place-preserved
loop-place-preserved c =
    let rs = c.args.self.now in
    let P = literals c.args.kernel.now.trail in
    let place = c.loop-place.place in
    let found = c.loop-place.candidates.items in
    let all = first_free max_candidates P rs in
    let r = c.index.result.now in
    let len = c.len.ensures in
    let ok = c.self.inside.ranked.ok.0 in
    let long = ap length c.self.view_is in
    let more = c.loop-place-test.true in
    let inside : place < length rs = omega (arith, len, ok, long, more) in
    let is : r ≡ get_or rs place r = c.index.ensures ∙ ap (λ (xs : List Ranked). get_or xs place r) c.self.view_is in
    let count = c.len-in-loop-place.ensures in
    let counted = c.loop-place.candidates.ok.0 in
    let fewer = c.if-len-lt-MAX_CANDIDATES.true in
    let room : length found < max_candidates = omega (arith, count, counted, fewer) in
    let there : has_var P r.var ≡ not c.is_none.result = sym (ap is_some c.value.ensures ∙ entry-there c.args.kernel.now.trail r.var) ∙ c.is_none.ensures in
    elim c.if-is_none.branch [
      | then-is_none+in_ok-push w ↦ rw (w.candidates-is, w.in_ok-push.ensures.items) (record {
        found = found-free P rs found all place max_candidates r is inside room (there ∙ ap not w.if-is_none.true) c.loop-place.invariant.found;
        few = let one = length-append found (r.var ∷ []) in omega (arith, one, room);
        inside = omega (arith, inside);
      })
      | else-is_none w ↦ rw w.candidates-is (record {
        found = found-taken P rs found all place max_candidates r is inside room (there ∙ ap not w.if-is_none.false) c.loop-place.invariant.found;
        few = c.loop-place.invariant.few;
        inside = omega (arith, inside);
      })
    ]

pub returns : goal.returns
returns c =
    let rs = c.args.self.now in
    let P = literals c.args.kernel.now.trail in
    let found = c.loop-place.candidates.items in
    let all = first_free max_candidates P rs in
    elim c.loop-place-test.branch [
      | then-loop-place-test+else-len-lt-MAX_CANDIDATES w ↦
          let count = w.len-in-loop-place.ensures in
          let counted = c.loop-place.candidates.ok.0 in
          let most = w.if-len-lt-MAX_CANDIDATES.false in
          found-enough P _ found all max_candidates (omega (arith, count, counted, most)) c.loop-place.invariant.found
      | else-loop-place-test w ↦
          let len = c.len.ensures in
          let ok = c.self.inside.ranked.ok.0 in
          let long = ap length c.self.view_is in
          let past = w.loop-place-test.false in
          found-last P rs found all c.loop-place.place _ (omega (arith, len, ok, long, past)) c.loop-place.invariant.found
    ]
