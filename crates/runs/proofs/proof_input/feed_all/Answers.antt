use Rattle.std.proofs.Common.{arith, ◌∙◌}
use Rattle.std.proofs.lemmas.List.{length-take}
use Rattle.lrat.specs.Running.{stream_of, vars_of}
use Rattle.cnf.specs.Limits.{limits_of}
use Rattle.runs.proofs.StreamedLemmas.{FeedsOn-more, FeedsOn-seen, FeedsAll-full, FeedsAll-ended}
use Rattle.runs.proofs.proof_input.feed_all.Goals.{else-loop-read-test, then-loop-read-test+in_ok-count+then-count-eq0}
use Rattle.runs.proofs.proof_input.feed_all.Goals as goal

pub feed_chunk-requires-clause-few : goal.feed_chunk-requires-clause-few
feed_chunk-requires-clause-few g c =
    let seen = FeedsOn-seen (g.P.Read.remaining c.args.proof.now) (g.P.Read.remaining c.loop-read.proof) (vars_of c.args.stream.now) (stream_of c.args.stream.now) (stream_of c.loop-read.stream) c.loop-read.read c.loop-read.invariant.feeds c.requires.first in
    let short = length-take c.min-left.result c.deref_mut.result.now in
    let left = c.min-left.ensures in
    omega arith

pub loop-read-preserved : goal.loop-read-preserved
loop-read-preserved g c =
    let v = c.loop-read.invariant in
    let e = c.in_ok-count.ensures in
    record {
      feeds = FeedsOn-more (g.P.Read.remaining c.args.proof.now) (g.P.Read.remaining c.loop-read.proof) (g.P.Read.remaining c.feed_chunk.new.proof) (vars_of c.args.stream.now) (vars_of c.loop-read.stream) (stream_of c.args.stream.now)
          (stream_of c.loop-read.stream) (stream_of c.feed_chunk.new.stream) c.loop-read.read c.in_ok-count.count _ v.feeds v.vars e.fed;
      running = e.running;
      vars = e.vars ∙ v.vars;
      within = (let short = length-take c.min-left.result c.deref_mut.result.now in let left = c.min-left.ensures in let fit = e.fed.fit in omega arith);
      room = v.room;
    }

pub returns : goal.returns
returns g c = elim c.loop-read-test.branch [
  | else-loop-read-test w ↦ rw w.stream-is (FeedsAll-full (limits_of c.args.limits) (g.P.Read.remaining c.args.proof.now) (g.P.Read.remaining c.loop-read.proof) (vars_of c.args.stream.now) (stream_of c.args.stream.now) (stream_of c.loop-read.stream) c.loop-read.read
      c.loop-read.invariant.feeds (let within = c.loop-read.invariant.within in let past = w.loop-read-test.false in let is = c.proof_bytes.ensures.is in omega arith))
  | then-loop-read-test+in_ok-count+then-count-eq0 w ↦ rw w.stream-is
      (FeedsAll-ended (limits_of c.args.limits) (g.P.Read.remaining c.args.proof.now) (g.P.Read.remaining c.loop-read.proof) (g.P.Read.remaining w.feed_chunk.new.proof) (vars_of c.args.stream.now) (vars_of c.loop-read.stream) (stream_of c.args.stream.now)
      (stream_of c.loop-read.stream) (stream_of w.feed_chunk.new.stream) c.loop-read.read w.in_ok-count.count _ c.loop-read.invariant.feeds c.loop-read.invariant.vars c.loop-read.invariant.within w.in_ok-count.ensures.fed w.if-count-eq0.true)
]
