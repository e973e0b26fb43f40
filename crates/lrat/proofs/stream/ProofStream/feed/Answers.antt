use Rattle.std.proofs.Common.{◌∙◌, arith}
use Rattle.lrat.specs.Running.{progress_of, vars_of}
use Rattle.lrat.proofs.RunningLemmas.{feed-more}
use Rattle.lrat.proofs.stream.ProofStream.feed.Goals as goal

pub loop-at-preserved-then-at-piece : goal.loop-at-preserved-then-at-piece
loop-at-preserved-then-at-piece c =
    let v = c.loop-at.invariant in
    let e = c.in_ok-take.ensures in
    let old = c.loop-at.self in
    let new = c.take.new.self in
    record {
      left = feed-more (vars_of c.args.self.now) (vars_of old) c.args.self.now.seen c.loop-at.at c.in_ok-at.at c.args.piece.now (progress_of old.stopped old.checker) (progress_of new.stopped new.checker) old.text
          c.take_words.new.self new.text c.if-at-piece.true v.vars c.in_ok-at.ensures.taken e.taken ∙ v.left;
      text = e.text;
      ready = e.ready;
      few = (let a = e.number in let b = c.in_ok-at.ensures.number in let d = v.few in let f = c.in_ok-at.ensures.forward.0 in omega arith);
      within = omega arith;
      vars = e.vars ∙ v.vars;
      seen = e.seen ∙ v.seen;
    }
