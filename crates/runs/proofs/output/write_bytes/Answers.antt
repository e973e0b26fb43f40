use Rattle.runs.proofs.WrittenLemmas.{Appends-more, written-within}
use Rattle.runs.proofs.output.write_bytes.Goals as goal

pub loop-written-preserved : goal.loop-written-preserved
loop-written-preserved g c = record {
  within = written-within c.args.text.now c.loop-written.written c.in-Ok.count c.loop-written.invariant.within c.in-Ok.ensures.bound;
  begun = Appends-more _ _ _ c.args.text.now c.loop-written.written c.in-Ok.count c.loop-written.invariant.begun c.in-Ok.ensures.bytes;
}
