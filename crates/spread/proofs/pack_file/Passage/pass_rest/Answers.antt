use Rattle.spread.proofs.PassageLemmas.{IsWithin-filled, IsWithin-end}
use Rattle.spread.proofs.pack_file.Passage.pass_rest.Goals as goal

pub loop-self-preserved : goal.loop-self-preserved
loop-self-preserved g c bytes within =
    IsWithin-filled g.R.Read.remaining c.loop-self.self c.fill.new.self bytes c.fill.new.buffer c.in_ok-fill.field-0 c.in_ok-fill.ensures.bytes (c.loop-self.invariant bytes within)

pub returns : goal.returns
returns g c bytes within = IsWithin-end g.R.Read.remaining c.loop-self.self bytes c.loop-self-test.false (c.loop-self.invariant bytes within)
