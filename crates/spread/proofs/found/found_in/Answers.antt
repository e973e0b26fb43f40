use Rattle.std.proofs.Common.{refl, false, ◌∙◌}
use Rattle.spread.proofs.FoundLemmas.{IsSoFar-none, IsSoFar-more, IsSoFar-end}
use Rattle.spread.proofs.found.found_in.Goals as goal

pub loop-body-init : goal.loop-body-init
loop-body-init g c = record {
  reader = refl;
  so_far = λ before behind between. IsSoFar-none g.R.Read.remaining c.args.reader.now before behind c.args.passage.now (record { facts = c.new.result; passed_over = 0; is_broken_off = false }) c.new.ensures.items refl between;
}

pub loop-body-preserved : goal.loop-body-preserved
loop-body-preserved g c =
    let is = rw c.loop-body.invariant.reader at c.in_ok-fact.ensures.fact in
    record {
      reader = c.in_ok-fact.ensures.stays ∙ c.loop-body.invariant.reader;
      so_far = λ before behind between.
          IsSoFar-more g.R.Read.remaining c.args.reader.now before behind c.loop-body.passage c.next.new.self c.loop-body.found c.put.new.self c.next.new.body.items c.in-Some.span c.in_ok-fact.fact is c.in_ok-put.ensures
          (λ b r h. rw c.in-Some.is at (c.in_ok-span.ensures.bytes b r h)) (c.loop-body.invariant.so_far before behind between);
    }

pub returns : goal.returns
returns g c before behind between =
    rw c.is_broken_off.ensures
    (IsSoFar-end g.R.Read.remaining c.args.reader.now before behind c.loop-body.passage c.next.new.self c.loop-body.found c.next.new.body.items
    (λ b r h. rw c.in_default.is at (c.in_ok-span.ensures.bytes b r h)) (c.loop-body.invariant.so_far before behind between))
