use Rattle.std.proofs.Common.{length, ap, sym, ◌∙◌, arith}
use Rattle.packs.specs.Packs.{Reads}
use Rattle.packs.proofs.FrameLemmas.{length-framed}
use Rattle.packs.proofs.PackLemmas.{LeadsTo-read, LeadsTo-end, read-written}
use Rattle.packs.proofs.pack.read_pack.Goals as goal

pub loop-body-preserved : goal.loop-body-preserved
loop-body-preserved c =
    let inv = c.loop-body.invariant in
    let long = ap length c.in-Some.ensures ∙ length-framed c.in-Some.body.now c.next.new.self in
    let read = rw (inv.reader, c.in_ok-from_slice.ensures.items) at c.in_ok-fact.ensures.fact in
    let count = LeadsTo-read c.args.vars c.args.bytes.now c.loop-body.pack.facts.items c.put.new.self.facts.items c.loop-body.pack.passed_over c.put.new.self.passed_over c.loop-body.bodies c.in-Some.body.now c.next.new.self
    c.in_ok-fact.fact c.in-Some.ensures read c.in_ok-put.ensures.fact inv.leads in
    record {
      leads = count.0;
      reader = c.read.ensures.stays ∙ inv.reader;
      few = let few = inv.few in let more = count.1 in omega (arith, long, few, more);
    }

reads : (c : goal.After-drop-reader-inside-3) → Reads c.args.vars c.args.bytes.now c.loop-body.pack.facts.items c.loop-body.pack.passed_over c.is_empty.result
reads c =
    let last = c.in_default.ensures in
    LeadsTo-end c.args.vars c.args.bytes.now c.loop-body.pack.facts.items c.loop-body.pack.passed_over c.loop-body.bodies c.is_empty.result last.1
    (λ t. sym last.0 ∙ c.is_empty.ensures.0 t) (λ e. c.is_empty.ensures.1 (last.0 ∙ e)) c.loop-body.invariant.leads

pub returns-clause-reads : goal.returns-clause-reads
returns-clause-reads c = reads c

pub returns-clause-written : goal.returns-clause-written
returns-clause-written c = λ fs p all.
    read-written c.args.vars c.args.bytes.now fs c.loop-body.pack.facts.items c.loop-body.pack.passed_over c.is_empty.result (omega arith) p all (reads c)
