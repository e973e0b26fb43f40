use Rattle.std.proofs.Common.{◌∙◌, ap, sym, subst, take, get_or}
use Rattle.std.proofs.lemmas.List.{take_more}
use Rattle.lines.specs.Rows.{row}
use Rattle.lines.specs.Scanning.{IsScanOf}
use Rattle.lines.proofs.RowLemmas.{row-push}
use Rattle.lines.proofs.scan.Scan.of.Goals as goal

pub loop-byte-preserved : goal.loop-byte-preserved
loop-byte-preserved c =
    let xs = c.args.bytes.now in
    let at = c.loop-byte.byte-index in
    record {
      scan = subst (IsScanOf c.pass_byte.new.self) (sym (ap row (take_more xs at 0 c.loop-byte-test.true) ∙ row-push (take at xs) (get_or xs at 0)))
          (c.pass_byte.ensures.scan (row (take at xs)) c.loop-byte.invariant.scan);
      small = c.pass_byte.ensures.small at c.loop-byte.invariant.small;
    }
