use Rattle.std.proofs.Common.{refl}
use Rattle.cnf.proofs.LeftTokens.{place_at-in_line}
use Rattle.cnf.proofs.scan.place_at.Goals as goal

pub returns : goal.returns
returns c =
    place_at-in_line c.args.bytes.now c.line_start.result c.args.index c.line_of.result _ c.line_start.ensures.within c.requires c.line_start.ensures.first c.line_start.ensures.all c.line_of.ensures refl
