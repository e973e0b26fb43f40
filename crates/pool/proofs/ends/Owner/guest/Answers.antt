use Rattle.pool.proofs.DequeMoves.{admits}
use Rattle.pool.proofs.ends.Owner.guest.Goals as goal

pub pass-pass-requires : goal.pass-pass-requires
pass-pass-requires c = admits
