use Rattle.std.proofs.Common.{subst, sym, List, ℕ, []}
use Rattle.packs.specs.Packs.{IsPackOf, nothing}
use Rattle.spread.proofs.pack_file.bodies_of.Goals as goal

pub loop-fact-init : goal.loop-fact-init
loop-fact-init c = subst (λ (xs : List ℕ). IsPackOf xs []) (sym c.new-bytes.ensures.items) nothing
