use Rattle.std.proofs.Common.{◌≡◌, ◌↔◌, Ok, IsOk, All, take}
use Rattle.spread.specs.declared.conquering.Ended.TheVariants.{Done}
use Rattle.spread.proofs.hands.end_of.Given as goal

-- how the hands so far ended
abbrev pub invariant-loop-end : goal.invariant-loop-end
invariant-loop-end g l = record {
  ok : IsOk l.all ↔ All (λ w. IsOk w.ended) (take l.end-index l.ends);
  done : l.all ≡ Ok Done ↔ All (λ w. w.ended ≡ Ok Done) (take l.end-index l.ends);
}
