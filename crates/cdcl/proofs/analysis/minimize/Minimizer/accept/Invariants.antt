use Rattle.std.proofs.Common.{◌≡◌, ◌||◌, ℕ, take}
use Rattle.cdcl.specs.Numbers.{is_one_of}
use Rattle.cdcl.proofs.analysis.minimize.Minimizer.accept.Given as goal

-- those reached so far are removable
abbrev pub invariant-loop-at : goal.invariant-loop-at
invariant-loop-at l = record {
  removable : (v : ℕ) → is_one_of l.self.removable.numbers v ≡ (is_one_of (take l.at l.initial.self.reached.numbers) v || is_one_of l.initial.self.removable.numbers v);
  bound : l.self.removable.bound ≡ l.initial.self.removable.bound;
  kept : l.self.kept ≡ l.initial.self.kept;
  reached : l.self.reached ≡ l.initial.self.reached;
}
