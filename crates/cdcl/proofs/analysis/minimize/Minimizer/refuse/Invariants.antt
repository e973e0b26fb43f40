use Rattle.std.proofs.Common.{◌≡◌, ◌≤◌, ◌<◌, ℕ, Bool, true, false, length, get_or}
use Rattle.cdcl.specs.Numbers.{is_one_of}
use Rattle.cdcl.proofs.analysis.minimize.Minimizer.refuse.Given as goal

-- what was refused so far isn't removable, where what is at the place isn't
abbrev pub invariant-parents : goal.invariant-parents
invariant-parents l = record {
  inside : l.at < length l.initial.self.reached.numbers;
  more : (v : ℕ) → is_one_of l.initial.self.kept.numbers v ≡ true → is_one_of l.self.kept.numbers v ≡ true;
  refused : (p : ℕ → Bool) → p (get_or l.initial.self.reached.numbers l.initial.at 0) ≡ false
      → ((i : ℕ) → 1 ≤ i → i < length l.initial.self.reached.numbers → p (get_or l.initial.self.reached.numbers i 0) ≡ false
      → p (get_or l.initial.self.reached.numbers (get_or l.initial.self.parents.items i 0) 0) ≡ false)
      → ((v : ℕ) → is_one_of l.initial.self.kept.numbers v ≡ true → p v ≡ false)
      → (p (get_or l.initial.self.reached.numbers l.at 0) ≡ false) × ((v : ℕ) → is_one_of l.self.kept.numbers v ≡ true → p v ≡ false);
  bound : l.self.kept.bound ≡ l.initial.self.kept.bound;
  removable : l.self.removable ≡ l.initial.self.removable;
  reached : l.self.reached ≡ l.initial.self.reached;
  parents : l.self.parents ≡ l.initial.self.parents;
}

-- each place is before the one whose reason led there
abbrev pub decreases-parents : goal.decreases-parents
decreases-parents l = l.at
