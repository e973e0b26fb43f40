use Rattle.std.proofs.Common.{◌≡◌, ℕ, true, take, slice_index_or, false}
use Rattle.theory.specs.Literals.{Clause}
use Rattle.cdcl.specs.Marks.{IsMarked}
use Rattle.cdcl.specs.Numbers.{is_one_of}
use Rattle.cdcl.specs.Removing.{IsBetween, IsKnown, HasRoomFor, is_known}
use Rattle.cdcl.proofs.analysis.minimize.Minimizer.ask_for_all.Given as goal

-- those of the variables so far that may be removable are known
abbrev pub invariant-loop-at : goal.invariant-loop-at
invariant-loop-at l = record {
  known : (S : Clause) → IsMarked l.kernel S l.marks.marked.items l.marks.current → IsKnown l.kernel S l.self;
  answered : (v : ℕ) → is_one_of (take l.at l.marks.seen.items) v ≡ true → slice_index_or l.marks.marked.items v false ≡ true → IsBetween l.kernel v → is_known l.self v ≡ true;
  room : HasRoomFor l.kernel.vars l.self;
}
