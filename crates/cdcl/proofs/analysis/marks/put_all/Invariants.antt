use Rattle.std.proofs.Common.{◌≡◌, ◌||◌, ◌-◌, ℕ, true, drop, take, []}
use Rattle.theory.specs.Literals.{Clause, has_var}
use Rattle.theory.specs.Trails.{literals}
use Rattle.theory.specs.Status.{is_false}
use Rattle.theory.specs.Learning.{with_literals}
use Rattle.cdcl.specs.Marks.{IsSet, HasRoom}
use Rattle.cdcl.specs.Numbers.{is_one_of}
use Rattle.cdcl.proofs.analysis.marks.put_all.Given as goal

-- the literals from the end are in, and there is room for the others
abbrev pub invariant-loop-done : goal.invariant-loop-done
invariant-loop-done l = record {
  set : (S : Clause) → (bound : ℕ) → is_false (literals (take bound l.kernel.trail)) l.clause ≡ true → IsSet l.kernel [] S bound l.initial.marks
      → IsSet l.kernel [] (with_literals (drop (l.count - l.done) l.clause) S) bound l.marks;
  met : (v : ℕ) → is_one_of l.marks.seen.items v ≡ (has_var (drop (l.count - l.done) l.clause) v || is_one_of l.initial.marks.seen.items v);
  room : HasRoom (l.count - l.done) l.marks;
}
