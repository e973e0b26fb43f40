use Rattle.std.proofs.Common.{◌≡◌, ◌≤◌, ℕ, length}
use Rattle.kernel.specs.EntryLists.{nth_list}
use Rattle.cnf.specs.Lits.{code}
use Rattle.kernel.specs.Watching.{IsNext, IsServed, Walks}
use Rattle.kernel.specs.Visiting.{kept_of, tending, with_list, AreEntries}
use Rattle.kernel.specs.Placing.{kept_with, PlacesOf, AreInLine}
use Rattle.kernel.specs.declared.order.Order.{Order}
use Rattle.kernel.proofs.Turns.{thinned}
use Rattle.kernel.proofs.propagator.Propagator.visit_all.Given as goal

-- the entries before the place were visited; those of them that stay stand in front
abbrev pub invariant-loop-place : goal.invariant-loop-place
invariant-loop-place l = record {
  walks : (floor n : ℕ) → IsNext l.trail.entries n l.gone → IsServed floor l.initial.self.clauses.given l.trail.entries n (tending (kept_with l.initial.self l.initial.line))
      → Walks floor l.initial.self.clauses.given l.trail.entries n l.gone (tending (with_list (kept_with l.self l.line) l.gone (thinned (nth_list l.self.lists (code l.gone)).room l.kept l.place l.list.len))) l.kept;
  entries : AreEntries l.initial.self.clauses.given (with_list (kept_of l.self) l.gone (thinned (nth_list l.self.lists (code l.gone)).room l.kept l.place l.list.len));
  few : l.kept ≤ l.place;
  inside : l.list.len ≤ length (nth_list l.self.lists (code l.gone)).room;
  begins : l.list.from ≡ (nth_list l.self.lists (code l.gone)).from;
  clauses : l.self.clauses.given ≡ l.initial.self.clauses.given;
  lists : length l.self.lists ≡ length l.initial.self.lists;
  line : (o : Order) → PlacesOf o l.trail.entries l.gone l.found → AreInLine o l.initial.self.clauses.given l.trail.entries l.initial.line → AreInLine o l.initial.self.clauses.given l.trail.entries l.line;
  units : l.self.units ≡ l.initial.self.units;
}
