use Rattle.std.proofs.Common.{◌≡◌, ◌↔◌, ◌++◌, ℕ, List, take, drop, length}
use Rattle.packs.specs.Forgotten.{AreMarked, AreOwn}
use Rattle.packs.proofs.replay.forgotten.Forgotten.forget.Given as goal

-- the numbers that are left give the answer; those so far are marked
abbrev pub invariant-loop-number : goal.invariant-loop-number
invariant-loop-number l = record {
  own : AreOwn l.initial.self.first l.initial.self.marks.items l.numbers ↔ AreOwn l.initial.self.first l.self.marks.items (drop l.number-index l.numbers);
  marked : (gone : List ℕ) → AreMarked l.initial.self.first l.initial.self.marks.items gone → AreMarked l.initial.self.first l.self.marks.items (gone ++ take l.number-index l.numbers);
  many : length l.self.marks.items ≡ length l.initial.self.marks.items;
  first : l.self.first ≡ l.initial.self.first;
}
