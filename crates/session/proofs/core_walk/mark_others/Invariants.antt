use Rattle.std.proofs.Common.{◌≡◌, ℕ, true, false, take, slice_index_or}
use Rattle.theory.specs.Literals.{Literal, has, same}
use Rattle.session.proofs.core_walk.mark_others.Given as goal

-- those so far are marked, and what was
abbrev pub invariant-loop-other : goal.invariant-loop-other
invariant-loop-other l = record {
  others : (k : Literal) → has (take l.other-index l.reason) k ≡ true → same l.lit k ≡ false → slice_index_or l.marked k.var false ≡ true;
  more : (v : ℕ) → slice_index_or l.initial.marked v false ≡ true → slice_index_or l.marked v false ≡ true;
}
