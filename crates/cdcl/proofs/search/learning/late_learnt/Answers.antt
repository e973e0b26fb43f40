use Rattle.std.proofs.Common.{◌∙◌, ℕ, ◌-◌, drop, arith, refl}
use Rattle.theory.specs.Plans.{Constants, default_constants}
use Rattle.heuristics.proofs.LateLemmas.{candidates-distinct}
use Rattle.cdcl.proofs.ForgettingLemmas.{late-found}
use Rattle.cdcl.proofs.search.learning.late_learnt.Goals as goal

-- numbers with this greatest glue that is kept
abbrev with_glue : ℕ → Constants
with_glue kept = record default_constants { kept_glue = kept }

pub late_ones-requires : goal.late_ones-requires
late_ones-requires c n =
    let k = c.args.kernel.now in
    let all = c.in_ok-candidates.ensures (with_glue c.args.kept_glue) refl in
    rw (c.deref-2.ensures.value, all) (candidates-distinct (with_glue c.args.kept_glue) k.trail (c.args.number - c.len.result) (drop (c.args.number - c.len.result - 1) k.clauses) c.deref.result.now n)

pub returns : goal.returns
returns c d K clause kept parts =
    let k = c.args.kernel.now in
    let len = c.len.ensures in
    let ok = c.args.marks.now.ok.0 in
    late-found d k.trail k.clauses K clause c.args.marks.now.items c.in_ok-numbers.numbers.items k.first c.args.number (c.args.number - c.len.result) c.deref-2.result.now parts c.requires.learnt.learnt c.requires.last
    (omega arith) (rw c.deref.ensures.value at (c.deref-2.ensures.value ∙ c.in_ok-candidates.ensures d kept)) c.in_ok-numbers.ensures.numbers
