use Rattle.std.proofs.Common.{◌≡◌, ◌∙◌, true, false, slice_set, refl, ap, sym, nat_eq, eq-eqb, eqb-true, arith}
use Rattle.theory.specs.Literals.{negated}
use Rattle.theory.specs.Trails.{Entry, level_at, current_level}
use Rattle.theory.proofs.literals.LiteralSets.{false_unless}
use Rattle.cdcl.proofs.PlaceLemmas.{entry_of-placed}
use Rattle.cdcl.proofs.MarkedSets.{entry-inside, entry-false, is_in, count-some}
use Rattle.cdcl.proofs.JoinedSets.{IsSet-less}
use Rattle.cdcl.proofs.analysis.marks.take.Goals as goal

pub index_mut-requires : goal.index_mut-requires
index_mut-requires c =
    let there = entry_of-placed _ _ c.requires.marks.joins.bound c.args.entry c.requires.marks.joins.lawful c.requires.marks.at in
    let less = entry-inside c.args.kernel.now _ c.args.entry c.requires.marks.joins.over c.requires.marks.joins.is.is.long there in
    let v = c.var.ensures.var ∙ ap (λ (e : Entry). e.lit.var) c.entry.view_is in
    omega arith

pub overflow_sub-marks : goal.overflow_sub-marks
overflow_sub-marks c =
    let there = entry_of-placed _ _ c.requires.marks.joins.bound c.args.entry c.requires.marks.joins.lawful c.requires.marks.at in
    count-some _ _ _ _ (negated c.args.entry.lit) c.requires.marks.joins.is.is
    (is_in _ _ _ _ (negated c.args.entry.lit) c.requires.marks.joins.lawful c.requires.marks.joins.is.is (entry-false _ c.args.entry there) (c.requires.marks.joins.is.is.marks c.args.entry.lit.var ∙ c.requires.marks.is_in))
    (ap level_at there ∙ (sym (ap (λ (e : Entry). e.level) c.entry.view_is) ∙ (c.if-entry-level.true ∙ c.requires.level)))

pub returns-then-entry-level-clause-set : goal.returns-then-entry-level-clause-set
returns-then-entry-level-clause-set c S bound at h =
    let there = entry_of-placed _ _ bound c.args.entry c.requires.marks.joins.lawful at in
    let marked = c.requires.marks.joins.is.is.marks c.args.entry.lit.var ∙ c.requires.marks.is_in in
    let v = c.var.ensures.var ∙ ap (λ (e : Entry). e.lit.var) c.entry.view_is in
    let one : nat_eq c.args.entry.level (current_level c.args.kernel.now.trail) ≡ true =
    eq-eqb _ _ (sym (ap (λ (e : Entry). e.level) c.entry.view_is) ∙ (c.if-entry-level.true ∙ c.requires.level)) in
    IsSet-less _ S bound c.args.entry _ _ c.requires.marks.joins.lawful c.requires.marks.joins.over at
    (is_in _ S _ _ (negated c.args.entry.lit) c.requires.marks.joins.lawful h.is (entry-false _ c.args.entry there) marked) h
    (ap (λ x. slice_set c.args.marks.now.marked.items x false) v) (rw one refl) refl refl

pub returns-else-entry-level-clause-set : goal.returns-else-entry-level-clause-set
returns-else-entry-level-clause-set c S bound at h =
    let there = entry_of-placed _ _ bound c.args.entry c.requires.marks.joins.lawful at in
    let marked = c.requires.marks.joins.is.is.marks c.args.entry.lit.var ∙ c.requires.marks.is_in in
    let v = c.var.ensures.var ∙ ap (λ (e : Entry). e.lit.var) c.entry.view_is in
    let one : nat_eq c.args.entry.level (current_level c.args.kernel.now.trail) ≡ false =
    false_unless _ (λ t. c.if-entry-level.false (ap (λ (e : Entry). e.level) c.entry.view_is ∙ (eqb-true _ _ t ∙ sym c.requires.level))) in
    IsSet-less _ S bound c.args.entry _ _ c.requires.marks.joins.lawful c.requires.marks.joins.over at
    (is_in _ S _ _ (negated c.args.entry.lit) c.requires.marks.joins.lawful h.is (entry-false _ c.args.entry there) marked) h
    (ap (λ x. slice_set c.args.marks.now.marked.items x false) v) (rw one (omega arith)) refl refl
