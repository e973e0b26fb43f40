use Rattle.std.proofs.Common.{◌≡◌, ◌∙◌, true, false, slice_set, ap, sym, nat_eq, eq-eqb, eqb-true, ◌++◌, ◌∷◌, [], arith}
use Rattle.theory.specs.Literals.{negated}
use Rattle.theory.specs.Trails.{Entry, current_level}
use Rattle.theory.proofs.literals.LiteralSets.{false_unless}
use Rattle.cdcl.proofs.PlaceLemmas.{placed-there, entry-read, entry_of-placed}
use Rattle.cdcl.proofs.Pending.{pending-pushed, pending-kept}
use Rattle.cdcl.proofs.MarkedSets.{entry-inside, count-most, resolvable-current, resolvable-zero, resolvable-neither}
use Rattle.cdcl.proofs.JoinedSets.{IsSet-more}
use Rattle.cdcl.proofs.MetVariables.{met-pushed}
use Rattle.cdcl.proofs.analysis.marks.put_at.Goals as goal

pub index_mut-requires : goal.index_mut-requires
index_mut-requires c =
    let found = placed-there c.args.kernel.now.trail c.args.place c.requires.inside in
    let one = entry-read c.args.kernel.now.trail _ c.args.place c.index-trail-place.result found.0 c.trail.ensures.trail c.index-trail-place.is found.1 in
    let v = c.var-var.ensures.var ∙ ap (λ (x : Entry). x.lit.var) (c.entry.view_is ∙ one) in
    let less = entry-inside c.args.kernel.now _ found.0 c.requires.marks.over c.requires.marks.is.is.long (entry_of-placed _ _ c.args.place found.0 c.requires.marks.lawful found.1) in
    omega arith

-- there is room for one
pub push_reserved-requires : goal.push_reserved-requires
push_reserved-requires c = let room = c.requires.room in omega arith

pub overflow_add-marks : goal.overflow_add-marks
overflow_add-marks c =
    let most = count-most _ _ _ _ c.requires.marks.over c.requires.marks.is.is in
    let few = c.requires.marks.few in
    omega arith

pub returns-in_ok-push_near-clause-set : goal.returns-in_ok-push_near-clause-set
returns-in_ok-push_near-clause-set c S bound e at below h =
    let entry = c.entry.view_is ∙ entry-read c.args.kernel.now.trail _ c.args.place c.index-trail-place.result e c.trail.ensures.trail c.index-trail-place.is at in
    let v = c.var-var.ensures.var ∙ ap (λ (x : Entry). x.lit.var) entry in
    let current : nat_eq e.level (current_level c.args.kernel.now.trail) ≡ true =
    eq-eqb _ _ (sym (ap (λ (x : Entry). x.level) entry) ∙ (c.if-entry-level.true ∙ c.requires.level)) in
    IsSet-more _ S bound c.args.place e _ _ c.requires.marks.lawful c.requires.marks.over at below (c.requires.is_new e at) h
    (ap (λ x. slice_set c.args.marks.now.marked.items x true) v)
    (c.push_reserved.ensures.items ∙ ap (λ x. c.args.marks.now.seen.items ++ x ∷ []) v)
    (rw current (omega arith))
    (pending-pushed _ c.args.place _ _ (resolvable-current c.args.kernel.now.trail e current) c.in_ok-push_near.ensures)

pub returns-in_ok-push_far-clause-set : goal.returns-in_ok-push_far-clause-set
returns-in_ok-push_far-clause-set c S bound e at below h =
    let entry = c.entry.view_is ∙ entry-read c.args.kernel.now.trail _ c.args.place c.index-trail-place.result e c.trail.ensures.trail c.index-trail-place.is at in
    let v = c.var-var.ensures.var ∙ ap (λ (x : Entry). x.lit.var) entry in
    let level = ap (λ (x : Entry). x.level) entry in
    let current : nat_eq e.level (current_level c.args.kernel.now.trail) ≡ false =
    false_unless _ (λ t. c.if-entry-level.false (level ∙ (eqb-true _ _ t ∙ sym c.requires.level))) in
    let zero : nat_eq e.level 0 ≡ true = eq-eqb _ _ (sym level ∙ c.if-entry-eq0.true) in
    IsSet-more _ S bound c.args.place e _ _ c.requires.marks.lawful c.requires.marks.over at below (c.requires.is_new e at) h
    (ap (λ x. slice_set c.args.marks.now.marked.items x true) v)
    (c.push_reserved.ensures.items ∙ ap (λ x. c.args.marks.now.seen.items ++ x ∷ []) v)
    (rw current (omega arith))
    (pending-pushed _ c.args.place _ _ (resolvable-zero c.args.kernel.now.trail e zero) c.in_ok-push_far.ensures)

pub returns-else-entry-eq0-clause-set : goal.returns-else-entry-eq0-clause-set
returns-else-entry-eq0-clause-set c S bound e at below h =
    let entry = c.entry.view_is ∙ entry-read c.args.kernel.now.trail _ c.args.place c.index-trail-place.result e c.trail.ensures.trail c.index-trail-place.is at in
    let v = c.var-var.ensures.var ∙ ap (λ (x : Entry). x.lit.var) entry in
    let level = ap (λ (x : Entry). x.level) entry in
    let current : nat_eq e.level (current_level c.args.kernel.now.trail) ≡ false =
    false_unless _ (λ t. c.if-entry-level.false (level ∙ (eqb-true _ _ t ∙ sym c.requires.level))) in
    let zero : nat_eq e.level 0 ≡ false = false_unless _ (λ t. c.if-entry-eq0.false (level ∙ eqb-true _ _ t)) in
    IsSet-more _ S bound c.args.place e _ _ c.requires.marks.lawful c.requires.marks.over at below (c.requires.is_new e at) h
    (ap (λ x. slice_set c.args.marks.now.marked.items x true) v)
    (c.push_reserved.ensures.items ∙ ap (λ x. c.args.marks.now.seen.items ++ x ∷ []) v)
    (rw current (omega arith))
    (pending-kept _ c.args.place c.args.marks.now.pending (resolvable-neither c.args.kernel.now.trail e zero current))

pub returns-in_ok-push_near-clause-met : goal.returns-in_ok-push_near-clause-met
returns-in_ok-push_near-clause-met c e at v =
    let entry = c.entry.view_is ∙ entry-read c.args.kernel.now.trail _ c.args.place c.index-trail-place.result e c.trail.ensures.trail c.index-trail-place.is at in
    let var = c.var-var.ensures.var ∙ ap (λ (x : Entry). x.lit.var) entry in
    met-pushed (negated e.lit) _ _ v (c.push_reserved.ensures.items ∙ ap (λ x. c.args.marks.now.seen.items ++ x ∷ []) var)

pub returns-in_ok-push_far-clause-met : goal.returns-in_ok-push_far-clause-met
returns-in_ok-push_far-clause-met c e at v =
    let entry = c.entry.view_is ∙ entry-read c.args.kernel.now.trail _ c.args.place c.index-trail-place.result e c.trail.ensures.trail c.index-trail-place.is at in
    let var = c.var-var.ensures.var ∙ ap (λ (x : Entry). x.lit.var) entry in
    met-pushed (negated e.lit) _ _ v (c.push_reserved.ensures.items ∙ ap (λ x. c.args.marks.now.seen.items ++ x ∷ []) var)

pub returns-else-entry-eq0-clause-met : goal.returns-else-entry-eq0-clause-met
returns-else-entry-eq0-clause-met c e at v =
    let entry = c.entry.view_is ∙ entry-read c.args.kernel.now.trail _ c.args.place c.index-trail-place.result e c.trail.ensures.trail c.index-trail-place.is at in
    let var = c.var-var.ensures.var ∙ ap (λ (x : Entry). x.lit.var) entry in
    met-pushed (negated e.lit) _ _ v (c.push_reserved.ensures.items ∙ ap (λ x. c.args.marks.now.seen.items ++ x ∷ []) var)

pub returns-in_err-push_near-clause-room : goal.returns-in_err-push_near-clause-room
returns-in_err-push_near-clause-room c n room =
    let len = c.push_reserved.ensures.len in
    let capacity = c.push_reserved.ensures.capacity in
    omega arith

pub returns-in_err-push_far-clause-room : goal.returns-in_err-push_far-clause-room
returns-in_err-push_far-clause-room c n room =
    let len = c.push_reserved.ensures.len in
    let capacity = c.push_reserved.ensures.capacity in
    omega arith

pub returns-in_ok-push_near-clause-room : goal.returns-in_ok-push_near-clause-room
returns-in_ok-push_near-clause-room c n room =
    let len = c.push_reserved.ensures.len in
    let capacity = c.push_reserved.ensures.capacity in
    omega arith

pub returns-in_ok-push_far-clause-room : goal.returns-in_ok-push_far-clause-room
returns-in_ok-push_far-clause-room c n room =
    let len = c.push_reserved.ensures.len in
    let capacity = c.push_reserved.ensures.capacity in
    omega arith

pub returns-else-entry-eq0-clause-room : goal.returns-else-entry-eq0-clause-room
returns-else-entry-eq0-clause-room c n room =
    let len = c.push_reserved.ensures.len in
    let capacity = c.push_reserved.ensures.capacity in
    omega arith
