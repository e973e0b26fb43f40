use Rattle.std.proofs.Common.{◌≡◌, ◌+◌, Some, [], ◌∷◌, ◌++◌, length, length-append, slice_get, set, ap, sym, ◌∙◌, refl, arith}
use Rattle.std.proofs.lemmas.List.{length-map}
use Rattle.std.proofs.lemmas.List.Elements.{All-push, All-cons, All-nil}
use Rattle.std.proofs.lemmas.Option.{slice_get_within}
use Rattle.theory.specs.Literals.{Literal, IsVariable}
use Rattle.theory.specs.Truth.{IsOver}
use Rattle.theory.specs.Trails.{Entry}
use Rattle.kernel.specs.EntryLists.{entries_of}
use Rattle.kernel.specs.Visiting.{kept_of}
use Rattle.kernel.proofs.Visits.{code-within}
use Rattle.kernel.proofs.TrueUnits.{entry-read, has-entry, over-entry, IsLawful-unit, reason-watching}
use Rattle.kernel.proofs.search_kernel.SearchKernel.learn_unit.Goals as goal

pub attach_true-requires : goal.attach_true-requires
attach_true-requires c =
    let asked = (rw (← c.self.view_is) at c.requires.entry) c.if-self.false in
    let T = c.self.inside.trail.entries in
    let V = c.self.inside.trail.vars in
    let lists = c.self.inside.propagator.lists in
    let e = asked.0 in
    let lit : c.entry.inside.lit ≡ e.lit = ap (λ (y : Entry). y.lit) (c.entry.view_is ∙ entry-read T c.entries.result.now c.args.place c.index-entries-place.result e c.index-entries-place.is c.entries.ensures.entries asked.1) in
    rw lit (code-within e.lit V (length lists) (over-entry V T c.args.place e asked.1 c.entries.ensures.ordered.over).1 (sym (length-map lists entries_of) ∙ (c.self.invariant.3 c.if-self.false).lists))

pub set_reason-requires : goal.set_reason-requires
set_reason-requires c =
    let asked = (rw (← c.self.view_is) at c.requires.entry) c.if-self.false in
    slice_get_within c.self.inside.trail.entries c.args.place asked.0 asked.1

-- the clauses and the trail that the calls have left
clauses-are : (c : goal.After-add_learnt) (e : Entry) → slice_get c.self.inside.trail.entries c.args.place ≡ Some e
    → c.attach_true.new.self.clauses.given ≡ c.self.inside.propagator.clauses.given ++ (e.lit ∷ []) ∷ []
clauses-are c e at =
    let T = c.self.inside.trail.entries in
    let lit : c.entry.inside.lit ≡ e.lit = ap (λ (y : Entry). y.lit) (c.entry.view_is ∙ entry-read T c.entries.result.now c.args.place c.index-entries-place.result e c.index-entries-place.is c.entries.ensures.entries at) in
    c.in-Ok.ensures.clauses ∙ ap (λ (l : Literal). c.self.inside.propagator.clauses.given ++ (l ∷ []) ∷ []) lit

entries-are : (c : goal.After-add_learnt) (e : Entry) → slice_get c.self.inside.trail.entries c.args.place ≡ Some e
    → c.set_reason.new.self.entries ≡ set c.self.inside.trail.entries c.args.place (record e { reason = Some (length c.self.inside.propagator.clauses.given + 1) })
entries-are c e at =
    let K = c.self.inside.propagator.clauses.given in
    let number : c.len-number.result ≡ length K + 1 = c.len-number.ensures.given ∙ (ap length (clauses-are c e at) ∙ length-append K ((e.lit ∷ []) ∷ [])) in
    c.set_reason.ensures.entries e at ∙ ap (λ n. set c.self.inside.trail.entries c.args.place (record e { reason = Some n })) number

pub invariant_of-self : goal.invariant_of-self
invariant_of-self c =
    let asked = (rw (← c.self.view_is) at c.requires.entry) c.if-self.false in
    let level = (rw (← c.self.view_is) at c.requires.level) c.if-self.false in
    let K = c.self.inside.propagator.clauses.given in
    let T = c.self.inside.trail.entries in
    let V = c.self.inside.trail.vars in
    let p = c.args.place in
    let e = asked.0 in
    let at = asked.1 in
    let clauses = clauses-are c e at in
    let entries = entries-are c e at in
    let vars = c.set_reason.ensures.vars in
    let over : IsOver V (e.lit ∷ []) = All-cons (λ l. IsVariable V l.var) e.lit [] (over-entry V T p e at c.entries.ensures.ordered.over) (All-nil (λ l. IsVariable V l.var)) in
    let lit : c.entry.inside.lit ≡ e.lit = ap (λ (y : Entry). y.lit) (c.entry.view_is ∙ entry-read T c.entries.result.now p c.index-entries-place.result e c.index-entries-place.is c.entries.ensures.entries at) in (
      rw (entries, clauses) (IsLawful-unit K T p e at level c.self.invariant.0),
      rw (vars, clauses) (All-push (IsOver V) K (e.lit ∷ []) c.self.invariant.1 over),
      rw (clauses, length-append) (omega (arith, c.self.invariant.2)),
      λ h. rw (vars, entries)
          (reason-watching V c.self.inside.first c.attach_true.new.self.clauses.given T p e (Some (length K + 1)) c.self.inside.served c.self.inside.floor (kept_of c.attach_true.new.self) c.self.inside.singles.items c.self.inside.empty at level
          (c.in-Ok.ensures.watching V c.self.inside.first c.self.inside.served c.self.inside.floor T c.self.inside.singles.items c.self.inside.empty c.self.invariant.2 level (rw lit (has-entry T p e at)) (c.self.invariant.3 h))),
      c.self.invariant.4,
    )

pub returns-in-Ok-clause-learnt : goal.returns-in-Ok-clause-learnt
returns-in-Ok-clause-learnt c e at =
    let there = rw (← c.self.view_is) at at in
    rw (← c.self.view_is, c.set_reason.ensures.vars, clauses-are c e there, entries-are c e there) refl
