use Rattle.std.proofs.Common.{◌<◌, ◌∙◌, ℕ, List, length, ap, ap₂, arith}
use Rattle.std.specs.List.{list_any, slice_range}
use Rattle.theory.specs.Literals.{Clause}
use Rattle.theory.specs.Truth.{value}
use Rattle.cnf.specs.Pieces.{pieces, start_at}
use Rattle.simplify.proofs.ExtendedModels.{is_without}
use Rattle.simplify.proofs.EliminatedRows.{count-all, range-within, range-over, needed-at}
use Rattle.simplify.proofs.eliminated.EliminatedVars.is_needed.Goals as goal

pub start_of-from-requires : goal.start_of-from-requires
start_of-from-requires c =
    let own = c.self.inside in
    let count = count-all own.literals.items own.ends.items own.clause_ends.items own.vars.items c.args.self.now c.args.place c.self.view_is c.self.invariant.2 in
    omega (arith, c.requires.within, count, c.self.invariant.2, ap length c.deref.ensures.value)

pub index-to-requires : goal.index-to-requires
index-to-requires c =
    let own = c.self.inside in
    let count = count-all own.literals.items own.ends.items own.clause_ends.items own.vars.items c.args.self.now c.args.place c.self.view_is c.self.invariant.2 in
    omega (arith, c.requires.within, count, c.self.invariant.2, own.clause_ends.ok.0)

pub index-requires : goal.index-requires
index-requires c =
    let own = c.self.inside in
    let count = count-all own.literals.items own.ends.items own.clause_ends.items own.vars.items c.args.self.now c.args.place c.self.view_is c.self.invariant.2 in
    omega (arith, c.requires.within, count, own.vars.ok.0)

pub needs-requires-clause-within : goal.needs-requires-clause-within
needs-requires-clause-within c =
    let own = c.self.inside in
    let count = count-all own.literals.items own.ends.items own.clause_ends.items own.vars.items c.args.self.now c.args.place c.self.view_is c.self.invariant.2 in
    let there : c.args.place < length own.clause_ends.items = omega (arith, c.requires.within, count, c.self.invariant.2) in
    rw c.deref-3.ensures.value (range-within own.literals.items own.ends.items own.clause_ends.items own.vars.items c.args.self.now c.args.place c.start_of-from.result c.index-to.result.now c.self.invariant.1 there
    (c.start_of-from.ensures ∙ ap (λ (L : List ℕ). start_at 0 L c.args.place) c.deref.ensures.value) c.index-to.ensures)

pub needs-requires-clause-over : goal.needs-requires-clause-over
needs-requires-clause-over c =
    let own = c.self.inside in
    let count = count-all own.literals.items own.ends.items own.clause_ends.items own.vars.items c.args.self.now c.args.place c.self.view_is c.self.invariant.2 in
    let there : c.args.place < length own.clause_ends.items = omega (arith, c.requires.within, count, c.self.invariant.2) in
    rw (c.deref-2.ensures.value, c.deref-3.ensures.value) (range-over own.literals.items own.ends.items own.clause_ends.items own.vars.items c.args.self.now c.args.place (length c.args.values.now) c.start_of-from.result c.index-to.result.now
    c.self.view_is c.requires.over c.requires.within there (c.start_of-from.ensures ∙ ap (λ (L : List ℕ). start_at 0 L c.args.place) c.deref.ensures.value) c.index-to.ensures)

pub returns : goal.returns
returns c e is =
    let own = c.self.inside in
    let count = count-all own.literals.items own.ends.items own.clause_ends.items own.vars.items c.args.self.now c.args.place c.self.view_is c.self.invariant.2 in
    let there : c.args.place < length own.clause_ends.items = omega (arith, c.requires.within, count, c.self.invariant.2) in
    let is_it = needed-at own.literals.items own.ends.items own.clause_ends.items own.vars.items c.args.self.now c.args.place (value c.args.values.now) e c.start_of-from.result c.index-to.result.now c.index.result.now
    c.self.view_is is there (c.start_of-from.ensures ∙ ap (λ (L : List ℕ). start_at 0 L c.args.place) c.deref.ensures.value) c.index-to.ensures c.index.ensures in
    c.needs.ensures ∙ (ap₂ (λ (L : Clause) (E : List ℕ). list_any (is_without (value c.args.values.now) c.index.result.now) (slice_range (pieces 0 L E) c.start_of-from.result c.index-to.result.now)) c.deref-2.ensures.value c.deref-3.ensures.value ∙ is_it)
