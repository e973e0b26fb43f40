use Rattle.std.proofs.Common.{◌≡◌, ap, ◌∙◌, ◌+◌, ◌*◌, ◌++◌, arith, refl, All, length}
use Rattle.std.proofs.lemmas.List.Elements.{All-append}
use Rattle.theory.specs.Truth.{IsOver}
use Rattle.theory.specs.Pure.{unit_clauses}
use Rattle.theory.proofs.searching.PureVariables.{IsOver-unit_clauses}
use Rattle.theory.proofs.searching.OpenTrails.{current_level-cube_trail}
use Rattle.kernel.specs.Visiting.{kept_of}
use Rattle.kernel.specs.Attaching.{IsWatching}
use Rattle.kernel.proofs.Beginning.{begun}
use Rattle.theory.specs.Trails.{cube_trail}
use Rattle.theory.proofs.trails.TrailEntries.{IsLawful-cube}
use Rattle.trail.specs.TrailOver.{TrailOver}
use Rattle.theory.proofs.trails.TrailLists.{literals-cube}
use Rattle.kernel.proofs.search_kernel.SearchKernel.open.Goals as goal

-- the parts of the kernel, as the calls have told them
vars_of : (c : goal.After-none) → c.put_cube.new.trail.vars ≡ c.args.formula.now.vars
vars_of c = c.put_cube.ensures.vars ∙ (ap (λ (t : TrailOver). t.vars) c.in_ok-trail.ensures ∙ c.vars-vars.ensures.vars)

entries_of : (c : goal.After-none) → c.put_cube.new.trail.entries ≡ cube_trail c.args.cube.now
entries_of c = c.put_cube.ensures.entries ∙ ap cube_trail c.lits.ensures.lits

clauses_are : (c : goal.After-none) → c.attach_units.new.self.clauses.given ≡ c.args.formula.now.clauses ++ unit_clauses c.args.units.now
clauses_are c = rw (c.in_ok-attach_units.ensures.clauses, c.in_ok-attach_all.ensures.clauses, c.in_ok-propagator.ensures.none.0) refl

-- the clauses are over the formula's variables
over_of : (c : goal.After-none) → All (IsOver c.args.formula.now.vars) (c.args.formula.now.clauses ++ unit_clauses c.args.units.now)
over_of c = All-append (IsOver c.args.formula.now.vars) c.args.formula.now.clauses (unit_clauses c.args.units.now) c.vars-vars.ensures.within.formula (IsOver-unit_clauses c.args.formula.now.vars c.args.units.now c.requires.units.1)

-- nothing is decided, so whatever the cube puts on the trail is yet to be served
watching : (c : goal.After-none) → IsWatching c.put_cube.new.trail.vars c.len.result c.attach_units.new.self.clauses.given c.put_cube.new.trail.entries 0 18446744073709551615 (kept_of c.attach_units.new.self) c.attach_units.new.singles.items c.attach_units.new.self.conflict
watching c =
    let V = c.args.formula.now.vars in
    let e = c.in_ok-propagator.ensures in
    let s = c.in_ok-attach_all.ensures.watching (rw (e.none.0, c.in_ok-singles.ensures.items) (e.watching V (c.in_ok-room.ensures ∙ ap (λ v. 2 * v + 2) c.vars-vars.ensures.vars))) in
    let t = c.in_ok-attach_units.ensures.watching V c.requires.units.1 s in
    let vars : c.put_cube.new.trail.vars ≡ V = vars_of c in
    rw (vars, c.len.ensures.given, c.put_cube.ensures.entries)
    (begun 18446744073709551615 V (length c.attach_units.new.self.clauses.given) c.attach_units.new.self.clauses.given (cube_trail c.lits.result.now) (kept_of c.attach_units.new.self) c.attach_units.new.singles.items c.attach_units.new.self.conflict (current_level-cube_trail c.lits.result.now) t)

pub attach_all-requires : goal.attach_all-requires
attach_all-requires c = record { over = c.in_ok-propagator.ensures.none.1 ∙ (c.in_ok-room.ensures ∙ ap (λ v. 2 * v + 2) c.vars-vars.ensures.vars) }

pub invariant_of-result : goal.invariant_of-result
invariant_of-result c = (rw (entries_of c) (IsLawful-cube _ _ c.lits.ensures.cube), rw (vars_of c, clauses_are c) (over_of c), omega (arith, c.len.ensures.given), λ h. watching c, λ h. c.new.ensures)

pub returns-clause-lawful : goal.returns-clause-lawful
returns-clause-lawful c = (
  rw (entries_of c) (IsLawful-cube _ _ c.lits.ensures.cube),
  rw (vars_of c, entries_of c, literals-cube c.args.cube.now) c.requires.cube,
  rw (vars_of c, clauses_are c) (over_of c),
)
