use Rattle.std.proofs.Common.{◌≡◌, ◌+◌, ◌∙◌, ◌++◌, ◌∷◌, [], List, ℕ, length, map, ap, sym, subst, arith, Some, refl}
use Rattle.std.proofs.lemmas.List.{length_push}
use Rattle.theory.specs.Trails.{Entry, literals, current_level}
use Rattle.theory.specs.Propagation.{clashes, rests}
use Rattle.theory.proofs.trails.TrailLists.{current_level-push}
use Rattle.kernel.specs.EntryLists.{entries_of}
use Rattle.kernel.specs.Rules.{rule_of}
use Rattle.kernel.specs.Watching.{IsServed}
use Rattle.kernel.specs.Visiting.{kept_of, tending, places}
use Rattle.kernel.specs.Placing.{clauses_of, kept_with}
use Rattle.kernel.proofs.TrailFacts.{distinct-consistent}
use Rattle.kernel.proofs.Falling.{Grew, Grew-Propagates, Grew-lawful, Grew-falls, unit-free, unit-over}
use Rattle.kernel.proofs.Popping.{is-conflict, none-false}
use Rattle.kernel.proofs.Placed.{IsRule-by, IsServed-permuted, IsServed-clashed, IsServed-line, IsServed-also, AreInLine-none}
use Rattle.kernel.proofs.propagator.Propagator.close.Goals as goal
use Rattle.kernel.proofs.propagator.Propagator.close.Goals.{After-push}

pub line_up-requires-clause-units : goal.line_up-requires-clause-units
line_up-requires-clause-units c n h = c.requires.served.1.tends.found.units n h

pub steps-init : goal.steps-init
steps-init c =
    let e = c.in_ok-line_up.ensures in
    record {
      vars = refl;
      level = c.level-level.ensures.level;
      leads = λ a U h. h;
      lawful = λ h. h;
      inside = c.requires.inside;
      entries = rw (e.kept.1, e.kept.2) c.requires.entries;
      clauses = e.kept.0;
      lists = ap (λ v. length v) e.kept.2;
      line = e.line (rw c.requires.line (AreInLine-none c.args.order c.args.self.now.clauses.given c.args.trail.now.entries));
      units = e.units;
      served = λ floor served.
          IsServed-also floor c.args.self.now.clauses.given c.args.trail.now.entries c.args.served (kept_of c.line_up.new.self) (clauses_of c.line_up.new.line) e.units
          (IsServed-permuted floor c.args.self.now.clauses.given c.args.trail.now.entries c.args.served (tending (kept_of c.args.self.now)) (record (tending (kept_of c.line_up.new.self)) { units = clauses_of c.line_up.new.line })
          e.kept.1 (ap (λ v. map places (map entries_of v)) e.kept.2) e.kept.3 (rw c.requires.line at e.waiting) served);
    }

pub serve_from-requires-clause-served : goal.serve_from-requires-clause-served
serve_from-requires-clause-served c = (c.requires.served.0, rw c.steps.invariant.clauses (c.steps.invariant.served c.requires.served.0 c.requires.served.1))

pub returns-in-Some-clause-closes : goal.returns-in-Some-clause-closes
returns-in-Some-clause-closes c =
    let s : IsServed c.requires.served.0 c.args.self.now.clauses.given c.steps.trail.entries (length c.steps.trail.entries) (tending (kept_with c.serve_from.new.self c.serve_from.new.line)) =
    rw (← c.steps.invariant.clauses) (c.in_ok-serve_from.ensures.served c.requires.served.0 (rw c.steps.invariant.clauses (c.steps.invariant.served c.requires.served.0 c.requires.served.1))) in
    let ok = distinct-consistent (literals c.steps.trail.entries) c.entries-served.ensures.ordered.distinct in
    c.steps.invariant.leads _ _ (clashes (is-conflict c.requires.served.0 c.args.self.now.clauses.given c.steps.trail.entries (tending (kept_with c.serve_from.new.self c.serve_from.new.line)) ok s c.in-Some.clause c.in-Some.is))

pub returns-in-Some-clause-served : goal.returns-in-Some-clause-served
returns-in-Some-clause-served c floor served =
    let s : IsServed floor c.args.self.now.clauses.given c.steps.trail.entries (length c.steps.trail.entries) (tending (kept_with c.serve_from.new.self c.serve_from.new.line)) =
    rw (← c.steps.invariant.clauses) (c.in_ok-serve_from.ensures.served floor (rw c.steps.invariant.clauses (c.steps.invariant.served floor served))) in
    IsServed-clashed floor c.args.self.now.clauses.given c.steps.trail.entries (length c.steps.trail.entries) (kept_of c.serve_from.new.self) (clauses_of c.serve_from.new.line) c.in-Some.clause c.in-Some.is s

pub next_in_line-requires-clause-line : goal.next_in_line-requires-clause-line
next_in_line-requires-clause-line c =
    let i = c.steps.invariant in
    (c.args.order, rw c.in_ok-serve_from.ensures.kept.0 (c.in_ok-serve_from.ensures.line (rw i.clauses i.line)))

pub next_in_line-requires-clause-served : goal.next_in_line-requires-clause-served
next_in_line-requires-clause-served c =
    let s : IsServed c.requires.served.0 c.args.self.now.clauses.given c.steps.trail.entries (length c.steps.trail.entries) (tending (kept_with c.serve_from.new.self c.serve_from.new.line)) =
    rw (← c.steps.invariant.clauses) (c.in_ok-serve_from.ensures.served c.requires.served.0 (rw c.steps.invariant.clauses (c.steps.invariant.served c.requires.served.0 c.requires.served.1))) in
    let l : IsServed c.requires.served.0 c.args.self.now.clauses.given c.steps.trail.entries (length c.steps.trail.entries) (record (tending (kept_of c.serve_from.new.self)) { units = clauses_of c.serve_from.new.line }) =
    IsServed-line c.requires.served.0 c.args.self.now.clauses.given c.steps.trail.entries (length c.steps.trail.entries) (kept_of c.serve_from.new.self) (clauses_of c.serve_from.new.line) (c.in_ok-serve_from.ensures.kept.2 ∙ c.steps.invariant.units) s in
    (c.requires.served.0, rw (c.in_ok-serve_from.ensures.kept.0 ∙ c.steps.invariant.clauses) l)

pub returns-in-None-clause-closes : goal.returns-in-None-clause-closes
returns-in-None-clause-closes c =
    let s : IsServed c.requires.served.0 c.args.self.now.clauses.given c.steps.trail.entries (length c.steps.trail.entries) (tending (kept_with c.serve_from.new.self c.serve_from.new.line)) =
    rw (← c.steps.invariant.clauses) (c.in_ok-serve_from.ensures.served c.requires.served.0 (rw c.steps.invariant.clauses (c.steps.invariant.served c.requires.served.0 c.requires.served.1))) in
    let same = c.in_ok-serve_from.ensures.kept.0 ∙ c.steps.invariant.clauses in
    let ok = distinct-consistent (literals c.steps.trail.entries) c.entries-served.ensures.ordered.distinct in
    c.steps.invariant.leads _ _ (rests (none-false c.requires.served.0 c.args.self.now.clauses.given c.steps.trail.entries (tending (kept_with c.serve_from.new.self c.serve_from.new.line)) ok s c.in_default.is) (rw (← same) (c.in-None.ensures.none c.args.order)))

pub returns-in-None-clause-served : goal.returns-in-None-clause-served
returns-in-None-clause-served c floor served =
    let s : IsServed floor c.args.self.now.clauses.given c.steps.trail.entries (length c.steps.trail.entries) (tending (kept_with c.serve_from.new.self c.serve_from.new.line)) =
    rw (← c.steps.invariant.clauses) (c.in_ok-serve_from.ensures.served floor (rw c.steps.invariant.clauses (c.steps.invariant.served floor served))) in
    let l : IsServed floor c.args.self.now.clauses.given c.steps.trail.entries (length c.steps.trail.entries) (record (tending (kept_of c.serve_from.new.self)) { units = clauses_of c.serve_from.new.line }) =
    IsServed-line floor c.args.self.now.clauses.given c.steps.trail.entries (length c.steps.trail.entries) (kept_of c.serve_from.new.self) (clauses_of c.serve_from.new.line) (c.in_ok-serve_from.ensures.kept.2 ∙ c.steps.invariant.units) s in
    let same = c.in_ok-serve_from.ensures.kept.0 ∙ c.steps.invariant.clauses in
    subst (λ (us : List ℕ). IsServed floor c.args.self.now.clauses.given c.steps.trail.entries (length c.steps.trail.entries) (record (tending (kept_of c.serve_from.new.self)) { units = us })) (sym (c.in_ok-serve_from.ensures.kept.2 ∙ c.steps.invariant.units))
    (rw (← same) (c.in-None.ensures.rest floor (rw same l)))

pub push-requires-clause-is_variable : goal.push-requires-clause-is_variable
push-requires-clause-is_variable c =
    let u : rule_of c.args.order c.steps.trail.entries c.args.self.now.clauses.given ≡ Some (c.in-Some-next_in_line.unit.clause + 1, c.in-Some-next_in_line.unit.lit) =
    rw (← (c.in_ok-serve_from.ensures.kept.0 ∙ c.steps.invariant.clauses)) (c.in-Some-next_in_line.ensures.unit c.args.order (rw c.in_ok-serve_from.ensures.kept.0 (c.in_ok-serve_from.ensures.line (rw c.steps.invariant.clauses c.steps.invariant.line)))) in
    rw c.steps.invariant.vars (unit-over (rule_of c.args.order) (IsRule-by c.args.order) c.args.trail.now.vars c.args.self.now.clauses.given c.steps.trail.entries (c.in-Some-next_in_line.unit.clause + 1, c.in-Some-next_in_line.unit.lit) c.requires.over u)

pub push-requires-clause-is_free : goal.push-requires-clause-is_free
push-requires-clause-is_free c =
    let u : rule_of c.args.order c.steps.trail.entries c.args.self.now.clauses.given ≡ Some (c.in-Some-next_in_line.unit.clause + 1, c.in-Some-next_in_line.unit.lit) =
    rw (← (c.in_ok-serve_from.ensures.kept.0 ∙ c.steps.invariant.clauses)) (c.in-Some-next_in_line.ensures.unit c.args.order (rw c.in_ok-serve_from.ensures.kept.0 (c.in_ok-serve_from.ensures.line (rw c.steps.invariant.clauses c.steps.invariant.line)))) in
    unit-free (rule_of c.args.order) (IsRule-by c.args.order) c.args.self.now.clauses.given c.steps.trail.entries (c.in-Some-next_in_line.unit.clause + 1, c.in-Some-next_in_line.unit.lit) u

-- the trail after the push
grew : (c : After-push) → Grew (rule_of c.args.order) c.args.self.now.clauses.given c.steps.trail.entries c.push.new.self.entries
grew c =
    let s : IsServed c.requires.served.0 c.args.self.now.clauses.given c.steps.trail.entries (length c.steps.trail.entries) (tending (kept_with c.serve_from.new.self c.serve_from.new.line)) =
    rw (← c.steps.invariant.clauses) (c.in_ok-serve_from.ensures.served c.requires.served.0 (rw c.steps.invariant.clauses (c.steps.invariant.served c.requires.served.0 c.requires.served.1))) in
    let u : rule_of c.args.order c.steps.trail.entries c.args.self.now.clauses.given ≡ Some (c.in-Some-next_in_line.unit.clause + 1, c.in-Some-next_in_line.unit.lit) =
    rw (← (c.in_ok-serve_from.ensures.kept.0 ∙ c.steps.invariant.clauses)) (c.in-Some-next_in_line.ensures.unit c.args.order (rw c.in_ok-serve_from.ensures.kept.0 (c.in_ok-serve_from.ensures.line (rw c.steps.invariant.clauses c.steps.invariant.line)))) in
    let ok = distinct-consistent (literals c.steps.trail.entries) c.entries-served.ensures.ordered.distinct in
    let i = c.steps.invariant in
    record {
      number = c.in-Some-next_in_line.unit.clause + 1;
      lit = c.in-Some-next_in_line.unit.lit;
      level = c.level-level.result;
      none_false = none-false c.requires.served.0 c.args.self.now.clauses.given c.steps.trail.entries (tending (kept_with c.serve_from.new.self c.serve_from.new.line)) ok s c.in_default.is;
      unit = u;
      level_is = i.level;
      pushed = c.push.ensures.entries;
    }

pub steps-smaller : goal.steps-smaller
steps-smaller c = Grew-falls (rule_of c.args.order) (IsRule-by c.args.order) _ _ _ (grew c)

pub steps-preserved : goal.steps-preserved
steps-preserved c =
    let i = c.steps.invariant in
    let same = c.in_ok-serve_from.ensures.kept.0 ∙ i.clauses in
    let e : Entry = record { lit = c.in-Some-next_in_line.unit.lit; reason = Some (c.in-Some-next_in_line.unit.clause + 1); level = c.level-level.result } in
    let len : length c.entries-served.result.now ≡ length c.steps.trail.entries = ap length c.entries-served.ensures.entries in
    let longer : length c.push.new.self.entries ≡ length c.steps.trail.entries + 1 = ap length c.push.ensures.entries ∙ length_push c.steps.trail.entries e in
    let none = c.in_ok-serve_from.ensures.kept.2 ∙ i.units in
    record {
      vars = c.push.ensures.vars ∙ i.vars;
      level = sym (ap current_level c.push.ensures.entries ∙ current_level-push c.steps.trail.entries e);
      leads = λ a U h. i.leads a U (Grew-Propagates (rule_of c.args.order) _ _ _ U a (grew c) h);
      lawful = λ h. Grew-lawful (rule_of c.args.order) (IsRule-by c.args.order) _ _ _ (grew c) (i.lawful h);
      inside = omega (arith, len, longer);
      entries = rw (← i.clauses) c.in_ok-serve_from.ensures.entries;
      clauses = same;
      lists = c.in_ok-serve_from.ensures.kept.1 ∙ i.lists;
      line = rw (c.push.ensures.entries, ← same) (c.in-Some-next_in_line.ensures.line c.args.order e refl (rw c.in_ok-serve_from.ensures.kept.0 (c.in_ok-serve_from.ensures.line (rw i.clauses i.line))));
      units = none;
      served = λ floor served.
          let s : IsServed floor c.args.self.now.clauses.given c.steps.trail.entries (length c.steps.trail.entries) (tending (kept_with c.serve_from.new.self c.serve_from.new.line)) =
          rw (← c.steps.invariant.clauses) (c.in_ok-serve_from.ensures.served floor (rw c.steps.invariant.clauses (c.steps.invariant.served floor served))) in
          let l : IsServed floor c.args.self.now.clauses.given c.steps.trail.entries (length c.steps.trail.entries) (record (tending (kept_of c.serve_from.new.self)) { units = clauses_of c.serve_from.new.line }) =
          IsServed-line floor c.args.self.now.clauses.given c.steps.trail.entries (length c.steps.trail.entries) (kept_of c.serve_from.new.self) (clauses_of c.serve_from.new.line) (c.in_ok-serve_from.ensures.kept.2 ∙ c.steps.invariant.units) s in
          rw (c.push.ensures.entries, len)
          (IsServed-also floor c.args.self.now.clauses.given (c.steps.trail.entries ++ e ∷ []) (length c.steps.trail.entries) (kept_of c.serve_from.new.self) (clauses_of c.next_in_line.new.line) none
          (rw (← same) (c.in-Some-next_in_line.ensures.grows floor e refl i.level (rw same l))));
    }
