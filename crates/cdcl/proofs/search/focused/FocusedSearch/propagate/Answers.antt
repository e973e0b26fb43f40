use Rattle.std.proofs.Common.{◌≡◌, ◌∙◌, List, [], ◌∷◌, ◌++◌, take, refl, ap, arith}
use Rattle.theory.specs.Literals.{Clause}
use Rattle.theory.specs.Trails.{current_level}
use Rattle.theory.specs.Units.{Units, units_of}
use Rattle.theory.specs.Learning.{learn}
use Rattle.theory.specs.Search.{refuted}
use Rattle.theory.specs.Propagation.{by_place, Propagates, quiet, conflict}
use Rattle.theory.proofs.trails.LawfulTrails.{Propagates-conflict}
use Rattle.theory.proofs.searching.PropagationLemmas.{Propagates-rests}
use Rattle.theory.proofs.searching.SplitSoundness.{Propagates-more}
use Rattle.cdcl.specs.declared.search.focused.FocusedSearch.{FocusedSearch}
use Rattle.cdcl.proofs.SettledSearches.{settled-units}
use Rattle.cdcl.proofs.FocusedSteps.{IsFocusing-Propagates}
use Rattle.cdcl.proofs.search.focused.FocusedSearch.propagate.Goals as goal

pub returns-in-Quiet-clause-rests : goal.returns-in-Quiet-clause-rests
returns-in-Quiet-clause-rests c none =
    let s = c.args.self.now in
    let k = c.close.new.self in
    let kept = c.close.ensures.kept in
    let closes : Propagates by_place s.kernel.clauses s.kernel.trail quiet k.trail = rw (c.in-Quiet.is, c.requires.focusing.searching.in_order) at c.in_ok-close.ensures.ok in (
      record {
        propagates = closes;
        clauses = kept.1;
        vars = kept.0;
        focusing = IsFocusing-Propagates s k quiet c.requires.focusing kept.0 kept.1 kept.2 kept.3 c.in_ok-close.ensures.has_memory closes;
      },
      record {
        has_memory = c.in_ok-close.ensures.has_memory;
        in_order = kept.3 ∙ c.requires.focusing.searching.in_order;
        few = rw kept.0 c.requires.focusing.few;
        level = (Propagates-more _ _ _ _ _ closes).2 ∙ c.requires.level;
        quiet = rw kept.1 (Propagates-rests _ _ _ _ closes);
      },
    )

pub returns-in-Quiet-clause-kept : goal.returns-in-Quiet-clause-kept
returns-in-Quiet-clause-kept c =
    let s = c.args.self.now in
    let k = c.close.new.self in
    let kept = c.close.ensures.kept in
    let closes : Propagates by_place s.kernel.clauses s.kernel.trail quiet k.trail = rw (c.in-Quiet.is, c.requires.focusing.searching.in_order) at c.in_ok-close.ensures.ok in
    record {
      goes_on = (kept.0, kept.2, ap (λ (K : List Clause). take s.kernel.first K) kept.1, c.in_ok-close.ensures.has_memory, kept.3);
      constants = refl;
      equipped = (IsFocusing-Propagates s k quiet c.requires.focusing kept.0 kept.1 kept.2 kept.3 c.in_ok-close.ensures.has_memory closes).equipped;
    }

met : (c : goal.After-settle-arg-1) → Propagates by_place c.args.self.now.kernel.clauses c.args.self.now.kernel.trail (conflict c.in-Conflict.number) c.close.new.self.trail
met c = rw (c.in-Conflict.is, c.requires.focusing.searching.in_order) at c.in_ok-close.ensures.ok

-- propagation stays at level 0
low : (c : goal.After-settle-arg-1) → current_level c.close.new.self.trail ≡ 0
low c = (Propagates-more _ _ _ _ _ (met c)).2 ∙ c.requires.level

pub settle-requires-clause-focusing : goal.settle-requires-clause-focusing
settle-requires-clause-focusing c =
    IsFocusing-Propagates c.args.self.now c.close.new.self (conflict c.in-Conflict.number) c.requires.focusing c.close.ensures.kept.0 c.close.ensures.kept.1 c.close.ensures.kept.2 c.close.ensures.kept.3 c.in_ok-close.ensures.has_memory (met c)

pub settle-requires-clause-before : goal.settle-requires-clause-before
settle-requires-clause-before c level = tt

pub settle-requires-clause-above : goal.settle-requires-clause-above
settle-requires-clause-above c above = let none = low c in absurd (omega (arith, none, above))

pub refuted-requires-clause-focusing : goal.refuted-requires-clause-focusing
refuted-requires-clause-focusing c = c.in_ok-settle-in-Conflict.ensures.focusing

pub refuted-requires-clause-conflict : goal.refuted-requires-clause-conflict
refuted-requires-clause-conflict c =
    let closes : Propagates by_place c.args.self.now.kernel.clauses c.args.self.now.kernel.trail (conflict c.in-Conflict.number) c.close.new.self.trail
    = rw (c.in-Conflict.is, c.requires.focusing.searching.in_order) at c.in_ok-close.ensures.ok in
    c.in_ok-settle-in-Conflict.ensures.conflict c.in-Conflict.number (rw c.close.ensures.kept.1 (Propagates-conflict _ _ _ _ _ closes))

pub returns-in_ok-refuted-in-Conflict-clause-refuted : goal.returns-in_ok-refuted-in-Conflict-clause-refuted
returns-in_ok-refuted-in-Conflict-clause-refuted c =
    let s = c.args.self.now in
    let k = c.close.new.self in
    let m : FocusedSearch = record s { kernel = k } in
    let n = c.in-Conflict.number in
    let closes : Propagates by_place s.kernel.clauses s.kernel.trail (conflict n) k.trail = rw (c.in-Conflict.is, c.requires.focusing.searching.in_order) at c.in_ok-close.ensures.ok in
    let level : current_level k.trail ≡ 0 = (Propagates-more _ _ _ _ _ closes).2 ∙ c.requires.level in
    record {
      number = n;
      trail = k.trail;
      propagates = closes;
      refutes = λ none. c.in_ok-refuted-in-Conflict.ensures.refuted
          ∙ ap (λ (u : Units). refuted (u.lines ++ learn u.clauses u.trail n ∷ []))
          (settled-units m c.settle.new.self c.in_ok-settle-in-Conflict.ensures level none ∙ ap (λ (K : List Clause). units_of K k.trail) c.close.ensures.kept.1);
    }
