-- The state of a focused search, as the definition of the search has it, and its steps.
use Rattle.std.specs.Prelude.{◌≡◌, ◌≢◌, ℕ, ◌+◌, ◌*◌, ◌^◌, ◌<◌, ◌≤◌, ◌⊎◌, ◌∷◌, ◌++◌, [], Bool, true, false, ◌||◌, Option, Some, None, List, length, map, drop, All, if◌then◌else◌}
use Rattle.theory.specs.Literals.{Literal, Clause}
use Rattle.theory.specs.Truth.{Formula, Assignment}
use Rattle.theory.specs.Reading.{large, max_vars}
use Rattle.theory.specs.Plans.{Constants}
use Rattle.theory.specs.Trails.{Trail, literals, current_level, variables, up_to}
use Rattle.theory.specs.Propagation.{Closed, quiet, conflict, by_place, Propagates, least_false}
use Rattle.theory.specs.Learning.{learn, back_level}
use Rattle.theory.specs.Units.{AreUnits, units_of}
use Rattle.theory.specs.Lessons.{lesson_of}
use Rattle.theory.specs.Modes.{is_restarting, pace_after}
use Rattle.theory.specs.Restarts.{glues_after, restarts}
use Rattle.theory.specs.Rephasing.{is_over, next_turn, rephased}
use Rattle.theory.specs.Forgetting.{unused, forget}
use Rattle.theory.specs.Search.{Outcome, refuted, exhausted, Next, ends, goes_on}
use Rattle.theory.specs.Dividing.{LeadsTo}
use Rattle.theory.specs.Focused as definition
use Rattle.theory.specs.Focused.{FocusedState, IsFocusedStep, settled, if_stable, learnt_next, saved_after, splits_on}
use Rattle.heuristics.specs.Averages.{with_next}
use Rattle.heuristics.specs.Rankings as rankings
use Rattle.heuristics.specs.Rankings.{after_conflict, vars_of}
use Rattle.kernel.specs.State.{State}
use Rattle.kernel.specs.declared.order.Order.TheVariants.{ByPlace}
use Rattle.cdcl.specs.declared.search.focused.FocusedSearch.{FocusedSearch}
use Rattle.cdcl.specs.declared.search.focused.Stop.{Stop}
use Rattle.cdcl.specs.declared.search.focused.Stop.TheVariants.{Ended, Spent}
use Rattle.cdcl.specs.Forgetful.{IsPlain, late_numbers}
use Rattle.cdcl.specs.Removing.{HasRoomFor}
use Rattle.cdcl.specs.Outcome.{LinesOutcome, outcome_of}
use Rattle.cdcl.specs.Saving.{AgreeOutside, AreWaiting, HoldsAsIn}
use Rattle.cdcl.specs.Searching.{formula_of, IsReady, IsSearching, GoesOn}

-- the state with these saved values
abbrev pub state_of : FocusedSearch → Assignment → FocusedState
state_of s saved = record {
  clauses = s.kernel.clauses;
  trail = s.kernel.trail;
  lines = s.lines;
  marks = s.marks.items;
  conflicts = s.conflicts;
  stable_conflicts = s.stable_conflicts;
  decisions = s.decided;
  scores = s.decisions.scores.scores;
  saved = saved;
  averages = s.averages.glues;
  restarted = s.restarted;
  pace = s.pace;
  round = s.round;
}

-- the conflicts of stable mode, where the one that it stands at is counted too
abbrev pub stable_at : FocusedSearch → ℕ
stable_at s = s.stable_conflicts + (if is_restarting s.pace.mode then 0 else 1)

-- the values that the definition has saved are those of the search, for each variable that is free:
-- the search saves a value when its variable leaves the trail
abbrev pub HasSaved : FocusedSearch → Assignment → Type 0
HasSaved s saved = AgreeOutside s.kernel.vars (literals s.kernel.trail) s.decisions.saved saved

-- what it keeps from cube to cube
pub record IsEquipped (s : FocusedSearch) : Type 0 where
  pub waiting : AreWaiting s.kernel.vars (literals s.kernel.trail) s.decisions
  pub seen : s.kernel.vars < s.analysis.seen.bound
  pub levels : s.kernel.vars < s.analysis.levels.bound
  pub removing : HasRoomFor s.kernel.vars s.analysis.removing
  pub scored : s.decisions.scores.constants ≡ s.constants
  pub averaged : s.averages.constants ≡ s.constants
  pub held : HoldsAsIn (formula_of s.kernel) s.decisions.held.items

-- what it keeps from step to step: between two conflicts fewer than 2 ^ 27 literals are decided, each
-- of which is on the trail
pub record IsFocusing (s : FocusedSearch) : Type 0 where
  pub searching : IsSearching ByPlace s.kernel
  pub few : s.kernel.vars ≤ max_vars large
  pub equipped : IsEquipped s
  -- of the conflicts, those of restarting mode gave a glue, and the others are counted
  pub taken : s.averages.glues.count ≤ s.conflicts
  pub stable : s.stable_conflicts ≤ s.conflicts
  pub decided : s.decided ≤ s.conflicts * 2 ^ 27 + length s.kernel.trail
  -- behind the first clauses stand those of the lines, each with its mark
  pub learnt : length s.kernel.clauses ≡ s.kernel.first + length s.lines
  pub marks : length s.marks.items ≡ length s.lines
  pub plain : All (IsPlain s.kernel.vars) (drop s.kernel.first s.kernel.clauses)

-- the reasons of level 0 are clauses of one literal
abbrev pub HasUnits : FocusedSearch → Type 0
HasUnits s = AreUnits s.kernel.clauses (up_to s.kernel.trail 0)

-- the clause and the level are those that the conflict with clause n teaches, above level 0
pub record IsTaught (k : State) (n : ℕ) (clause : Clause) (level : ℕ) : Type 0 where
  pub conflict : least_false (literals k.trail) k.clauses ≡ Some n
  pub above : 1 ≤ current_level k.trail
  pub learnt : clause ≡ (lesson_of k.clauses k.trail n).line.clause
  pub back : level ≡ back_level k.trail (lesson_of k.clauses k.trail n).line.clause

-- the conflict's glue and the variables that it has seen may be taken
pub record CanWeigh (s : FocusedSearch) (glue : ℕ) : Type 0 where
  pub glue_within : glue ≤ 2 ^ 27
  pub taken : s.averages.glues.count < 2 ^ 30
  pub counted : s.conflicts + 1 < 2 ^ 32
  pub stable : s.stable_conflicts ≤ s.conflicts
  pub seen : All (λ v. (1 ≤ v) × (v ≤ vars_of s.decisions.scores)) s.analysis.seen.numbers

-- the conflict was counted, its glue and the variables that it has seen were taken; and whether the
-- search goes back to level 0
pub record Weighs (old : FocusedSearch) (glue : ℕ) (back : Bool) (new : FocusedSearch) : Type 0 where
  pub scores : new.decisions.scores ≡ after_conflict old.decisions.scores old.pace.mode old.analysis.seen.numbers
  pub kept : rankings.IsKept old.decisions.scores new.decisions.scores
  pub saved : new.decisions.saved ≡ old.decisions.saved
  pub held : new.decisions.held ≡ old.decisions.held
  pub conflicts : new.conflicts ≡ old.conflicts + 1
  pub stable : new.stable_conflicts ≡ stable_at old
  pub averages : new.averages ≡ with_next old.averages old.pace.mode glue
  pub goes_back : back ≡ (is_over old.round (old.conflicts + 1)
      || restarts old.averages.constants old.pace.mode old.restarted (old.conflicts + 1) (glues_after old.averages.constants old.pace.mode glue old.averages.glues))
  pub restarted : new.restarted ≡ (if back then old.conflicts + 1 else old.restarted)
  -- all else stays
  pub same : new ≡ record old {
    decisions = new.decisions;
    conflicts = new.conflicts;
    stable_conflicts = new.stable_conflicts;
    averages = new.averages;
    restarted = new.restarted;
  }

-- a round ended, in which of the clauses but the last those of these numbers were forgotten
pub record EndsRound (old : FocusedSearch) (forgets : List ℕ) (new : FocusedSearch) : Type 0 where
  pub late : (K : List Clause) (clause : Clause) → old.kernel.clauses ≡ K ++ clause ∷ [] → forgets ≡ late_numbers old.constants old.kernel.trail old.marks.items K
  pub kernel : (K : List Clause) (clause : Clause) → old.kernel.clauses ≡ K ++ clause ∷ []
      → new.kernel ≡ record old.kernel { clauses = forget (late_numbers old.constants old.kernel.trail old.marks.items K) 1 K ++ clause ∷ [] }
  pub marks : new.marks.items ≡ unused old.marks.items
  pub scores : new.decisions.scores ≡ old.decisions.scores
  pub saved : new.decisions.saved ≡ rephased old.round.number old.decisions.saved
  pub held : new.decisions.held ≡ old.decisions.held
  pub round : new.round ≡ next_turn old.constants old.conflicts old.round
  pub pace : new.pace ≡ pace_after old.conflicts old.pace
  -- all else stays
  pub same : new ≡ record old { kernel = new.kernel; marks = new.marks; decisions = new.decisions; round = new.round; pace = new.pace }

-- of the clauses behind the first ones, all but the last have marks, of which there are so many
pub record CanForget (k : State) (marks : ℕ) : Type 0 where
  pub has_memory : k.out_of_memory ≡ false
  pub few : k.vars < 2 ^ 31
  pub learnt : length k.clauses ≡ k.first + marks + 1
  pub none_false : least_false (literals k.trail) k.clauses ≡ None
  pub plain : All (IsPlain k.vars) (drop k.first k.clauses)

-- the search goes on, and so do its numbers and its room
pub record Continues (old new : FocusedSearch) : Type 0 where
  pub goes_on : GoesOn old.kernel new.kernel
  pub constants : new.constants ≡ old.constants
  pub equipped : IsEquipped new

-- behind propagation the units became lines: the state is the definition's, and the answer stays
pub record IsSettled (old new : FocusedSearch) : Type 0 where
  pub state : (saved : Assignment) → state_of new saved ≡ settled (state_of old saved)
  pub focusing : IsFocusing new
  pub units : HasUnits new
  pub continues : Continues old new
  pub literals_stay : literals new.kernel.trail ≡ literals old.kernel.trail
  pub level : current_level new.kernel.trail ≡ current_level old.kernel.trail
  pub long : length new.kernel.trail ≡ length old.kernel.trail
  pub saved : new.decisions.saved ≡ old.decisions.saved
  pub rests : Propagates by_place old.kernel.clauses old.kernel.trail quiet old.kernel.trail → Propagates by_place new.kernel.clauses new.kernel.trail quiet new.kernel.trail
  pub conflict : (n : ℕ) → least_false (literals old.kernel.trail) old.kernel.clauses ≡ Some n → least_false (literals new.kernel.trail) new.kernel.clauses ≡ Some n

-- what a search keeps over whole cubes: it may go over to a cube of the formulas that it could
abbrev pub IsKept : FocusedSearch → FocusedSearch → Type 0
IsKept old new = ((F : Formula) → IsReady ByPlace F old.kernel → IsReady ByPlace F new.kernel) × IsEquipped new × (new.constants ≡ old.constants)

-- the values that the definition has saved after a conflict, which a round's end changes
abbrev pub values_after : FocusedSearch → Assignment → Assignment
values_after s saved =
    let M = saved_after s.kernel.vars s.kernel.trail saved in
    if is_over s.round (s.conflicts + 1) then rephased s.round.number M else M

-- the conflict with the clause of number n is learnt from, where the definition has these saved
-- values
pub record Learns (old : FocusedSearch) (saved : Assignment) (n : ℕ) (new : FocusedSearch) : Type 0 where
  pub next : state_of new (values_after old saved)
      ≡ learnt_next old.constants old.kernel.vars (state_of old saved) (lesson_of old.kernel.clauses old.kernel.trail n)
  pub saves : HasSaved new (values_after old saved)
  pub focusing : IsFocusing new

-- what follows where a step stopped the search, or left the state with these saved values
abbrev pub next_of : Option Stop → FocusedSearch → Assignment → Next FocusedState
next_of (Some (Ended o)) s saved = ends (outcome_of o)
next_of (Some Spent) s saved = ends (exhausted (splits_on (formula_of s.kernel) (state_of s saved)))
next_of None s saved = goes_on (state_of s saved)

-- what is so where it goes on: one more conflict is counted, or the trail is longer
pub record GoesOnward (last : ℕ) (old new : FocusedSearch) (saved : Assignment) : Type 0 where
  pub saves : HasSaved new saved
  pub focusing : IsFocusing new
  pub counted : new.conflicts < last
  pub moves : (new.conflicts ≡ old.conflicts + 1) ⊎ ((new.conflicts ≡ old.conflicts) × (length old.kernel.trail < length new.kernel.trail))

-- the search stands at its last conflict, from which it has learnt nothing
pub record IsSpent (last : ℕ) (s : FocusedSearch) : Type 0 where
  pub focusing : IsFocusing s
  pub units : HasUnits s
  pub above : 1 ≤ current_level s.kernel.trail
  pub counted : s.conflicts + 1 ≡ last

-- each step from the state t is one from the state s, whatever the last conflict is
abbrev pub StepsAs : Constants → Formula → FocusedState → FocusedState → Type 0
StepsAs c F s t = (last : ℕ) (next : Next FocusedState) → IsFocusedStep c F last t next → IsFocusedStep c F last s next

-- what holds behind an answer of propagation
abbrev pub Answers : Closed → FocusedSearch → Type 0
Answers quiet s = Propagates by_place s.kernel.clauses s.kernel.trail quiet s.kernel.trail
Answers (conflict n) s = least_false (literals s.kernel.trail) s.kernel.clauses ≡ Some n

-- propagation came to this answer, and the units became lines
pub record Closes (old : FocusedSearch) (a : Closed) (new : FocusedSearch) : Type 0 where
  pub trail : Trail
  pub propagates : Propagates by_place old.kernel.clauses old.kernel.trail a trail
  pub state : (saved : Assignment) → state_of new saved ≡ settled (record (state_of old saved) { trail = trail })
  pub answers : Answers a new
  pub focusing : IsFocusing new
  pub units : HasUnits new
  pub continues : Continues old new
  pub saves : (saved : Assignment) → HasSaved old saved → HasSaved new saved
  pub longer : length old.kernel.trail ≤ length new.kernel.trail
  -- above level 0 it may go on from there as from the state before
  pub resumes : 1 ≤ current_level new.kernel.trail → (saved : Assignment) → StepsAs old.constants (formula_of old.kernel) (state_of old saved) (state_of new saved)

-- what is so where it stopped there: it may go on as from the state before
pub record StopsAt (last : ℕ) (old : FocusedSearch) (saved : Assignment) (new : FocusedSearch) (values : Assignment) : Type 0 where
  pub spent : IsSpent last new
  pub saves : HasSaved new values
  pub decided : new.decided ≡ old.decided
  pub stable : stable_at new ≡ stable_at old
  pub resumes : StepsAs old.constants (formula_of old.kernel) (state_of old saved) (state_of new values)

-- an outcome that a search comes to by itself
abbrev pub IsOwn : LinesOutcome → Type 0
IsOwn o = (x : ℕ) → outcome_of o ≢ exhausted x

-- and where it ends, no decision more is counted
abbrev pub Onward : ℕ → FocusedSearch → Assignment → Option Stop → FocusedSearch → Assignment → Type 0
Onward last old saved (Some (Ended o)) new values = (new.decided ≡ old.decided) × IsOwn o
Onward last old saved (Some Spent) new values = StopsAt last old saved new values
Onward last old saved None new values = GoesOnward last old new values

-- what follows an answer of propagation, where the definition has these saved values
pub record Follows (last : ℕ) (a : Closed) (old : FocusedSearch) (saved : Assignment) (r : Option Stop) (new : FocusedSearch) : Type 0 where
  pub values : Assignment
  pub next : definition.after old.constants (formula_of old.kernel) last (state_of old saved) a ≡ next_of r new values
  pub onward : Onward last old saved r new values

-- a step of the definition
pub record IsFocusedSearchStep (last : ℕ) (old : FocusedSearch) (saved : Assignment) (r : Option Stop) (new : FocusedSearch) : Type 0 where
  pub values : Assignment
  pub step : IsFocusedStep old.constants (formula_of old.kernel) last (state_of old saved) (next_of r new values)
  pub onward : Onward last old saved r new values

-- a search goes from the state s on to this outcome, with so many decisions at its end
pub record RunsTo (c : Constants) (F : Formula) (budget : ℕ) (s : FocusedState) (o : Outcome) (count : ℕ) : Type 0 where
  pub final : FocusedState
  pub leads : LeadsTo (IsFocusedStep c F budget) s final
  pub last : IsFocusedStep c F budget final (ends o)
  pub decided : final.decisions ≡ count

-- a search goes from the state s on to its last conflict
pub record Reaches (c : Constants) (F : Formula) (last : ℕ) (s : FocusedState) (new : FocusedSearch) : Type 0 where
  pub final : FocusedState
  pub values : Assignment
  pub leads : LeadsTo (IsFocusedStep c F last) s final
  pub ends_there : IsFocusedStep c F last final (ends (exhausted (splits_on F (state_of new values))))
  pub saves : HasSaved new values
  pub decided : final.decisions ≡ new.decided
  pub stable : final.stable_conflicts + if_stable final ≡ stable_at new
  pub resumes : StepsAs c F final (state_of new values)

-- it stops so
abbrev pub Stops : Constants → Formula → ℕ → FocusedState → Stop → FocusedSearch → Type 0
Stops c F last s (Ended o) new = RunsTo c F last s (outcome_of o) new.decided × IsOwn o
Stops c F last s Spent new = Reaches c F last s new

-- the search of the formula's cube Q begins
pub record Begins (F : Formula) (c : Constants) (Q : List Literal) (s : FocusedSearch) : Type 0 where
  pub ready : IsReady ByPlace F s.kernel
  pub focusing : IsFocusing s
  pub units : HasUnits s
  pub constants : s.constants ≡ c
  pub counted : s.conflicts ≡ 0
  pub saves : HasSaved s (map (λ v. true) (variables F.vars))
  pub begun : state_of s (map (λ v. true) (variables F.vars)) ≡ definition.begin c F Q

-- propagation refutes the cube that was begun
pub record IsRefutedAtOnce (s : FocusedSearch) (o : Outcome) : Type 0 where
  pub number : ℕ
  pub trail : Trail
  pub propagates : Propagates by_place s.kernel.clauses s.kernel.trail (conflict number) trail
  pub refutes : s.lines ≡ [] → let u = units_of s.kernel.clauses trail in o ≡ refuted (u.lines ++ learn u.clauses u.trail number ∷ [])

-- or it comes to rest
pub record ComesToRest (old new : FocusedSearch) : Type 0 where
  pub propagates : Propagates by_place old.kernel.clauses old.kernel.trail quiet new.kernel.trail
  pub clauses : new.kernel.clauses ≡ old.kernel.clauses
  pub vars : new.kernel.vars ≡ old.kernel.vars
  pub focusing : IsFocusing new
