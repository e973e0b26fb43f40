-- A conflict that the focused search learns from: what its parts did, one after the other, and what
-- the search is behind them.
use Rattle.std.proofs.Common.{◌≡◌, ℕ, ◌+◌, ◌≤◌, Bool, true, false, List, [], ◌∷◌, ◌++◌, refl, ap, sym, ◌∙◌, All, Some, if◌then◌else◌}
use Rattle.theory.specs.Literals.{Clause}
use Rattle.theory.specs.Truth.{IsOver}
use Rattle.theory.specs.Plans.{Constants}
use Rattle.theory.specs.Trails.{literals, current_level, up_to}
use Rattle.theory.specs.Propagation.{least_false}
use Rattle.theory.specs.Lawful.{IsLawful}
use Rattle.theory.specs.Learning.{Line, back_level}
use Rattle.theory.specs.Lessons.{lesson_of}
use Rattle.theory.specs.Modes.{Pace, pace_after}
use Rattle.theory.specs.Scores.{is_seen}
use Rattle.theory.specs.Forgetting.{Mark, fresh_mark, with_used, unused, forget}
use Rattle.theory.specs.Rephasing.{Turn, is_over, next_turn, rephased}
use Rattle.theory.specs.Focused.{saved_after}
use Rattle.heuristics.specs.Averages.{with_next}
use Rattle.kernel.specs.State.{State}
use Rattle.cdcl.specs.declared.search.focused.FocusedSearch.{FocusedSearch}
use Rattle.cdcl.specs.declared.analysis.analyze.Analysis.{Analysis}
use Rattle.cdcl.specs.Forgetful.{late_numbers}
use Rattle.cdcl.specs.Learnt.{line_of}
use Rattle.cdcl.specs.Numbers.{is_one_of}
use Rattle.cdcl.specs.Removing.{HasRoomFor}
use Rattle.cdcl.specs.Saving.{AgreeOutside, AreWaiting, AreKept}
use Rattle.cdcl.specs.Focusing.{IsTaught, Weighs, EndsRound, stable_at}

-- the round ends or goes on
abbrev pub EndsIf : Bool → FocusedSearch → List ℕ → FocusedSearch → Type 0
EndsIf true b ns e = EndsRound b ns e
EndsIf false b ns e = (ns ≡ []) × (e ≡ b)

pub ends-if : (o : Bool) (b : FocusedSearch) (ns : List ℕ) (e : FocusedSearch) → (o ≡ true → EndsRound b ns e) → (o ≡ false → (ns ≡ []) × (e ≡ b)) → EndsIf o b ns e
ends-if true b ns e ends goes_on = ends refl
ends-if false b ns e ends goes_on = goes_on refl

-- what the parts of the step did, one after the other: marks were used, the conflict was weighed,
-- the search went back, and a round may have ended
pub record IsLearning (s : FocusedSearch) (n : ℕ) (t : FocusedSearch) : Type 0 where
  pub clause : Clause
  pub hints : List ℕ
  pub forgets : List ℕ
  pub level : ℕ
  pub g : ℕ
  pub restarts : Bool
  pub marked : FocusedSearch
  pub weighed : FocusedSearch
  pub back : FocusedSearch
  pub ended : FocusedSearch
  pub taught : IsTaught s.kernel n clause level
  pub line : record { clause = clause; hints = hints; forgets = [] } ≡ (lesson_of s.kernel.clauses s.kernel.trail n).line
  pub glue_is : g ≡ (lesson_of s.kernel.clauses s.kernel.trail n).glue
  pub few : g ≤ s.kernel.vars
  pub sees : (v : ℕ) → is_one_of marked.analysis.seen.numbers v ≡ is_seen s.kernel.clauses s.kernel.trail (lesson_of s.kernel.clauses s.kernel.trail n).seen v
  pub used : marked.marks.items ≡ with_used (lesson_of s.kernel.clauses s.kernel.trail n).resolved (s.kernel.first + 1) s.marks.items
  pub bounds : (marked.analysis.seen.bound ≡ s.analysis.seen.bound) × (marked.analysis.levels.bound ≡ s.analysis.levels.bound)
  pub room : HasRoomFor s.kernel.vars marked.analysis.removing
  pub same_marked : marked ≡ record s { analysis = marked.analysis; marks = marked.marks }
  pub weighs : Weighs marked g restarts weighed
  pub went_back : back.kernel ≡ record s.kernel { clauses = s.kernel.clauses ++ clause ∷ []; trail = up_to s.kernel.trail (if restarts then 0 else level) }
  pub waiting : AreWaiting s.kernel.vars (literals (up_to s.kernel.trail (if restarts then 0 else level))) back.decisions
  pub saves : AgreeOutside s.kernel.vars (literals (up_to s.kernel.trail (if restarts then 0 else level))) back.decisions.saved (saved_after s.kernel.vars s.kernel.trail weighed.decisions.saved)
  pub kept : AreKept weighed.decisions back.decisions
  pub same_back : back ≡ record weighed { kernel = back.kernel; decisions = back.decisions }
  pub ends : is_over back.round back.conflicts ≡ true → EndsRound back forgets ended
  pub goes_on : is_over back.round back.conflicts ≡ false → (forgets ≡ []) × (ended ≡ back)
  pub lines : t.lines ≡ ended.lines ++ record { clause = clause; hints = hints; forgets = forgets } ∷ []
  pub marks : t.marks.items ≡ ended.marks.items ++ fresh_mark g ∷ []
  pub same : t ≡ record ended { lines = t.lines; marks = t.marks }
  pub lawful : IsLawful t.kernel.clauses t.kernel.trail
  pub over : IsOver t.kernel.vars (literals t.kernel.trail)
  pub clauses_over : All (IsOver t.kernel.vars) t.kernel.clauses

-- what a round's end leaves, or no end
module _ (b : FocusedSearch) (ns : List ℕ) (e : FocusedSearch) where
  ended-forgets : (o : Bool) (K : List Clause) (c : Clause) → EndsIf o b ns e → b.kernel.clauses ≡ K ++ c ∷ [] → ns ≡ (if o then late_numbers b.constants b.kernel.trail b.marks.items K else [])
  ended-forgets true K c h parts = h.late K c parts
  ended-forgets false K c h parts = h.0

  ended-kernel : (o : Bool) (K : List Clause) (c : Clause) → EndsIf o b ns e → b.kernel.clauses ≡ K ++ c ∷ []
      → e.kernel ≡ record b.kernel { clauses = (if o then forget (late_numbers b.constants b.kernel.trail b.marks.items K) 1 K else K) ++ c ∷ [] }
  ended-kernel true K c h parts = h.kernel K c parts
  ended-kernel false K c h parts = ap (λ (s : FocusedSearch). s.kernel) h.1 ∙ ap (λ (L : List Clause). record b.kernel { clauses = L }) parts

  ended-marks : (o : Bool) → EndsIf o b ns e → e.marks.items ≡ (if o then unused b.marks.items else b.marks.items)
  ended-marks true h = h.marks
  ended-marks false h = ap (λ (s : FocusedSearch). s.marks.items) h.1

  ended-scores : (o : Bool) → EndsIf o b ns e → e.decisions.scores ≡ b.decisions.scores
  ended-scores true h = h.scores
  ended-scores false h = ap (λ (s : FocusedSearch). s.decisions.scores) h.1

  ended-saved : (o : Bool) → EndsIf o b ns e → e.decisions.saved ≡ (if o then rephased b.round.number b.decisions.saved else b.decisions.saved)
  ended-saved true h = h.saved
  ended-saved false h = ap (λ (s : FocusedSearch). s.decisions.saved) h.1

  ended-held : (o : Bool) → EndsIf o b ns e → e.decisions.held ≡ b.decisions.held
  ended-held true h = h.held
  ended-held false h = ap (λ (s : FocusedSearch). s.decisions.held) h.1

  ended-round : (o : Bool) → EndsIf o b ns e → e.round ≡ (if o then next_turn b.constants b.conflicts b.round else b.round)
  ended-round true h = h.round
  ended-round false h = ap (λ (s : FocusedSearch). s.round) h.1

  ended-pace : (o : Bool) → EndsIf o b ns e → e.pace ≡ (if o then pace_after b.conflicts b.pace else b.pace)
  ended-pace true h = h.pace
  ended-pace false h = ap (λ (s : FocusedSearch). s.pace) h.1

  ended-same : (o : Bool) → EndsIf o b ns e → e ≡ record b { kernel = e.kernel; marks = e.marks; decisions = e.decisions; round = e.round; pace = e.pace }
  ended-same true h = h.same
  ended-same false h = h.1 ∙ ap (λ (s : FocusedSearch). record b { kernel = s.kernel; marks = s.marks; decisions = s.decisions; round = s.round; pace = s.pace }) (sym h.1)

-- what the search is behind them
pub record IsNext (s : FocusedSearch) (n : ℕ) (t : FocusedSearch) (l : IsLearning s n t) : Type 0 where
  pub kernel : t.kernel ≡ record s.kernel {
    clauses = (if is_over s.round (s.conflicts + 1) then forget (late_numbers s.constants (up_to s.kernel.trail (if l.restarts then 0 else l.level)) l.marked.marks.items s.kernel.clauses) 1 s.kernel.clauses
        else s.kernel.clauses) ++ l.clause ∷ [];
    trail = up_to s.kernel.trail (if l.restarts then 0 else l.level);
  }
  pub conflicts : t.conflicts ≡ s.conflicts + 1
  pub stable : t.stable_conflicts ≡ stable_at s
  pub decided : t.decided ≡ s.decided
  pub forgets : l.forgets ≡ (if is_over s.round (s.conflicts + 1) then late_numbers s.constants (up_to s.kernel.trail (if l.restarts then 0 else l.level)) l.marked.marks.items s.kernel.clauses else [])
  pub lines : t.lines ≡ s.lines ++ record { clause = l.clause; hints = l.hints; forgets = l.forgets } ∷ []
  pub marks : t.marks.items ≡ (if is_over s.round (s.conflicts + 1) then unused l.marked.marks.items else l.marked.marks.items) ++ fresh_mark l.g ∷ []
  pub scores : t.decisions.scores ≡ l.back.decisions.scores
  pub saved : t.decisions.saved ≡ (if is_over s.round (s.conflicts + 1) then rephased s.round.number l.back.decisions.saved else l.back.decisions.saved)
  pub held : t.decisions.held ≡ s.decisions.held
  pub averages : t.averages ≡ with_next s.averages s.pace.mode l.g
  pub restarted : t.restarted ≡ (if l.restarts then s.conflicts + 1 else s.restarted)
  pub pace : t.pace ≡ (if is_over s.round (s.conflicts + 1) then pace_after (s.conflicts + 1) s.pace else s.pace)
  pub round : t.round ≡ (if is_over s.round (s.conflicts + 1) then next_turn s.constants (s.conflicts + 1) s.round else s.round)
  pub constants : t.constants ≡ s.constants
  pub analysis : t.analysis ≡ l.marked.analysis

module _ (s : FocusedSearch) (n : ℕ) (t : FocusedSearch) (l : IsLearning s n t) where
  -- of the search where it went back
  weighed-of : {X : Type 0} (f : FocusedSearch → X) → f l.weighed ≡ f (record l.marked {
    decisions = l.weighed.decisions;
    conflicts = l.weighed.conflicts;
    stable_conflicts = l.weighed.stable_conflicts;
    averages = l.weighed.averages;
    restarted = l.weighed.restarted;
  })
  weighed-of f = ap f l.weighs.same

  pub marked-of : {X : Type 0} (f : FocusedSearch → X) → f l.marked ≡ f (record s { analysis = l.marked.analysis; marks = l.marked.marks })
  marked-of f = ap f l.same_marked

  back-of : {X : Type 0} (f : FocusedSearch → X) → f l.back ≡ f (record l.weighed { kernel = l.back.kernel; decisions = l.back.decisions })
  back-of f = ap f l.same_back

  conflicts-back : l.back.conflicts ≡ s.conflicts + 1
  conflicts-back = back-of (λ x. x.conflicts) ∙ (l.weighs.conflicts ∙ marked-of (λ x. x.conflicts + 1))

  round-back : l.back.round ≡ s.round
  round-back = back-of (λ x. x.round) ∙ (weighed-of (λ x. x.round) ∙ marked-of (λ x. x.round))

  pace-back : l.back.pace ≡ s.pace
  pace-back = back-of (λ x. x.pace) ∙ (weighed-of (λ x. x.pace) ∙ marked-of (λ x. x.pace))

  constants-back : l.back.constants ≡ s.constants
  constants-back = back-of (λ x. x.constants) ∙ (weighed-of (λ x. x.constants) ∙ marked-of (λ x. x.constants))

  marks-back : l.back.marks ≡ l.marked.marks
  marks-back = back-of (λ x. x.marks) ∙ weighed-of (λ x. x.marks)

  -- of the search where a round may have ended
  over-is : is_over l.back.round l.back.conflicts ≡ is_over s.round (s.conflicts + 1)
  over-is = ap (λ (r : Turn). is_over r l.back.conflicts) round-back ∙ ap (is_over s.round) conflicts-back

  ends : EndsIf (is_over s.round (s.conflicts + 1)) l.back l.forgets l.ended
  ends = ends-if (is_over s.round (s.conflicts + 1)) l.back l.forgets l.ended (λ o. l.ends (over-is ∙ o)) (λ o. l.goes_on (over-is ∙ o))

  ended-of : {X : Type 0} (f : FocusedSearch → X) → f l.ended ≡ f (record l.back { kernel = l.ended.kernel; marks = l.ended.marks; decisions = l.ended.decisions; round = l.ended.round; pace = l.ended.pace })
  ended-of f = ap f (ended-same l.back l.forgets l.ended (is_over s.round (s.conflicts + 1)) ends)

  last-of : {X : Type 0} (f : FocusedSearch → X) → f t ≡ f (record l.ended { lines = t.lines; marks = t.marks })
  last-of f = ap f l.same

  over : Bool
  over = is_over s.round (s.conflicts + 1)

  -- what a round's end forgets
  late-back : late_numbers l.back.constants l.back.kernel.trail l.back.marks.items s.kernel.clauses
      ≡ late_numbers s.constants (up_to s.kernel.trail (if l.restarts then 0 else l.level)) l.marked.marks.items s.kernel.clauses
  late-back =
      let K = s.kernel.clauses in
      ap (λ (c : Constants). late_numbers c l.back.kernel.trail l.back.marks.items K) constants-back
      ∙ (ap (λ (m : List Mark). late_numbers s.constants l.back.kernel.trail m K) (ap (λ x. x.items) marks-back)
      ∙ ap (λ (k : State). late_numbers s.constants k.trail l.marked.marks.items K) l.went_back)

  kernel-next : t.kernel ≡ record s.kernel {
    clauses = (if is_over s.round (s.conflicts + 1) then forget (late_numbers s.constants (up_to s.kernel.trail (if l.restarts then 0 else l.level)) l.marked.marks.items s.kernel.clauses) 1 s.kernel.clauses
        else s.kernel.clauses) ++ l.clause ∷ [];
    trail = up_to s.kernel.trail (if l.restarts then 0 else l.level);
  }
  kernel-next =
      let o = is_over s.round (s.conflicts + 1) in
      let K = s.kernel.clauses in
      last-of (λ x. x.kernel)
      ∙ (ended-kernel l.back l.forgets l.ended o K l.clause ends (ap (λ (k : State). k.clauses) l.went_back)
      ∙ (ap (λ ns. record l.back.kernel { clauses = (if o then forget ns 1 K else K) ++ l.clause ∷ [] }) late-back
      ∙ ap (λ (k : State). record k { clauses = (if o then forget (late_numbers s.constants (up_to s.kernel.trail (if l.restarts then 0 else l.level)) l.marked.marks.items K) 1 K else K) ++ l.clause ∷ [] }) l.went_back))

  pub is-next : IsNext s n t l
  is-next =
      let o = is_over s.round (s.conflicts + 1) in record {
        kernel = kernel-next;
        conflicts = last-of (λ x. x.conflicts) ∙ (ended-of (λ x. x.conflicts) ∙ conflicts-back);
        stable = last-of (λ x. x.stable_conflicts) ∙ (ended-of (λ x. x.stable_conflicts) ∙ (back-of (λ x. x.stable_conflicts) ∙ (l.weighs.stable ∙ marked-of stable_at)));
        decided = last-of (λ x. x.decided) ∙ (ended-of (λ x. x.decided) ∙ (back-of (λ x. x.decided) ∙ (weighed-of (λ x. x.decided) ∙ marked-of (λ x. x.decided))));
        forgets = ended-forgets l.back l.forgets l.ended o s.kernel.clauses l.clause ends (ap (λ (k : State). k.clauses) l.went_back) ∙ ap (λ ns. if o then ns else []) late-back;
        lines = l.lines
            ∙ ap (λ ls. ls ++ record { clause = l.clause; hints = l.hints; forgets = l.forgets } ∷ []) (ended-of (λ x. x.lines) ∙ (back-of (λ x. x.lines) ∙ (weighed-of (λ x. x.lines) ∙ marked-of (λ x. x.lines))));
        marks = l.marks ∙ ap (λ (ms : List Mark). ms ++ fresh_mark l.g ∷ []) (ended-marks l.back l.forgets l.ended o ends ∙ ap (λ m. if o then unused m else m) (ap (λ x. x.items) marks-back));
        scores = last-of (λ x. x.decisions.scores) ∙ ended-scores l.back l.forgets l.ended o ends;
        saved = last-of (λ x. x.decisions.saved) ∙ (ended-saved l.back l.forgets l.ended o ends ∙ ap (λ (r : Turn). if o then rephased r.number l.back.decisions.saved else l.back.decisions.saved) round-back);
        held = last-of (λ x. x.decisions.held) ∙ (ended-held l.back l.forgets l.ended o ends ∙ (l.kept.held ∙ (l.weighs.held ∙ marked-of (λ x. x.decisions.held))));
        averages = last-of (λ x. x.averages)
            ∙ (ended-of (λ x. x.averages) ∙ (back-of (λ x. x.averages) ∙ (l.weighs.averages ∙ marked-of (λ x. with_next x.averages x.pace.mode l.g))));
        restarted = last-of (λ x. x.restarted)
            ∙ (ended-of (λ x. x.restarted) ∙ (back-of (λ x. x.restarted) ∙ (l.weighs.restarted ∙ marked-of (λ x. if l.restarts then x.conflicts + 1 else x.restarted))));
        pace = last-of (λ x. x.pace)
            ∙ (ended-pace l.back l.forgets l.ended o ends ∙ (ap (λ (p : Pace). if o then pace_after l.back.conflicts p else p) pace-back ∙ ap (λ k. if o then pace_after k s.pace else s.pace) conflicts-back));
        round = last-of (λ x. x.round)
            ∙ (ended-round l.back l.forgets l.ended o ends ∙ (ap (λ (c : Constants). if o then next_turn c l.back.conflicts l.back.round else l.back.round) constants-back
            ∙ (ap (λ k. if o then next_turn s.constants k l.back.round else l.back.round) conflicts-back ∙ ap (λ (r : Turn). if o then next_turn s.constants (s.conflicts + 1) r else r) round-back)));
        constants = last-of (λ x. x.constants) ∙ (ended-of (λ x. x.constants) ∙ constants-back);
        analysis = last-of (λ x. x.analysis) ∙ (ended-of (λ x. x.analysis) ∙ (back-of (λ x. x.analysis) ∙ weighed-of (λ x. x.analysis)));
      }

-- what was learnt stays the same behind the conflict's weighing, and behind the round's end
pub analysis-weighed : (s m w : FocusedSearch) (a : Analysis) (g : ℕ) (restarts : Bool) → m ≡ record s { analysis = a; marks = m.marks } → Weighs m g restarts w → w.analysis ≡ a
analysis-weighed s m w a g restarts e h = ap (λ (x : FocusedSearch). x.analysis) h.same ∙ ap (λ (x : FocusedSearch). x.analysis) e

pub kernel-weighed : (s m w : FocusedSearch) (a : Analysis) (g : ℕ) (restarts : Bool) → m ≡ record s { analysis = a; marks = m.marks } → Weighs m g restarts w → w.kernel ≡ s.kernel
kernel-weighed s m w a g restarts e h = ap (λ (x : FocusedSearch). x.kernel) h.same ∙ ap (λ (x : FocusedSearch). x.kernel) e

pub analysis-ended : (b : FocusedSearch) (ns : List ℕ) (e : FocusedSearch) (o : Bool) → EndsIf o b ns e → e.analysis ≡ b.analysis
analysis-ended b ns e o h = ap (λ (x : FocusedSearch). x.analysis) (ended-same b ns e o h)

-- the conflict teaches what was learnt
pub taught-weighed : (s m w : FocusedSearch) (a : Analysis) (n g : ℕ) (restarts : Bool) → least_false (literals s.kernel.trail) s.kernel.clauses ≡ Some n → 1 ≤ current_level s.kernel.trail
    → line_of a.learnt ≡ (lesson_of s.kernel.clauses s.kernel.trail n).line → a.learnt.level ≡ back_level s.kernel.trail (lesson_of s.kernel.clauses s.kernel.trail n).line.clause
    → m ≡ record s { analysis = a; marks = m.marks } → Weighs m g restarts w → IsTaught s.kernel n w.analysis.learnt.clause.items w.analysis.learnt.level
taught-weighed s m w a n g restarts clash above line level e h =
    let is = analysis-weighed s m w a g restarts e h in record {
      conflict = clash;
      above = above;
      learnt = ap (λ (x : Analysis). x.learnt.clause.items) is ∙ ap (λ (x : Line). x.clause) line;
      back = ap (λ (x : Analysis). x.learnt.level) is ∙ level;
    }
