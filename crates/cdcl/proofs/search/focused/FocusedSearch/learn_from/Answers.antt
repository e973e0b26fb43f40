use Rattle.std.proofs.Common.{◌≡◌, ◌∙◌, ◌+◌, ◌++◌, ◌∷◌, [], ℕ, List, length, ap, sym, subst, refl, if◌then◌else◌}
use Rattle.theory.specs.Trails.{literals, up_to}
use Rattle.theory.specs.Forgetting.{Mark, with_used}
use Rattle.theory.specs.Rephasing.{is_over}
use Rattle.theory.specs.Focused.{saved_after}
use Rattle.kernel.specs.State.{State}
use Rattle.cdcl.specs.declared.search.focused.FocusedSearch.{FocusedSearch}
use Rattle.cdcl.specs.declared.analysis.analyze.Analysis.{Analysis}
use Rattle.cdcl.specs.Saving.{AgreeOutside, AreWaiting}
use Rattle.cdcl.specs.Focusing.{IsTaught}
use Rattle.cdcl.specs.Removing.{HasRoomFor}
use Rattle.cdcl.proofs.LearntSearches.{same-marked, CanWeigh-marked, AreWaiting-weighed, CanForget-back, Learns-from, next-continues}
use Rattle.cdcl.proofs.LearntStates.{IsLearning, ends-if, analysis-weighed, kernel-weighed, analysis-ended, taught-weighed}
use Rattle.cdcl.proofs.UsedMarks.{length-with_used}
use Rattle.cdcl.proofs.search.focused.FocusedSearch.learn_from.Goals as goal
use Rattle.cdcl.proofs.search.focused.FocusedSearch.learn_from.Goals.{After-drop-forgets-2}

pub update_heuristics-requires : goal.update_heuristics-requires
update_heuristics-requires c =
    let s = c.args.self.now in
    let m = c.mark_resolved.new.self in
    let a : m.analysis ≡ c.lesson.new.self = ap (λ (x : FocusedSearch). x.analysis) c.mark_resolved.ensures.same in
    CanWeigh-marked s m c.args.number c.in_ok-glue.glue c.requires.focusing c.requires.counted (same-marked s m c.lesson.new.self c.mark_resolved.ensures.same) c.in_ok-glue.ensures.few
    (rw a c.in_ok-glue.ensures.seen)

pub go_back-requires-clause-waiting : goal.go_back-requires-clause-waiting
go_back-requires-clause-waiting c =
    let s = c.args.self.now in
    let m = c.mark_resolved.new.self in
    AreWaiting-weighed s m c.update_heuristics.new.self c.in_ok-glue.glue c.in_ok-restarts.restarts c.requires.focusing (same-marked s m c.lesson.new.self c.mark_resolved.ensures.same) c.in_ok-restarts.ensures

pub go_back-requires-clause-taught : goal.go_back-requires-clause-taught
go_back-requires-clause-taught c =
    let s = c.args.self.now in
    let m = c.mark_resolved.new.self in
    let w = c.update_heuristics.new.self in
    let kernel = kernel-weighed s m w c.lesson.new.self c.in_ok-glue.glue c.in_ok-restarts.restarts c.mark_resolved.ensures.same c.in_ok-restarts.ensures in (
      c.args.number,
      subst (λ (k : State). IsTaught k c.args.number w.analysis.learnt.clause.items w.analysis.learnt.level) (sym kernel)
          (taught-weighed s m w c.lesson.new.self c.args.number c.in_ok-glue.glue c.in_ok-restarts.restarts c.requires.conflict c.requires.level c.in_ok-glue.ensures.line c.in_ok-glue.ensures.level
          c.mark_resolved.ensures.same c.in_ok-restarts.ensures),
    )

pub end_round_where_over-requires-clause-learnt : goal.end_round_where_over-requires-clause-learnt
end_round_where_over-requires-clause-learnt c =
    let s = c.args.self.now in
    let m = c.mark_resolved.new.self in
    let w = c.update_heuristics.new.self in
    let kernel = kernel-weighed s m w c.lesson.new.self c.in_ok-glue.glue c.in_ok-restarts.restarts c.mark_resolved.ensures.same c.in_ok-restarts.ensures in
    let marks : length w.marks.items ≡ length s.marks.items =
    ap (λ (x : FocusedSearch). length x.marks.items) c.in_ok-restarts.ensures.same ∙ (ap (λ (ms : List Mark). length ms) c.mark_resolved.ensures.marks ∙ length-with_used _ (s.kernel.first + 1) s.marks.items) in
    CanForget-back s c.args.number w.analysis.learnt.clause.items w.analysis.learnt.level (length w.marks.items) c.in_ok-restarts.restarts c.go_back.new.kernel c.requires.focusing
    (taught-weighed s m w c.lesson.new.self c.args.number c.in_ok-glue.glue c.in_ok-restarts.restarts c.requires.conflict c.requires.level c.in_ok-glue.ensures.line c.in_ok-glue.ensures.level
    c.mark_resolved.ensures.same c.in_ok-restarts.ensures) marks
    (subst (λ (k : State). c.go_back.new.kernel
    ≡ record k { clauses = k.clauses ++ w.analysis.learnt.clause.items ∷ []; trail = up_to k.trail (if c.in_ok-restarts.restarts then 0 else w.analysis.learnt.level) }) kernel c.in_ok-last.ensures.kernel)

-- all that the calls did
learning : (c : After-drop-forgets-2) → IsLearning c.args.self.now c.args.number (record {
  constants = c.end_round_where_over.new.self.constants;
  kernel = c.end_round_where_over.new.self.kernel;
  conflicts = c.end_round_where_over.new.self.conflicts;
  stable_conflicts = c.end_round_where_over.new.self.stable_conflicts;
  decided = c.end_round_where_over.new.self.decided;
  lines = c.push.new.self;
  marks = c.push-2.new.self;
  decisions = c.end_round_where_over.new.self.decisions;
  averages = c.end_round_where_over.new.self.averages;
  restarted = c.end_round_where_over.new.self.restarted;
  pace = c.end_round_where_over.new.self.pace;
  round = c.end_round_where_over.new.self.round;
  analysis = c.end_round_where_over.new.self.analysis;
  unit_hints = c.end_round_where_over.new.self.unit_hints;
  tally = c.end_round_where_over.new.self.tally;
})
learning c =
    let s = c.args.self.now in
    let n = c.args.number in
    let m = c.mark_resolved.new.self in
    let w = c.update_heuristics.new.self in
    let a = c.lesson.new.self in
    let g = c.in_ok-glue.glue in
    let r = c.in_ok-restarts.restarts in
    let b : FocusedSearch = record w { kernel = c.go_back.new.kernel; decisions = c.go_back.new.decisions } in
    let e = c.end_round_where_over.new.self in
    let kernel = kernel-weighed s m w a g r c.mark_resolved.ensures.same c.in_ok-restarts.ensures in
    let marked : m.analysis ≡ a = ap (λ (x : FocusedSearch). x.analysis) c.mark_resolved.ensures.same in
    let weighed = analysis-weighed s m w a g r c.mark_resolved.ensures.same c.in_ok-restarts.ensures in
    let ns = c.in_ok-forgets.forgets.items in
    let ends = ends-if (is_over b.round b.conflicts) b ns e c.in_ok-forgets.ensures.ends c.in_ok-forgets.ensures.goes_on in
    let ended : e.analysis ≡ w.analysis = analysis-ended b ns e (is_over b.round b.conflicts) ends in
    record {
      clause = w.analysis.learnt.clause.items;
      hints = w.analysis.learnt.hints.items;
      forgets = ns;
      level = w.analysis.learnt.level;
      g = g;
      restarts = r;
      marked = m;
      weighed = w;
      back = b;
      ended = e;
      taught = taught-weighed s m w a n g r c.requires.conflict c.requires.level c.in_ok-glue.ensures.line c.in_ok-glue.ensures.level c.mark_resolved.ensures.same c.in_ok-restarts.ensures;
      line = ap (λ (x : Analysis). record { clause = x.learnt.clause.items; hints = x.learnt.hints.items; forgets = [] }) weighed ∙ c.in_ok-glue.ensures.line;
      glue_is = c.in_ok-glue.ensures.glue;
      few = c.in_ok-glue.ensures.few;
      sees = rw marked c.in_ok-glue.ensures.seen;
      used = c.mark_resolved.ensures.marks ∙ ap (λ (ns : List ℕ). with_used ns (s.kernel.first + 1) s.marks.items) c.in_ok-glue.ensures.resolved.1;
      bounds = (ap (λ (x : Analysis). x.seen.bound) marked ∙ c.in_ok-glue.ensures.bounds.0, ap (λ (x : Analysis). x.levels.bound) marked ∙ c.in_ok-glue.ensures.bounds.1);
      room = subst (λ (x : Analysis). HasRoomFor c.args.self.now.kernel.vars x.removing) (sym marked) c.in_ok-glue.ensures.removing;
      same_marked = same-marked s m a c.mark_resolved.ensures.same;
      weighs = c.in_ok-restarts.ensures;
      went_back = subst (λ (k : State). c.go_back.new.kernel
          ≡ record k { clauses = k.clauses ++ w.analysis.learnt.clause.items ∷ []; trail = up_to k.trail (if r then 0 else w.analysis.learnt.level) }) kernel c.in_ok-last.ensures.kernel;
      waiting = subst (λ (k : State). AreWaiting k.vars (literals (up_to k.trail (if r then 0 else w.analysis.learnt.level))) c.go_back.new.decisions) kernel c.in_ok-last.ensures.waiting;
      saves = subst (λ (k : State). AgreeOutside k.vars (literals (up_to k.trail (if r then 0 else w.analysis.learnt.level))) c.go_back.new.decisions.saved (saved_after k.vars k.trail w.decisions.saved))
          kernel c.in_ok-last.ensures.saved;
      kept = c.in_ok-last.ensures.kept;
      same_back = refl;
      ends = c.in_ok-forgets.ensures.ends;
      goes_on = c.in_ok-forgets.ensures.goes_on;
      lines = c.in_ok-push.ensures.ok ∙ ap (λ (x : Analysis). e.lines ++ record { clause = x.learnt.clause.items; hints = x.learnt.hints.items; forgets = ns } ∷ []) ended;
      marks = c.in_ok-push-2.ensures.items ∙ ap (λ (x : Mark). e.marks.items ++ x ∷ []) c.fresh.ensures;
      same = refl;
      lawful = c.trail-trail.ensures.lawful;
      over = c.trail-trail.ensures.over;
      clauses_over = c.trail-trail.ensures.clauses_over;
    }

pub returns-clause-next : goal.returns-clause-next
returns-clause-next c = Learns-from c.args.self.now c.args.number _ c.requires.focusing (learning c)

pub returns-clause-kept : goal.returns-clause-kept
returns-clause-kept c = next-continues c.args.self.now c.args.number _ c.requires.focusing (learning c)
