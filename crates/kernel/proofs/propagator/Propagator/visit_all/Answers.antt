use Rattle.std.proofs.Common.{◌≡◌, ◌<◌, ◌≤◌, ◌∙◌, ◌+◌, ◌∷◌, [], ◌++◌, true, ℕ, List, length, get_or, take, set, sym, ap, refl, subst, arith, Some, None}
use Rattle.std.proofs.lemmas.List.{length-set, set-set, get_or-set_same}
use Rattle.theory.specs.Trails.{literals}
use Rattle.kernel.specs.declared.watches.watch.Watch.{Watch}
use Rattle.cnf.specs.Lits.{code}
use Rattle.kernel.specs.Watching.{IsNext, IsServed, Walks, Tends, AllGood, At, without_nth}
use Rattle.kernel.specs.EntryLists.{EntryList, entries_of, nth_list}
use Rattle.trail.specs.Tables.{IsTruth, value_of}
use Rattle.theory.specs.Literals.{has, negated}
use Rattle.kernel.specs.Visiting.{WatchLists, AreEntries, kept_of, tending, with_list, IsVisit, satisfied}
use Rattle.kernel.specs.Placing.{kept_with}
use Rattle.kernel.proofs.TrailFacts.{distinct-consistent}
use Rattle.kernel.proofs.Walking.{Walks-start, Walks-end}
use Rattle.kernel.proofs.Visits.{over-of, stay-same}
use Rattle.kernel.proofs.Turns.{thinned, thinned-ends, can-visit, stays-walk, turn-stays, turn-stays-entries, turn-moves, turn-moves-entries, kept-one, written-behind, gone-one, gone-places, gone-was, written-again, read-at, code-inside, gone-inside, room-of, all-visited}
use Rattle.kernel.proofs.InPlace.{list-now, written, same-beside, same-kept-beside, shorter, shorter-kept, as-it-stands, as-kept}
use Rattle.kernel.proofs.propagator.Propagator.visit_all.Goals.{then-is_satisfied, else-is_satisfied+in_ok-blocker+in-Some, else-is_satisfied+in_ok-blocker+in_default}
use Rattle.kernel.proofs.propagator.Propagator.visit_all.Goals as goal

pub open_list-list-requires : goal.open_list-list-requires
open_list-list-requires c = gone-inside c.args.self.now.lists c.args.trail.now.vars c.args.gone c.args.trail.now.entries c.requires.served.1 c.requires.lists c.requires.ordered.over c.requires.served.2

pub loop-place-init : goal.loop-place-init
loop-place-init c =
    let p = c.args.self.now in
    let o = c.open_list-list.ensures in
    let room = (nth_list p.lists (code c.args.gone)).room in
    let same : with_list (kept_with p c.args.line.now) c.args.gone (take c.open_list-list.result.len room) ≡ kept_with p c.args.line.now =
    ap (λ n. with_list (kept_with p c.args.line.now) c.args.gone (take n room)) o.len ∙ as-it-stands p c.args.line.now c.args.gone in
    let alike : with_list (kept_of p) c.args.gone (take c.open_list-list.result.len room) ≡ kept_of p = ap (λ n. with_list (kept_of p) c.args.gone (take n room)) o.len ∙ as-kept p c.args.gone in
    record {
      walks = λ floor n next served. subst (λ (k : WatchLists). Walks floor c.args.self.now.clauses.given c.args.trail.now.entries n c.args.gone (tending k) 0) (sym same)
          (Walks-start floor c.args.self.now.clauses.given c.args.trail.now.entries n c.args.gone (tending (kept_with p c.args.line.now)) served);
      entries = subst (λ (k : WatchLists). AreEntries c.args.self.now.clauses.given k) (sym alike) c.requires.entries;
      few = omega arith;
      inside = o.within;
      begins = o.from;
      clauses = refl;
      lists = refl;
      line = λ o places h. h;
      units = refl;
    }

pub entry-entry-requires-clause-at : goal.entry-entry-requires-clause-at
entry-entry-requires-clause-at c =
    let i = c.loop-place.invariant in
    let inside = gone-inside c.loop-place.self.lists c.args.trail.now.vars c.args.gone c.args.trail.now.entries c.requires.served.1 (i.lists ∙ c.requires.lists) c.requires.ordered.over c.requires.served.2 in
    rw c.open_list-list.ensures.at inside

pub status-status-requires-clause-over : goal.status-status-requires-clause-over
status-status-requires-clause-over c =
    let i = c.loop-place.invariant in
    let room = (nth_list c.loop-place.self.lists (code c.args.gone)).room in
    let len = c.open_list-list.result.len in
    let e = c.watch-watch.result in
    let ws = thinned room c.loop-place.kept c.loop-place.place len in
    let low : c.loop-place.place < len = omega arith in
    let read : e ≡ get_or room c.loop-place.place e = rw c.watch-watch.ensures.same (c.entry-entry.ensures ∙ ap (λ n. get_or (nth_list c.loop-place.self.lists n).room c.loop-place.place c.entry-entry.result) c.open_list-list.ensures.at) in
    let at : At ws c.loop-place.kept e = read-at room c.loop-place.kept c.loop-place.place len e i.few low i.inside read in
    let inside = code-inside entries_of c.loop-place.self.lists c.args.trail.now.vars c.args.gone c.args.trail.now.entries c.requires.served.1 (i.lists ∙ c.requires.lists) c.requires.ordered.over c.requires.served.2 in
    let can = can-visit c.requires.served.0 c.args.self.now.clauses.given c.args.trail.now.entries c.requires.served.1 c.args.gone (kept_with c.loop-place.self c.loop-place.line) ws c.loop-place.kept e inside
    c.requires.served.2 (i.walks c.requires.served.0 c.requires.served.1 c.requires.served.2 c.requires.served.3) i.entries at in
    over-of _ _ _ _ _ can c.args.trail.now.vars e.blocker c.requires.over can.entry.blocker_in

pub visit-requires-clause-table : goal.visit-requires-clause-table
visit-requires-clause-table c = record {
  ordered = c.requires.ordered;
  long = c.truths-table.ensures.long;
  truth = c.truths-table.ensures.truth;
}

pub status-status-requires-clause-table : goal.status-status-requires-clause-table
status-status-requires-clause-table c = record {
  ordered = c.requires.ordered;
  long = c.truths-table.ensures.long;
  truth = c.truths-table.ensures.truth;
}

pub visit-requires-clause-status : goal.visit-requires-clause-status
visit-requires-clause-status c = (c.status-status.ensures, c.is_satisfied.ensures.no c.if-is_satisfied.false)

pub visit-requires-clause-visit : goal.visit-requires-clause-visit
visit-requires-clause-visit c =
    let i = c.loop-place.invariant in
    let k = c.keep_entry.ensures in
    let at_list = c.open_list-list.ensures.at in
    let P = c.loop-place.self in
    let N = c.keep_entry.new.self in
    let room = (nth_list P.lists (code c.args.gone)).room in
    let len = c.open_list-list.result.len in
    let e = c.watch-watch.result in
    let ws = thinned room c.loop-place.kept c.loop-place.place len in
    let low : c.loop-place.place < len = omega arith in
    let read : e ≡ get_or room c.loop-place.place e = rw c.watch-watch.ensures.same (c.entry-entry.ensures ∙ ap (λ n. get_or (nth_list P.lists n).room c.loop-place.place c.entry-entry.result) at_list) in
    let at : At ws c.loop-place.kept e = read-at room c.loop-place.kept c.loop-place.place len e i.few low i.inside read in
    let clauses-now : N.clauses.given ≡ c.args.self.now.clauses.given = ap (λ s. s.given) k.kept.0 ∙ i.clauses in
    let long-now : length N.lists ≡ length c.args.self.now.lists = ap length k.lists ∙ length-set P.lists c.open_list-list.result.at _ ∙ i.lists in
    let inside = code-inside entries_of N.lists c.args.trail.now.vars c.args.gone c.args.trail.now.entries c.requires.served.1 (long-now ∙ c.requires.lists) c.requires.ordered.over c.requires.served.2 in
    let walks-now : (floor n : ℕ) → IsNext c.args.trail.now.entries n c.args.gone → IsServed floor c.args.self.now.clauses.given c.args.trail.now.entries n (tending (kept_with c.args.self.now c.args.line.now))
    → Walks floor c.args.self.now.clauses.given c.args.trail.now.entries n c.args.gone (tending (with_list (kept_with N c.loop-place.line) c.args.gone ws)) c.loop-place.kept =
    λ floor n next served. subst (λ (s : WatchLists). Walks floor c.args.self.now.clauses.given c.args.trail.now.entries n c.args.gone (tending s) c.loop-place.kept)
    (sym (same-beside P N c.args.gone c.open_list-list.result.at _ k.lists at_list k.kept c.loop-place.line ws)) (i.walks floor n next served) in
    let entries-now : AreEntries c.args.self.now.clauses.given (with_list (kept_of N) c.args.gone ws) =
    subst (λ (s : WatchLists). AreEntries c.args.self.now.clauses.given s) (sym (same-kept-beside P N c.args.gone c.open_list-list.result.at _ k.lists at_list k.kept ws)) i.entries in
    let can = can-visit c.requires.served.0 c.args.self.now.clauses.given c.args.trail.now.entries c.requires.served.1 c.args.gone (kept_with N c.loop-place.line) ws c.loop-place.kept e inside
    c.requires.served.2 (walks-now c.requires.served.0 c.requires.served.1 c.requires.served.2 c.requires.served.3) entries-now at in
    rw clauses-now can

pub loop-place-preserved : goal.loop-place-preserved
loop-place-preserved c =
    let i = c.loop-place.invariant in
    let k = c.keep_entry.ensures in
    let at_list = c.open_list-list.ensures.at in
    let P = c.loop-place.self in
    let N = c.keep_entry.new.self in
    let room = (nth_list P.lists (code c.args.gone)).room in
    let len = c.open_list-list.result.len in
    let e = c.watch-watch.result in
    let ws = thinned room c.loop-place.kept c.loop-place.place len in
    let low : c.loop-place.place < len = omega arith in
    let read : e ≡ get_or room c.loop-place.place e = rw c.watch-watch.ensures.same (c.entry-entry.ensures ∙ ap (λ n. get_or (nth_list P.lists n).room c.loop-place.place c.entry-entry.result) at_list) in
    let at : At ws c.loop-place.kept e = read-at room c.loop-place.kept c.loop-place.place len e i.few low i.inside read in
    let clauses-now : N.clauses.given ≡ c.args.self.now.clauses.given = ap (λ s. s.given) k.kept.0 ∙ i.clauses in
    let long-now : length N.lists ≡ length c.args.self.now.lists = ap length k.lists ∙ length-set P.lists c.open_list-list.result.at _ ∙ i.lists in
    let inside = code-inside entries_of N.lists c.args.trail.now.vars c.args.gone c.args.trail.now.entries c.requires.served.1 (long-now ∙ c.requires.lists) c.requires.ordered.over c.requires.served.2 in
    let walks-now : (floor n : ℕ) → IsNext c.args.trail.now.entries n c.args.gone → IsServed floor c.args.self.now.clauses.given c.args.trail.now.entries n (tending (kept_with c.args.self.now c.args.line.now))
    → Walks floor c.args.self.now.clauses.given c.args.trail.now.entries n c.args.gone (tending (with_list (kept_with N c.loop-place.line) c.args.gone ws)) c.loop-place.kept =
    λ floor n next served. subst (λ (s : WatchLists). Walks floor c.args.self.now.clauses.given c.args.trail.now.entries n c.args.gone (tending s) c.loop-place.kept)
    (sym (same-beside P N c.args.gone c.open_list-list.result.at _ k.lists at_list k.kept c.loop-place.line ws)) (i.walks floor n next served) in
    let entries-now : AreEntries c.args.self.now.clauses.given (with_list (kept_of N) c.args.gone ws) =
    subst (λ (s : WatchLists). AreEntries c.args.self.now.clauses.given s) (sym (same-kept-beside P N c.args.gone c.open_list-list.result.at _ k.lists at_list k.kept ws)) i.entries in
    let can = can-visit c.requires.served.0 c.args.self.now.clauses.given c.args.trail.now.entries c.requires.served.1 c.args.gone (kept_with N c.loop-place.line) ws c.loop-place.kept e inside
    c.requires.served.2 (walks-now c.requires.served.0 c.requires.served.1 c.requires.served.2 c.requires.served.3) entries-now at in
    let there = gone-inside P.lists c.args.trail.now.vars c.args.gone c.args.trail.now.entries c.requires.served.1 (i.lists ∙ c.requires.lists) c.requires.ordered.over c.requires.served.2 in
    let now : nth_list N.lists (code c.args.gone) ≡ record (nth_list P.lists (code c.args.gone)) { room = set room c.loop-place.kept e } =
    written P.lists N.lists c.open_list-list.result.at (code c.args.gone) c.loop-place.kept e c.entry-entry.result at_list there k.lists c.watch-watch.ensures.same in
    elim c.if-is_satisfied.branch [
      | then-is_satisfied w ↦
          let L = c.loop-place.line in
          let says : IsTruth (literals c.args.trail.now.entries) e.blocker (value_of c.status-status.result) = c.status-status.ensures in
          let true_one : has (literals c.args.trail.now.entries) e.blocker ≡ true = rw (c.is_satisfied.ensures.yes w.if-is_satisfied.true) at says in
          let new-room : (nth_list N.lists (code c.args.gone)).room ≡ set room c.loop-place.kept e = ap (λ (l : EntryList). l.room) now in
          let new : thinned (nth_list N.lists (code c.args.gone)).room (c.loop-place.kept + 1) (c.loop-place.place + 1) len ≡ ws =
          ap (λ (r : List Watch). thinned r (c.loop-place.kept + 1) (c.loop-place.place + 1) len) new-room ∙ kept-one room c.loop-place.kept c.loop-place.place len e i.few low i.inside ∙ written-again ws c.loop-place.kept e at in
          rw (w.self-is, w.line-is, w.kept-is) (record {
            walks = λ floor n next served.
                subst (λ (vs : List Watch). Walks floor c.args.self.now.clauses.given c.args.trail.now.entries n c.args.gone (tending (with_list (kept_with N L) c.args.gone vs)) (c.loop-place.kept + 1)) (sym new)
                (stays-walk floor c.args.self.now.clauses.given c.args.trail.now.entries n c.args.gone (kept_with N L) ws c.loop-place.kept e inside next
                (walks-now floor n next served) entries-now at (kept_with N L) e.blocker (satisfied (stay-same _ _ _ _ _ can) true_one refl));
            entries = subst (λ (vs : List Watch). AreEntries c.args.self.now.clauses.given (with_list (kept_of N) c.args.gone vs)) (sym new) entries-now;
            few = let f = i.few in omega (arith, f);
            inside = let a = i.inside in let x = ap length new-room in let y = length-set room c.loop-place.kept e in omega (arith, a, x, y);
            begins = i.begins ∙ sym (ap (λ (l : EntryList). l.from) now);
            clauses = clauses-now;
            lists = long-now;
            line = i.line;
            units = c.keep_entry.ensures.kept.1 ∙ i.units;
          })
      | else-is_satisfied+in_ok-blocker+in-Some w ↦
          let V = w.visit.new.self in
          let Q = w.put_blocker.new.self in
          let L = w.visit.new.line in
          let b = w.in-Some.blocker in
          let visit : IsVisit c.args.self.now.clauses.given (literals c.args.trail.now.entries) c.args.gone e (kept_with N c.loop-place.line) (kept_with V L) (Some b) =
          rw (← clauses-now, ← w.in-Some.is) w.in_ok-blocker.ensures.visit in
          let one : nth_list V.lists c.open_list-list.result.at ≡ record (nth_list P.lists (code c.args.gone)) { room = set room c.loop-place.kept e } = ap (λ n. nth_list V.lists n) at_list ∙ w.in_ok-blocker.ensures.list ∙ now in
          let kept_inside : c.loop-place.kept < length room = let f = i.few in let g = i.inside in omega (arith, f, g, low) in
          let there-now : At (set room c.loop-place.kept e) c.loop-place.kept e = (subst (λ n. c.loop-place.kept < n) (sym (length-set room c.loop-place.kept e)) kept_inside, get_or-set_same room c.loop-place.kept e e kept_inside) in
          let wrote = w.put_blocker.ensures.lists e (subst (λ (l : EntryList). At l.room c.loop-place.kept e) (sym one) there-now) in
          let kept = w.put_blocker.ensures.kept in
          let long : length V.lists ≡ length c.args.self.now.lists = w.in_ok-blocker.ensures.kept.1 ∙ long-now in
          let there = gone-inside V.lists c.args.trail.now.vars c.args.gone c.args.trail.now.entries c.requires.served.1 (long ∙ c.requires.lists) c.requires.ordered.over c.requires.served.2 in
          let last : nth_list Q.lists (code c.args.gone) ≡ record (nth_list P.lists (code c.args.gone)) { room = set (set room c.loop-place.kept e) c.loop-place.kept (record e { blocker = b }) } =
          ap (λ n. nth_list Q.lists n) (sym at_list) ∙ list-now V.lists Q.lists c.open_list-list.result.at _ (subst (λ n. n < length V.lists) (sym at_list) there) wrote
          ∙ ap (λ (l : EntryList). record l { room = set l.room c.loop-place.kept (record e { blocker = b }) }) one in
          let new-room : (nth_list Q.lists (code c.args.gone)).room ≡ set room c.loop-place.kept (record e { blocker = b }) =
          ap (λ (l : EntryList). l.room) last ∙ set-set room c.loop-place.kept e (record e { blocker = b }) in
          let new : thinned (nth_list Q.lists (code c.args.gone)).room (c.loop-place.kept + 1) (c.loop-place.place + 1) len ≡ set ws c.loop-place.kept (record e { blocker = b }) =
          ap (λ (r : List Watch). thinned r (c.loop-place.kept + 1) (c.loop-place.place + 1) len) new-room ∙ kept-one room c.loop-place.kept c.loop-place.place len (record e { blocker = b }) i.few low i.inside in
          rw (w.self-is, w.line-is, w.kept-is) (record {
            walks = λ floor n next served.
                subst (λ (k : WatchLists). Walks floor c.args.self.now.clauses.given c.args.trail.now.entries n c.args.gone (tending k) (c.loop-place.kept + 1)) (sym (same-beside V Q c.args.gone c.open_list-list.result.at _ wrote at_list kept L (thinned (nth_list Q.lists (code c.args.gone)).room (c.loop-place.kept + 1) (c.loop-place.place + 1) len)))
                (subst (λ (vs : List Watch). Walks floor c.args.self.now.clauses.given c.args.trail.now.entries n c.args.gone (tending (with_list (kept_with V L) c.args.gone vs)) (c.loop-place.kept + 1)) (sym new)
                (turn-stays floor c.args.self.now.clauses.given c.args.trail.now.entries n c.args.gone (kept_with N c.loop-place.line) ws c.loop-place.kept e inside next
                (walks-now floor n next served) entries-now at (kept_with V L) b visit));
            entries =
                subst (λ (k : WatchLists). AreEntries c.args.self.now.clauses.given k) (sym (same-kept-beside V Q c.args.gone c.open_list-list.result.at _ wrote at_list kept (thinned (nth_list Q.lists (code c.args.gone)).room (c.loop-place.kept + 1) (c.loop-place.place + 1) len)))
                (subst (λ (vs : List Watch). AreEntries c.args.self.now.clauses.given (with_list (kept_of V) c.args.gone vs)) (sym new)
                (turn-stays-entries c.requires.served.0 c.args.self.now.clauses.given c.args.trail.now.entries c.requires.served.1 c.args.gone (kept_with N c.loop-place.line) ws c.loop-place.kept e inside
                c.requires.served.2 (walks-now c.requires.served.0 c.requires.served.1 c.requires.served.2 c.requires.served.3) entries-now at (kept_with V L) b visit));
            few = let f = i.few in omega (arith, f);
            inside = let a = i.inside in let x = ap length new-room in let z = length-set room c.loop-place.kept (record e { blocker = b }) in omega (arith, a, x, z);
            begins = i.begins ∙ sym (ap (λ (l : EntryList). l.from) last);
            clauses = ap (λ k. k.given) kept.0 ∙ w.in_ok-blocker.ensures.kept.0 ∙ clauses-now;
            lists = ap length wrote ∙ length-set V.lists c.open_list-list.result.at _ ∙ long;
            line = λ o places h. rw (← clauses-now) (w.in_ok-blocker.ensures.line o places (rw (clauses-now) (i.line o places h)));
            units = kept.1 ∙ w.in_ok-blocker.ensures.kept.2 ∙ c.keep_entry.ensures.kept.1 ∙ i.units;
          })
      | else-is_satisfied+in_ok-blocker+in_default w ↦
          let V = w.visit.new.self in
          let L = w.visit.new.line in
          let visit : IsVisit c.args.self.now.clauses.given (literals c.args.trail.now.entries) c.args.gone e (kept_with N c.loop-place.line) (kept_with V L) None = rw (← clauses-now, ← w.in_default.is) w.in_ok-blocker.ensures.visit in
          let one : nth_list V.lists (code c.args.gone) ≡ record (nth_list P.lists (code c.args.gone)) { room = set room c.loop-place.kept e } = w.in_ok-blocker.ensures.list ∙ now in
          let ok = distinct-consistent (literals c.args.trail.now.entries) c.requires.ordered.distinct in
          let room_of = room-of entries_of N.lists c.args.trail.now.vars c.args.self.now.clauses.given e.clause (long-now ∙ c.requires.lists) c.requires.over can.within in
          let new : thinned (nth_list V.lists (code c.args.gone)).room c.loop-place.kept (c.loop-place.place + 1) len ≡ without_nth ws c.loop-place.kept =
          ap (λ (l : EntryList). thinned l.room c.loop-place.kept (c.loop-place.place + 1) len) one
          ∙ written-behind room c.loop-place.kept (c.loop-place.place + 1) len e (let f = i.few in omega (arith, f)) (let f = i.few in omega (arith, f, low))
          ∙ gone-one room c.loop-place.kept c.loop-place.place len e i.few low i.inside in
          let was = λ (p : ℕ) (x : Watch) (a : At (without_nth ws c.loop-place.kept) p x). gone-was ws c.loop-place.kept p x at.0 a in
          let gone = gone-places ws c.loop-place.kept in
          rw (w.self-is, w.line-is, w.kept-is) (record {
            walks = λ floor n next served.
                subst (λ (vs : List Watch). Walks floor c.args.self.now.clauses.given c.args.trail.now.entries n c.args.gone (tending (with_list (kept_with V L) c.args.gone vs)) c.loop-place.kept) (sym new)
                (turn-moves floor c.args.self.now.clauses.given c.args.trail.now.entries n c.args.gone (kept_with N c.loop-place.line) ws c.loop-place.kept e inside next
                (walks-now floor n next served) entries-now at (kept_with V L) (without_nth ws c.loop-place.kept) ok room_of was gone visit);
            entries =
                subst (λ (vs : List Watch). AreEntries c.args.self.now.clauses.given (with_list (kept_of V) c.args.gone vs)) (sym new)
                (turn-moves-entries c.requires.served.0 c.args.self.now.clauses.given c.args.trail.now.entries c.requires.served.1 c.args.gone (kept_with N c.loop-place.line) ws c.loop-place.kept e inside
                c.requires.served.2 (walks-now c.requires.served.0 c.requires.served.1 c.requires.served.2 c.requires.served.3) entries-now at (kept_with V L) (without_nth ws c.loop-place.kept) ok room_of was gone visit);
            few = let f = i.few in omega (arith, f);
            inside = let a = i.inside in let x = ap (λ (l : EntryList). length l.room) one in let z = length-set room c.loop-place.kept e in omega (arith, a, x, z);
            begins = i.begins ∙ sym (ap (λ (l : EntryList). l.from) one);
            clauses = w.in_ok-blocker.ensures.kept.0 ∙ clauses-now;
            lists = w.in_ok-blocker.ensures.kept.1 ∙ long-now;
            line = λ o places h. rw (← clauses-now) (w.in_ok-blocker.ensures.line o places (rw (clauses-now) (i.line o places h)));
            units = w.in_ok-blocker.ensures.kept.2 ∙ c.keep_entry.ensures.kept.1 ∙ i.units;
          })
    ]

pub shorten-requires-clause-at : goal.shorten-requires-clause-at
shorten-requires-clause-at c =
    let i = c.loop-place.invariant in
    rw c.open_list-list.ensures.at (gone-inside c.loop-place.self.lists c.args.trail.now.vars c.args.gone c.args.trail.now.entries c.requires.served.1 (i.lists ∙ c.requires.lists) c.requires.ordered.over c.requires.served.2)

pub returns-clause-served : goal.returns-clause-served
returns-clause-served c floor n next served =
    let i = c.loop-place.invariant in
    let room = (nth_list c.loop-place.self.lists (code c.args.gone)).room in
    let len = c.open_list-list.result.len in
    let all : c.loop-place.place ≡ len = omega arith in
    let inside = code-inside entries_of c.loop-place.self.lists c.args.trail.now.vars c.args.gone c.args.trail.now.entries n (i.lists ∙ c.requires.lists) c.requires.ordered.over next in
    let front : thinned room c.loop-place.kept c.loop-place.place len ≡ take c.loop-place.kept room = ap (λ p. thinned room c.loop-place.kept p len) all ∙ thinned-ends room c.loop-place.kept len i.inside in
    let w : Walks floor c.args.self.now.clauses.given c.args.trail.now.entries n c.args.gone (tending (with_list (kept_with c.loop-place.self c.loop-place.line) c.args.gone (take c.loop-place.kept room))) c.loop-place.kept =
    subst (λ (vs : List Watch). Walks floor c.args.self.now.clauses.given c.args.trail.now.entries n c.args.gone (tending (with_list (kept_with c.loop-place.self c.loop-place.line) c.args.gone vs)) c.loop-place.kept) front (i.walks floor n next served) in
    let few : c.loop-place.kept ≤ length room = let f = i.few in let g = i.inside in omega (arith, f, g, all) in
    let same : kept_with c.shorten.new.self c.loop-place.line ≡ with_list (kept_with c.loop-place.self c.loop-place.line) c.args.gone (take c.loop-place.kept room) =
    shorter c.loop-place.self c.shorten.new.self c.args.gone c.open_list-list.result.at _ c.shorten.ensures.lists c.open_list-list.ensures.at c.shorten.ensures.kept c.loop-place.line
    ∙ ap (λ m. with_list (kept_with c.loop-place.self c.loop-place.line) c.args.gone (take c.loop-place.kept (nth_list c.loop-place.self.lists m).room)) c.open_list-list.ensures.at in
    subst (λ (k : WatchLists). Tends floor c.args.self.now.clauses.given c.args.trail.now.entries (tending k) × AllGood c.args.self.now.clauses.given (literals (take n c.args.trail.now.entries) ++ negated c.args.gone ∷ []) (literals c.args.trail.now.entries) (tending k)) (sym same) (
      w.tends,
      Walks-end floor c.args.self.now.clauses.given c.args.trail.now.entries n c.args.gone (tending (with_list (kept_with c.loop-place.self c.loop-place.line) c.args.gone (take c.loop-place.kept room))) c.loop-place.kept
          (all-visited (kept_with c.loop-place.self c.loop-place.line) c.args.gone room c.loop-place.kept c.loop-place.kept inside few (omega arith)) w,
    )

pub returns-clause-entries : goal.returns-clause-entries
returns-clause-entries c =
    let i = c.loop-place.invariant in
    let room = (nth_list c.loop-place.self.lists (code c.args.gone)).room in
    let len = c.open_list-list.result.len in
    let all : c.loop-place.place ≡ len = omega arith in
    let front : thinned room c.loop-place.kept c.loop-place.place len ≡ take c.loop-place.kept room = ap (λ p. thinned room c.loop-place.kept p len) all ∙ thinned-ends room c.loop-place.kept len i.inside in
    let same : kept_of c.shorten.new.self ≡ with_list (kept_of c.loop-place.self) c.args.gone (take c.loop-place.kept room) =
    shorter-kept c.loop-place.self c.shorten.new.self c.args.gone c.open_list-list.result.at _ c.shorten.ensures.lists c.open_list-list.ensures.at c.shorten.ensures.kept
    ∙ ap (λ m. with_list (kept_of c.loop-place.self) c.args.gone (take c.loop-place.kept (nth_list c.loop-place.self.lists m).room)) c.open_list-list.ensures.at in
    subst (λ (k : WatchLists). AreEntries c.args.self.now.clauses.given k) (sym same)
    (subst (λ (vs : List Watch). AreEntries c.args.self.now.clauses.given (with_list (kept_of c.loop-place.self) c.args.gone vs)) front i.entries)
