use Rattle.std.proofs.Common.{◌++◌, List, ℕ, refl, ap}
use Rattle.kernel.specs.Placing.{clauses_of, kept_with}
use Rattle.kernel.proofs.Placed.{lengthened, joined}
use Rattle.kernel.proofs.Visits.{over-var, clause-over, code-within, gone-in}
use Rattle.theory.specs.Trails.{literals}
use Rattle.cnf.specs.Lits.{code}
use Rattle.kernel.proofs.WatchVisits.{apart-codes, clause, pair, clause-at, pair-at, sees-satisfied, sees-last, sees-moved, last-seen}
use Rattle.kernel.proofs.propagator.Propagator.visit_clause.Goals as goal

pub visit_clause-requires-clause-watched : goal.visit_clause-requires-clause-watched
visit_clause-requires-clause-watched c w at =
    let v = c.requires.visit in
    (v.pair (clause _ _ _ _ _ v c.requires.long) w (clause-at _ _ _ _ _ v c.requires.long) at).1

pub list-requires-clause-lit : goal.list-requires-clause-lit
list-requires-clause-lit c =
    let v = c.requires.visit in
    let long = c.requires.long in
    let d = clause _ _ _ _ _ v long in
    let at = clause-at _ _ _ _ _ v long in
    let seen = c.in-Moved.ensures.seen d (pair _ _ _ _ _ v long) at (pair-at _ _ _ _ _ v long) in
    code-within c.in-Moved.watched.second c.args.truths.trail.now.vars _
    (over-var c.args.truths.trail.now.vars d c.in-Moved.watched.second (clause-over _ _ _ _ _ v c.args.truths.trail.now.vars d c.requires.over at) seen.2.1.member)
    c.requires.lists

pub returns-in-Satisfied-clause-visit : goal.returns-in-Satisfied-clause-visit
returns-in-Satisfied-clause-visit c =
    let v = c.requires.visit in
    let long = c.requires.long in
    let seen = c.in-Satisfied.ensures.seen (clause _ _ _ _ _ v long) (pair _ _ _ _ _ v long) (clause-at _ _ _ _ _ v long) (pair-at _ _ _ _ _ v long) in
    sees-satisfied _ _ _ _ _ v long c.in-Satisfied.other (record (kept_with c.args.self.now c.args.line.now) { pairs = c.visit_clause.new.self.pairs }) seen.0 seen.2 seen.1 refl refl refl

pub returns-in_ok-list-in-Moved-clause-visit : goal.returns-in_ok-list-in-Moved-clause-visit
returns-in_ok-list-in-Moved-clause-visit c =
    let v = c.requires.visit in
    let long = c.requires.long in
    let seen = c.in-Moved.ensures.seen (clause _ _ _ _ _ v long) (pair _ _ _ _ _ v long) (clause-at _ _ _ _ _ v long) (pair-at _ _ _ _ _ v long) in
    let e = c.in_ok-list-in-Moved.ensures in
    sees-moved _ _ _ _ _ v long c.in-Moved.watched (kept_with c.list.new.self c.args.line.now) seen.0 seen.2 (rw e.kept.1 seen.1) e.lists (ap (λ (us : List ℕ). clauses_of c.args.line.now ++ us) e.kept.2) e.kept.3

pub returns-in_ok-note-in-Last-clause-visit : goal.returns-in_ok-note-in-Last-clause-visit
returns-in_ok-note-in-Last-clause-visit c =
    let v = c.requires.visit in
    let long = c.requires.long in
    let seen = c.in-Last.ensures.seen (clause _ _ _ _ _ v long) (pair _ _ _ _ _ v long) (clause-at _ _ _ _ _ v long) (pair-at _ _ _ _ _ v long) in
    let e = c.in_ok-note-in-Last.ensures in
    sees-last _ _ _ _ _ v long c.in-Last.other c.in-Last.status (kept_with c.note.new.self c.note.new.line) seen.0 seen.2 (λ f n. (lengthened _ _ _ _ _ e.kept.3 (e.unit f n).0, (e.unit f n).1)) (λ m f n. (joined _ _ _ _ (ap clauses_of (e.spared m f n).0) e.kept.3, (e.spared m f n).1)) (λ b f. (joined _ _ _ _ (e.clashes b f).0 e.kept.3, (e.clashes b f).1)) (rw e.kept.1 seen.1) (rw e.kept.2 refl)

pub returns-in_ok-note-in-Last-clause-line : goal.returns-in_ok-note-in-Last-clause-line
returns-in_ok-note-in-Last-clause-line c o places h =
    let v = c.requires.visit in
    let long = c.requires.long in
    let seen = c.in-Last.ensures.seen (clause _ _ _ _ _ v long) (pair _ _ _ _ _ v long) (clause-at _ _ _ _ _ v long) (pair-at _ _ _ _ _ v long) in
    (rw c.visit_clause.ensures.given at c.in_ok-note-in-Last.ensures.line) o (λ d a. (places d (gone-in _ _ _ _ _ v d a), last-seen _ _ _ _ _ v long c.in-Last.other c.in-Last.status seen.0 seen.2 d a)) h

pub returns-in_err-list-in-Moved-clause-list : goal.returns-in_err-list-in-Moved-clause-list
returns-in_err-list-in-Moved-clause-list c =
    let v = c.requires.visit in
    let long = c.requires.long in
    let seen = c.in-Moved.ensures.seen (clause _ _ _ _ _ v long) (pair _ _ _ _ _ v long) (clause-at _ _ _ _ _ v long) (pair-at _ _ _ _ _ v long) in
    c.list.ensures.others (code c.args.gone) (apart-codes (literals c.args.truths.trail.now.entries) c.args.gone c.in-Moved.watched.second v.gone seen.2.1.not_false)

pub returns-in_ok-list-in-Moved-clause-list : goal.returns-in_ok-list-in-Moved-clause-list
returns-in_ok-list-in-Moved-clause-list c =
    let v = c.requires.visit in
    let long = c.requires.long in
    let seen = c.in-Moved.ensures.seen (clause _ _ _ _ _ v long) (pair _ _ _ _ _ v long) (clause-at _ _ _ _ _ v long) (pair-at _ _ _ _ _ v long) in
    c.list.ensures.others (code c.args.gone) (apart-codes (literals c.args.truths.trail.now.entries) c.args.gone c.in-Moved.watched.second v.gone seen.2.1.not_false)
