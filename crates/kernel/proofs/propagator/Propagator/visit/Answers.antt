use Rattle.std.proofs.Common.{refl, ap}
use Rattle.trail.specs.Tables.{value_of}
use Rattle.kernel.specs.Visiting.{behind}
use Rattle.kernel.specs.Placing.{clauses_of, kept_with}
use Rattle.kernel.proofs.Placed.{lengthened, joined}
use Rattle.kernel.proofs.Visits.{stay-same, short-last, short-in, gone-in, noted}
use Rattle.kernel.proofs.propagator.Propagator.visit.Goals as goal

pub returns-then-is_behind-clause-visit : goal.returns-then-is_behind-clause-visit
returns-then-is_behind-clause-visit c =
    let least = c.is_behind.ensures.yes c.if-is_behind.true in
    behind (stay-same _ _ _ _ _ c.requires.visit) least.1 least.2 refl

pub returns-then-watch-clause-visit : goal.returns-then-watch-clause-visit
returns-then-watch-clause-visit c =
    let kept = c.in_ok-note.ensures.kept in
    noted _ _ _ _ _ c.requires.visit (kept_with c.note.new.self c.note.new.line) c.args.watch.blocker (value_of c.args.status) (stay-same _ _ _ _ _ c.requires.visit)
    (short-last _ _ _ _ _ c.requires.visit c.if-watch.true) c.requires.status.0 c.requires.status.1
    (λ f n. (lengthened _ _ _ _ _ kept.3 (c.in_ok-note.ensures.unit f n).0, (c.in_ok-note.ensures.unit f n).1))
    (λ m f n. (joined _ _ _ _ (ap clauses_of (c.in_ok-note.ensures.spared m f n).0) kept.3, (c.in_ok-note.ensures.spared m f n).1)) (λ b f. (joined _ _ _ _ (c.in_ok-note.ensures.clashes b f).0 kept.3, (c.in_ok-note.ensures.clashes b f).1)) (rw kept.1 refl) (rw kept.2 refl)

pub returns-then-watch-clause-line : goal.returns-then-watch-clause-line
returns-then-watch-clause-line c o places h =
    c.in_ok-note.ensures.line o (λ d a. (places d (gone-in _ _ _ _ _ c.requires.visit d a), short-in _ _ _ _ _ c.requires.visit c.if-watch.true d a)) h
