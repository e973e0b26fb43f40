use Rattle.std.proofs.Common.{◌≡◌, ◌∙◌, ◌<◌, ℕ, List, take, length, sym, ap, subst}
use Rattle.std.proofs.lemmas.List.{length-map}
use Rattle.theory.specs.Literals.{Clause}
use Rattle.kernel.specs.EntryLists.{entries_of}
use Rattle.cnf.specs.Lits.{code}
use Rattle.kernel.specs.Visiting.{kept_of}
use Rattle.kernel.specs.Cutting.{AreKeptBelow}
use Rattle.kernel.proofs.Restarting.{learnt-codes, cut-watching}
use Rattle.kernel.proofs.propagator.Propagator.cut.Goals as goal

pub lists_from-requires-clause-lists : goal.lists_from-requires-clause-lists
lists_from-requires-clause-lists c n w low a =
    let (V, T, at, floor, s) = c.requires.watching in
    let lists = c.args.self.now.lists in
    let long = length-map lists entries_of in
    let r = learnt-codes V c.requires.over.0 c.args.first at floor c.args.self.now.clauses.given T (kept_of c.args.self.now) c.args.singles.now c.args.empty c.requires.over.1 (long ∙ c.requires.over.2) s n w low a in
    (subst (λ m. code w.first < m) long r.0, subst (λ m. code w.second < m) long r.1)

pub returns-clause-watching : goal.returns-clause-watching
returns-clause-watching c V at floor T s =
    let e = c.in_ok-wait.ensures in
    let d = c.drop_from.ensures in
    let first = c.args.first in
    let old = kept_of c.args.self.now in
    let new = kept_of c.wait.new.self in
    let clauses : c.wait.new.self.clauses.given ≡ take first c.args.self.now.clauses.given = e.kept.0 ∙ (c.truncate.ensures.given ∙ ap (λ (ks : List Clause). take first ks) d.kept.0) in
    let dropped : AreKeptBelow first c.in_ok-codes.codes.items old.lists new.lists = subst (λ (ns : List ℕ). AreKeptBelow first ns old.lists new.lists) c.deref.ensures.value (rw e.kept.2 d.lists) in
    let pairs : new.pairs ≡ take first old.pairs = e.kept.1 ∙ (c.truncate.ensures.pairs ∙ ap (λ v. take first v) d.kept.1) in
    let long : length new.lists ≡ length old.lists = length-map c.wait.new.self.lists entries_of ∙ (ap (λ v. length v) e.kept.2 ∙ (d.long ∙ sym (length-map c.args.self.now.lists entries_of))) in
    rw clauses (cut-watching V first at floor c.args.self.now.clauses.given T old new c.args.singles.now c.in_ok-codes.codes.items c.args.empty s c.requires.inside c.in_ok-codes.ensures.codes dropped pairs long e.units e.kept.3)
