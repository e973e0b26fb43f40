use Rattle.std.proofs.Common.{◌≡◌, ◌∙◌, sym, refl, ap, subst, length, ◌++◌, ◌∷◌, []}
use Rattle.std.proofs.lemmas.List.{length-map}
use Rattle.theory.specs.Literals.{Clause}
use Rattle.kernel.specs.EntryLists.{entries_of}
use Rattle.kernel.specs.Visiting.{kept_of}
use Rattle.kernel.specs.Attaching.{IsWatching}
use Rattle.kernel.proofs.Visits.{code-within, over-var}
use Rattle.kernel.proofs.Beginning.{begun-pair, begun-single, begun-empty}
use Rattle.kernel.proofs.propagator.Propagator.attach_first.Goals as goal

pub attach-requires-clause-first : goal.attach-requires-clause-first
attach-requires-clause-first c = code-within c.in-Some.watched.first c.requires.lists.0 _ (over-var c.requires.lists.0 c.args.clause.now c.in-Some.watched.first c.requires.lists.1 c.in-Some.ensures.pair.first_in) c.requires.lists.2

pub attach-requires-clause-second : goal.attach-requires-clause-second
attach-requires-clause-second c = code-within c.in-Some.watched.second c.requires.lists.0 _ (over-var c.requires.lists.0 c.args.clause.now c.in-Some.watched.second c.requires.lists.1 c.in-Some.ensures.pair.second_in) c.requires.lists.2

pub returns-in_ok-attach_empty-in-None-clause-watching : goal.returns-in_ok-attach_empty-in-None-clause-watching
returns-in_ok-attach_empty-in-None-clause-watching c V over s =
    let e = c.in_ok-attach_empty-in-None.ensures in
    let nil = c.in-None.ensures.none in
    let clauses : c.attach_empty.new.self.clauses.given ≡ c.args.self.now.clauses.given ++ c.args.clause.now ∷ [] = e.clauses ∙ ap (λ (d : Clause). c.args.self.now.clauses.given ++ d ∷ []) (sym nil) in
    rw clauses
    (subst (λ o. IsWatching V (length (c.args.self.now.clauses.given ++ c.args.clause.now ∷ [])) (c.args.self.now.clauses.given ++ c.args.clause.now ∷ []) [] 0 0 (kept_of c.attach_empty.new.self) c.args.singles.now.items o) (sym e.least)
    (begun-empty V c.args.self.now.clauses.given (kept_of c.args.self.now) (kept_of c.attach_empty.new.self) c.args.singles.now.items c.args.self.now.conflict c.args.clause.now e.pairs.0 s nil e.pairs.1 (rw e.kept.1 refl) e.kept.0 refl e.least))

pub returns-in_ok-push-in-Some-2-clause-watching : goal.returns-in_ok-push-in-Some-2-clause-watching
returns-in_ok-push-in-Some-2-clause-watching c V over s =
    let e = c.in_ok-attach-in-Some.ensures in
    let number = c.len-number.ensures.given in
    let long : length (kept_of c.attach.new.self).lists ≡ length (kept_of c.args.self.now).lists = length-map c.attach.new.self.lists entries_of ∙ e.kept.2 ∙ sym (length-map c.args.self.now.lists entries_of) in
    rw (e.clauses, c.in_ok-push-in-Some-2.ensures.items, number)
    (subst (λ o. IsWatching V (length (c.args.self.now.clauses.given ++ c.args.clause.now ∷ [])) (c.args.self.now.clauses.given ++ c.args.clause.now ∷ []) [] 0 0 (record (kept_of c.attach.new.self) { units = c.push.new.self }) (c.args.singles.now.items ++ length c.args.self.now.clauses.given ∷ []) o) (sym e.kept.1)
    (begun-single V c.args.self.now.clauses.given (kept_of c.args.self.now) (record (kept_of c.attach.new.self) { units = c.push.new.self }) c.args.singles.now.items c.args.self.now.conflict c.args.clause.now c.in-Some.watched s c.in-Some.ensures.pair
    (code-within c.in-Some.watched.first V _ (over-var V c.args.clause.now c.in-Some.watched.first over c.in-Some.ensures.pair.first_in) s.lists)
    (code-within c.in-Some.watched.second V _ (over-var V c.args.clause.now c.in-Some.watched.second over c.in-Some.ensures.pair.second_in) s.lists)
    e.pairs e.lists long e.kept.1 (sym c.same.ensures ∙ c.if-same.true) (rw (← number, ← e.kept.0) c.in_ok-push-in-Some.ensures)))

pub returns-else-same-clause-watching : goal.returns-else-same-clause-watching
returns-else-same-clause-watching c V over s =
    let e = c.in_ok-attach-in-Some.ensures in
    let long : length (kept_of c.attach.new.self).lists ≡ length (kept_of c.args.self.now).lists = length-map c.attach.new.self.lists entries_of ∙ e.kept.2 ∙ sym (length-map c.args.self.now.lists entries_of) in
    rw e.clauses
    (subst (λ o. IsWatching V (length (c.args.self.now.clauses.given ++ c.args.clause.now ∷ [])) (c.args.self.now.clauses.given ++ c.args.clause.now ∷ []) [] 0 0 (kept_of c.attach.new.self) c.args.singles.now.items o) (sym e.kept.1)
    (begun-pair V c.args.self.now.clauses.given (kept_of c.args.self.now) (kept_of c.attach.new.self) c.args.singles.now.items c.args.self.now.conflict c.args.clause.now c.in-Some.watched s c.in-Some.ensures.pair
    (code-within c.in-Some.watched.first V _ (over-var V c.args.clause.now c.in-Some.watched.first over c.in-Some.ensures.pair.first_in) s.lists)
    (code-within c.in-Some.watched.second V _ (over-var V c.args.clause.now c.in-Some.watched.second over c.in-Some.ensures.pair.second_in) s.lists)
    e.pairs e.lists long e.kept.1 (sym c.same.ensures ∙ c.if-same.false) e.kept.0))
