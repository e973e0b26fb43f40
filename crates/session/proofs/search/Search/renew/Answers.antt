use Rattle.std.proofs.Common.{◌≡◌, ◌∙◌, List, [], length, take, false, ap, subst, arith}
use Rattle.std.proofs.Math.Seq.{take-length}
use Rattle.theory.specs.Literals.{Clause}
use Rattle.theory.specs.Truth.{Formula}
use Rattle.theory.specs.Trails.{literals, cube_trail}
use Rattle.theory.proofs.trails.TrailLists.{literals-cube}
use Rattle.kernel.specs.State.{State}
use Rattle.kernel.specs.declared.order.Order.TheVariants.{ByPlace}
use Rattle.session.specs.declared.search.Search.{Search}
use Rattle.session.specs.Loading.{IsPut, IsPutBehind}
use Rattle.session.proofs.LoadedLemmas.{IsLoaded-renewed}
use Rattle.session.proofs.search.Search.renew.Goals as goal

pub returns-clause-loaded : goal.returns-clause-loaded
returns-clause-loaded c =
    let s = c.args.self.now in
    let K = c.args.formula.now.clauses in
    let C = s.kernel.clauses in
    let room = c.room_for-room.result in
    let D = c.put_learnt.new.clauses in
    let k = c.restart.new.self in
    let restarted : k ≡ record s.kernel { first = length C; clauses = C; trail = cube_trail s.facts } =
    c.in_ok-restart.ensures.ok
    ∙ (ap (λ (l : State). record l { clauses = take l.first l.clauses; trail = cube_trail s.facts }) c.in_ok-keep_learnt.ensures.kept
    ∙ ap (λ (x : List Clause). record s.kernel { first = length C; clauses = x; trail = cube_trail s.facts }) (take-length C)) in
    let vars : D.vars ≡ room = c.put_learnt.ensures.vars ∙ (c.put_added.ensures.vars ∙ ap (λ (f : Formula). f.vars) c.without_clauses-clauses.ensures) in
    IsLoaded-renewed K c.put_added.new.clauses.clauses D.clauses s _ room c.requires
    (subst (λ P. IsPut K c.put_added.new.clauses.clauses (length K) P) (ap (λ (l : State). literals l.trail) restarted ∙ literals-cube s.facts) c.in_ok-put_added.ensures.put)
    (subst (λ (x : List Clause). IsPutBehind x c.put_added.new.clauses.clauses D.clauses) (ap (λ (l : State). l.clauses) restarted) c.in_ok-put_learnt.ensures.put)
    (c.in_ok-self.ensures ∙ ap (λ v. record { vars = v; order = ByPlace; first = length D.clauses; clauses = D.clauses; trail = []; out_of_memory = false }) vars) (ap (λ (x : Search). x.facts) c.make_room.ensures.same)
    c.in_ok-make_room.ensures.lessons c.in_ok-make_room.ensures.choice c.in_ok-make_room.ensures.marked (let more = c.room_for-room.ensures.more in let same = c.vars.ensures in omega (arith, more, same)) c.room_for-room.ensures.few
