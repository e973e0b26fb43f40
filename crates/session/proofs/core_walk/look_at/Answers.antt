use Rattle.std.proofs.Common.{◌≡◌, ◌<◌, ◌≤◌, ◌+◌, ◌∙◌, ◌++◌, ◌∷◌, [], List, true, false, Some, None, length, get_or, slice_index_or, slice_set, ap, sym, subst, arith}
use Rattle.std.proofs.lemmas.List.{length-set}
use Rattle.std.proofs.lemmas.List.Elements.{All-weaker}
use Rattle.theory.specs.Literals.{Literal, IsVariable, same}
use Rattle.theory.specs.Trails.{Entry, Trail}
use Rattle.cdcl.proofs.WaitingLemmas.{entry-variable}
use Rattle.session.specs.Needing.{IsWalked}
use Rattle.session.proofs.NeededLemmas.{IsWalked-pass, IsWalked-reason, IsWalked-decision, IsWalked-given, reason-numbered, within-arranged}
use Rattle.session.proofs.core_walk.look_at.Goals as goal

pub bounds-marked-var : goal.bounds-marked-var
bounds-marked-var c =
    let T = c.args.kernel.now.trail in
    let e = c.index-trail-place.result in
    let is : e ≡ get_or T c.args.place e = c.index-trail-place.is ∙ ap (λ (U : Trail). get_or U c.args.place e) c.trail.ensures.trail in
    let var : c.var-var.result ≡ e.lit.var = c.var-var.ensures.var ∙ ap (λ (x : Entry). x.lit.var) c.entry.view_is in
    let variable = entry-variable c.args.kernel.now.vars T c.args.place e c.trail.ensures.over c.requires.place is in
    let high = variable.1 in
    let long = c.requires.marked in
    omega (arith, high, long, var)

pub arranged-requires : goal.arranged-requires
arranged-requires c =
    let T = c.args.kernel.now.trail in
    let e = c.index-trail-place.result in
    let is : e ≡ get_or T c.args.place e = c.index-trail-place.is ∙ ap (λ (U : Trail). get_or U c.args.place e) c.trail.ensures.trail in
    let reason : e.reason ≡ Some c.in-Some.number = sym (ap (λ (x : Entry). x.reason) c.entry.view_is) ∙ c.in-Some.is in
    reason-numbered c.args.kernel.now.clauses T c.args.place e c.trail.ensures.lawful c.requires.place is c.in-Some.number reason

pub mark_others-requires : goal.mark_others-requires
mark_others-requires c =
    let K = c.args.kernel.now.clauses in
    let V = c.args.kernel.now.vars in
    let T = c.args.kernel.now.trail in
    let e = c.index-trail-place.result in
    let is : e ≡ get_or T c.args.place e = c.index-trail-place.is ∙ ap (λ (U : Trail). get_or U c.args.place e) c.trail.ensures.trail in
    let reason : e.reason ≡ Some c.in-Some.number = sym (ap (λ (x : Entry). x.reason) c.entry.view_is) ∙ c.in-Some.is in
    let numbered = reason-numbered K T c.args.place e c.trail.ensures.lawful c.requires.place is c.in-Some.number reason in
    let long : length (slice_set c.args.marked.now c.var-var.result false) ≡ V + 1 = length-set c.args.marked.now c.var-var.result false ∙ c.requires.marked in
    All-weaker (λ (l : Literal). IsVariable V l.var) (λ (l : Literal). l.var < length (slice_set c.args.marked.now c.var-var.result false)) (λ l v. let high = v.1 in omega (arith, high, long)) c.arranged.result.now
    (within-arranged V K c.in-Some.number c.arranged.result.now c.trail.ensures.clauses_over numbered.0 numbered.1 c.arranged.ensures)

pub returns-then-not-marked-var : goal.returns-then-not-marked-var
returns-then-not-marked-var c failed w =
    let T = c.args.kernel.now.trail in
    let e = c.index-trail-place.result in
    let is : e ≡ get_or T c.args.place e = c.index-trail-place.is ∙ ap (λ (U : Trail). get_or U c.args.place e) c.trail.ensures.trail in
    let var : c.var-var.result ≡ e.lit.var = c.var-var.ensures.var ∙ ap (λ (x : Entry). x.lit.var) c.entry.view_is in
    IsWalked-pass c.args.kernel.now.clauses T c.args.place e c.trail.ensures.lawful c.requires.place is failed c.args.marked.now c.args.core.now.items w
    (subst (λ v. slice_index_or c.args.marked.now v false ≡ false) var c.if-not-marked-var.true)

pub returns-in-Some : goal.returns-in-Some
returns-in-Some c failed w =
    let T = c.args.kernel.now.trail in
    let e = c.index-trail-place.result in
    let is : e ≡ get_or T c.args.place e = c.index-trail-place.is ∙ ap (λ (U : Trail). get_or U c.args.place e) c.trail.ensures.trail in
    let var : c.var-var.result ≡ e.lit.var = c.var-var.ensures.var ∙ ap (λ (x : Entry). x.lit.var) c.entry.view_is in
    let reason : e.reason ≡ Some c.in-Some.number = sym (ap (λ (x : Entry). x.reason) c.entry.view_is) ∙ c.in-Some.is in
    IsWalked-reason c.args.kernel.now.clauses T c.args.place e c.trail.ensures.lawful c.requires.place is failed c.args.marked.now c.mark_others.new.marked c.args.core.now.items c.in-Some.number c.arranged.result.now w reason
    c.arranged.ensures
    (λ k a s. c.mark_others.ensures.others k a (subst (λ x. same x k ≡ false) (sym (ap (λ (x : Entry). x.lit) c.entry.view_is)) s))
    (λ v h. c.mark_others.ensures.more v (subst (λ i. slice_index_or (slice_set c.args.marked.now i false) v false ≡ true) (sym var) h))

pub returns-in_ok-push-in-None : goal.returns-in_ok-push-in-None
returns-in_ok-push-in-None c failed w =
    let K = c.args.kernel.now.clauses in
    let T = c.args.kernel.now.trail in
    let e = c.index-trail-place.result in
    let is : e ≡ get_or T c.args.place e = c.index-trail-place.is ∙ ap (λ (U : Trail). get_or U c.args.place e) c.trail.ensures.trail in
    let var : c.var-var.result ≡ e.lit.var = c.var-var.ensures.var ∙ ap (λ (x : Entry). x.lit.var) c.entry.view_is in
    let reason : e.reason ≡ None = sym (ap (λ (x : Entry). x.reason) c.entry.view_is) ∙ c.in-None.is in
    let level : c.entry.inside.level ≡ e.level = ap (λ (x : Entry). x.level) c.entry.view_is in
    let above : 1 ≤ e.level = let more = c.if-entry-gt0.true in omega (arith, level, more) in
    let pushed : c.push.new.self.items ≡ c.args.core.now.items ++ e.lit ∷ [] = c.in_ok-push-in-None.ensures.items ∙ ap (λ (x : Entry). c.args.core.now.items ++ x.lit ∷ []) c.entry.view_is in
    let walked = IsWalked-decision K T c.args.place e c.trail.ensures.lawful c.requires.place is failed c.args.marked.now c.args.core.now.items w reason above in
    subst (λ (core : List Literal). IsWalked K T failed c.args.place (slice_set c.args.marked.now c.var-var.result false) core) (sym pushed)
    (subst (λ i. IsWalked K T failed c.args.place (slice_set c.args.marked.now i false) (c.args.core.now.items ++ e.lit ∷ [])) (sym var) walked)

pub returns-else-entry-gt0 : goal.returns-else-entry-gt0
returns-else-entry-gt0 c failed w =
    let K = c.args.kernel.now.clauses in
    let T = c.args.kernel.now.trail in
    let e = c.index-trail-place.result in
    let is : e ≡ get_or T c.args.place e = c.index-trail-place.is ∙ ap (λ (U : Trail). get_or U c.args.place e) c.trail.ensures.trail in
    let var : c.var-var.result ≡ e.lit.var = c.var-var.ensures.var ∙ ap (λ (x : Entry). x.lit.var) c.entry.view_is in
    let reason : e.reason ≡ None = sym (ap (λ (x : Entry). x.reason) c.entry.view_is) ∙ c.in-None.is in
    let level : c.entry.inside.level ≡ e.level = ap (λ (x : Entry). x.level) c.entry.view_is in
    let low : e.level ≤ 0 = let most = c.if-entry-gt0.false in omega (arith, level, most) in
    subst (λ i. IsWalked K T failed c.args.place (slice_set c.args.marked.now i false) c.args.core.now.items) (sym var)
    (IsWalked-given K T c.args.place e c.trail.ensures.lawful c.requires.place is failed c.args.marked.now c.args.core.now.items w reason low)
