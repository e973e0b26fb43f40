use Rattle.std.proofs.Common.{◌≡◌, ◌∙◌, [], ◌∷◌, true, ap, sym, subst, Some, None, arith}
use Rattle.std.proofs.lemmas.Result.{on_ok_weaker}
use Rattle.theory.specs.Literals.{Literal}
use Rattle.theory.specs.Trails.{Entry, entry_of}
use Rattle.theory.specs.Learning.{with_literal}
use Rattle.theory.proofs.literals.LiteralLemmas.{and-left}
use Rattle.cdcl.specs.Marks.{IsSet, Meets}
use Rattle.cdcl.proofs.PlaceLemmas.{place-found, false-below, entry_of-false}
use Rattle.cdcl.proofs.MarkedSets.{inside, mark-read}
use Rattle.cdcl.proofs.JoinedSets.{IsSet-there}
use Rattle.cdcl.proofs.MetVariables.{met-seen, met-there}
use Rattle.cdcl.proofs.analysis.marks.put.Goals as goal

pub index-requires : goal.index-requires
index-requires c =
    let f = false-below _ c.requires.marks.bound _ (and-left _ true c.requires.marks.below) in
    let less = inside c.args.kernel.now _ c.args.lit c.requires.marks.over c.requires.marks.is.is.long f in
    let v = c.var-var.ensures.var in
    omega arith

pub returns-then-index-clause-set : goal.returns-then-index-clause-set
returns-then-index-clause-set c S bound f h =
    let all = false-below _ bound _ f in
    let there = inside c.args.kernel.now _ c.args.lit c.requires.marks.over h.is.long all in
    IsSet-there _ S bound c.args.lit _ c.requires.marks.lawful all (mark-read _ _ _ _ c.var-var.ensures.var there c.index.ensures ∙ c.if-index.true) h

pub put_at-requires-clause-is_new : goal.put_at-requires-clause-is_new
put_at-requires-clause-is_new c e at =
    let below = and-left _ true c.requires.marks.below in
    let found = place-found _ _ c.requires.marks.bound c.in-Some.place c.args.lit c.requires.marks.lawful below (c.in-Some.ensures.found ∙ ap (entry_of c.args.kernel.now.trail) c.var-var.ensures.var) in
    let one : e ≡ found.0 = (let same : Some e ≡ Some found.0 = sym at ∙ found.1 in cc) in
    let v : e.lit.var ≡ c.args.lit.var = ap (λ (x : Entry). x.lit.var) one ∙ ap (λ (l : Literal). l.var) found.2 in
    let there = inside c.args.kernel.now _ c.args.lit c.requires.marks.over c.requires.marks.is.is.long (false-below _ c.requires.marks.bound _ below) in
    rw v (mark-read _ _ _ _ c.var-var.ensures.var there c.index.ensures ∙ c.if-index.false)

pub returns-in-Some-clause-set : goal.returns-in-Some-clause-set
returns-in-Some-clause-set c = on_ok_weaker c.put_at.result
    (λ made S bound f h. (
    let found = place-found _ _ bound c.in-Some.place c.args.lit c.requires.marks.lawful f (c.in-Some.ensures.found ∙ ap (entry_of c.args.kernel.now.trail) c.var-var.ensures.var) in
    subst (λ (l : Literal). IsSet c.args.kernel.now [] (with_literal l S) bound c.put_at.new.marks) found.2 (made S bound found.0 found.1 found.3 h)
    ))
    c.put_at.ensures.set

pub returns-in-None-clause-set : goal.returns-in-None-clause-set
returns-in-None-clause-set c S bound f h =
    let e = entry_of-false _ _ bound c.args.lit c.requires.marks.lawful f in
    absurd (let clash : None ≡ Some e.0 = sym c.in-None.ensures.free ∙ (ap (entry_of c.args.kernel.now.trail) c.var-var.ensures.var ∙ e.1) in cc)

pub returns-then-index-clause-met : goal.returns-then-index-clause-met
returns-then-index-clause-met c v =
    let all = false-below _ c.requires.marks.bound _ (and-left _ true c.requires.marks.below) in
    let there = inside c.args.kernel.now _ c.args.lit c.requires.marks.over c.requires.marks.is.is.long all in
    let marked = mark-read _ _ _ _ c.var-var.ensures.var there c.index.ensures ∙ c.if-index.true in
    met-there c.args.lit _ v (met-seen c.args.marks.now.seen.items c.args.lit.var (c.requires.marks.is.seen.all c.args.lit.var (sym (c.requires.marks.is.is.marks c.args.lit.var) ∙ marked)))

pub returns-in-Some-clause-met : goal.returns-in-Some-clause-met
returns-in-Some-clause-met c = on_ok_weaker c.put_at.result
    (λ made. (
    let below = and-left _ true c.requires.marks.below in
    let found = place-found _ _ c.requires.marks.bound c.in-Some.place c.args.lit c.requires.marks.lawful below (c.in-Some.ensures.found ∙ ap (entry_of c.args.kernel.now.trail) c.var-var.ensures.var) in
    subst (λ (l : Literal). Meets c.args.marks.now (l ∷ []) c.put_at.new.marks) found.2 (made found.0 found.1)
    ))
    c.put_at.ensures.met

pub returns-in-None-clause-met : goal.returns-in-None-clause-met
returns-in-None-clause-met c v =
    let e = entry_of-false _ _ c.requires.marks.bound c.args.lit c.requires.marks.lawful (and-left _ true c.requires.marks.below) in
    absurd (let clash : None ≡ Some e.0 = sym c.in-None.ensures.free ∙ (ap (entry_of c.args.kernel.now.trail) c.var-var.ensures.var ∙ e.1) in cc)
