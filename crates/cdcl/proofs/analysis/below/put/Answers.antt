use Rattle.std.proofs.Common.{◌≡◌, ◌∙◌, ◌++◌, ◌∷◌, [], true, slice_set, ap, sym, refl, Some, None, arith}
use Rattle.theory.specs.Trails.{entry_of}
use Rattle.theory.proofs.literals.LiteralLemmas.{and-left}
use Rattle.cdcl.proofs.PlaceLemmas.{false-below, entry_of-false}
use Rattle.cdcl.proofs.MarkedSets.{inside, mark-read}
use Rattle.cdcl.proofs.JoinedSets.{IsSet-there}
use Rattle.cdcl.proofs.BelowLemmas.{IsSet-follows}
use Rattle.cdcl.proofs.analysis.below.put.Goals as goal

pub index-requires : goal.index-requires
index-requires c =
    let f = false-below _ c.requires.marks.bound _ (and-left _ true c.requires.marks.below) in
    let less = inside c.args.kernel.now _ c.args.lit c.requires.marks.over c.requires.marks.is.is.long f in
    let v = c.var-var.ensures.var in
    omega arith

pub returns-then-index : goal.returns-then-index
returns-then-index c = record {
  set = λ R S bound f settled h.
      let all = false-below _ bound _ f in
      let there = inside c.args.kernel.now _ c.args.lit c.requires.marks.over h.is.long all in
      IsSet-there _ S bound c.args.lit _ c.requires.marks.lawful all (mark-read _ _ _ _ c.var-var.ensures.var there c.index.ensures ∙ c.if-index.true) h;
}

pub index_mut-requires : goal.index_mut-requires
index_mut-requires c =
    let f = false-below _ c.requires.marks.bound _ (and-left _ true c.requires.marks.below) in
    let less = inside c.args.kernel.now _ c.args.lit c.requires.marks.over c.requires.marks.is.is.long f in
    let v = c.var-var.ensures.var in
    omega arith

pub returns-in_ok-push_far : goal.returns-in_ok-push_far
returns-in_ok-push_far c = record {
  set = λ R S bound f settled h.
      let v = c.var-var.ensures.var in
      let all = false-below _ bound _ f in
      let there = inside c.args.kernel.now _ c.args.lit c.requires.marks.over h.is.long all in
      IsSet-follows c.args.kernel.now R S bound c.in-Some.place c.args.lit c.args.marks.now _ c.requires.marks.lawful c.requires.marks.over c.requires.marks.above
      (c.in-Some.ensures.found ∙ ap (entry_of c.args.kernel.now.trail) v) f settled (mark-read _ _ _ _ v there c.index.ensures ∙ c.if-index.false)
      (ap (λ x. slice_set c.args.marks.now.marked.items x true) v) (c.in_ok-put_last.ensures.ok ∙ ap (λ x. c.args.marks.now.seen.items ++ x ∷ []) v) refl c.in_ok-push_far.ensures h;
}

pub returns-in_default : goal.returns-in_default
returns-in_default c = record {
  set = λ R S bound f settled h.
      let e = entry_of-false _ _ bound c.args.lit c.requires.marks.lawful f in
      absurd (let clash : None ≡ Some e.0 = sym c.in_default.ensures.free ∙ (ap (entry_of c.args.kernel.now.trail) c.var-var.ensures.var ∙ e.1) in cc);
}
