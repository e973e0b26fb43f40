use Rattle.std.proofs.Common.{◌≡◌, ◌∙◌, ◌+◌, ◌-◌, ◌<◌, ◌++◌, not, length, List, sym, ap, nat_lt, refl, append_assoc, append-nil, drop, arith}
use Rattle.theory.specs.Literals.{has_both_signs}
use Rattle.theory.specs.Forgetting as forgetting
use Rattle.theory.specs.Forgetting.{Mark, Candidate, is_reason}
use Rattle.theory.proofs.literals.LiteralLemmas.{and-left, and-right, not_true}
use Rattle.cdcl.proofs.MarkedSets.{mark-read}
use Rattle.theory.specs.Propagation.{clause_at}
use Rattle.cdcl.specs.Forgetful.{IsPlain}
use Rattle.cdcl.proofs.ForgettingLemmas.{candidates-end, plain-at}
use Rattle.cdcl.proofs.ArrangedCandidates.{two-arranged, length-arranged, candidates-arranged}
use Rattle.cdcl.proofs.search.forgetting.candidates.Goals as goal
use Rattle.cdcl.proofs.search.forgetting.candidates.Goals.{After-index, then-may_go+in_ok-push, else-may_go}

inside : (c : After-index) → c.args.from - 1 + c.loop-at.at < length c.args.kernel.now.clauses
inside c = let most = c.requires.learnt.1 in let more = c.loop-at-test.true in omega arith

plain : (c : After-index) → IsPlain c.args.kernel.now.vars (clause_at c.args.kernel.now.clauses (c.args.from + c.loop-at.at))
plain c = plain-at c.args.kernel.now.vars c.args.kernel.now.clauses c.args.from c.loop-at.at (clause_at c.args.kernel.now.clauses (c.args.from + c.loop-at.at)) c.requires.learnt.0 (inside c) refl c.requires.plain

pub may_go-requires : goal.may_go-requires
may_go-requires c both =
    two-arranged c.args.kernel.now.vars (clause_at c.args.kernel.now.clauses (c.args.from + c.loop-at.at)) c.arranged-clause.result.now (plain c) c.arranged-clause.ensures both

pub overflow_cast-size : goal.overflow_cast-size
overflow_cast-size c =
    let V = c.args.kernel.now.vars in
    let K = c.args.kernel.now.clauses in
    let given = clause_at K (c.args.from + c.loop-at.at) in
    let most = c.requires.learnt.1 in
    let more = c.loop-at-test.true in
    let low : c.args.from - 1 + c.loop-at.at < length K = omega arith in
    let plain = plain-at V K c.args.from c.loop-at.at given c.requires.learnt.0 low refl c.requires.plain in
    let d = c.arranged-clause.result.now in
    let m = c.index-marks-at.result in
    let one = not_true (has_both_signs d) (and-left (not (has_both_signs d)) _ (and-right (not m.used) _ (and-right (nat_lt c.args.kept_glue m.glue) _ (sym c.may_go.ensures ∙ c.if-may_go.true)))) in
    let short = length-arranged V given d plain c.arranged-clause.ensures one in
    let few = c.requires.few.1 in
    omega arith

pub loop-at-preserved : goal.loop-at-preserved
loop-at-preserved c d kept =
    let K = c.args.kernel.now.clauses in
    let T = c.args.kernel.now.trail in
    let clause = c.arranged-clause.result.now in
    let from = c.args.from in
    let at = c.loop-at.at in
    let m = c.index-marks-at.result in
    let most = c.requires.learnt.1 in
    let more = c.loop-at-test.true in
    let low : from - 1 + at < length K = omega arith in
    let here : at < length c.args.marks.now = omega arith in
    let next = candidates-arranged d T K c.args.marks.now from at m clause c.requires.learnt.0 low here c.arranged-clause.ensures c.index-marks-at.is in
    let before = c.loop-at.invariant d kept in
    let many : at < length c.in_ok-reasons.reasons.items = rw c.in_ok-reasons.ensures.long here in
    let reason : is_reason T (from + at) ≡ c.index.result.now =
    sym (c.in_ok-reasons.ensures.reasons at here) ∙ mark-read c.in_ok-reasons.reasons.items at at c.index.result.now refl many c.index.ensures in
    let goes : forgetting.may_go d T (from + at) clause m ≡ c.may_go.result = rw (kept, reason) (sym c.may_go.ensures) in
    elim c.if-may_go.branch [
      | then-may_go+in_ok-push w ↦
          let all = rw (goes ∙ w.if-may_go.true) at next in
          let glue : c.mark.inside.glue ≡ m.glue = ap (λ (x : Mark). x.glue) c.mark.view_is in
          rw (w.candidates-is, w.in_ok-push.ensures.items, glue) (append_assoc c.loop-at.candidates.items _ _ ∙ (ap (λ (rest : List Candidate). c.loop-at.candidates.items ++ rest) (sym all) ∙ before))
      | else-may_go w ↦
          let all = rw (goes ∙ w.if-may_go.false) at next in
          rw w.candidates-is (ap (λ (rest : List Candidate). c.loop-at.candidates.items ++ rest) (sym all) ∙ before)
    ]

pub returns : goal.returns
returns c d kept =
    let before = c.loop-at.invariant d kept in
    let end = candidates-end d c.args.kernel.now.trail (c.args.from + c.loop-at.at) c.loop-at.at (drop (c.args.from - 1 + c.loop-at.at) c.args.kernel.now.clauses) c.args.marks.now c.loop-at-test.false in
    sym (append-nil c.loop-at.candidates.items) ∙ (ap (λ (rest : List Candidate). c.loop-at.candidates.items ++ rest) (sym end) ∙ before)
