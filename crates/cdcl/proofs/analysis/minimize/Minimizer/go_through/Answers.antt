use Rattle.std.proofs.Common.{◌≡◌, ◌∙◌, ℕ, List, get_or, ap, sym}
use Rattle.theory.specs.Trails.{entry_of}
use Rattle.cdcl.specs.Removing.{reason_at}
use Rattle.cdcl.proofs.QuestionLemmas.{between-numbered, IsReasonOf-arranged}
use Rattle.cdcl.proofs.analysis.minimize.Minimizer.go_through.Goals as goal

pub arranged-requires : goal.arranged-requires
arranged-requires c =
    let k = c.args.kernel.now in
    let at = c.args.at in
    let v = get_or c.args.self.now.reached.numbers at 0 in
    let listed : get_or c.list.result.now at 0 ≡ v = ap (λ (xs : List ℕ). get_or xs at 0) c.list.ensures.numbers in
    between-numbered k v (c.requires.asking.2.between at 0 c.requires.inside) c.in-Some.number c.trail-trail.ensures.lawful
    (sym c.in-Some.is ∙ (c.reason_at.ensures ∙ ap (λ w. reason_at (entry_of k.trail w)) listed))

pub reach_all-requires-clause-reason : goal.reach_all-requires-clause-reason
reach_all-requires-clause-reason c =
    let k = c.args.kernel.now in
    let at = c.args.at in
    let v = get_or c.args.self.now.reached.numbers at 0 in
    let listed : get_or c.list.result.now at 0 ≡ v = ap (λ (xs : List ℕ). get_or xs at 0) c.list.ensures.numbers in
    IsReasonOf-arranged k v (c.requires.asking.2.between at 0 c.requires.inside) c.in-Some.number c.arranged.result.now
    (sym c.in-Some.is ∙ (c.reason_at.ensures ∙ ap (λ w. reason_at (entry_of k.trail w)) listed)) c.arranged.ensures
