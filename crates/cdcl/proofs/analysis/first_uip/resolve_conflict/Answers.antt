use Rattle.std.proofs.Common.{◌≡◌, ◌∙◌, ◌++◌, ◌∷◌, [], ap, reverse}
use Rattle.std.proofs.lemmas.List.Sorted.{IsPermutation-reverse, list_any-IsPermutation}
use Rattle.theory.specs.Literals.{has_var}
use Rattle.theory.specs.Propagation.{clause_at}
use Rattle.cdcl.proofs.analysis.first_uip.resolve_conflict.Goals as goal

pub returns-clause-met : goal.returns-clause-met
returns-clause-met c v =
    let walked = c.walk.new.hints.items in
    let first : c.push.new.self.items ≡ c.args.conflict ∷ [] = c.in_ok-push.ensures.items ∙ ap (λ ns. ns ++ c.args.conflict ∷ []) c.clear.ensures.items in
    rw c.reverse.ensures.items
    (c.in_ok-walk.ensures.met (λ w. rw first (c.in_ok-put_conflict.ensures.met w)) v
    ∙ list_any-IsPermutation (λ n. has_var (clause_at c.args.kernel.now.clauses n) v) walked (reverse walked) (IsPermutation-reverse walked))
