use Rattle.std.proofs.Common.{◌≡◌, ◌+◌, ◌∙◌, ◌++◌, ◌∷◌, [], List, take, sym, ap, append_assoc}
use Rattle.std.proofs.lemmas.List.{take_more}
use Rattle.std.proofs.lemmas.Option.{slice_get_within, get_or_from_slice_get}
use Rattle.theory.specs.Literals.{Clause}
use Rattle.kernel.proofs.kernel.push_all.Goals as goal

pub loop-place-preserved : goal.loop-place-preserved
loop-place-preserved c =
    let K = c.args.clauses.now in
    let xs = c.args.formula.now.clauses in
    let at = c.loop-place.place in
    let x = c.clause.result.now in
    let read = get_or_from_slice_get xs at x x c.clause.ensures.clause in
    let one : take at xs ++ x ∷ [] ≡ take (at + 1) xs = sym (take_more xs at x (slice_get_within xs at x c.clause.ensures.clause) ∙ ap (λ (d : Clause). take at xs ++ d ∷ []) read) in
    c.in_ok-push.ensures.ok ∙ (ap (λ (ks : List Clause). ks ++ x ∷ []) c.loop-place.invariant ∙ (append_assoc K (take at xs) (x ∷ []) ∙ ap (λ (ks : List Clause). K ++ ks) one))
