use Rattle.std.proofs.Common.{◌≡◌, ◌+◌, ◌∙◌, ◌++◌, ◌∷◌, [], List, Bool, suc, ap, map, sym, arith}
use Rattle.std.proofs.lemmas.List.{map-append}
use Rattle.theory.specs.Trails.{variables}
use Rattle.theory.specs.Held.{is_held}
use Rattle.lookahead.proofs.holding.all_held.Goals as goal

pub loop-before-preserved : goal.loop-before-preserved
loop-before-preserved c K counted =
    let n = c.loop-before.before in
    let next : n + 1 ≡ suc n = omega arith in
    let is = c.is_held.ensures K c.args.vars counted (let more = c.loop-before-test.true in omega arith) in
    c.in_ok-push.ensures.items
    ∙ (ap (λ b. c.loop-before.held.items ++ b ∷ []) is
    ∙ (ap (λ (bs : List Bool). bs ++ is_held K (n + 1) ∷ []) (c.loop-before.invariant K counted)
    ∙ (ap (λ v. map (is_held K) (variables n) ++ is_held K v ∷ []) next
    ∙ (sym (map-append (is_held K) (variables n) (suc n ∷ [])) ∙ ap (λ v. map (is_held K) (variables v)) (sym next)))))
