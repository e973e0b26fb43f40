use Rattle.std.proofs.Common.{◌≡◌, ◌∙◌, ℕ, ◌+◌, ◌<◌, ◌≤◌, ◌∷◌, [], List, length, All, ap, sym, subst, length-append, arith, refl}
use Rattle.theory.specs.Literals.{Clause}
use Rattle.theory.specs.Plans.{Constants, default_constants}
use Rattle.theory.specs.Forgetting.{forget}
use Rattle.cdcl.specs.Forgetful.{late_numbers}
use Rattle.cdcl.proofs.ForgettingLemmas.{snoc, forgotten-late, late-learnt, late-no_reasons}
use Rattle.cdcl.proofs.search.learning.forget.Goals as goal

-- numbers with this greatest glue that is kept
abbrev with_glue : ℕ → Constants
with_glue kept = record default_constants { kept_glue = kept }

pub forget-requires-clause-learnt : goal.forget-requires-clause-learnt
forget-requires-clause-learnt c memory =
    let k = c.args.kernel.now in
    let some = c.requires.learnt.learnt in
    let s = snoc k.clauses (omega arith) in
    let one = length-append s.front (s.last ∷ []) in
    let all = ap length s.parts in
    let many : length s.front ≡ k.first + length c.args.marks.now.items = omega arith in
    rw (c.deref.ensures.value, c.in_ok-numbers.ensures (with_glue c.args.kept_glue) s.front s.last refl s.parts)
    (subst (λ (L : List Clause). All (λ n. (k.first < n) × (n ≤ length L)) (late_numbers (with_glue c.args.kept_glue) k.trail c.args.marks.now.items s.front)) (sym s.parts)
    (late-learnt (with_glue c.args.kept_glue) k.trail s.front c.args.marks.now.items s.last k.first many))

pub forget-requires-clause-no_reasons : goal.forget-requires-clause-no_reasons
forget-requires-clause-no_reasons c memory =
    let k = c.args.kernel.now in
    let some = c.requires.learnt.learnt in
    let s = snoc k.clauses (omega arith) in
    rw (c.deref.ensures.value, c.in_ok-numbers.ensures (with_glue c.args.kept_glue) s.front s.last refl s.parts) (late-no_reasons (with_glue c.args.kept_glue) k.trail s.front c.args.marks.now.items)

pub returns-clause-numbers : goal.returns-clause-numbers
returns-clause-numbers c d K clause kept parts = c.in_ok-numbers.ensures d K clause kept parts

pub returns-clause-kernel : goal.returns-clause-kernel
returns-clause-kernel c d K clause kept parts =
    let k = c.args.kernel.now in
    c.in_ok-forget.ensures.forgotten ∙ ap (λ (L : List Clause). record k { clauses = L })
    (ap (λ ns. forget ns 1 k.clauses) (c.deref.ensures.value ∙ c.in_ok-numbers.ensures d K clause kept parts)
    ∙ (ap (forget (late_numbers d k.trail c.args.marks.now.items K) 1) parts ∙ forgotten-late d k.trail K c.args.marks.now.items clause))
