use Rattle.std.proofs.Common.{◌≡◌, ◌∙◌, ◌&&◌, ◌++◌, ◌∷◌, [], length, reverse, nat_lt, ap, ℕ, Bool, arith}
use Rattle.std.specs.List.{list_any}
use Rattle.std.proofs.lemmas.List.{length-reverse}
use Rattle.std.proofs.lemmas.List.Sorted.{IsPermutation-reverse, list_any-IsPermutation}
use Rattle.theory.specs.Literals.{has_var}
use Rattle.theory.specs.Propagation.{clause_at}
use Rattle.theory.specs.Trails.{entry_of, level_at}
use Rattle.theory.specs.Removing.{first_walk}
use Rattle.cdcl.specs.Removing.{removable_of}
use Rattle.cdcl.proofs.LessonLemmas.{last-hints}
use Rattle.cdcl.proofs.analysis.analyze.resolve_short.Goals as goal

pub walk_below-requires-clause-set : goal.walk_below-requires-clause-set
walk_below-requires-clause-set c =
    let S = (first_walk c.args.kernel.now.clauses c.args.kernel.now.trail c.args.conflict).0 in
    let is = c.in_ok-walk_current.ensures.set in
    c.in_ok-wait_for_removable.ensures.set S is (c.in_ok-ask_for_all.ensures.known S is.is) (c.in_ok-ask_for_all.ensures.all S is.is is.seen)

pub returns-clause-resolved : goal.returns-clause-resolved
returns-clause-resolved c =
    let k = c.args.kernel.now in
    last-hints k (removable_of k (first_walk k.clauses k.trail c.args.conflict).0) c.args.conflict c.len-resolved.result c.reverse.new.self.items c.trail-trail.ensures.lawful c.requires.above
    (c.reverse.ensures.items ∙ c.in_ok-walk_below.ensures.hints)
    (let many = c.len-resolved.ensures in
    let ok = c.walk_current.new.hints.ok.0 in
    let turned = length-reverse c.walk_current.new.hints.items in
    let same = ap length c.in_ok-walk_current.ensures.hints in
    omega (arith, many, ok, turned, same))

pub returns-clause-seen : goal.returns-clause-seen
returns-clause-seen c v =
    let k = c.args.kernel.now in
    let f : ℕ → Bool = λ n. has_var (clause_at k.clauses n) v in
    let walked = c.walk_current.new.hints.items in
    let first : c.push.new.self.items ≡ c.args.conflict ∷ [] = c.in_ok-push.ensures.items ∙ ap (λ ns. ns ++ c.args.conflict ∷ []) c.clear.ensures.items in
    c.in_ok-see_all.ensures.seen v
    ∙ ap (λ b. nat_lt 0 (level_at (entry_of k.trail v)) && b)
    (rw c.deref.ensures.value (c.in_ok-walk_current.ensures.met (λ w. rw first (c.in_ok-put_conflict.ensures.met w)) v)
    ∙ (list_any-IsPermutation f walked (reverse walked) (IsPermutation-reverse walked) ∙ ap (list_any f) c.in_ok-walk_current.ensures.hints))
