use Rattle.std.proofs.Common.{◌≡◌, ◌≤◌, ◌%◌, length, ap, sym, ◌∙◌, arith, slice_index, Some, ℕ}
use Rattle.std.proofs.lemmas.Bool.Decides.{nat_tests}
use Rattle.std.proofs.lemmas.List.{get_or_default}
use Rattle.simplify.specs.Candidates.{first_of}
use Rattle.simplify.proofs.WaitingKeys.{first-none, first-some}
use Rattle.simplify.proofs.candidates.Candidates.first.Goals as goal

pub returns-then-key : goal.returns-then-key
returns-then-key c =
    let q = c.self.inside in
    let test = c.is_empty.ensures in
    let no = c.if-is_empty.false in
    let long = q.waits.ok.0 in
    let some : 1 ≤ length q.waits.items = grind (arith, nat_tests) in
    let leaves = c.self.invariant.leaves in
    let root : c.index-key.result.now ≡ slice_index q.keys.items 1 = c.index-key.ensures ∙ get_or_default q.keys.items 1 c.index-key.result.now 0 (omega arith) in
    sym (ap first_of (sym c.self.view_is) ∙ first-none q.weights.items q.waits.items q.keys.items c.self.invariant some (sym root ∙ c.if-key.true))

pub returns-else-key : goal.returns-else-key
returns-else-key c =
    let q = c.self.inside in
    let test = c.is_empty.ensures in
    let no = c.if-is_empty.false in
    let long = q.waits.ok.0 in
    let some : 1 ≤ length q.waits.items = grind (arith, nat_tests) in
    let leaves = c.self.invariant.leaves in
    let root : c.index-key.result.now ≡ slice_index q.keys.items 1 = c.index-key.ensures ∙ get_or_default q.keys.items 1 c.index-key.result.now 0 (omega arith) in
    ap (λ (k : ℕ). Some (k % 4294967296)) root
    ∙ sym (ap first_of (sym c.self.view_is) ∙ first-some q.weights.items q.waits.items q.keys.items c.self.invariant some (λ e. c.if-key.false (root ∙ e)))
