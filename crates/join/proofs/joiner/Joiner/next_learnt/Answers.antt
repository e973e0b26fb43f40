use Rattle.std.proofs.Common.{◌≡◌, ◌-◌, ◌++◌, ◌||◌, not, ℕ, Bool, List, length, map, filter, Vec, Global, ap, ◌∙◌, arith}
use Rattle.std.specs.Vec.{with_items}
use Rattle.std.proofs.lemmas.List.{with_items_is}
use Rattle.theory.specs.Learning.{Line}
use Rattle.theory.specs.Deletions.{is_among}
use Rattle.theory.specs.Proofs.{renumbered, numbers_from}
use Rattle.cubes.specs.Traversal.{path}
use Rattle.join.specs.Deleted.{is_marked, due_behind}
use Rattle.join.proofs.MadeLemmas.{line-within, made-learnt, own-marks}
use Rattle.join.proofs.WalkLemmas.{due-half, due-more, due-root, none-left, not-half}
use Rattle.join.proofs.joiner.Joiner.next_learnt.Goals as goal
use Rattle.join.proofs.joiner.Joiner.next_learnt.Goals.{then-len-eq0+then-is_half+in_ok-put_unmarked, else-len-eq0, else-len-eq0-via-then-len-eq0+else-is_half, else-len-eq0-via-else-len-eq0}

pub mark-requires : goal.mark-requires
mark-requires c =
    let line : Line = record { clause = c.next.new.clause.items; hints = c.next.new.hints.items; forgets = c.next.new.forgets.items } in
    rw (c.deref.ensures.value, c.deref_mut.ensures.value, c.renumber.ensures)
    (own-marks c.args.self.now line c.next.new.self c.requires.lawful c.requires.stage c.requires.due (rw c.if-not-branch.false at c.in_ok-next.ensures.line))

pub returns-clause-made : goal.returns-clause-made
returns-clause-made c =
    let l = c.args.self.now in
    let N = l.clauses in
    let line : Line = record { clause = c.next.new.clause.items; hints = c.next.new.hints.items; forgets = c.next.new.forgets.items } in
    let leaf = c.next.new.self in
    let read = rw c.if-not-branch.false at c.in_ok-next.ensures.line in
    let keeps = (line-within l line leaf c.requires.lawful c.requires.stage c.requires.due read).keeps in
    let deleted = with_items l.deleted c.mark.new.marks in
    let is : deleted.items ≡ c.mark.new.marks = with_items_is l.deleted c.mark.new.marks (c.mark.ensures.many ∙ c.deref_mut.ensures.len) in
    let marked : (k : ℕ) → is_marked l.first deleted.items k ≡ is_marked l.first l.deleted.items k || is_among k (map (renumbered N l.first) line.forgets)
    = λ k. ap (λ ms. is_marked l.first ms k) is ∙ c.mark.ensures.marked k ∙ ap (λ ms. is_marked l.first ms k || is_among k c.deref.result.now) c.deref_mut.ensures.value
    ∙ ap (λ ns. is_marked l.first l.deleted.items k || is_among k ns) (c.deref.ensures.value ∙ c.renumber.ensures) in
    let many : length deleted.items ≡ length l.deleted.items = ap length is ∙ c.mark.ensures.many ∙ ap length c.deref_mut.ensures.value in
    let made = λ (due : Vec ℕ Global) (behind : due.items ≡ due_behind N l.first l.next (path l.place) deleted.items line leaf).
    made-learnt l leaf due deleted line c.learn.new.self c.requires.lawful c.requires.units c.requires.stage c.requires.due c.requires.fits read marked many behind (c.in_ok-learn.ensures.line line.forgets)
    c.in_ok-learn.ensures.within in
    elim c.if-len-eq0.branch [
      | then-len-eq0+then-is_half+in_ok-put_unmarked w ↦
          let over = none-left leaf c.len.result c.len.ensures w.if-len-eq0.true in
          let left = λ (ms : List Bool). filter (λ k. not (is_marked l.first ms k)) (numbers_from l.first (l.next - l.first)) in
          rw w.self-is
          (made w.put_unmarked.new.out
          (w.in_ok-put_unmarked.ensures
          ∙ ap (λ xs. xs ++ left w.deref-then-is_half.result.now) c.renumber.ensures
          ∙ ap (λ ms. map (renumbered N l.first) line.forgets ++ left ms) w.deref-then-is_half.ensures.value
          ∙ due-half N l.first l.next l.place deleted.items line leaf over (keeps over) (w.is_half.ensures.0 w.if-is_half.true)))
      | else-len-eq0 w ↦ rw w.self-is (made c.renumber.new.numbers (c.renumber.ensures ∙ elim w.else-len-eq0.branch [
        | else-len-eq0-via-then-len-eq0+else-is_half v ↦
            let over = none-left leaf c.len.result c.len.ensures v.if-len-eq0.true in
            due-root N l.first l.next l.place deleted.items line leaf over (keeps over) (not-half (length l.place) v.is_half.result v.is_half.ensures.1 v.if-is_half.false)
        | else-len-eq0-via-else-len-eq0 v ↦ let len = c.len.ensures in let some = v.if-len-eq0.false in due-more N l.first l.next (path l.place) deleted.items line leaf (omega arith)
      ]))
    ]
