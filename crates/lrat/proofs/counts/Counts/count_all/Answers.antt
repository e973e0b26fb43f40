use Rattle.std.proofs.Common.{◌≡◌, ◌<◌, true, false, [], Some, ap, sym, ◌∙◌, length, get_or, slice_get, arith}
use Rattle.std.proofs.lemmas.Option.{slice_get-get_or}
use Rattle.theory.specs.Literals.{Clause, has}
use Rattle.lrat.specs.Slots.{Slot}
use Rattle.lrat.proofs.CountLemmas.{counted-more}
use Rattle.lrat.proofs.counts.Counts.count_all.Goals.{in-Some+in_ok-count, in_default}
use Rattle.lrat.proofs.counts.Counts.count_all.Goals as goal

pub loop-self-preserved : goal.loop-self-preserved
loop-self-preserved c =
    let slots = c.args.clauses.now.slots in
    let n = c.loop-self.self.counted in
    let old = c.loop-self.self.counts.items in
    let less : n < length slots = (let len = c.len.ensures in let t = c.loop-self-test.true in omega arith) in
    let none : Slot = record { id = 0; is_there = true; clause = [] } in
    let s : Slot = get_or slots n none in
    let g : slice_get slots n ≡ Some s = slice_get-get_or slots n none less in
    elim c.match-at.branch [
      | in-Some+in_ok-count w ↦ rw w.self-is (record {
        counted = record {
          within = omega arith;
          most = counted-more slots old w.count.new.counts.items n s g w.count.ensures.keeps
              (λ t l a. w.in_ok-count.ensures.counted l (ap (λ (x : Clause). has x l) (sym (w.in-Some.ensures.slot s g).2) ∙ a)) c.loop-self.invariant.counted.most;
        };
        room = (let room = c.loop-self.invariant.room in let len = w.count.ensures.len in omega arith);
      })
      | in_default w ↦ rw w.self-is (record {
        counted = record {
          within = omega arith;
          most = counted-more slots old old n s g (λ k. omega arith)
              (λ t l a. let gone : s.is_there ≡ false = rw w.in_default.is at (c.at.ensures.slot s g) in absurd (let no : true ≡ false = sym t ∙ gone in cc)) c.loop-self.invariant.counted.most;
        };
        room = c.loop-self.invariant.room;
      })
    ]
