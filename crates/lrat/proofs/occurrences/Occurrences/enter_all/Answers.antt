use Rattle.std.proofs.Common.{◌≡◌, true, false, ap, sym, ◌∙◌, arith}
use Rattle.theory.specs.Literals.{Clause, has}
use Rattle.lrat.proofs.OccurrenceLemmas.{AreEntered-more}
use Rattle.lrat.proofs.occurrences.Occurrences.enter_all.Goals.{in-Some+in_ok-enter, in_default}
use Rattle.lrat.proofs.occurrences.Occurrences.enter_all.Goals as goal

pub loop-self-preserved : goal.loop-self-preserved
loop-self-preserved c =
    let slots = c.args.clauses.now.slots in
    let old = c.loop-self.self.chains in
    elim c.match-at.branch [
      | in-Some+in_ok-enter w ↦ rw w.self-is (record {
        indexed = record {
          counted = c.loop-self.invariant.indexed.counted;
          within = (let len = c.len.ensures in let less = c.loop-self-test.true in omega arith);
          chains = w.enter.ensures.chains;
          entered = AreEntered-more slots old w.enter.new.chains c.loop-self.self.entered w.enter.ensures.keeps
              (λ s l g t a. w.in_ok-enter.ensures.entered l (ap (λ (x : Clause). has x l) (sym (w.in-Some.ensures.slot s g).2) ∙ a)) c.loop-self.invariant.indexed.entered;
        };
        room = (let room = c.loop-self.invariant.room in let len = w.enter.ensures.len in omega arith);
      })
      | in_default w ↦ rw w.self-is (record {
        indexed = record {
          counted = c.loop-self.invariant.indexed.counted;
          within = (let len = c.len.ensures in let less = c.loop-self-test.true in omega arith);
          chains = c.loop-self.invariant.indexed.chains;
          entered = AreEntered-more slots old old c.loop-self.self.entered (λ n i on. on)
              (λ s l g t a. let none : s.is_there ≡ false = rw w.in_default.is at (c.at.ensures.slot s g) in absurd (let no : true ≡ false = sym t ∙ none in cc)) c.loop-self.invariant.indexed.entered;
        };
        room = c.loop-self.invariant.room;
      })
    ]
