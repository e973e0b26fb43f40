use Rattle.std.proofs.Common.{◌≡◌, ◌+◌, List, ◌++◌, ◌∷◌, [], true, false, take, sym, ap, subst, ◌∙◌}
use Rattle.std.proofs.lemmas.List.{take_more}
use Rattle.theory.specs.Literals.{Literal}
use Rattle.spread.specs.OpenCubes.{said_in, IsBelowTop}
use Rattle.spread.specs.declared.open_cubes.Tops.{Tops}
use Rattle.spread.proofs.WordLemmas.{after-insert, said-more, said-still}
use Rattle.spread.proofs.open_cubes.Words.add.Goals.{then-are_above+in_ok-from_slice+in_ok-insert, else-are_above}
use Rattle.spread.proofs.open_cubes.Words.add.Goals as goal

pub loop-fact-preserved : goal.loop-fact-preserved
loop-fact-preserved c =
    let facts = c.args.facts.now in
    let at = c.loop-fact.fact-index in
    let f = c.fact-item.result in
    let inv = c.loop-fact.invariant in
    let old = c.loop-fact.self in
    let longer : take at facts ++ f ∷ [] ≡ take (at + 1) facts = ap (λ k. take at facts ++ k ∷ []) c.fact-item.is ∙ sym (take_more facts at f c.loop-fact-test.true) in
    elim c.if-are_above.branch [
      | then-are_above+in_ok-from_slice+in_ok-insert w ↦
          let key = w.in_ok-from_slice.field-0 in
          let updates = w.in_ok-insert.ensures.updates in
          let is : key.items ≡ f.cube = w.in_ok-from_slice.ensures.items ∙ c.lits-lits.ensures.lits in
          record {
            tops = ap (λ words. words.tops) w.self-is ∙ inv.tops;
            said = λ Q below. ap (λ words. said_in words Q) w.self-is
                ∙ said-more Q key.items (said_in c.args.self.now Q) (take at facts) (take (at + 1) facts) f w.word_of-word.result (said_in (record { tops = old.tops; by_cube = w.insert.new.self }) Q) (said_in old Q)
                (after-insert (λ k. k.items) Q key old.by_cube.entries w.insert.new.self.entries w.word_of-word.result updates.1 updates.3) is w.word_of-word.ensures (inv.said Q below) longer;
          }
      | else-are_above w ↦ record {
        tops = ap (λ words. words.tops) w.self-is ∙ inv.tops;
        said = λ Q below. ap (λ words. said_in words Q) w.self-is
            ∙ said-still Q (said_in c.args.self.now Q) (take at facts) (take (at + 1) facts) f (said_in old Q)
            (λ same.
            let here : IsBelowTop old.tops c.lits-lits.result.now =
            subst (λ (P : List Literal). IsBelowTop old.tops P) (same ∙ sym c.lits-lits.ensures.lits) (subst (λ (tops : Tops). IsBelowTop tops Q) (sym inv.tops) below) in
            let yes : c.are_above.result ≡ true = c.are_above.ensures.1 here in
            let no : c.are_above.result ≡ false = w.if-are_above.false in
            absurd (cc)) (inv.said Q below) longer;
      }
    ]
