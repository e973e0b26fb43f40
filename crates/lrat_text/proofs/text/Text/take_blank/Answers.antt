use Rattle.std.proofs.Common.{[], sym, ap, refl, subst, ◌∙◌}
use Rattle.lrat_text.specs.declared.begun.Begun.TheVariants.{Nothing}
use Rattle.lrat_text.specs.LineStates.{state_of}
use Rattle.lrat_text.specs.Streams.{ended}
use Rattle.lrat_text.specs.Begun.{begun_of, Ends}
use Rattle.lrat_text.specs.Pieces.{IsTextAt, part_at}
use Rattle.lrat_text.proofs.PieceLemmas.{kept_with, ends-blank, blank-kept, blank-gone, blank-other, word-within}
use Rattle.lrat_text.proofs.text.Text.take_blank.Goals as goal

pub returns-in-None-clause-text : goal.returns-in-None-clause-text
returns-in-None-clause-text c =
    let old = c.args.self.now in
    let t = subst (λ s. IsTextAt s old.line old.begun) c.requires.stage c.requires.text in
    subst (λ s. IsTextAt s c.end_word.new.line Nothing) (sym c.requires.stage) (
      word-within (state_of old.line) (state_of c.end_word.new.line) old.begun t.0 t.1
          (subst (λ o. Ends (ended (state_of old.line) (begun_of old.begun)) o old.line c.end_word.new.line) c.in-None.is c.in_ok-fault.ensures),
      (tt, ([], refl)),
    )

pub returns-in-Some-clause-kept : goal.returns-in-Some-clause-kept
returns-in-Some-clause-kept c =
    let old = c.args.self.now in
    λ V p.
    blank-kept V old.number p old.stage old.line old.begun c.args.byte c.requires.stage (blank-other c.args.byte c.requires.blank) c.requires.blank
    ∙ ends-blank old.number p (ended (state_of old.line) (begun_of old.begun)) c.in-Some.fault old.line c.end_word.new.line
    (subst (λ o. Ends (ended (state_of old.line) (begun_of old.begun)) o old.line c.end_word.new.line) c.in-Some.is c.in_ok-fault.ensures)

pub returns-in-None-clause-kept : goal.returns-in-None-clause-kept
returns-in-None-clause-kept c =
    let old = c.args.self.now in
    λ V p.
    blank-kept V old.number p old.stage old.line old.begun c.args.byte c.requires.stage (blank-other c.args.byte c.requires.blank) c.requires.blank
    ∙ blank-gone old.number p (ended (state_of old.line) (begun_of old.begun)) old.line c.end_word.new.line
    (subst (λ o. Ends (ended (state_of old.line) (begun_of old.begun)) o old.line c.end_word.new.line) c.in-None.is c.in_ok-fault.ensures)
    ∙ ap (λ s. kept_with old.number p (part_at s c.end_word.new.line Nothing)) (sym c.requires.stage)

pub end_word-requires-clause-counted : goal.end_word-requires-clause-counted
end_word-requires-clause-counted c = (subst (λ s. IsTextAt s c.args.self.now.line c.args.self.now.begun) c.requires.stage c.requires.text).1.0
