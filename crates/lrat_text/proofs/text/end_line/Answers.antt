use Rattle.std.proofs.Common.{subst}
use Rattle.lrat_text.specs.LineStates.{state_of}
use Rattle.lrat_text.specs.Streams.{ended}
use Rattle.lrat_text.specs.Begun.{begun_of, Ends}
use Rattle.lrat_text.proofs.PieceLemmas.{ends-closing, word-within}
use Rattle.lrat_text.proofs.text.end_line.Goals as goal

pub end_word-requires-clause-counted : goal.end_word-requires-clause-counted
end_word-requires-clause-counted c = c.requires.begun.0

pub returns-in-Some : goal.returns-in-Some
returns-in-Some c = λ V n p.
    ends-closing V n p (ended (state_of c.args.line.now) (begun_of c.args.begun)) c.in-Some.fault c.args.line.now c.end_word.new.line
    (subst (λ o. Ends (ended (state_of c.args.line.now) (begun_of c.args.begun)) o c.args.line.now c.end_word.new.line) c.in-Some.is c.in_ok-fault.ensures)

pub finish-requires : goal.finish-requires
finish-requires c =
    word-within (state_of c.args.line.now) (state_of c.end_word.new.line) c.args.begun c.requires.within c.requires.begun
    (subst (λ o. Ends (ended (state_of c.args.line.now) (begun_of c.args.begun)) o c.args.line.now c.end_word.new.line) c.in_default.is c.in_ok-fault.ensures)
