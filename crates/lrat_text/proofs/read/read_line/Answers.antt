use Rattle.std.proofs.Common.{◌≡◌, sym, ◌∙◌, ap, subst, arith, false, cond, ◌+◌, get_or, drop, Some, None}
use Rattle.std.proofs.lemmas.List.{take_rest}
use Rattle.theory.specs.ProofReading.{line_fault, line_not_ended}
use Rattle.theory.specs.Tokens.{lines_of}
use Rattle.lrat_text.specs.LineWords.{IsCounting, ends_word, first_word, word_of}
use Rattle.lrat_text.specs.LineMachine.{IsWithin, on, fault_in, within, read_lines, has_line_feed, behind}
use Rattle.lrat_text.specs.LineStates.{state_of, IsFault, reading_of}
use Rattle.lrat_text.proofs.WordTexts.{word_of-IsCounting}
use Rattle.lrat_text.proofs.LineMachineLemmas.{on-Follows}
use Rattle.lrat_text.proofs.LinePlaces.{at-begin, at-blank, at-lf, at-taken, at-refused, goes_on, IsTaken-true, IsTaken-false}
use Rattle.lrat_text.proofs.read.read_line.Goals as goal

pub loop-at-init : goal.loop-at-init
loop-at-init c =
    let e = ap state_of c.begin.ensures in
    record {
      from = omega arith;
      inside = omega arith;
      numbers = subst IsWithin (sym e) tt;
      left = ap (λ s. within s c.args.number (lines_of (drop c.args.start c.args.bytes.now))) e ∙ at-begin c.args.number c.args.bytes.now c.args.start c.requires;
    }

pub loop-at-preserved-then-is_blank : goal.loop-at-preserved-then-is_blank
loop-at-preserved-then-is_blank c =
    let g = c.loop-at.invariant in
    record {
      from = omega arith;
      inside = omega arith;
      numbers = g.numbers;
      left = at-blank _ _ c.args.bytes.now c.loop-at.at _ c.loop-at-test.true (sym c.is_blank.ensures ∙ c.if-is_blank.true) g.left;
    }

pub take-requires-clause-counting : goal.take-requires-clause-counting
take-requires-clause-counting c = subst IsCounting (sym c.read_word-word.ensures.word) (word_of-IsCounting (first_word (drop c.loop-at.at c.args.bytes.now)))

pub returns-then-byte-eq-LINE_FEED-clause-read : goal.returns-then-byte-eq-LINE_FEED-clause-read
returns-then-byte-eq-LINE_FEED-clause-read c =
    let g = c.loop-at.invariant in
    let rest = read_lines (c.args.number + 1) (lines_of (drop (c.loop-at.at + 1) c.args.bytes.now)) in
    let line = at-lf (state_of c.loop-at.line) c.args.number c.args.bytes.now c.loop-at.at _ c.loop-at-test.true c.if-byte-eq-LINE_FEED.true g.left in
    sym line ∙ ap (λ l. behind l c.args.number rest) c.in_ok-step.ensures.step ∙ ap (λ o. behind (reading_of o) c.args.number rest) c.in-Some.is

pub returns-in_default-clause-read : goal.returns-in_default-clause-read
returns-in_default-clause-read c =
    let g = c.loop-at.invariant in
    let rest = read_lines (c.args.number + 1) (lines_of (drop (c.loop-at.at + 1) c.args.bytes.now)) in
    let line = at-lf (state_of c.loop-at.line) c.args.number c.args.bytes.now c.loop-at.at _ c.loop-at-test.true c.if-byte-eq-LINE_FEED.true g.left in
    sym line ∙ ap (λ l. behind l c.args.number rest) c.in_ok-step.ensures.step ∙ ap (λ o. behind (reading_of o) c.args.number rest) c.in_default.is

pub returns-then-not-branch-clause-read : goal.returns-then-not-branch-clause-read
returns-then-not-branch-clause-read c =
    let g = c.loop-at.invariant in
    let bytes = c.args.bytes.now in
    let i = c.loop-at.at in
    let old = c.loop-at.line in
    let w = c.read_word-word.ensures in
    let begins : ends_word (get_or bytes i 0) ≡ false = goes_on (get_or bytes i 0) c.if-byte-eq-LINE_FEED.false (sym c.is_blank.ensures ∙ c.if-is_blank.false) in
    let t = IsTaken-false (on (state_of old) c.read_word-word.result.0) c.in_ok-take.field-0 old c.take.new.self c.if-not-branch.true c.in_ok-take.ensures in
    let none : on (state_of old) (word_of (first_word (drop i bytes))) ≡ None = ap (on (state_of old)) (sym w.word) ∙ t.0 in
    let r = at-refused (state_of old) c.args.number bytes i c.read_word-word.result.1 _ c.loop-at-test.true begins none w.rest g.left in
    subst (IsFault c.refusal.result)
    (ap (λ x. line_fault (cond (has_line_feed x) (fault_in (state_of c.take.new.self) c.read_word-word.result.0) line_not_ended) c.args.number) (take_rest bytes c.read_word-word.result.1)
    ∙ ap (λ l. line_fault (cond (has_line_feed (drop c.read_word-word.result.1 bytes)) (fault_in (state_of l) c.read_word-word.result.0) line_not_ended) c.args.number) t.1
    ∙ ap (λ x. line_fault (cond (has_line_feed (drop c.read_word-word.result.1 bytes)) (fault_in (state_of old) x) line_not_ended) c.args.number) w.word
    ∙ r)
    c.refusal.ensures

pub loop-at-preserved : goal.loop-at-preserved
loop-at-preserved c =
    let g = c.loop-at.invariant in
    let bytes = c.args.bytes.now in
    let i = c.loop-at.at in
    let old = c.loop-at.line in
    let w = c.read_word-word.ensures in
    let begins : ends_word (get_or bytes i 0) ≡ false = goes_on (get_or bytes i 0) c.if-byte-eq-LINE_FEED.false (sym c.is_blank.ensures ∙ c.if-is_blank.false) in
    let t = IsTaken-true (on (state_of old) c.read_word-word.result.0) c.in_ok-take.field-0 old c.take.new.self c.if-not-branch.false c.in_ok-take.ensures in
    let taken : on (state_of old) (word_of (first_word (drop i bytes))) ≡ Some (state_of c.take.new.self) = ap (on (state_of old)) (sym w.word) ∙ t in
    record {
      from = (let f = w.forward in let a = g.from in omega arith);
      inside = w.within;
      numbers = (on-Follows (state_of old) (state_of c.take.new.self) (first_word (drop i bytes)) g.numbers taken).within;
      left = at-taken (state_of old) (state_of c.take.new.self) c.args.number bytes i c.read_word-word.result.1 _ c.loop-at-test.true begins taken w.rest g.left;
    }
