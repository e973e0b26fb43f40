use Rattle.std.proofs.Common.{◌∙◌, List, sym, ap}
use Rattle.theory.specs.Tokens.{Place}
use Rattle.theory.specs.Reading.{Placed, refusal, bad_header, end_of}
use Rattle.theory.proofs.reading.ReadingMachine.{at_cnf}
use Rattle.cnf.specs.Machine.{run}
use Rattle.cnf.proofs.HeaderLemmas.{cnf-read, cnf-refused}
use Rattle.cnf.proofs.header.read_cnf.Goals as goal

pub returns-then-is_text : goal.returns-then-is_text
returns-then-is_text c = λ L.
    let w = c.word_end-end.ensures in (
      w.within,
      ap (λ (ts : List Placed). run L at_cnf ts (end_of c.args.bytes.now)) (sym c.skip_blanks-start.ensures.tokens)
          ∙ cnf-read L c.args.bytes.now c.skip_blanks-start.result c.word_end-end.result (record { above = w.above; within = w.within; all = w.all; end = w.end }) (sym c.is_text.ensures ∙ c.if-is_text.true),
    )

pub returns-else-is_text : goal.returns-else-is_text
returns-else-is_text c = λ L.
    let w = c.word_end-end.ensures in
    ap (λ (ts : List Placed). run L at_cnf ts (end_of c.args.bytes.now)) (sym c.skip_blanks-start.ensures.tokens)
    ∙ cnf-refused L c.args.bytes.now c.skip_blanks-start.result c.word_end-end.result (record { above = w.above; within = w.within; all = w.all; end = w.end }) c.skip_blanks-start.ensures.end (sym c.is_text.ensures ∙ c.if-is_text.false)
    ∙ ap (λ (p : Place). refusal bad_header p) (sym c.place_at.ensures)
