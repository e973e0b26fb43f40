use Rattle.std.proofs.Common.{◌≡◌, ◌∙◌, List, true, refl, sym, ap, arith}
use Rattle.theory.specs.Tokens.{Place}
use Rattle.theory.specs.Reading.{Placed, refusal, bad_header, over_limit, end_of}
use Rattle.cnf.specs.Machine.{run, at_number}
use Rattle.cnf.proofs.HeaderLemmas.{number-missing, number-other, number-above, number-read, not-false}
use Rattle.theory.proofs.literals.LiteralLemmas.{not_true}
use Rattle.cnf.proofs.header.read_count.Goals as goal
use Rattle.cnf.proofs.header.read_count.Goals.{then-start-bytes-via-then-start-bytes, then-start-bytes-via-else-start-bytes+then-bytes-start-eq10}

pub returns-then-start-bytes : goal.returns-then-start-bytes
returns-then-start-bytes c = λ L vars limit.
    ap (λ (ts : List Placed). run L (at_number vars) ts (end_of c.args.bytes.now)) (sym c.skip_blanks-start.ensures.tokens)
    ∙ number-missing L vars c.args.bytes.now c.skip_blanks-start.result (elim c.then-start-bytes.branch [
      | then-start-bytes-via-then-start-bytes w ↦ λ l. absurd (omega arith)
      | then-start-bytes-via-else-start-bytes+then-bytes-start-eq10 w ↦ λ l. w.if-bytes-start-eq10.true
    ])
    ∙ ap (λ (p : Place). refusal bad_header p) (sym c.place_at.ensures)

pub returns-then-not-number : goal.returns-then-not-number
returns-then-not-number c = λ L vars limit.
    let e = c.read_number-number.ensures in
    ap (λ (ts : List Placed). run L (at_number vars) ts (end_of c.args.bytes.now)) (sym c.skip_blanks-start.ensures.tokens)
    ∙ number-other L vars c.args.bytes.now c.skip_blanks-start.result c.read_number-number.result.end e.word e.within e.end (sym e.number.natural_is ∙ not_true c.read_number-number.result.natural c.if-not-number.true)
    ∙ ap (λ (p : Place). refusal bad_header p) (sym c.place_at-then-not-number.ensures)

pub returns-then-number-from : goal.returns-then-number-from
returns-then-number-from c = λ L vars limit.
    let e = c.read_number-number.ensures in
    let r = c.read_number-number.result in
    let natural : r.natural ≡ true = not-false r.natural c.if-not-number.false in
    ap (λ (ts : List Placed). run L (at_number vars) ts (end_of c.args.bytes.now)) (sym c.skip_blanks-start.ensures.tokens)
    ∙ number-above L vars c.args.bytes.now c.skip_blanks-start.result r.end e.word e.within e.end c.args.most r.size limit c.requires.small (sym e.number.natural_is ∙ natural)
    (e.number.size_is (rw natural refl)) (omega (arith, c.if-number-from.true, c.from.ensures))
    ∙ ap (λ (p : Place). refusal over_limit p) (sym c.place_at-then-number-from.ensures)

pub returns : goal.returns
returns c = λ L vars limit.
    let e = c.read_number-number.ensures in
    let r = c.read_number-number.result in
    let natural : r.natural ≡ true = not-false r.natural c.if-not-number.false in (
      e.within,
      omega (arith, c.if-number-from.false, c.from.ensures),
      ap (λ (ts : List Placed). run L (at_number vars) ts (end_of c.args.bytes.now)) (sym c.skip_blanks-start.ensures.tokens)
          ∙ number-read L vars c.args.bytes.now c.skip_blanks-start.result r.end e.word e.within e.end c.args.most r.size limit c.requires.small (sym e.number.natural_is ∙ natural)
          (e.number.size_is (rw natural refl)) (omega (arith, c.if-number-from.false, c.from.ensures)),
    )
