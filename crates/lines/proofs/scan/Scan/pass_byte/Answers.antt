use Rattle.std.proofs.Common.{◌≡◌, false, refl, ap, ◌∙◌, subst, lt-ltb}
use Rattle.lines.specs.Rows.{Part, with_bits, with_number}
use Rattle.lines.specs.Scanning.{IsScanOf}
use Rattle.lines.proofs.scan.Scan.pass_byte.Goals as goal

pub returns-then-byte-lt128-clause-scan : goal.returns-then-byte-lt128-clause-scan
returns-then-byte-lt128-clause-scan c = λ p s.
    let ended : Part = record p { value = 0; begun = false } in
    let number : c.with_bits-number.result ≡ with_bits p.value c.args.byte = c.with_bits-number.ensures ∙ ap (λ v. with_bits v c.args.byte) s.value in
    let before : IsScanOf (record c.args.self.now { value = 0; begun = false }) ended = record {
      lines = s.lines;
      literals = s.literals;
      hints = s.hints;
      forgets = s.forgets;
      section = s.section;
      value = refl;
      begun = refl;
      within = s.within;
      first = s.first;
      no_hints = s.no_hints;
      none_forgotten = s.none_forgotten;
      between = λ _. refl;
    } in
    rw (lt-ltb c.args.byte 128 c.if-byte-lt128.true)
    (subst (λ n. IsScanOf c.pass_number.new.self (with_number ended n)) number (c.pass_number.ensures.scan ended (refl, refl) before))
