use Rattle.std.proofs.Common.{◌≡◌, List, ℕ, ◌++◌, true, false, length, take, sym, ap, ◌∙◌}
use Rattle.std.specs.Str.{bytes_eq}
use Rattle.spread.proofs.PackFileLemmas.{taken_off, not-other, stands}
use Rattle.spread.proofs.pack_file.body_of.Goals as goal

pub returns-in-Some : goal.returns-in-Some
returns-in-Some c =
    let stripped = c.in-Some.ensures.cases in
    record {
      named = not-other c.ne.result c.args.name.now c.as_str.result.now c.ne.ensures c.if-ne.false ∙ (c.as_str.ensures.value ∙ c.in_ok-own.ensures);
      joined = taken_off c.args.bytes.now c.as_bytes.result.now c.in_ok-from_slice-in-Some.field-0.items stripped.0 (c.in_ok-from_slice-in-Some.ensures.items ∙ stripped.1)
          ∙ ap (λ (xs : List ℕ). xs ++ c.in_ok-from_slice-in-Some.field-0.items) (c.as_bytes.ensures.value ∙ c.in_ok-head.ensures);
    }

pub returns : goal.returns
returns c = λ body whole.
    let front = c.as_bytes.result.now in
    let no : bytes_eq (take (length front) c.args.bytes.now) front ≡ false = c.in-None.ensures.cases in
    let yes : bytes_eq (take (length front) c.args.bytes.now) front ≡ true = stands c.args.bytes.now front body (whole.joined ∙ ap (λ (xs : List ℕ). xs ++ body) (sym (c.as_bytes.ensures.value ∙ c.in_ok-head.ensures))) in
    absurd (cc)
