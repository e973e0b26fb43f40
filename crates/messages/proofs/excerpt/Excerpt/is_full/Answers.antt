use Rattle.std.proofs.Common.{[], drop}
use Rattle.messages.specs.Excerpts.{behind_lines}
use Rattle.messages.proofs.Kept.{take-full-any}
use Rattle.messages.proofs.excerpt.Excerpt.is_full.Goals as goal

pub returns : goal.returns
returns c = λ full more.
    let e = c.args.self.now in
    take-full-any c.is_full.result e.bytes.items (drop e.columns (behind_lines e.lines more))
    (drop e.columns (behind_lines e.lines [])) c.is_full.ensures.value full
