use Rattle.std.proofs.Common.{sym, subst}
use Rattle.lrat_text.specs.Pieces.{IsTextAt}
use Rattle.lrat_text.proofs.PieceLemmas.{word-more}
use Rattle.lrat_text.proofs.text.Text.take_in_line.Goals as goal

pub returns-else-is_blank-clause-text : goal.returns-else-is_blank-clause-text
returns-else-is_blank-clause-text c =
    let t = subst (λ s. IsTextAt s c.args.self.now.line c.args.self.now.begun) c.requires.stage c.requires.text in
    subst (λ s. IsTextAt s c.args.self.now.line c.with_byte-self.result) (sym c.requires.stage)
    (t.0, word-more c.args.self.now.begun c.with_byte-self.result c.args.byte t.1 c.with_byte-self.ensures.counted c.with_byte-self.ensures.word)

pub with_byte-self-requires : goal.with_byte-self-requires
with_byte-self-requires c = (subst (λ s. IsTextAt s c.args.self.now.line c.args.self.now.begun) c.requires.stage c.requires.text).1.0
