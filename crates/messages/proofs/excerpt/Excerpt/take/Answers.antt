use Rattle.std.proofs.Common.{◌∷◌, ◌++◌, ◌-◌, take, drop, ap, sym, ◌∙◌}
use Rattle.messages.proofs.Kept.{behind-byte, behind-none, drop-none, drop-one_more, take-push}
use Rattle.messages.proofs.excerpt.Excerpt.take.Goals as goal

pub returns-then-self-gt0 : goal.returns-then-self-gt0
returns-then-self-gt0 c = λ more.
    let e = c.args.self.now in
    ap (λ text. take 128 (e.bytes.items ++ drop e.columns text))
    (behind-byte e.lines c.args.byte c.from.result more c.if-self-gt0.true c.from.ensures)

pub returns-then-self-gt0-2 : goal.returns-then-self-gt0-2
returns-then-self-gt0-2 c = λ more.
    let e = c.args.self.now in
    let first = c.if-self-gt0.false in
    ap (λ rest. take 128 (e.bytes.items ++ rest))
    (ap (λ text. drop (e.columns - 1) text) (behind-none e.lines more first)
    ∙ drop-one_more e.columns c.args.byte more c.if-self-gt0-2.true
    ∙ sym (ap (λ text. drop e.columns text) (behind-none e.lines (c.args.byte ∷ more) first)))

pub returns : goal.returns
returns c = λ more.
    let e = c.args.self.now in
    let first = c.if-self-gt0.false in
    let here = c.if-self-gt0-2.false in
    let push = c.try_push in
    ap (λ rest. take 128 (push.new.self.items ++ rest))
    (ap (λ text. drop e.columns text) (behind-none e.lines more first) ∙ drop-none e.columns more here)
    ∙ take-push (λ v. v.items) e.bytes push.new.self c.args.byte more push.result push.ensures.ok push.ensures.err push.ensures.full
    ∙ sym (ap (λ rest. take 128 (e.bytes.items ++ rest))
    (ap (λ text. drop e.columns text) (behind-none e.lines (c.args.byte ∷ more) first) ∙ drop-none e.columns (c.args.byte ∷ more) here))
