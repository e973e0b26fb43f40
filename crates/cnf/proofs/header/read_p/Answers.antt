use Rattle.std.proofs.Common.{◌≡◌, ◌∙◌, sym, ap, refl}
use Rattle.theory.specs.Tokens.{Place}
use Rattle.theory.specs.Reading.{refusal, no_header, tokens_of}
use Rattle.cnf.specs.Tokens.{before_header, tokens_left, place_at}
use Rattle.cnf.proofs.HeaderLemmas.{p-read, p-refused}
use Rattle.cnf.proofs.LeftTokens.{tokens_of-left}
use Rattle.cnf.proofs.header.read_p.Goals as goal

pub skip_comment-requires-clause-first : goal.skip_comment-requires-clause-first
unfolding place_at
skip_comment-requires-clause-first c = refl

pub returns-then-is_text : goal.returns-then-is_text
returns-then-is_text c = λ L.
    let e : tokens_left before_header c.args.bytes.now c.skip_to_token-start.result ≡ tokens_of c.args.bytes.now
    = c.skip_to_token-start.ensures.tokens before_header (λ x. cc) ∙ c.skip_comment.ensures.tokens before_header (λ x. cc) ∙ sym (tokens_of-left c.args.bytes.now) in
    let w = c.word_end-end.ensures in
    (w.within, p-read L c.args.bytes.now c.skip_to_token-start.result c.word_end-end.result e (record { above = w.above; within = w.within; all = w.all; end = w.end }) (sym c.is_text.ensures ∙ c.if-is_text.true))

pub returns-else-is_text : goal.returns-else-is_text
returns-else-is_text c = λ L.
    let e : tokens_left before_header c.args.bytes.now c.skip_to_token-start.result ≡ tokens_of c.args.bytes.now
    = c.skip_to_token-start.ensures.tokens before_header (λ x. cc) ∙ c.skip_comment.ensures.tokens before_header (λ x. cc) ∙ sym (tokens_of-left c.args.bytes.now) in
    let w = c.word_end-end.ensures in
    p-refused L c.args.bytes.now c.skip_to_token-start.result c.word_end-end.result e (record { above = w.above; within = w.within; all = w.all; end = w.end }) c.skip_to_token-start.ensures.word (sym c.is_text.ensures ∙ c.if-is_text.false)
    ∙ ap (λ (p : Place). refusal no_header p) (sym c.place_at.ensures)
