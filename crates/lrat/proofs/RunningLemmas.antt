-- A check of a text that comes in pieces: one byte more, and what it comes to.
use Rattle.std.proofs.Common.{◌≡◌, ℕ, ◌+◌, ◌<◌, ◌≤◌, List, length, drop, get_or, cond, refl, sym, ap, ◌∙◌, arith}
use Rattle.std.proofs.lemmas.List.{drop_more}
use Rattle.theory.specs.Reading.{Limits}
use Rattle.theory.specs.ProofReading.{max_proof_bytes}
use Rattle.theory.specs.Checking.{refused}
use Rattle.lrat_text.specs.declared.text.Text.{Text}
use Rattle.lrat.specs.declared.check_fault.Fault.{Fault}
use Rattle.lrat.specs.declared.check_fault.Fault.TheVariants.{IdNotRising, BothSigns, NoSuchClause, HintNotUnit, HintAfterConflict, NoConflict, MissingCandidate, BadCandidate, NoSuchDeletion, LiteralOutOfRange}
use Rattle.lrat.specs.CheckFaults.{fault_of, fault_at}
use Rattle.lrat_text.specs.Pieces.{TakesBytes, stream_at}
use Rattle.lrat.specs.Running.{IsCheckSaid}
use Rattle.lrat_text.specs.Streams.{Progress, Stream, checked, verdict, at_text_end, text_too_long, feed, feed_byte, finish}
use Rattle.lrat.proofs.StreamLemmas.{lt-false}

-- bytes of a word, and the byte behind them
pub feed-more : (V W seen at r : ℕ) (piece : List ℕ) (p q : Progress) (old begun new : Text) → r < length piece → W ≡ V → TakesBytes piece old at begun r
    → ((m : ℕ) → stream_at (m + 1) q new ≡ feed_byte W (stream_at m p begun) (get_or piece r 0))
    → feed V (stream_at (seen + (r + 1)) q new) (drop (r + 1) piece) ≡ feed V (stream_at (seen + at) p old) (drop at piece)
feed-more V W seen at r piece p q old begun new less same takes byte =
    ap (λ m. feed V (stream_at m q new) (drop (r + 1) piece)) (let e : seen + (r + 1) ≡ seen + r + 1 = omega arith in e)
    ∙ ap (λ m. feed V m (drop (r + 1) piece)) (byte (seen + r))
    ∙ ap (λ v. feed V (feed_byte v (stream_at (seen + r) p begun) (get_or piece r 0)) (drop (r + 1) piece)) same
    ∙ sym (ap (feed V (stream_at (seen + r) p begun)) (drop_more piece r 0 less))
    ∙ sym (takes V seen p)

pub said-at : (f : Fault) (n : ℕ) → IsCheckSaid (refused (fault_of f) n) (fault_at f n)
said-at IdNotRising n = refl
said-at BothSigns n = refl
said-at (NoSuchClause id) n = refl
said-at (HintNotUnit id) n = refl
said-at HintAfterConflict n = refl
said-at NoConflict n = refl
said-at MissingCandidate n = refl
said-at BadCandidate n = refl
said-at NoSuchDeletion n = refl
said-at LiteralOutOfRange n = refl

-- a text without a fault, within the limit
pub finish-ended : (L : Limits) (m : Stream) → m.seen ≤ max_proof_bytes L → ((p : Progress) → at_text_end m.line p m.part ≡ checked (verdict p)) → finish L m ≡ checked (verdict m.progress)
finish-ended L m short ends = ap (λ b. cond b text_too_long (at_text_end m.line m.progress m.part)) (lt-false (max_proof_bytes L) m.seen short) ∙ ends m.progress
