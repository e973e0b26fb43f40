-- Fed with the bytes of a text, the machine comes to what the whole text is read as, and its steps
-- are checked as.
use Rattle.std.proofs.Common.{◌≡◌, ℕ, ◌+◌, ◌<◌, ◌≤◌, Bool, true, false, ◌||◌, List, [], ◌∷◌, ◌++◌, length, nat_eq, eqb-true, nat_lt, Option, Some, None, refl, sym, ap, subst, ◌∙◌, arith, cond, append_assoc}
use Rattle.theory.specs.Texts.{lf}
use Rattle.theory.specs.Tokens.{lines_of, is_blank}
use Rattle.theory.specs.Truth.{Formula}
use Rattle.theory.specs.Steps as theory
use Rattle.theory.specs.Reading.{Limits}
use Rattle.theory.specs.ProofReading.{TextFault, line_not_ended, ProofReading, steps, line_fault, too_long, ProofReadsWithin, max_proof_bytes}
use Rattle.theory.specs.Checking.{Fault, Checker, Tested, refused, leaves, faulty, test, check_from}
use Rattle.lrat_text.specs.LineWords.{ends_word, first_word, after_word, word_of}
use Rattle.lrat_text.specs.LineMachine.{LineState, at_id, on, fault_in, at_end, behind, LineReading, line_read, line_at_fault, read_lines, within, with_step, has_line_feed}
use Rattle.lrat_text.specs.Streams.{nothing, with_bytes, Part, fresh, in_line, held_back, closed, Progress, goes_on, stopped, Stream, begin, checked_step, Ended, goes_to, at_fault, ended, LineProgress, closed_line, on_feed, on_blank, on_byte, kept_after, feed_byte, feed, Answer, checked, line_refused, text_too_long, verdict, at_text_end, finish, answer_to}
use Rattle.lrat_text.proofs.LineTexts.{Solid, lines_of-solid}
use Rattle.lrat_text.proofs.LineReadings.{within-blank, within-lf, read_lines-begin, within-taken, within-refused}
use Rattle.lrat_text.proofs.ProofTexts.{reading_of_text, reading-ProofReads, ProofReads-only}
use Rattle.lrat_text.proofs.BegunWords.{ended-word, with_bytes-push}

-- the steps from number n on
abbrev pub checked_steps : ℕ → ℕ → Progress → List theory.Step → Progress
checked_steps V n p [] = p
checked_steps V n p (s ∷ ss) = checked_steps V (n + 1) (checked_step V n p s) ss

stopped-steps : (V n : ℕ) (f : Fault) (k : ℕ) (ss : List theory.Step) → checked_steps V n (stopped f k) ss ≡ stopped f k
stopped-steps V n f k [] = refl
stopped-steps V n f k (s ∷ ss) = stopped-steps V (n + 1) f k ss

steps-check_from : (V n : ℕ) (s : Checker) (ss : List theory.Step) → verdict (checked_steps V n (goes_on s) ss) ≡ check_from V n s ss
steps-check_from V n s [] = refl
steps-check_from V n s (step ∷ ss) = go (test V s step) (λ t. steps-check_from V (n + 1) t ss)
  where
    go : (t : Tested) → ((u : Checker) → verdict (checked_steps V (n + 1) (goes_on u) ss) ≡ check_from V (n + 1) u ss)
        → verdict (checked_steps V (n + 1) (elim t [ leaves u ↦ goes_on u | faulty f ↦ stopped f n ]) ss)
        ≡ elim t [ leaves u ↦ check_from V (n + 1) u ss | faulty f ↦ refused f n ]
    go (leaves t) h = h t
    go (faulty f) h = ap verdict (stopped-steps V (n + 1) f n ss)

-- what is answered where the rest is read so, and its first line has the number n
abbrev pub after : ℕ → ℕ → Progress → ProofReading → Answer
after V n p (steps ss) = checked (verdict (checked_steps V n p ss))
after V n p (line_fault f k) = line_refused f k
after V n p too_long = text_too_long

after-with_step : (V n : ℕ) (p : Progress) (s : theory.Step) (r : ProofReading) → after V n p (with_step s r) ≡ after V (n + 1) (checked_step V n p s) r
after-with_step V n p s (steps ss) = refl
after-with_step V n p s (line_fault f k) = refl
after-with_step V n p s too_long = refl

-- the rest of the text is read as, where the word begun has these bytes
abbrev pub left : ℕ → Part → List ℕ → List ℕ → ProofReading
left n fresh w rest = read_lines n (lines_of rest)
left n (in_line s g) w rest = within s n (lines_of (w ++ rest))
left n (held_back f) w rest = line_fault (cond (has_line_feed rest) f line_not_ended) n
left n (closed f) w rest = line_fault f n

abbrev pub IsBegun : Part → List ℕ → Type 0
IsBegun (in_line s g) w = Solid w × (g ≡ with_bytes nothing w)
IsBegun part w = Unit {0}

-- what is kept leads to the answer, with the rest of the text
pub record Leads (V : ℕ) (k : LineProgress) (rest : List ℕ) (a : Answer) : Type 0 where
  pub word : List ℕ
  pub begun : IsBegun k.part word
  pub same : after V k.line k.progress (left k.line k.part word rest) ≡ a

-- a word ends
abbrev pub ended_left : ℕ → Ended → List ℕ → ProofReading
ended_left n (goes_to s) rest = within s n (lines_of rest)
ended_left n (at_fault f) rest = line_fault (cond (has_line_feed rest) f line_not_ended) n

first_word-is : (w : List ℕ) (b : ℕ) (bytes : List ℕ) → Solid w → ends_word b ≡ true → first_word (w ++ b ∷ bytes) ≡ w
first_word-is [] b bytes s e = rw e refl
first_word-is (c ∷ w) b bytes s e = let h = s.0 in rw h (ap (λ x. c ∷ x) (first_word-is w b bytes s.1 e))

after_word-is : (w : List ℕ) (b : ℕ) (bytes : List ℕ) → Solid w → ends_word b ≡ true → after_word (w ++ b ∷ bytes) ≡ b ∷ bytes
after_word-is [] b bytes s e = rw e refl
after_word-is (c ∷ w) b bytes s e = let h = s.0 in rw h (after_word-is w b bytes s.1 e)

ended-left : (s : LineState) (n : ℕ) (w : List ℕ) (b : ℕ) (bytes : List ℕ) → Solid w → ends_word b ≡ true
    → within s n (lines_of (w ++ b ∷ bytes)) ≡ ended_left n (ended s (with_bytes nothing w)) (b ∷ bytes)
ended-left s n [] b bytes solid e = refl
ended-left s n (c ∷ w) b bytes solid e = go (on s (word_of (c ∷ w))) refl
  where
    first : first_word ((c ∷ w) ++ b ∷ bytes) ≡ c ∷ w
    first = first_word-is (c ∷ w) b bytes solid e

    rest : after_word ((c ∷ w) ++ b ∷ bytes) ≡ b ∷ bytes
    rest = after_word-is (c ∷ w) b bytes solid e

    go : (o : Option LineState) → on s (word_of (c ∷ w)) ≡ o
        → within s n (lines_of ((c ∷ w) ++ b ∷ bytes)) ≡ ended_left n (ended s (with_bytes nothing (c ∷ w))) (b ∷ bytes)
    go (Some t) h =
        within-taken s t n c (w ++ b ∷ bytes) solid.0 (ap (λ x. on s (word_of x)) first ∙ h)
        ∙ ap (λ x. within t n (lines_of x)) rest
        ∙ sym (ap (λ x. ended_left n x (b ∷ bytes)) (ended-word s c w ∙ ap (λ o. elim o [ Some u ↦ goes_to u | None ↦ at_fault (fault_in s (word_of (c ∷ w))) ]) h))
    go None h =
        within-refused s n c (w ++ b ∷ bytes) solid.0 (ap (λ x. on s (word_of x)) first ∙ h)
        ∙ ap (λ x. line_fault (cond (has_line_feed x) (fault_in s (word_of (first_word ((c ∷ w) ++ b ∷ bytes)))) line_not_ended) n) rest
        ∙ ap (λ x. line_fault (cond (has_line_feed (b ∷ bytes)) (fault_in s (word_of x)) line_not_ended) n) first
        ∙ sym (ap (λ x. ended_left n x (b ∷ bytes)) (ended-word s c w ∙ ap (λ o. elim o [ Some u ↦ goes_to u | None ↦ at_fault (fault_in s (word_of (c ∷ w))) ]) h))

closed_line-Leads : (V n : ℕ) (p : Progress) (l : LineReading) (bytes : List ℕ)
    → Leads V (closed_line V n p l) bytes (after V n p (behind l n (read_lines (n + 1) (lines_of bytes))))
closed_line-Leads V n p (line_read step) bytes = record { word = []; begun = tt; same = sym (after-with_step V n p step (read_lines (n + 1) (lines_of bytes))) }
closed_line-Leads V n p (line_at_fault f) bytes = record { word = []; begun = tt; same = refl }

on_feed-Leads : (V n : ℕ) (p : Progress) (e : Ended) (bytes : List ℕ) → Leads V (on_feed V n p e) bytes (after V n p (ended_left n e (lf ∷ bytes)))
on_feed-Leads V n p (goes_to s) bytes = subst (λ r. Leads V (closed_line V n p (at_end s)) bytes (after V n p r)) (sym (within-lf s n bytes)) (closed_line-Leads V n p (at_end s) bytes)
on_feed-Leads V n p (at_fault f) bytes = record { word = []; begun = tt; same = refl }

feeds-later : (b : ℕ) (bytes : List ℕ) → nat_eq b lf ≡ false → has_line_feed (b ∷ bytes) ≡ has_line_feed bytes
feeds-later b bytes e = ap (λ r. r || has_line_feed bytes) e

on_blank-Leads : (V n : ℕ) (p : Progress) (e : Ended) (b : ℕ) (bytes : List ℕ) → nat_eq b lf ≡ false → is_blank b ≡ true
    → Leads V (on_blank n p e) bytes (after V n p (ended_left n e (b ∷ bytes)))
on_blank-Leads V n p (goes_to s) b bytes feed blank = record { word = []; begun = (tt, refl); same = ap (after V n p) (sym (within-blank s n b bytes blank)) }
on_blank-Leads V n p (at_fault f) b bytes feed blank =
    record { word = []; begun = tt; same = ap (λ r. line_refused (cond r f line_not_ended) n) (sym (feeds-later b bytes feed)) }

-- one byte more of the word
Solid-push : (w : List ℕ) (b : ℕ) → Solid w → ends_word b ≡ false → Solid (w ++ b ∷ [])
Solid-push [] b s e = (e, tt)
Solid-push (c ∷ w) b s e = (s.0, Solid-push w b s.1 e)

apart : (b : ℕ) (x y : Bool) → nat_eq b lf ≡ x → is_blank b ≡ y → ends_word b ≡ x || y
apart b x y e f = ap (λ r. r || is_blank b) e ∙ ap (λ r. x || r) f

on_byte-Leads : (V n : ℕ) (p : Progress) (s : LineState) (w : List ℕ) (b : ℕ) (bytes : List ℕ) → Solid w
    → Leads V (on_byte V n p s (with_bytes nothing w) b) bytes (after V n p (within s n (lines_of (w ++ b ∷ bytes))))
on_byte-Leads V n p s w b bytes solid = go (nat_eq b lf) (is_blank b) refl refl
  where
    go : (x y : Bool) → nat_eq b lf ≡ x → is_blank b ≡ y
        → Leads V (on_byte V n p s (with_bytes nothing w) b) bytes (after V n p (within s n (lines_of (w ++ b ∷ bytes))))
    go true y e f =
        let is : b ≡ lf = eqb-true b lf e in
        let ends : ends_word b ≡ true = apart b true y e f in
        let h : Leads V (on_feed V n p (ended s (with_bytes nothing w))) bytes (after V n p (within s n (lines_of (w ++ b ∷ bytes)))) =
        subst (λ r. Leads V (on_feed V n p (ended s (with_bytes nothing w))) bytes (after V n p r))
        (sym (ended-left s n w b bytes solid ends ∙ ap (λ c. ended_left n (ended s (with_bytes nothing w)) (c ∷ bytes)) is))
        (on_feed-Leads V n p (ended s (with_bytes nothing w)) bytes) in
        rw e h
    go false true e f =
        let ends : ends_word b ≡ true = apart b false true e f in
        let h : Leads V (on_blank n p (ended s (with_bytes nothing w))) bytes (after V n p (within s n (lines_of (w ++ b ∷ bytes)))) =
        subst (λ r. Leads V (on_blank n p (ended s (with_bytes nothing w))) bytes (after V n p r))
        (sym (ended-left s n w b bytes solid ends))
        (on_blank-Leads V n p (ended s (with_bytes nothing w)) b bytes e f) in
        rw (e, f) h
    go false false e f =
        let ends : ends_word b ≡ false = apart b false false e f in
        rw (e, f) (record {
          word = w ++ b ∷ [];
          begun = (Solid-push w b solid ends, sym (with_bytes-push nothing w b));
          same = ap (λ x. after V n p (within s n (lines_of x))) (append_assoc w (b ∷ []) bytes);
        })

held-Leads : (V n : ℕ) (p : Progress) (f : TextFault) (b : ℕ) (bytes : List ℕ)
    → Leads V (kept_after V n p (held_back f) b) bytes (line_refused (cond (has_line_feed (b ∷ bytes)) f line_not_ended) n)
held-Leads V n p f b bytes = go (nat_eq b lf) refl
  where
    go : (x : Bool) → nat_eq b lf ≡ x → Leads V (kept_after V n p (held_back f) b) bytes (line_refused (cond (has_line_feed (b ∷ bytes)) f line_not_ended) n)
    go true e = rw e (record { word = []; begun = tt; same = refl })
    go false e = rw e (record { word = []; begun = tt; same = refl })

byte-Leads : (V n : ℕ) (p : Progress) (part : Part) (w : List ℕ) (b : ℕ) (bytes : List ℕ) → IsBegun part w
    → Leads V (kept_after V n p part b) bytes (after V n p (left n part w (b ∷ bytes)))
byte-Leads V n p fresh w b bytes h =
    subst (λ r. Leads V (on_byte V n p at_id nothing b) bytes (after V n p r)) (sym (read_lines-begin n b bytes)) (on_byte-Leads V n p at_id [] b bytes tt)
byte-Leads V n p (in_line s g) w b bytes h =
    subst (λ x. Leads V (on_byte V n p s x b) bytes (after V n p (within s n (lines_of (w ++ b ∷ bytes))))) (sym h.1) (on_byte-Leads V n p s w b bytes h.0)
byte-Leads V n p (held_back f) w b bytes h = held-Leads V n p f b bytes
byte-Leads V n p (closed f) w b bytes h = record { word = []; begun = tt; same = refl }

-- the text ends
end-part : (V n : ℕ) (p : Progress) (part : Part) (w : List ℕ) → IsBegun part w → at_text_end n p part ≡ after V n p (left n part w [])
end-part V n p fresh w h = refl
end-part V n p (in_line s g) w h = ap (λ ls. after V n p (within s n ls)) (sym (lines_of-solid w [] [] [] h.0 refl))
end-part V n p (held_back f) w h = refl
end-part V n p (closed f) w h = refl

pub feed-end : (V : ℕ) (bytes : List ℕ) (m : Stream) (w : List ℕ) → IsBegun m.part w
    → at_text_end (feed V m bytes).line (feed V m bytes).progress (feed V m bytes).part ≡ after V m.line m.progress (left m.line m.part w bytes)
feed-end V [] m w h = end-part V m.line m.progress m.part w h
feed-end V (b ∷ bytes) m w h =
    let l = byte-Leads V m.line m.progress m.part w b bytes h in
    feed-end V bytes (feed_byte V m b) l.word l.begun ∙ l.same

pub feed-seen : (V : ℕ) (bytes : List ℕ) (m : Stream) → (feed V m bytes).seen ≡ m.seen + length bytes
feed-seen V [] m = omega arith
feed-seen V (b ∷ bytes) m = feed-seen V bytes (feed_byte V m b) ∙ omega arith

-- Pieces, one after the other, are their whole.
pub feed-append : (V : ℕ) (m : Stream) (xs ys : List ℕ) → feed V m (xs ++ ys) ≡ feed V (feed V m xs) ys
feed-append V m [] ys = refl
feed-append V m (x ∷ xs) ys = feed-append V (feed_byte V m x) xs ys

after-answer : (F : Formula) (r : ProofReading) → after F.vars 1 (begin F).progress r ≡ answer_to F r
after-answer F (steps ss) = ap checked (steps-check_from F.vars 1 _ ss)
after-answer F (line_fault f n) = refl
after-answer F too_long = refl

pub lt-true : (a b : ℕ) → a < b → nat_lt a b ≡ true
lt-true a b h = grind arith

pub lt-false : (a b : ℕ) → b ≤ a → nat_lt a b ≡ false
lt-false a b h = grind arith

short-text : (L : Limits) (F : Formula) (bytes : List ℕ) (r : ProofReading) → length bytes ≤ max_proof_bytes L → ProofReadsWithin L bytes r
    → finish L (feed F.vars (begin F) bytes) ≡ answer_to F r
short-text L F bytes r short h =
    let m = feed F.vars (begin F) bytes in
    let within : nat_lt (max_proof_bytes L) m.seen ≡ false = lt-false (max_proof_bytes L) m.seen (let s = feed-seen F.vars bytes (begin F) in omega arith) in
    ap (λ x. cond x text_too_long (at_text_end m.line m.progress m.part)) within
    ∙ feed-end F.vars bytes (begin F) [] tt
    ∙ ap (after F.vars 1 (begin F).progress) (ProofReads-only L bytes (reading_of_text bytes) r (reading-ProofReads L bytes short) h)
    ∙ after-answer F r

-- Fed with a whole text, the machine answers what the text is read as.
pub finish-feed : (L : Limits) (F : Formula) (bytes : List ℕ) (r : ProofReading) → ProofReadsWithin L bytes r → finish L (feed F.vars (begin F) bytes) ≡ answer_to F r
finish-feed L F bytes too_long h =
    let m = feed F.vars (begin F) bytes in
    let above : nat_lt (max_proof_bytes L) m.seen ≡ true = lt-true (max_proof_bytes L) m.seen (let s = feed-seen F.vars bytes (begin F) in omega arith) in
    ap (λ x. cond x text_too_long (at_text_end m.line m.progress m.part)) above
finish-feed L F bytes (steps ss) h = short-text L F bytes (steps ss) h.0 h
finish-feed L F bytes (line_fault f n) h = short-text L F bytes (line_fault f n) h.0 h

-- Whatever comes behind the limit, the text is too long.
pub finish-long : (L : Limits) (V : ℕ) (m : Stream) (bytes : List ℕ) → max_proof_bytes L < m.seen → finish L (feed V m bytes) ≡ text_too_long
finish-long L V m bytes h =
    let n = feed V m bytes in
    let above : nat_lt (max_proof_bytes L) n.seen ≡ true = lt-true (max_proof_bytes L) n.seen (let s = feed-seen V bytes m in omega arith) in
    ap (λ x. cond x text_too_long (at_text_end n.line n.progress n.part)) above
