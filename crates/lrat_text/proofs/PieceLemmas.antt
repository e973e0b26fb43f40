-- A word that ends, and the text's state behind it.
use Rattle.std.proofs.Common.{◌≡◌, ℕ, ◌+◌, ◌-◌, ◌*◌, ◌<◌, ◌≤◌, Bool, ◌||◌, drop, length, get_or, arith, List, [], ◌∷◌, ◌++◌, Option, Some, None, Err, nat_eq, ne_eqb, false, true, refl, sym, ap, subst, ◌∙◌}
use Rattle.lrat_text.specs.declared.begun.Begun as declared
use Rattle.lrat_text.specs.declared.begun.Begun.TheVariants.{Positive, Negative}
use Rattle.lrat_text.specs.declared.fault.LineFault.{LineFault}
use Rattle.lrat_text.specs.declared.line.Line.{Line}
use Rattle.lrat_text.specs.declared.word.Word.{Word}
use Rattle.theory.specs.Texts.{lf}
use Rattle.theory.specs.Tokens.{is_blank}
use Rattle.lrat_text.specs.declared.text.Stage.{Stage}
use Rattle.lrat_text.specs.declared.text.Stage.TheVariants.{InLine}
use Rattle.std.proofs.lemmas.List.{drop_more}
use Rattle.std.specs.Char.{is_ascii_digit}
use Rattle.theory.proofs.reading.NumberTexts.{digit-range}
use Rattle.lrat_text.proofs.DigitLemmas.{digit-goes_on}
use Rattle.lrat_text.specs.LineWords.{word_of, ends_word, capped}
use Rattle.lrat_text.specs.LineMachine.{LineState, on, fault_in, IsWithin}
use Rattle.lrat_text.specs.LineStates.{state_of, kind_of}
use Rattle.lrat_text.specs.Streams.{nothing, with_bytes, Ended, goes_to, at_fault, taken, ended, Progress, on_feed, LineProgress, held_back, on_blank, with_byte, in_line, kept_after, Part, on_byte, with_kept, feed, positive_so_far, negative_so_far, one_digit_more}
use Rattle.lrat_text.specs.Begun.{begun_of, IsCounted, Ends}
use Rattle.lrat_text.specs.Pieces.{part_at, IsBegunWord, TakesWord, in_word, closing}
use Rattle.lrat_text.proofs.BegunWords.{ended-word, with_bytes-push}
use Rattle.lrat_text.proofs.LineMachineLemmas.{on-Follows}

one_state : (s t : LineState) → goes_to s ≡ goes_to t → s ≡ t
one_state s t e = cc

taken-on : (s t : LineState) (w : Word) → taken s w ≡ goes_to t → on s w ≡ Some t
taken-on s t w h = go (on s w) h
  where
    go : (o : Option LineState) → (elim o [ Some u ↦ goes_to u | None ↦ at_fault (fault_in s w) ]) ≡ goes_to t → o ≡ Some t
    go (Some u) e = ap Some (one_state u t e)
    go None e = absurd (cc)

-- the line's numbers stay within their limits
pub ended-within : (s t : LineState) (w : List ℕ) → IsWithin s → ended s (with_bytes nothing w) ≡ goes_to t → IsWithin t
ended-within s t [] i e = subst IsWithin (one_state s t e) i
ended-within s t (c ∷ w) i e = (on-Follows s t (c ∷ w) i (taken-on s t (word_of (c ∷ w)) (sym (ended-word s c w) ∙ e))).within

pub ends-fault : (e : Ended) (f : LineFault) (old new : Line) → Ends e (Some f) old new → e ≡ at_fault (kind_of f)
ends-fault (goes_to s) f old new h = absurd h
ends-fault (at_fault k) f old new h = ap at_fault (sym h.0)

pub ends-closing : (V n : ℕ) (p : Progress) (e : Ended) (f : LineFault) (old new : Line) → Ends e (Some f) old new → on_feed V n p e ≡ closing V n p (Err f)
ends-closing V n p e f old new h = ap (on_feed V n p) (ends-fault e f old new h)

pub ends-blank : (n : ℕ) (p : Progress) (e : Ended) (f : LineFault) (old new : Line) → Ends e (Some f) old new
    → on_blank n p e ≡ record { line = n; part = held_back (kind_of f); progress = p }
ends-blank n p e f old new h = ap (on_blank n p) (ends-fault e f old new h)

pub word-within : (s t : LineState) (g : declared.Begun) → IsWithin s → IsBegunWord g → ended s (begun_of g) ≡ goes_to t → IsWithin t
word-within s t g i b e = ended-within s t b.1.0 i (ap (ended s) (sym b.1.1) ∙ e)

pub word-more : (g h : declared.Begun) (b : ℕ) → IsBegunWord g → IsCounted h → begun_of h ≡ with_byte (begun_of g) b → IsBegunWord h
word-more g h b w c e = (c, (w.1.0 ++ b ∷ [], e ∙ ap (λ x. with_byte x b) w.1.1 ∙ sym (with_bytes-push nothing w.1.0 b)))

-- a blank behind a word
pub blank-kept : (V n : ℕ) (p : Progress) (stage : Stage) (l : Line) (g : declared.Begun) (b : ℕ) → stage ≡ InLine → (b ≡ lf → ⊥) → is_blank b ≡ true
    → kept_after V n p (part_at stage l g) b ≡ on_blank n p (ended (state_of l) (begun_of g))
blank-kept V n p stage l g b e other blank = ap (λ s. kept_after V n p (part_at s l g) b) e ∙ inside (ne_eqb b lf other)
  where
    inside : nat_eq b lf ≡ false → kept_after V n p (in_line (state_of l) (begun_of g)) b ≡ on_blank n p (ended (state_of l) (begun_of g))
    inside f = rw (f, blank) refl

pub blank-gone : (n : ℕ) (p : Progress) (e : Ended) (old new : Line) → Ends e None old new → on_blank n p e ≡ record { line = n; part = in_line (state_of new) nothing; progress = p }
blank-gone n p e old new h = ap (on_blank n p) h

abbrev pub kept_with : ℕ → Progress → Part → LineProgress
kept_with n p part = record { line = n; part = part; progress = p }

-- a byte of the word that is begun
pub TakesWord-more : (bytes : List ℕ) (g h r : declared.Begun) (start at : ℕ) → at < length bytes → ends_word (get_or bytes at 0) ≡ false → begun_of r ≡ with_byte (begun_of h) (get_or bytes at 0)
    → TakesWord bytes g start h at → TakesWord bytes g start r (at + 1)
TakesWord-more bytes g h r start at inside goes_on is t V k n p s =
    t V k n p s ∙ ap (feed V (in_word (k + at) n p s (begun_of h))) (drop_more bytes at 0 inside)
    ∙ ap (λ kept. feed V (with_kept (k + at + 1) kept) (drop (at + 1) bytes)) (byte (get_or bytes at 0) goes_on)
    ∙ ap (λ w. feed V (in_word (k + at + 1) n p s w) (drop (at + 1) bytes)) (sym is)
    ∙ ap (λ m. feed V (in_word m n p s (begun_of r)) (drop (at + 1) bytes)) (let e : k + at + 1 ≡ k + (at + 1) = omega arith in e)
  where
    byte : (b : ℕ) → ends_word b ≡ false → on_byte V n p s (begun_of h) b ≡ record { line = n; part = in_line s (with_byte (begun_of h) b); progress = p }
    byte b e = go (nat_eq b lf) (is_blank b) refl refl e
      where
        go : (x y : Bool) → nat_eq b lf ≡ x → is_blank b ≡ y → x || y ≡ false → on_byte V n p s (begun_of h) b ≡ record { line = n; part = in_line s (with_byte (begun_of h) b); progress = p }
        go true y i j f = absurd (cc)
        go false true i j f = absurd (cc)
        go false false i j f = rw (i, j) refl

pub TakesWord-none : (bytes : List ℕ) (g : declared.Begun) (start : ℕ) → TakesWord bytes g start g start
TakesWord-none bytes g start V k n p s = refl

pub TakesWord-then : (bytes : List ℕ) (g h r : declared.Begun) (start middle end : ℕ) → TakesWord bytes g start h middle → TakesWord bytes h middle r end → TakesWord bytes g start r end
TakesWord-then bytes g h r start middle end t u V k n p s = t V k n p s ∙ u V k n p s

-- a digit behind a number
pub digit-word : (b : ℕ) → is_ascii_digit b ≡ true → ends_word b ≡ false
digit-word b h = let r = digit-range b h in digit-goes_on b r.0 r.1

pub positive-digit : (n b : ℕ) → is_ascii_digit b ≡ true → with_byte (positive_so_far n) b ≡ positive_so_far (one_digit_more n b)
positive-digit n b h = rw h refl

pub negative-digit : (n b : ℕ) → is_ascii_digit b ≡ true → with_byte (negative_so_far n) b ≡ negative_so_far (one_digit_more n b)
negative-digit n b h = rw h refl

pub positive-more : (n m b : ℕ) → is_ascii_digit b ≡ true → m ≡ capped (n * 10 + (b - 48)) → (1 ≤ m) × (m ≤ 9223372036854775808) → IsBegunWord (Positive n) → IsBegunWord (Positive m)
positive-more n m b digit e within w = word-more (Positive n) (Positive m) b w within (ap positive_so_far e ∙ sym (positive-digit n b digit))

pub negative-more : (n m b : ℕ) → is_ascii_digit b ≡ true → m ≡ capped (n * 10 + (b - 48)) → (1 ≤ m) × (m ≤ 9223372036854775808) → IsBegunWord (Negative n) → IsBegunWord (Negative m)
negative-more n m b digit e within w = word-more (Negative n) (Negative m) b w within (ap negative_so_far e ∙ sym (negative-digit n b digit))

-- a blank is no line feed
pub blank-other : (b : ℕ) → is_blank b ≡ true → b ≡ lf → ⊥
blank-other b blank e = let h : is_blank lf ≡ true = ap is_blank (sym e) ∙ blank in let x : false ≡ true = h in absurd (cc)
