-- Numbers and literals that stand whole among the bytes of a piece are steps of the machine.
use Rattle.std.proofs.Common.{◌≡◌, ℕ, ◌+◌, ◌-◌, ◌<◌, ◌≤◌, true, false, List, [], ◌∷◌, ◌++◌, drop, length, get_or, arith, Option, Some, None, nat_eq, nat_le, le-leb, ne_eqb, refl, sym, ap, subst, ◌∙◌, cond}
use Rattle.std.proofs.lemmas.List.{drop_more}
use Rattle.std.specs.Char.{is_ascii_digit}
use Rattle.theory.specs.Literals.{Clause, Literal, negative}
use Rattle.theory.specs.ProofReading.{IsNumber, max_literal, max_number}
use Rattle.theory.specs.Steps.{Addition}
use Rattle.theory.specs.Texts.{lf, minus}
use Rattle.theory.specs.Tokens.{is_blank}
use Rattle.lrat_text.specs.declared.begun.Begun as declared
use Rattle.lrat_text.specs.declared.begun.Begun.TheVariants as begun
use Rattle.lrat_text.specs.declared.line.Line.{Line}
use Rattle.lrat_text.specs.declared.line.Part.TheVariants.{Hints, GroupHints, Ids}
use Rattle.lrat_text.specs.declared.word.Word.{Word}
use Rattle.lrat_text.specs.declared.word.Word.TheVariants as words
use Rattle.lrat_text.specs.Begun.{begun_of}
use Rattle.lrat_text.specs.LineMachine.{LineState, at_clause, at_hints, at_group, at_ids, on, on_candidate, fault_in, with_group, without_groups}
use Rattle.lrat_text.specs.LineStates.{state_of, state_at, addition_of, group_of, deletion_of}
use Rattle.lrat_text.specs.LineWords.{ends_word}
use Rattle.lrat_text.specs.Pieces.{TakesWord, in_word}
use Rattle.lrat_text.specs.Runs.{TakesRun, TakesNumbers, StandsWhole, IsLiteralAt}
use Rattle.lrat_text.specs.Streams.{nothing, positive_so_far, negative_so_far, minus_so_far, first_digit, with_byte, goes_to, at_fault, taken, ended, on_byte, on_blank, in_line, with_kept, feed}
use Rattle.lrat_text.proofs.PieceLemmas.{TakesWord-more, TakesWord-none, TakesWord-then, blank-other, digit-word}

-- a word that stands whole, with the blank behind it
run-word : (bytes : List ℕ) (s t : LineState) (g : declared.Begun) (start end : ℕ) → end < length bytes → is_blank (get_or bytes end 0) ≡ true
    → TakesWord bytes begun.Nothing start g end → ended s (begun_of g) ≡ goes_to t → TakesRun bytes s start t (end + 1)
run-word bytes s t g start end inside blank word goes V k n p =
    word V k n p s
    ∙ ap (feed V (in_word (k + end) n p s (begun_of g))) (drop_more bytes end 0 inside)
    ∙ ap (λ kept. feed V (with_kept (k + end + 1) kept) (drop (end + 1) bytes)) (byte (get_or bytes end 0) blank (ne_eqb (get_or bytes end 0) lf (blank-other (get_or bytes end 0) blank)))
    ∙ ap (λ m. feed V (in_word m n p t nothing) (drop (end + 1) bytes)) (let e : k + end + 1 ≡ k + (end + 1) = omega arith in e)
  where
    byte : (b : ℕ) → is_blank b ≡ true → nat_eq b lf ≡ false → on_byte V n p s (begun_of g) b ≡ record { line = n; part = in_line t nothing; progress = p }
    byte b e f = rw (f, e) (ap (on_blank n p) goes)

-- the first digit of a number, alone or behind a minus
first_positive : (b : ℕ) → first_digit b ≡ true → positive_so_far (b - 48) ≡ with_byte nothing b
first_positive b h = rw h refl

first_negative : (b : ℕ) → first_digit b ≡ true → negative_so_far (b - 48) ≡ with_byte minus_so_far b
first_negative b h = rw h refl

pub stands-whole : (bytes : List ℕ) (start n end : ℕ) → start < length bytes → is_ascii_digit (get_or bytes start 0) ≡ true → (get_or bytes start 0 ≡ 48 → ⊥)
    → TakesWord bytes (begun.Positive (get_or bytes start 0 - 48)) (start + 1) (begun.Positive n) end → TakesWord bytes (begun.Negative (get_or bytes start 0 - 48)) (start + 1) (begun.Negative n) end
    → IsNumber n → is_blank (get_or bytes end 0) ≡ true → start + 1 ≤ end → end < length bytes → StandsWhole bytes start n end
stands-whole bytes start n end inside digit other plain signed number blank forward within =
    let b = get_or bytes start 0 in
    let goes_on = digit-word b digit in
    let zero : nat_eq b 48 ≡ false = ne_eqb b 48 other in
    let first : first_digit b ≡ true = rw (digit, zero) refl in
    record {
      number = number;
      positive =
          TakesWord-then bytes begun.Nothing (begun.Positive (b - 48)) (begun.Positive n) start (start + 1) end
          (TakesWord-more bytes begun.Nothing begun.Nothing (begun.Positive (b - 48)) start start inside goes_on (first_positive b first) (TakesWord-none bytes begun.Nothing start)) plain;
      negative =
          TakesWord-then bytes begun.Minus (begun.Negative (b - 48)) (begun.Negative n) start (start + 1) end
          (TakesWord-more bytes begun.Minus begun.Minus (begun.Negative (b - 48)) start start inside goes_on (first_negative b first) (TakesWord-none bytes begun.Minus start)) signed;
      blank = blank;
      forward = omega arith;
      inside = within;
    }

-- a word that can stand there
word_goes : (s t : LineState) (w : Word) → on s w ≡ Some t → taken s w ≡ goes_to t
word_goes s t w h = ap (λ o. elim o [ Some u ↦ goes_to u | None ↦ at_fault (fault_in s w) ]) h

-- a literal with its minus
abbrev taken_literal : ℕ → Clause → Option Literal → Option LineState
taken_literal id c o = elim o [ Some l ↦ Some (at_clause id (c ++ l ∷ [])) | None ↦ None ]

on_negative : (id : ℕ) (c : Clause) (n : ℕ) → nat_le n max_literal ≡ true → on (at_clause id c) (words.Negative n) ≡ Some (at_clause id (c ++ negative n ∷ []))
on_negative id [] n h = ap (λ b. taken_literal id [] (cond b (Some (negative n)) None)) h
on_negative id (k ∷ c) n h = ap (λ b. taken_literal id (k ∷ c) (cond b (Some (negative n)) None)) h

minus_begins : (bytes : List ℕ) (start : ℕ) → start < length bytes → get_or bytes start 0 ≡ minus → TakesWord bytes begun.Nothing start begun.Minus (start + 1)
minus_begins bytes start inside is =
    TakesWord-more bytes begun.Nothing begun.Nothing begun.Minus start start inside (ap ends_word is) (sym (ap (with_byte nothing) is)) (TakesWord-none bytes begun.Nothing start)

pub negative-literal : (bytes : List ℕ) (start n end : ℕ) → start < length bytes → get_or bytes start 0 ≡ minus → StandsWhole bytes (start + 1) n end → n ≤ max_literal → IsLiteralAt bytes start (negative n) end
negative-literal bytes start n end inside is w most =
    let small : nat_le n max_literal ≡ true = le-leb n max_literal most in
    let word = TakesWord-then bytes begun.Nothing begun.Minus (begun.Negative n) start (start + 1) end (minus_begins bytes start inside is) w.negative in
    record {
      literal = (w.number.0, most);
      taken = λ id c.
          run-word bytes (at_clause id c) (at_clause id (c ++ negative n ∷ [])) (begun.Negative n) start end w.inside w.blank word
          (word_goes (at_clause id c) (at_clause id (c ++ negative n ∷ [])) (words.Negative n) (on_negative id c n small));
      forward = (let f = w.forward in omega arith);
      inside = w.inside;
    }

-- the lists of a line to which a number more can be put
hints_take : (id : ℕ) (c : Clause) → TakesNumbers (λ hs. at_hints id c hs)
hints_take id c hs n h = ap (λ b. elim (cond b (Some n) None) [ Some m ↦ Some (at_hints id c (hs ++ m ∷ [])) | None ↦ on_candidate (without_groups id c hs) (words.Positive n) ]) (le-leb n max_number h.1)

group_takes : (a : Addition) (candidate : ℕ) → TakesNumbers (λ hs. at_group a (record { candidate = candidate; hints = hs }))
group_takes a candidate hs n h =
    ap (λ b. elim (cond b (Some n) None) [ Some m ↦ Some (at_group a (record { candidate = candidate; hints = hs ++ m ∷ [] })) | None ↦ on_candidate (with_group a (record { candidate = candidate; hints = hs })) (words.Positive n) ])
    (le-leb n max_number h.1)

ids_take : (id : ℕ) → TakesNumbers (λ ids. at_ids (record { id = id; ids = ids }))
ids_take id ids n h = ap (λ b. elim (cond b (Some n) None) [ Some m ↦ Some (at_ids (record { id = id; ids = ids ++ m ∷ [] })) | None ↦ None ]) (le-leb n max_number h.1)

pub hints-run : (bytes : List ℕ) (old new : Line) (start end : ℕ) → old.part ≡ Hints → new ≡ record old { hints = new.hints }
    → ((f : List ℕ → LineState) → TakesNumbers f → TakesRun bytes (f old.hints.items) start (f new.hints.items) end) → TakesRun bytes (state_of old) start (state_of new) end
hints-run bytes old new start end is same t =
    subst (λ p. TakesRun bytes (state_at p old) start (state_of new) end) (sym is)
    (subst (λ l. TakesRun bytes (at_hints old.id old.clause.items old.hints.items) start (state_of l) end) (sym same)
    (subst (λ p. TakesRun bytes (at_hints old.id old.clause.items old.hints.items) start (state_at p (record old { hints = new.hints })) end) (sym is)
    (t (λ hs. at_hints old.id old.clause.items hs) (hints_take old.id old.clause.items))))

pub group-run : (bytes : List ℕ) (old new : Line) (start end : ℕ) → old.part ≡ GroupHints → new ≡ record old { group_hints = new.group_hints }
    → ((f : List ℕ → LineState) → TakesNumbers f → TakesRun bytes (f old.group_hints.items) start (f new.group_hints.items) end) → TakesRun bytes (state_of old) start (state_of new) end
group-run bytes old new start end is same t =
    subst (λ p. TakesRun bytes (state_at p old) start (state_of new) end) (sym is)
    (subst (λ l. TakesRun bytes (at_group (addition_of old) (group_of old)) start (state_of l) end) (sym same)
    (subst (λ p. TakesRun bytes (at_group (addition_of old) (group_of old)) start (state_at p (record old { group_hints = new.group_hints })) end) (sym is)
    (t (λ hs. at_group (addition_of old) (record { candidate = old.candidate; hints = hs })) (group_takes (addition_of old) old.candidate))))

pub ids-run : (bytes : List ℕ) (old new : Line) (start end : ℕ) → old.part ≡ Ids → new ≡ record old { hints = new.hints }
    → ((f : List ℕ → LineState) → TakesNumbers f → TakesRun bytes (f old.hints.items) start (f new.hints.items) end) → TakesRun bytes (state_of old) start (state_of new) end
ids-run bytes old new start end is same t =
    subst (λ p. TakesRun bytes (state_at p old) start (state_of new) end) (sym is)
    (subst (λ l. TakesRun bytes (at_ids (deletion_of old)) start (state_of l) end) (sym same)
    (subst (λ p. TakesRun bytes (at_ids (deletion_of old)) start (state_at p (record old { hints = new.hints })) end) (sym is)
    (t (λ ids. at_ids (record { id = old.id; ids = ids })) (ids_take old.id))))
