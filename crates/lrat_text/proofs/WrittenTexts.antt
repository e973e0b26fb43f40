-- The text of steps is read as them.
use Rattle.std.proofs.Common.{◌≡◌, ℕ, ◌+◌, ◌<◌, ◌≤◌, Bool, true, false, List, [], ◌∷◌, ◌++◌, map, length, nat_eq, refl, sym, ap, subst, ◌∙◌, arith, decimal, All, codes, append_assoc, append-nil, cond}
use Rattle.std.specs.List.{join_with_byte}
use Rattle.std.specs.Char.{is_ascii_digit}
use Rattle.std.specs.Str.{all_ascii_digits}
use Rattle.std.proofs.lemmas.Fmt.{digits_decimal, decimal_nonempty}
use Rattle.theory.specs.Literals.{Literal}
use Rattle.theory.specs.Steps.{Group, Step, add, delete}
use Rattle.theory.specs.Texts.{lf, space, minus, literal_text, clause_words, group_words, groups_words, step_words, proof_text, zero_text}
use Rattle.theory.specs.Tokens.{lines_of}
use Rattle.theory.specs.Reading.{Limits}
use Rattle.theory.specs.ProofReading.{steps, IsNumber, IsLiteral, IsGroup, IsStep, words_in, LinesRead, ProofReadsWithin, max_proof_bytes}
use Rattle.theory.proofs.literals.LiteralLemmas.{and-left, and-right}
use Rattle.lrat_text.proofs.DigitLemmas.{digit-goes_on}
use Rattle.lrat_text.proofs.LineTexts.{lines_of-byte, Lines, lines, onto_first, texts, words_in-texts, texts-word, texts-blank, Solid, no_lf}
use Rattle.theory.proofs.reading.NumberTexts.{digits_model, digit-range}
use Rattle.std.proofs.lemmas.List.Elements.{All-head, All-tail}

-- a word has bytes, and none of them ends it
IsWordText : List ℕ → Type 0
IsWordText [] = ⊥
IsWordText (b ∷ bytes) = Solid (b ∷ bytes)

AreWords : List (List ℕ) → Type 0
AreWords [] = Unit {0}
AreWords (w ∷ ws) = IsWordText w × AreWords ws

AreWords-append : (xs ys : List (List ℕ)) → AreWords xs → AreWords ys → AreWords (xs ++ ys)
unfolding AreWords
AreWords-append [] ys h k = k
AreWords-append (x ∷ xs) ys h k = (h.0, AreWords-append xs ys h.1 k)

AreWords-map : {X : Type 0} (P : X → Type 0) (f : X → List ℕ) (xs : List X) → ((x : X) → P x → IsWordText (f x)) → All P xs → AreWords (map f xs)
unfolding AreWords
AreWords-map P f [] h all = tt
AreWords-map P f (x ∷ xs) h all = (h x (All-head P x xs all), AreWords-map P f xs h (All-tail P x xs all))

-- digits are a word
Solid-digits : (t : List ℕ) → all_ascii_digits t ≡ true → Solid t
Solid-digits [] h = tt
Solid-digits (b ∷ t) h =
    let bounds = digit-range b (and-left (is_ascii_digit b) (all_ascii_digits t) h) in
    (digit-goes_on b bounds.0 bounds.1, Solid-digits t (and-right (is_ascii_digit b) (all_ascii_digits t) h))

Solid-decimal : (n : ℕ) → IsNumber n → Solid (decimal n)
Solid-decimal n h = Solid-digits (decimal n) (digits_decimal digits_model n (omega arith))

word-decimal : (n : ℕ) → IsNumber n → IsWordText (decimal n)
unfolding IsWordText
word-decimal n h = go (decimal n) (decimal_nonempty n (omega arith)) (Solid-decimal n h)
  where
    go : (t : List ℕ) → 0 < length t → Solid t → IsWordText t
    go [] l s = absurd (omega arith)
    go (b ∷ t) l s = s

word-minus : (n : ℕ) → IsNumber n → IsWordText (minus ∷ decimal n)
unfolding IsWordText
word-minus n h = (refl, Solid-decimal n h)

word-literal : (l : Literal) → IsLiteral l → IsWordText (literal_text l)
word-literal l h = go l.positive
  where
    number : IsNumber l.var
    number = (h.0, omega arith)

    go : (b : Bool) → IsWordText (cond b (decimal l.var) (minus ∷ decimal l.var))
    go true = word-decimal l.var number
    go false = word-minus l.var number

word-zero : IsWordText zero_text
unfolding IsWordText
word-zero = (refl, tt)

words-zero : AreWords (zero_text ∷ [])
unfolding AreWords
words-zero = (word-zero, tt)

words-group : (g : Group) → IsGroup g → AreWords (group_words g)
unfolding AreWords
words-group g h = (word-minus g.candidate h.candidate, AreWords-map IsNumber decimal g.hints word-decimal h.hints)

words-groups : (gs : List Group) → All IsGroup gs → AreWords (groups_words gs)
unfolding AreWords
words-groups [] h = tt
words-groups (g ∷ gs) h = AreWords-append (group_words g) (groups_words gs) (words-group g (All-head IsGroup g gs h)) (words-groups gs (All-tail IsGroup g gs h))

words-step : (s : Step) → IsStep s → AreWords (step_words s)
unfolding AreWords IsWordText
words-step (add a) h = (
  word-decimal a.id h.id,
  AreWords-append (clause_words a.clause ++ map decimal a.hints ++ groups_words a.groups) (zero_text ∷ [])
      (AreWords-append (clause_words a.clause ++ map decimal a.hints) (groups_words a.groups)
      (AreWords-append (clause_words a.clause) (map decimal a.hints)
      (AreWords-append (map literal_text a.clause) (zero_text ∷ []) (AreWords-map IsLiteral literal_text a.clause word-literal h.clause) words-zero)
      (AreWords-map IsNumber decimal a.hints word-decimal h.hints))
      (words-groups a.groups h.groups))
      words-zero,
)
words-step (delete d) h =
    (word-decimal d.id h.id, (word-mark, AreWords-append (map decimal d.ids) (zero_text ∷ []) (AreWords-map IsNumber decimal d.ids word-decimal h.ids) words-zero))
  where
    word-mark : IsWordText (codes "d")
    word-mark = (refl, tt)

-- words with single spaces are read as the words
texts-last : (w : List ℕ) → IsWordText w → texts w ≡ w ∷ []
unfolding IsWordText
texts-last [] h = absurd h
texts-last (b ∷ w) h = ap texts (sym (append-nil (b ∷ w))) ∙ texts-word b w [] h tt

texts-spaced : (w : List ℕ) (line : List ℕ) → IsWordText w → texts (w ++ space ∷ line) ≡ w ∷ texts line
unfolding IsWordText
texts-spaced [] line h = absurd h
texts-spaced (b ∷ w) line h = texts-word b w (space ∷ line) h refl ∙ ap (λ ts. (b ∷ w) ∷ ts) (texts-blank space line refl)

texts-joined : (w : List ℕ) (ws : List (List ℕ)) → AreWords (w ∷ ws) → texts (join_with_byte space (w ∷ ws)) ≡ w ∷ ws
unfolding AreWords
texts-joined w [] h = texts-last w h.0
texts-joined w (v ∷ ws) h = texts-spaced w (join_with_byte space (v ∷ ws)) h.0 ∙ ap (λ ts. w ∷ ts) (texts-joined v ws h.1)

-- a line without a line feed inside
NoFeed : List ℕ → Type 0
NoFeed [] = Unit {0}
NoFeed (b ∷ line) = (nat_eq b lf ≡ false) × NoFeed line

NoFeed-solid : (w line : List ℕ) → Solid w → NoFeed line → NoFeed (w ++ line)
unfolding NoFeed
NoFeed-solid [] line s h = h
NoFeed-solid (b ∷ w) line s h = (no_lf b s.0, NoFeed-solid w line s.1 h)

solid_word : (w : List ℕ) → IsWordText w → Solid w
unfolding IsWordText
solid_word [] h = absurd h
solid_word (b ∷ w) h = h

NoFeed-joined : (ws : List (List ℕ)) → AreWords ws → NoFeed (join_with_byte space ws)
unfolding AreWords NoFeed
NoFeed-joined [] h = tt
NoFeed-joined (w ∷ []) h = subst NoFeed (append-nil w) (NoFeed-solid w [] (solid_word w h.0) tt)
NoFeed-joined (w ∷ v ∷ ws) h = NoFeed-solid w (space ∷ join_with_byte space (v ∷ ws)) (solid_word w h.0) (refl, NoFeed-joined (v ∷ ws) h.1)

lines_of-line : (line rest : List ℕ) → NoFeed line → lines_of (line ++ lf ∷ rest) ≡ line ∷ lines_of rest
unfolding NoFeed
lines_of-line [] rest h = refl
lines_of-line (b ∷ line) rest h = lines_of-byte b (line ++ lf ∷ rest) h.0 ∙ ap (onto_first b) (lines_of-line line rest h.1)

words_in-joined : (ws : List (List ℕ)) → AreWords ws → words_in (join_with_byte space ws) ≡ ws
words_in-joined [] h = refl
words_in-joined (w ∷ ws) h = words_in-texts (join_with_byte space (w ∷ ws)) ∙ texts-joined w ws h

-- the lines of the steps' text
written-lines : (n : ℕ) (ss : List Step) → All IsStep ss → LinesRead n (lines_of (proof_text ss)) (steps ss)
written-lines n [] h = refl
written-lines n (s ∷ ss) h = go (lines (proof_text ss)) (written-lines (n + 1) ss (All-tail IsStep s ss h))
  where
    within : IsStep s
    within = All-head IsStep s ss h

    line : List ℕ
    line = join_with_byte space (step_words s)

    cut : lines_of (proof_text (s ∷ ss)) ≡ line ∷ lines_of (proof_text ss)
    cut = ap lines_of (append_assoc line (lf ∷ []) (proof_text ss)) ∙ lines_of-line line (proof_text ss) (NoFeed-joined (step_words s) (words-step s within))

    go : Lines (proof_text ss) → LinesRead (n + 1) (lines_of (proof_text ss)) (steps ss) → LinesRead n (lines_of (proof_text (s ∷ ss))) (steps (s ∷ ss))
    go l rest =
        subst (λ x. LinesRead n x (steps (s ∷ ss))) (sym (cut ∙ ap (λ ls. line ∷ ls) l.are))
        (record { within = within; are = words_in-joined (step_words s) (words-step s within) }, subst (λ x. LinesRead (n + 1) x (steps ss)) l.are rest)

-- The text of steps is read as these steps.
pub proof_text-ProofReads : (L : Limits) (ss : List Step) → All IsStep ss → length (proof_text ss) ≤ max_proof_bytes L → ProofReadsWithin L (proof_text ss) (steps ss)
proof_text-ProofReads L ss h short = (short, written-lines 1 ss h)
