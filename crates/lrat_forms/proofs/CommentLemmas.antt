-- What a text with comments is read as, byte by byte.
use Rattle.std.proofs.Common.{◌≡◌, ◌≢◌, IfSome, get_or, slice_index_or, slice_set, append_assoc, take-take, take-append-drop, ℕ, zero, suc, ◌+◌, ◌-◌, ◌<◌, ◌≤◌, Bool, true, false, ◌&&◌, ◌||◌, not, nat_eq, List, [], ◌∷◌, ◌++◌, length, take, drop, Option, Some, None, if◌then◌else◌, refl, sym, ap, subst, ◌∙◌, arith}
use Rattle.std.proofs.lemmas.List.{append_cancel_left, take_more, take_all, take-append-le, length-take-le}
use Rattle.std.proofs.KnownBytes.{starts_with_rest, prepend_known-nil}
use Rattle.std.specs.List.{list_any}
use Rattle.std.specs.Io.{StartsWith}
use Rattle.std.specs.Io.KnownBytes.{Keeps, Consumes, prepend_known}
use Rattle.lrat_forms.specs.declared.comments.Line.{Line}
use Rattle.lrat_forms.specs.declared.comments.Line.TheVariants.{Start, Inside, Comment}
use Rattle.lrat_forms.specs.Comments.{is_mark, line_behind, nothing, uncommented, uncommented_known}
use Rattle.lrat_forms.specs.PlainLines.{line_after, begins, is_plain, HasPassed}

both-true : (a b : Bool) → (a && b) ≡ true → (a ≡ true) × (b ≡ true)
both-true true b h = (refl, h)
both-true false b h = absurd (cc)

not-true : (a : Bool) → not a ≡ true → a ≡ false
not-true true h = absurd (cc)
not-true false h = refl

-- one more byte begins no comment
pub plain-more : (line : Line) (xs : List ℕ) (b : ℕ) → is_plain line xs ≡ true → begins (line_after line xs) b ≡ false → is_plain line (xs ++ b ∷ []) ≡ true
plain-more line [] b p n = rw n refl
plain-more line (x ∷ xs) b p n =
    let parts = both-true (not (begins line x)) (is_plain (line_behind x) xs) p in
    rw parts.0 (plain-more (line_behind x) xs b parts.1 n)

pub after-more : (line : Line) (xs : List ℕ) (b : ℕ) → line_after line (xs ++ b ∷ []) ≡ line_behind b
after-more line [] b = refl
after-more line (x ∷ xs) b = after-more (line_behind x) xs b

pub after-last : (line : Line) (xs : List ℕ) → 0 < length xs → line_after line xs ≡ line_behind (get_or xs (length xs - 1) 0)
after-last line xs some =
    let front = take (length xs - 1) xs in
    let whole : xs ≡ front ++ get_or xs (length xs - 1) 0 ∷ [] = sym (take_all (length xs - 1 + 1) xs (omega arith)) ∙ take_more xs (length xs - 1) 0 (omega arith) in
    ap (line_after line) whole ∙ after-more line front (get_or xs (length xs - 1) 0)

-- fewer bytes begin none either
pub plain-take : (line : Line) (n : ℕ) (xs : List ℕ) → is_plain line xs ≡ true → is_plain line (take n xs) ≡ true
plain-take line zero xs p = refl
plain-take line (suc n) [] p = refl
plain-take line (suc n) (x ∷ xs) p =
    let parts = both-true (not (begins line x)) (is_plain (line_behind x) xs) p in
    rw parts.0 (plain-take (line_behind x) n xs parts.1)

begins-mark : (line : Line) (b : ℕ) → is_mark b ≡ false → begins line b ≡ false
begins-mark Start b h = h
begins-mark Inside b h = refl
begins-mark Comment b h = refl

neither : (a b : Bool) → (a || b) ≡ false → (a ≡ false) × (b ≡ false)
neither true b h = absurd (cc)
neither false b h = (refl, h)

-- bytes without a mark begin none
pub unmarked-plain : (line : Line) (xs : List ℕ) → list_any is_mark xs ≡ false → is_plain line xs ≡ true
unmarked-plain line [] h = refl
unmarked-plain line (x ∷ xs) h =
    let parts = neither (is_mark x) (list_any is_mark xs) h in
    rw (begins-mark line x parts.0) (unmarked-plain (line_behind x) xs parts.1)

behind-lines : (b : ℕ) → line_behind b ≢ Comment
behind-lines b e = at (nat_eq b 10) e
  where
    at : (is : Bool) → (if is then Start else Inside) ≡ Comment → ⊥
    at true e = absurd (cc)
    at false e = absurd (cc)

pub after-lines : (line : Line) (xs : List ℕ) → line ≢ Comment → line_after line xs ≢ Comment
after-lines line [] n = n
after-lines line (x ∷ xs) n = after-lines (line_behind x) xs (behind-lines x)

one : (line : Line) (b : ℕ) (bs : List ℕ) → line ≢ Comment → begins line b ≡ false → uncommented line (b ∷ bs) ≡ b ∷ uncommented (line_behind b) bs
one Start b bs n h = rw h refl
one Inside b bs n h = refl
one Comment b bs n h = absurd (n refl)

-- what begins no comment stays as it is
pub plain-stays : (line : Line) (xs rest : List ℕ) → line ≢ Comment → is_plain line xs ≡ true → uncommented line (xs ++ rest) ≡ xs ++ uncommented (line_after line xs) rest
plain-stays line [] rest n p = refl
plain-stays line (x ∷ xs) rest n p =
    let parts = both-true (not (begins line x)) (is_plain (line_behind x) xs) p in
    one line x (xs ++ rest) n (not-true (begins line x) parts.0) ∙ ap (λ l. x ∷ l) (plain-stays (line_behind x) xs rest (behind-lines x) parts.1)

-- what a reader has left, read so
kept-known : (line : Line) (a b : Option (List ℕ)) → Keeps a b → Keeps (uncommented_known line a) (uncommented_known line b)
kept-known line None b k = tt
kept-known line (Some xs) None k = elim k [ ]
kept-known line (Some xs) (Some ys) k = ap (uncommented line) k

-- bytes of a comment were passed over
pub passed-shown : (a b : Option (List ℕ)) (shown : List ℕ) (count : ℕ) (line : Line) → count ≤ length shown → Consumes a b (take count shown)
    → ((rest : List ℕ) → uncommented Comment (shown ++ rest) ≡ uncommented line (drop count shown ++ rest)) → IfSome a (λ xs. StartsWith xs shown) → HasPassed a b line
passed-shown None b shown count line fits moved passes front = tt
passed-shown (Some xs) None shown count line fits moved passes front = elim moved [ ]
passed-shown (Some xs) (Some ys) shown count line fits moved passes front =
    let whole : xs ≡ shown ++ drop (length shown) xs = starts_with_rest xs shown front in
    let left : ys ≡ drop count shown ++ drop (length shown) xs = left-behind xs ys shown count fits moved whole in
    ap (uncommented line) left ∙ (sym (passes (drop (length shown) xs)) ∙ ap (uncommented Comment) (sym whole))
  where
    left-behind : (xs ys shown : List ℕ) (count : ℕ) → count ≤ length shown → xs ≡ take count shown ++ ys → xs ≡ shown ++ drop (length shown) xs → ys ≡ drop count shown ++ drop (length shown) xs
    left-behind xs ys shown count fits moved whole =
        append_cancel_left (take count shown) ys (drop count shown ++ drop (length shown) xs)
        (sym moved ∙ (whole ∙ (ap (λ l. l ++ drop (length shown) xs) (sym (take-append-drop count shown)) ∙ append_assoc (take count shown) (drop count shown) (drop (length shown) xs))))

pub passed-end : (a b : Option (List ℕ)) → Keeps a b → IfSome a (λ xs. xs ≡ []) → HasPassed a b Start
passed-end None b k e = tt
passed-end (Some xs) None k e = elim k [ ]
passed-end (Some xs) (Some ys) k e = rw (k ∙ e, e) refl

-- a byte was read that begins a comment
pub mark-read : (a b : Option (List ℕ)) (line : Line) (byte : ℕ) → begins line byte ≡ true → Consumes a b (byte ∷ []) → Keeps (uncommented_known line a) (prepend_known nothing (uncommented_known Comment b))
mark-read None b line byte is moved = tt
mark-read (Some xs) None line byte is moved = elim moved [ ]
mark-read (Some xs) (Some ys) line byte is moved = rw moved (sym (opened line byte ys is))
  where
    opened : (line : Line) (b : ℕ) (bs : List ℕ) → begins line b ≡ true → uncommented line (b ∷ bs) ≡ nothing ++ uncommented Comment bs
    opened Start b bs h = rw h refl
    opened Inside b bs h = absurd (cc)
    opened Comment b bs h = absurd (cc)

-- bytes that begin no comment are given
pub plain-given : (a b : Option (List ℕ)) (line : Line) (bytes : List ℕ) → line ≢ Comment → is_plain line bytes ≡ true → Consumes a b bytes → Consumes (uncommented_known line a) (uncommented_known (line_after line bytes) b) bytes
plain-given None b line bytes n p moved = tt
plain-given (Some xs) None line bytes n p moved = elim moved [ ]
plain-given (Some xs) (Some ys) line bytes n p moved = ap (uncommented line) moved ∙ plain-stays line bytes ys n p

pub shown-given : (a b : Option (List ℕ)) (line : Line) (shown copied rest : List ℕ) (plain count : ℕ) → line ≢ Comment → is_plain line (take plain shown) ≡ true → count ≤ plain → count ≤ length shown
    → copied ≡ take count shown → Consumes a b (take count shown) → Consumes (uncommented_known line a) (uncommented_known (line_after line (take count shown)) b) (take count (copied ++ rest))
shown-given a b line shown copied rest plain count n p less fits is moved =
    let long : length copied ≡ count = ap length is ∙ length-take-le count shown fits in
    let front : take count (copied ++ rest) ≡ take count shown = take-append-le count copied rest (omega (arith, long)) ∙ (take_all count copied (omega (arith, long)) ∙ is) in
    let stays : is_plain line (take count shown) ≡ true = subst (λ l. is_plain line l ≡ true) (take-take count plain shown less) (plain-take line count (take plain shown) p) in
    rw front (plain-given a b line (take count shown) n stays moved)

-- a byte was read and is given, which begins no comment
pub byte-given : (a b : Option (List ℕ)) (line : Line) (owed buf read : List ℕ) (count : ℕ) → owed ≡ [] → line ≢ Comment → length read ≡ 1 → count ≡ 1 → 0 < length buf → begins line (slice_index_or read 0 0) ≡ false → Consumes a b (take count read)
    → Consumes (prepend_known owed (uncommented_known line a)) (prepend_known owed (uncommented_known (line_behind (slice_index_or read 0 0)) b)) (take 1 (slice_set buf 0 (slice_index_or read 0 0)))
byte-given a b line owed buf [] count o n long one some is moved = absurd (omega (arith, long))
byte-given a b line owed buf (x ∷ y ∷ read) count o n long one some is moved = absurd (omega (arith, long))
byte-given a b line owed [] (x ∷ []) count o n long one some is moved = absurd (omega (arith, some))
byte-given a b line owed (y ∷ buf) (x ∷ []) count o n long one some is moved =
    rw (o, prepend_known-nil (uncommented_known line a), prepend_known-nil (uncommented_known (line_behind x) b))
    (plain-given a b line (x ∷ []) n (rw is refl) (subst (λ k. Consumes a b (take k (x ∷ []))) one moved))
