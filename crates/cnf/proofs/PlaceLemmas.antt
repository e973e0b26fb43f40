-- Places of bytes: from byte to byte, over a word, and the end's.
use Rattle.std.proofs.Common.{◌≡◌, ℕ, ◌+◌, ◌-◌, ◌<◌, ◌≤◌, Bool, true, false, List, [], ◌∷◌, ◌++◌, length, get_or, take, nat_eq, eq-eqb, refl, sym, ap, ◌∙◌, arith, ne_eqb}
use Rattle.std.specs.List.{slice_range}
use Rattle.std.proofs.Math.Seq.{take-add}
use Rattle.std.proofs.lemmas.List.{take_more, take_all}
use Rattle.theory.specs.Tokens.{Place, lines_of}
use Rattle.theory.specs.Reading.{end_of, end_from}
use Rattle.cnf.specs.Tokens.{place_after, place_behind, place_at}
use Rattle.cnf.proofs.TokenLemmas.{HasLines, lines_of-some, lines_of-lf, lines_of-other, has_no_lf, no_lf-first, no_lf-rest, at_column}

pub place_behind-append : (p : Place) (xs ys : List ℕ) → place_behind p (xs ++ ys) ≡ place_behind (place_behind p xs) ys
place_behind-append p [] ys = refl
place_behind-append p (x ∷ xs) ys = place_behind-append (place_after p x) xs ys

place_behind-more : (p : Place) (bytes : List ℕ) (i : ℕ) → i < length bytes → place_behind p (take (i + 1) bytes) ≡ place_after (place_behind p (take i bytes)) (get_or bytes i 0)
place_behind-more p bytes i h = ap (place_behind p) (take_more bytes i 0 h) ∙ place_behind-append p (take i bytes) (get_or bytes i 0 ∷ [])

pub place_at-more : (bytes : List ℕ) (i : ℕ) → i < length bytes → place_at bytes (i + 1) ≡ place_after (place_at bytes i) (get_or bytes i 0)
unfolding place_at
place_at-more bytes i h = place_behind-more (record { line = 1; column = 1 }) bytes i h

pub place_after-lf : (p : Place) (b : ℕ) → nat_eq b 10 ≡ true → place_after p b ≡ record { line = p.line + 1; column = 1 }
place_after-lf p b n = rw n refl

pub place_after-other : (p : Place) (b : ℕ) → nat_eq b 10 ≡ false → place_after p b ≡ at_column p (p.column + 1)
place_after-other p b n = rw n refl

-- behind bytes without an LF the line is the same
pub place_behind-no_lf : (p : Place) (w : List ℕ) → has_no_lf w ≡ true → place_behind p w ≡ at_column p (p.column + length w)
place_behind-no_lf p [] h = ap (at_column p) (let e : p.column ≡ p.column + 0 = omega arith in e)
place_behind-no_lf p (b ∷ w) h =
    ap (λ (q : Place). place_behind q w) (place_after-other p b (no_lf-first b w h))
    ∙ place_behind-no_lf (at_column p (p.column + 1)) w (no_lf-rest b w h)
    ∙ ap (at_column p) (let e : p.column + 1 + length w ≡ p.column + length (b ∷ w) = omega arith in e)

-- the end of a text, of whose first line the bytes up to a place are gone
abbrev end_rest : Place → List (List ℕ) → Place
end_rest p [] = p
end_rest p (line ∷ []) = at_column p (p.column + length line)
end_rest p (line ∷ next ∷ lines) = end_from (p.line + 1) (next ∷ lines)

end-rest : (n : ℕ) (line : List ℕ) (lines : List (List ℕ)) → end_from n (line ∷ lines) ≡ end_rest (record { line = n; column = 1 }) (line ∷ lines)
end-rest n line [] = ap (λ k. record { line = n; column = k }) (let e : length line + 1 ≡ 1 + length line = omega arith in e)
end-rest n line (next ∷ lines) = refl

end_rest-more : (p : Place) (b : ℕ) (line : List ℕ) (lines : List (List ℕ)) → end_rest p ((b ∷ line) ∷ lines) ≡ end_rest (at_column p (p.column + 1)) (line ∷ lines)
end_rest-more p b line [] = ap (at_column p) (let e : p.column + length (b ∷ line) ≡ p.column + 1 + length line = omega arith in e)
end_rest-more p b line (next ∷ lines) = refl

end_rest-lf : (p : Place) (lines : List (List ℕ)) → HasLines lines → end_rest p ([] ∷ lines) ≡ end_rest (record { line = p.line + 1; column = 1 }) lines
end_rest-lf p lines h =
    ap (λ (ls : List (List ℕ)). end_rest p ([] ∷ ls)) h.are ∙ end-rest (p.line + 1) h.first h.others ∙ ap (end_rest (record { line = p.line + 1; column = 1 })) (sym h.are)

end_rest-is : (p : Place) (bs : List ℕ) → end_rest p (lines_of bs) ≡ place_behind p bs
end_rest-is p [] = ap (at_column p) (let e : p.column + 0 ≡ p.column = omega arith in e)
end_rest-is p (b ∷ bs) = go (nat_eq b 10) refl (lines_of-some bs) (λ q. end_rest-is q bs)
  where
    go : (r : Bool) → nat_eq b 10 ≡ r → HasLines (lines_of bs) → ((q : Place) → end_rest q (lines_of bs) ≡ place_behind q bs) → end_rest p (lines_of (b ∷ bs)) ≡ place_behind p (b ∷ bs)
    go true n h more =
        ap (end_rest p) (lines_of-lf b bs n) ∙ end_rest-lf p (lines_of bs) h ∙ more (record { line = p.line + 1; column = 1 }) ∙ ap (λ (q : Place). place_behind q bs) (sym (place_after-lf p b n))
    go false n h more =
        ap (end_rest p) (lines_of-other b bs h.first h.others n h.are) ∙ end_rest-more p b h.first h.others ∙ ap (end_rest (at_column p (p.column + 1))) (sym h.are)
        ∙ more (at_column p (p.column + 1)) ∙ ap (λ (q : Place). place_behind q bs) (sym (place_after-other p b n))

pub end_of-place : (bytes : List ℕ) → end_of bytes ≡ place_at bytes (length bytes)
unfolding place_at
end_of-place bytes = first (lines_of bytes) (lines_of-some bytes) ∙ end_rest-is (record { line = 1; column = 1 }) bytes ∙ ap (place_behind (record { line = 1; column = 1 })) (sym (take_all (length bytes) bytes (omega arith)))
  where
    first : (lines : List (List ℕ)) → HasLines lines → end_from 1 lines ≡ end_rest (record { line = 1; column = 1 }) lines
    first lines h = ap (end_from 1) h.are ∙ end-rest 1 h.first h.others ∙ ap (end_rest (record { line = 1; column = 1 })) (sym h.are)

-- lines behind bytes, byte by byte
pub lines-lf : (block : List ℕ) (i count : ℕ) → i < length block → get_or block i 0 ≡ 10 → ((p : Place) → (place_behind p (take i block)).line ≡ p.line + count)
    → (p : Place) → (place_behind p (take (i + 1) block)).line ≡ p.line + (count + 1)
lines-lf block i count h b lines p =
    ap (λ (q : Place). q.line) (place_behind-more p block i h ∙ place_after-lf (place_behind p (take i block)) (get_or block i 0) (eq-eqb (get_or block i 0) 10 b))
    ∙ ap (λ k. k + 1) (lines p)
    ∙ (let e : p.line + count + 1 ≡ p.line + (count + 1) = omega arith in e)

pub lines-other : (block : List ℕ) (i count : ℕ) → i < length block → (get_or block i 0 ≡ 10 → ⊥) → ((p : Place) → (place_behind p (take i block)).line ≡ p.line + count)
    → (p : Place) → (place_behind p (take (i + 1) block)).line ≡ p.line + count
lines-other block i count h b lines p =
    ap (λ (q : Place). q.line) (place_behind-more p block i h ∙ place_after-other (place_behind p (take i block)) (get_or block i 0) (ne_eqb (get_or block i 0) 10 b))
    ∙ lines p

-- the place behind a part of a text
pub place_at-part : (bytes : List ℕ) (i j : ℕ) → i ≤ j → place_at bytes j ≡ place_behind (place_at bytes i) (slice_range bytes i j)
unfolding place_at
place_at-part bytes i j h =
    ap (place_behind (record { line = 1; column = 1 })) (ap (λ k. take k bytes) (let e : j ≡ i + (j - i) = omega arith in e) ∙ take-add i (j - i) bytes)
    ∙ place_behind-append (record { line = 1; column = 1 }) (take i bytes) (slice_range bytes i j)

pub line-part : (bytes : List ℕ) (i j line count : ℕ) → i ≤ j → line ≡ (place_at bytes i).line → ((p : Place) → (place_behind p (slice_range bytes i j)).line ≡ p.line + count)
    → line + count ≡ (place_at bytes j).line
line-part bytes i j line count h e lines =
    ap (λ k. k + count) e ∙ sym (lines (place_at bytes i)) ∙ ap (λ (q : Place). q.line) (sym (place_at-part bytes i j h))
