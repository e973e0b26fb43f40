-- The value lines as what each word adds.
use Rattle.std.proofs.Common.{◌≡◌, ℕ, ◌+◌, Bool, true, false, List, [], ◌∷◌, ◌++◌, length, length-append, nat_le, refl, ap, sym, ◌∙◌, append_assoc, codes, Some, arith, if◌then◌else◌}
use Rattle.theory.specs.Literals.{Clause}
use Rattle.theory.specs.Truth.{Assignment}
use Rattle.theory.specs.Texts.{lf, space, value_lines, clause_words, assigned_literals}
use Rattle.join.specs.Lines.{pieces}
use Rattle.join.specs.Values.{values_text}

pub value_lines-pieces : (line : List ℕ) (words : List (List ℕ)) → value_lines line words ≡ line ++ pieces (length line) words
value_lines-pieces line [] = refl
value_lines-pieces line (word ∷ words) =
    go (nat_le (length line + 1 + length word) 78) (value_lines-pieces (line ++ space ∷ word) words) (value_lines-pieces (codes "v" ++ space ∷ word) words)
  where
    go : (b : Bool) → value_lines (line ++ space ∷ word) words ≡ (line ++ space ∷ word) ++ pieces (length (line ++ space ∷ word)) words
        → value_lines (codes "v" ++ space ∷ word) words ≡ (codes "v" ++ space ∷ word) ++ pieces (length (codes "v" ++ space ∷ word)) words
        → elim b [ true ↦ value_lines (line ++ space ∷ word) words | false ↦ line ++ lf ∷ value_lines (codes "v" ++ space ∷ word) words ]
        ≡ line ++ ((if b then space ∷ word else lf ∷ codes "v" ++ space ∷ word) ++ pieces (if b then length line + 1 + length word else 2 + length word) words)
    go true more next =
        let width : length (line ++ space ∷ word) ≡ length line + 1 + length word = length-append line (space ∷ word) ∙ (omega arith) in
        more ∙ (append_assoc line (space ∷ word) (pieces (length (line ++ space ∷ word)) words) ∙ ap (λ n. line ++ (space ∷ word ++ pieces n words)) width)
    go false more next =
        let width : length (codes "v" ++ space ∷ word) ≡ 2 + length word = omega arith in
        ap (λ t. line ++ lf ∷ t) (next ∙ ap (λ n. (codes "v" ++ space ∷ word) ++ pieces n words) width)

-- the value lines of words behind their beginning, as they are put together
put-together : (line : List ℕ) (words : List (List ℕ)) (begun written text : List ℕ) (width : ℕ) → length line ≡ 1 → begun ≡ line
    → written ++ pieces width (clause_words []) ≡ begun ++ pieces 1 words → text ≡ written ++ pieces width (clause_words []) → text ≡ value_lines line words
put-together line words begun written text width one begins put ended =
    ended ∙ (put ∙ (ap (λ t. t ++ pieces 1 words) begins ∙ (ap (λ n. line ++ pieces n words) (sym one) ∙ sym (value_lines-pieces line words))))

pub literals-text : (lits : Clause) (begun written text : List ℕ) (width : ℕ) → begun ≡ codes "v"
    → written ++ pieces width (clause_words []) ≡ begun ++ pieces 1 (clause_words lits) → text ≡ written ++ pieces width (clause_words []) → text ≡ value_lines (codes "v") (clause_words lits)
literals-text lits begun written text width = put-together (codes "v") (clause_words lits) begun written text width refl

-- the value lines behind a text, as they are put together
pub values-behind : (M : Assignment) (before begun written text : List ℕ) (width : ℕ) → begun ≡ before ++ codes "v"
    → written ++ pieces width (clause_words []) ≡ begun ++ pieces 1 (clause_words (assigned_literals 1 M)) → text ≡ written ++ pieces width (clause_words []) → text ≡ before ++ values_text M
values-behind M before begun written text width begins values ended =
    let words = clause_words (assigned_literals 1 M) in
    ended ∙ (values ∙ (ap (λ t. t ++ pieces 1 words) begins ∙ (append_assoc before (codes "v") (pieces 1 words) ∙ ap (λ t. before ++ t) (sym (value_lines-pieces (codes "v") words)))))
