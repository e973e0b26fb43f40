-- The text of clauses as they come, and what it says.
use Rattle.std.proofs.Common.{◌≡◌, ℕ, zero, suc, ◌+◌, ◌<◌, ◌≤◌, Bool, true, false, not, ◌||◌, ◌&&◌, List, [], ◌∷◌, ◌++◌, length, map, drop, get_or, slice_get, Some, refl, ap, sym, subst, ◌∙◌, append_assoc, append-nil, cond, arith, nat_lt, codes, decimal}
use Rattle.std.specs.List.{list_any, list_all}
use Rattle.std.proofs.lemmas.List.{drop_more, drop_all}
use Rattle.theory.specs.Literals.{Literal, Clause, same, has_both_signs, without}
use Rattle.theory.specs.Truth.{is_true, is_true_clause, are_true}
use Rattle.theory.proofs.literals.LiteralLemmas.{same-eq}
use Rattle.theory.proofs.literals.TrueClauses.{some_sign}
use Rattle.tidying.specs.Tidied.{once, open_clauses}
use Rattle.theory.specs.Texts.{space, lf}
use Rattle.tidying.specs.Texts.{clause_text, clauses_text, header_text}

pub clause-at : (cs : List Clause) (k : ℕ) (c : Clause) → slice_get cs k ≡ Some c → c ≡ get_or cs k c
clause-at [] k c h = absurd (cc)
clause-at (x ∷ cs) zero c h = let e : x ≡ c = cc in sym e
clause-at (x ∷ cs) (suc k) c h = clause-at cs k c h

pub not_false : (b : Bool) → not b ≡ false → b ≡ true
not_false true h = refl
not_false false h = absurd (cc)

-- a clause that is passed over, or stays
pub passed-over : (cs : List Clause) (k : ℕ) (c : Clause) → k < length cs → c ≡ get_or cs k c → has_both_signs c ≡ true → open_clauses (drop k cs) ≡ open_clauses (drop (k + 1) cs)
passed-over cs k c less is both =
    ap open_clauses (drop_more cs k c less ∙ ap (λ x. x ∷ drop (k + 1) cs) (sym is)) ∙ ap (λ b. cond (not b) (c ∷ open_clauses (drop (k + 1) cs)) (open_clauses (drop (k + 1) cs))) both

pub stays : (cs : List Clause) (k : ℕ) (c : Clause) → k < length cs → c ≡ get_or cs k c → has_both_signs c ≡ false → open_clauses (drop k cs) ≡ c ∷ open_clauses (drop (k + 1) cs)
stays cs k c less is both =
    ap open_clauses (drop_more cs k c less ∙ ap (λ x. x ∷ drop (k + 1) cs) (sym is)) ∙ ap (λ b. cond (not b) (c ∷ open_clauses (drop (k + 1) cs)) (open_clauses (drop (k + 1) cs))) both

-- one line more: what is left still completes the text and the count
pub text-more : (whole text new : List ℕ) (lits : Clause) (c : Clause) (cs ds : List Clause) → cs ≡ c ∷ ds → lits ≡ once c → text ++ clauses_text (map once cs) ≡ whole → new ≡ text ++ clause_text lits
    → new ++ clauses_text (map once ds) ≡ whole
text-more whole text new lits c cs ds split is left written =
    ap (λ x. x ++ clauses_text (map once ds)) (written ∙ ap (λ l. text ++ clause_text l) is)
    ∙ append_assoc text (clause_text (once c)) (clauses_text (map once ds))
    ∙ ap (λ x. text ++ clauses_text (map once x)) (sym split)
    ∙ left

pub count-more : (whole count : ℕ) (c : Clause) (cs ds : List Clause) → cs ≡ c ∷ ds → count + length (map once cs) ≡ whole → count + 1 + length (map once ds) ≡ whole
count-more whole count c cs ds split left =
    let long : length (map once cs) ≡ length (once c ∷ map once ds) = ap (λ x. length (map once x)) split in
    omega (arith, long, left)

-- no clause is left
pub text-done : (whole text : List ℕ) (cs : List Clause) (k : ℕ) → length cs ≤ k → text ++ clauses_text (map once (open_clauses (drop k cs))) ≡ whole → text ≡ whole
text-done whole text cs k end left = sym (append-nil text) ∙ ap (λ x. text ++ clauses_text (map once (open_clauses x))) (sym (drop_all k cs end)) ∙ left

pub count-done : (whole count : ℕ) (cs : List Clause) (k : ℕ) → length cs ≤ k → count + length (map once (open_clauses (drop k cs))) ≡ whole → count ≡ whole
count-done whole count cs k end left =
    let none : length (map once (open_clauses (drop k cs))) ≡ length {A = Clause} [] = ap (λ x. length (map once (open_clauses x))) (drop_all k cs end) in
    omega (arith, none, left)

-- the clause that comes next has a repeated literal, or none
pub here : (c : Clause) (cs ds : List Clause) (whole : Bool) → cs ≡ c ∷ ds → nat_lt (length (once c)) (length c) ≡ true → list_any (λ d. nat_lt (length (once d)) (length d)) cs ≡ whole → true ≡ whole
here c cs ds whole split less left = sym (ap (λ b. b || list_any (λ d. nat_lt (length (once d)) (length d)) ds) less) ∙ ap (list_any (λ d. nat_lt (length (once d)) (length d))) (sym split) ∙ left

pub further : (c : Clause) (cs ds : List Clause) (whole : Bool) → cs ≡ c ∷ ds → nat_lt (length (once c)) (length c) ≡ false → list_any (λ d. nat_lt (length (once d)) (length d)) cs ≡ whole → list_any (λ d. nat_lt (length (once d)) (length d)) ds ≡ whole
further c cs ds whole split less left = sym (ap (λ b. b || list_any (λ d. nat_lt (length (once d)) (length d)) ds) less) ∙ ap (list_any (λ d. nat_lt (length (once d)) (length d))) (sym split) ∙ left

-- the header, as it is written
pub header-made : (v n : ℕ) (a b c d e : List ℕ) → a ≡ codes "p cnf " → b ≡ a ++ decimal v → c ≡ b ++ space ∷ [] → d ≡ c ++ decimal n → e ≡ d ++ lf ∷ [] → e ≡ header_text v n
header-made v n a b c d e m o p q r =
    r ∙ ap (λ x. x ++ lf ∷ []) (q ∙ ap (λ x. x ++ decimal n) (p ∙ ap (λ x. x ++ space ∷ []) (o ∙ ap (λ x. x ++ decimal v) m)) ∙ append_assoc (codes "p cnf " ++ decimal v) (space ∷ []) (decimal n))

-- where a literal is true, it doesn't matter whether it is repeated
again : (a b : Bool) → a || (a || b) ≡ a || b
again true b = refl
again false b = refl

beside : (a b x y : Bool) → a || x ≡ a || y → a || (b || x) ≡ a || (b || y)
beside true b x y h = refl
beside false b x y h = ap (λ z. b || z) h

any-without : (t : Literal → Bool) (l : Literal) (d : Clause) → t l || list_any t (without d l) ≡ t l || list_any t d
any-without t l [] = refl
any-without t l (k ∷ d) = go (same l k) refl (any-without t l d)
  where
    go : (b : Bool) → same l k ≡ b → t l || list_any t (without d l) ≡ t l || list_any t d → t l || list_any t (cond (not b) (k ∷ without d l) (without d l)) ≡ t l || (t k || list_any t d)
    go true e h = h ∙ sym (again (t l) (list_any t d)) ∙ ap (λ x. t l || (t x || list_any t d)) (same-eq l k e)
    go false e h = beside (t l) (t k) (list_any t (without d l)) (list_any t d) h

any-once : (t : Literal → Bool) (c : Clause) → list_any t (once c) ≡ list_any t c
any-once t [] = refl
any-once t (l ∷ c) = any-without t l (once c) ∙ ap (λ x. t l || x) (any-once t c)

-- the clauses that stay are true where all are
pub same-truth : (m : ℕ → Bool) (cs : List Clause) → are_true m (map once (open_clauses cs)) ≡ are_true m cs
same-truth m [] = refl
same-truth m (c ∷ cs) = go (has_both_signs c) refl (same-truth m cs)
  where
    go : (b : Bool) → has_both_signs c ≡ b → are_true m (map once (open_clauses cs)) ≡ are_true m cs → are_true m (map once (cond (not b) (c ∷ open_clauses cs) (open_clauses cs))) ≡ is_true_clause m c && are_true m cs
    go true e h = h ∙ ap (λ x. x && are_true m cs) (sym (some_sign m c c (λ l a. a) e))
    go false e h = ap (λ x. x && are_true m (map once (open_clauses cs))) (any-once (is_true m) c) ∙ ap (λ x. is_true_clause m c && x) h
