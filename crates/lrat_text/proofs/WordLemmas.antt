-- How a line grows, word by word.
use Rattle.std.proofs.Common.{◌≡◌, ℕ, ◌+◌, ◌<◌, ◌≤◌, List, [], ◌∷◌, ◌++◌, map, length, drop, get_or, decimal, refl, sym, ap, ◌∙◌, append_assoc, append-nil}
use Rattle.std.proofs.lemmas.List.{drop_more, drop_all}
use Rattle.std.specs.List.{join_with_byte}
use Rattle.theory.specs.Steps.{Group, Addition, Deletion, add, delete}
use Rattle.theory.specs.Texts.{space, lf, literal_text, zero_text, group_words, groups_words, step_text, step_words}
use Rattle.theory.specs.Literals.{Clause}
use Rattle.lrat_text.specs.Words.{spaced, begun_line, IsBegunBy}

-- more bytes, and once more
pub IsBegunBy-trans : (old mid new : List ℕ) → IsBegunBy old mid → IsBegunBy mid new → IsBegunBy old new
IsBegunBy-trans old mid new e f = record { more = e.more ++ f.more; are = f.are ∙ ap (λ x. x ++ f.more) e.are ∙ append_assoc old e.more f.more }

pub spaced-append : (xs ys : List (List ℕ)) → spaced (xs ++ ys) ≡ spaced xs ++ spaced ys
spaced-append [] ys = refl
spaced-append (x ∷ xs) ys = ap (λ r. x ++ space ∷ r) (spaced-append xs ys) ∙ sym (append_assoc x (space ∷ spaced xs) (spaced ys))

-- single spaces between the words: one behind each but the last
pub join-spaced : (words : List (List ℕ)) (last : List ℕ) → join_with_byte space (words ++ last ∷ []) ≡ spaced words ++ last
join-spaced [] last = refl
join-spaced (x ∷ []) last = sym (append_assoc x (space ∷ []) last)
join-spaced (x ∷ y ∷ words) last = ap (λ r. x ++ space ∷ r) (join-spaced (y ∷ words) last) ∙ sym (append_assoc x (space ∷ spaced (y ∷ words)) last)

-- one group more: what is left still completes the text
pub groups-more : (whole out new : List ℕ) (gs : List Group) (k : ℕ) (g : Group) → k < length gs → g ≡ get_or gs k g
    → out ++ spaced (groups_words (drop k gs)) ≡ whole → new ≡ out ++ spaced (group_words g) → new ++ spaced (groups_words (drop (k + 1) gs)) ≡ whole
groups-more whole out new gs k g inside is left written =
    ap (λ x. x ++ spaced (groups_words (drop (k + 1) gs))) written
    ∙ append_assoc out (spaced (group_words g)) (spaced (groups_words (drop (k + 1) gs)))
    ∙ ap (λ x. out ++ x) (sym (spaced-append (group_words g) (groups_words (drop (k + 1) gs))))
    ∙ ap (λ (x : Group). out ++ spaced (groups_words (x ∷ drop (k + 1) gs))) is
    ∙ ap (λ (x : List Group). out ++ spaced (groups_words x)) (sym (drop_more gs k g inside))
    ∙ left

-- one word more of those that `f` makes of what is written
pub words-more : {X : Type 0} (f : X → List ℕ) (whole out new : List ℕ) (xs : List X) (k : ℕ) (x : X) → k < length xs → x ≡ get_or xs k x
    → out ++ spaced (map f (drop k xs)) ≡ whole → new ≡ out ++ f x ++ space ∷ [] → new ++ spaced (map f (drop (k + 1) xs)) ≡ whole
words-more {X} f whole out new xs k x inside is left written =
    ap (λ y. y ++ spaced (map f (drop (k + 1) xs))) written
    ∙ joined (spaced (map f (drop (k + 1) xs)))
    ∙ ap (λ (y : X). out ++ spaced (map f (y ∷ drop (k + 1) xs))) is
    ∙ ap (λ (ys : List X). out ++ spaced (map f ys)) (sym (drop_more xs k x inside))
    ∙ left
  where
    joined : (rest : List ℕ) → (out ++ f x ++ space ∷ []) ++ rest ≡ out ++ (f x ++ space ∷ rest)
    joined rest = simp append_assoc

-- no words are left
pub words-done : {X : Type 0} (words : List X → List (List ℕ)) (whole out : List ℕ) (xs : List X) (k : ℕ) → words [] ≡ [] → length xs ≤ k
    → out ++ spaced (words (drop k xs)) ≡ whole → out ≡ whole
words-done words whole out xs k none end left =
    sym (append-nil out) ∙ ap (λ ws. out ++ spaced ws) (sym none ∙ ap words (sym (drop_all k xs end))) ∙ left

-- the text of a deletion, as it is written
pub deletion-text : (d : Deletion) (out id mark ids : List ℕ) → id ≡ out ++ decimal d.id ++ space ∷ [] → mark ≡ id ++ 100 ∷ space ∷ []
    → ids ≡ mark ++ spaced (map decimal d.ids) → ids ++ 48 ∷ lf ∷ [] ≡ out ++ step_text (delete d)
deletion-text d out id mark ids p q r =
    ap (λ x. x ++ 48 ∷ lf ∷ []) r ∙ ap (λ x. (x ++ spaced (map decimal d.ids)) ++ 48 ∷ lf ∷ []) q
    ∙ ap (λ x. ((x ++ 100 ∷ space ∷ []) ++ spaced (map decimal d.ids)) ++ 48 ∷ lf ∷ []) p
    ∙ joined
    ∙ ap (λ x. out ++ (x ++ lf ∷ [])) (sym (join-spaced (decimal d.id ∷ (100 ∷ []) ∷ map decimal d.ids) zero_text))
  where
    joined : ((((out ++ decimal d.id ++ space ∷ []) ++ 100 ∷ space ∷ []) ++ spaced (map decimal d.ids)) ++ 48 ∷ lf ∷ [])
        ≡ out ++ ((spaced (decimal d.id ∷ (100 ∷ []) ∷ map decimal d.ids) ++ zero_text) ++ lf ∷ [])
    joined = simp append_assoc

addition_words : Addition → List (List ℕ)
addition_words a = decimal a.id ∷ ((map literal_text a.clause ++ zero_text ∷ []) ++ map decimal a.hints ++ groups_words a.groups)

-- the line of an addition up to its groups, as it is written
pub line-begun : (n : ℕ) (c : Clause) (ns : List ℕ) (out id clause mark hints : List ℕ) → id ≡ out ++ decimal n ++ space ∷ [] → clause ≡ id ++ spaced (map literal_text c) → mark ≡ clause ++ 48 ∷ space ∷ []
    → hints ≡ mark ++ spaced (map decimal ns) → hints ≡ out ++ begun_line n c ns
line-begun n c ns out id clause mark hints p q r s =
    s ∙ ap (λ x. x ++ spaced (map decimal ns)) (r ∙ ap (λ x. x ++ 48 ∷ space ∷ []) (q ∙ ap (λ x. x ++ spaced (map literal_text c)) p)) ∙ joined
  where
    joined : ((((out ++ decimal n ++ space ∷ []) ++ spaced (map literal_text c)) ++ 48 ∷ space ∷ []) ++ spaced (map decimal ns)) ≡ out ++ begun_line n c ns
    joined = simp append_assoc

-- the text of an addition, as it is written
pub addition-text : (a : Addition) (out hints groups : List ℕ) → hints ≡ out ++ begun_line a.id a.clause a.hints → groups ≡ hints ++ spaced (groups_words a.groups) → groups ++ 48 ∷ lf ∷ [] ≡ out ++ step_text (add a)
unfolding addition_words
addition-text a out hints groups s t =
    ap (λ x. x ++ 48 ∷ lf ∷ []) t ∙ ap (λ x. (x ++ spaced (groups_words a.groups)) ++ 48 ∷ lf ∷ []) s
    ∙ joined
    ∙ ap (λ x. out ++ (x ++ lf ∷ [])) (sym words)
  where
    spaced_words : spaced (addition_words a) ≡ decimal a.id ++ space ∷ (spaced (map literal_text a.clause) ++ 48 ∷ space ∷ (spaced (map decimal a.hints) ++ spaced (groups_words a.groups)))
    spaced_words = simp (spaced-append, append_assoc)

    words : join_with_byte space (step_words (add a)) ≡ (decimal a.id ++ space ∷ (spaced (map literal_text a.clause) ++ 48 ∷ space ∷ (spaced (map decimal a.hints) ++ spaced (groups_words a.groups)))) ++ zero_text
    words = join-spaced (addition_words a) zero_text ∙ ap (λ x. x ++ zero_text) spaced_words

    joined : (((out ++ begun_line a.id a.clause a.hints) ++ spaced (groups_words a.groups)) ++ 48 ∷ lf ∷ [])
        ≡ out ++ (((decimal a.id ++ space ∷ (spaced (map literal_text a.clause) ++ 48 ∷ space ∷ (spaced (map decimal a.hints) ++ spaced (groups_words a.groups)))) ++ zero_text) ++ lf ∷ [])
    joined = simp append_assoc

-- the text of an addition without groups
pub clause-text : (n : ℕ) (c : Clause) (ns : List ℕ) (out hints : List ℕ) → hints ≡ out ++ begun_line n c ns → hints ++ 48 ∷ lf ∷ [] ≡ out ++ step_text (add (record { id = n; clause = c; hints = ns; groups = [] }))
clause-text n c ns out hints e = addition-text (record { id = n; clause = c; hints = ns; groups = [] }) out hints hints e (sym (append-nil hints))
