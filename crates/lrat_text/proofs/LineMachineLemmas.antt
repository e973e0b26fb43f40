-- The words that led the machine to a state, and where it can go from there.
use Rattle.std.proofs.Common.{◌≡◌, ℕ, ◌≤◌, Bool, true, false, List, [], ◌∷◌, ◌++◌, map, nat_le, leb-true, refl, sym, ap, subst, ◌∙◌, arith, decimal, Option, Some, None, codes, append_assoc, append-nil, cond}
use Rattle.std.proofs.lemmas.List.{map-append}
use Rattle.std.proofs.lemmas.List.Elements.{All-nil, All-push}
use Rattle.theory.specs.Literals.{Literal, Clause, positive, negative}
use Rattle.theory.specs.Steps.{Group, Addition, Deletion, add, delete}
use Rattle.theory.specs.Texts.{literal_text, clause_words, group_words, groups_words, step_words, zero_text, minus}
use Rattle.theory.specs.ProofReading.{max_literal, max_number, IsNumber, IsLiteral, IsGroup, IsAddition}
use Rattle.lrat_text.specs.declared.word.Word.{Word}
use Rattle.lrat_text.specs.declared.word.Word.TheVariants.{Zero, Positive, Negative, Mark, Other}
use Rattle.lrat_text.specs.LineWords.{word_of, number_in, candidate_in, literal_in, IsCounting}
use Rattle.lrat_text.specs.LineMachine.{LineState, at_id, at_clause, at_hints, at_group, at_ids, ended, with_group, without_groups, on, on_id, on_literal, on_candidate, on_hint, on_group_hint, on_deleted, IsWithin}
use Rattle.lrat_text.proofs.WordTexts.{word_of-IsCounting, text-Zero, text-Positive, text-Negative, text-Mark}

-- the words of the first parts of an addition
unfoldable pub front : Addition → List (List ℕ)
front a = decimal a.id ∷ (clause_words a.clause ++ map decimal a.hints ++ groups_words a.groups)

-- the words that lead to a state
unfoldable pub so_far : LineState → List (List ℕ)
so_far at_id = []
so_far (at_clause id c) = decimal id ∷ map literal_text c
so_far (at_hints id c hs) = front (without_groups id c hs)
so_far (at_group a g) = front (with_group a g)
so_far (at_ids d) = decimal d.id ∷ codes "d" ∷ map decimal d.ids
so_far (ended s) = step_words s

-- one word more
map-push : {X Y : Type 0} (f : X → Y) (xs : List X) (x : X) (t : Y) → t ≡ f x → map f xs ++ t ∷ [] ≡ map f (xs ++ x ∷ [])
map-push f xs x t e = ap (λ y. map f xs ++ y ∷ []) e ∙ sym (map-append f xs (x ∷ []))

groups_words-append : (gs hs : List Group) → groups_words (gs ++ hs) ≡ groups_words gs ++ groups_words hs
groups_words-append [] hs = refl
groups_words-append (g ∷ gs) hs = ap (λ r. group_words g ++ r) (groups_words-append gs hs) ∙ sym (append_assoc (group_words g) (groups_words gs) (groups_words hs))

groups_words-one : (g : Group) → groups_words (g ∷ []) ≡ group_words g
groups_words-one g = append-nil (group_words g)

front-hint : (id : ℕ) (c : Clause) (hs : List ℕ) (n : ℕ) (t : List ℕ) → t ≡ decimal n → front (without_groups id c hs) ++ t ∷ [] ≡ front (without_groups id c (hs ++ n ∷ []))
unfolding front
front-hint id c hs n t e =
    ap (λ r. decimal id ∷ r)
    (ap (λ r. r ++ t ∷ []) (append-nil (clause_words c ++ map decimal hs)) ∙ append_assoc (clause_words c) (map decimal hs) (t ∷ [])
    ∙ ap (λ r. clause_words c ++ r) (map-push decimal hs n t e) ∙ sym (append-nil (clause_words c ++ map decimal (hs ++ n ∷ []))))

front-groups : (a : Addition) (gs : List Group) → front (record { id = a.id; clause = a.clause; hints = a.hints; groups = a.groups ++ gs }) ≡ front a ++ groups_words gs
unfolding front
front-groups a gs =
    ap (λ r. decimal a.id ∷ (clause_words a.clause ++ map decimal a.hints ++ r)) (groups_words-append a.groups gs)
    ∙ ap (λ r. decimal a.id ∷ r) (sym (append_assoc (clause_words a.clause ++ map decimal a.hints) (groups_words a.groups) (groups_words gs)))

front-with_group : (a : Addition) (g : Group) → front (with_group a g) ≡ front a ++ group_words g
front-with_group a g = front-groups a (g ∷ []) ∙ ap (λ r. front a ++ r) (groups_words-one g)

front-candidate : (a : Addition) (n : ℕ) (t : List ℕ) → t ≡ minus ∷ decimal n → front a ++ t ∷ [] ≡ front (with_group a (record { candidate = n; hints = [] }))
front-candidate a n t e = ap (λ x. front a ++ x ∷ []) e ∙ sym (front-with_group a (record { candidate = n; hints = [] }))

front-group_hint : (a : Addition) (g : Group) (n : ℕ) (t : List ℕ) → t ≡ decimal n
    → front (with_group a g) ++ t ∷ [] ≡ front (with_group a (record { candidate = g.candidate; hints = g.hints ++ n ∷ [] }))
front-group_hint a g n t e =
    ap (λ r. r ++ t ∷ []) (front-with_group a g) ∙ append_assoc (front a) (group_words g) (t ∷ [])
    ∙ ap (λ r. front a ++ ((minus ∷ decimal g.candidate) ∷ r)) (map-push decimal g.hints n t e)
    ∙ sym (front-with_group a (record { candidate = g.candidate; hints = g.hints ++ n ∷ [] }))

front-end : (a : Addition) (t : List ℕ) → t ≡ zero_text → front a ++ t ∷ [] ≡ step_words (add a)
unfolding front
front-end a t e = ap (λ x. front a ++ x ∷ []) e

front-begin : (id : ℕ) (c : Clause) (t : List ℕ) → t ≡ zero_text → (decimal id ∷ map literal_text c) ++ t ∷ [] ≡ front (without_groups id c [])
unfolding front
front-begin id c t e = ap (λ x. decimal id ∷ (map literal_text c ++ x ∷ [])) e ∙ ap (λ r. decimal id ∷ r) (sym (append-nil (clause_words c)) ∙ sym (append-nil (clause_words c ++ [])))

literals-more : (id : ℕ) (c : Clause) (l : Literal) (t : List ℕ) → t ≡ literal_text l → (decimal id ∷ map literal_text c) ++ t ∷ [] ≡ decimal id ∷ map literal_text (c ++ l ∷ [])
literals-more id c l t e = ap (λ r. decimal id ∷ r) (map-push literal_text c l t e)

ids-more : (d : Deletion) (n : ℕ) (t : List ℕ) → t ≡ decimal n
    → (decimal d.id ∷ codes "d" ∷ map decimal d.ids) ++ t ∷ [] ≡ decimal d.id ∷ codes "d" ∷ map decimal (d.ids ++ n ∷ [])
ids-more d n t e = ap (λ r. decimal d.id ∷ codes "d" ∷ r) (map-push decimal d.ids n t e)

ids-end : (d : Deletion) (t : List ℕ) → t ≡ zero_text → (decimal d.id ∷ codes "d" ∷ map decimal d.ids) ++ t ∷ [] ≡ step_words (delete d)
ids-end d t e = ap (λ x. (decimal d.id ∷ codes "d" ∷ map decimal d.ids) ++ x ∷ []) e

-- the state behind a word: each number is within its limit, and the words so far are one more
pub record Follows (s : LineState) (t : List ℕ) (next : LineState) : Type 0 where
  pub within : IsWithin next
  pub words : so_far s ++ t ∷ [] ≡ so_far next

-- what a word's number, candidate or literal says of its text
pub record IsNumberText (t : List ℕ) (n : ℕ) : Type 0 where
  pub within : IsNumber n
  pub text : t ≡ decimal n

pub record IsCandidateText (t : List ℕ) (n : ℕ) : Type 0 where
  pub within : IsNumber n
  pub text : t ≡ minus ∷ decimal n

pub record IsLiteralText (t : List ℕ) (l : Literal) : Type 0 where
  pub within : IsLiteral l
  pub text : t ≡ literal_text l

counting : (t : List ℕ) (w : Word) → word_of t ≡ w → IsCounting w
counting t w e = subst IsCounting e (word_of-IsCounting t)

number-text : (t : List ℕ) (w : Word) (n : ℕ) → word_of t ≡ w → number_in w ≡ Some n → IsNumberText t n
number-text t Zero n e h = absurd (cc)
number-text t (Positive m) n e h = go (nat_le m max_number) refl h
  where
    go : (b : Bool) → nat_le m max_number ≡ b → (cond b (Some m) None) ≡ Some n → IsNumberText t n
    go true q k =
        let same : m ≡ n = cc in
        let small : m ≤ max_number = leb-true m max_number q in
        let low : 1 ≤ m = counting t (Positive m) e in
        subst (IsNumberText t) same (record { within = (low, small); text = text-Positive t m e small })
    go false q k = absurd (cc)
number-text t (Negative m) n e h = absurd (cc)
number-text t Mark n e h = absurd (cc)
number-text t Other n e h = absurd (cc)

candidate-text : (t : List ℕ) (w : Word) (n : ℕ) → word_of t ≡ w → candidate_in w ≡ Some n → IsCandidateText t n
candidate-text t Zero n e h = absurd (cc)
candidate-text t (Negative m) n e h = go (nat_le m max_number) refl h
  where
    go : (b : Bool) → nat_le m max_number ≡ b → (cond b (Some m) None) ≡ Some n → IsCandidateText t n
    go true q k =
        let same : m ≡ n = cc in
        let small : m ≤ max_number = leb-true m max_number q in
        let low : 1 ≤ m = counting t (Negative m) e in
        subst (IsCandidateText t) same (record { within = (low, small); text = text-Negative t m e small })
    go false q k = absurd (cc)
candidate-text t (Positive m) n e h = absurd (cc)
candidate-text t Mark n e h = absurd (cc)
candidate-text t Other n e h = absurd (cc)

literal-text : (t : List ℕ) (w : Word) (l : Literal) → word_of t ≡ w → literal_in w ≡ Some l → IsLiteralText t l
literal-text t Zero l e h = absurd (cc)
literal-text t (Positive m) l e h = go (nat_le m max_literal) refl h
  where
    go : (b : Bool) → nat_le m max_literal ≡ b → (cond b (Some (positive m)) None) ≡ Some l → IsLiteralText t l
    go true q k =
        let same : positive m ≡ l = cc in
        let small : m ≤ max_literal = leb-true m max_literal q in
        let low : 1 ≤ m = counting t (Positive m) e in
        subst (IsLiteralText t) same (record { within = (low, small); text = text-Positive t m e (omega arith) })
    go false q k = absurd (cc)
literal-text t (Negative m) l e h = go (nat_le m max_literal) refl h
  where
    go : (b : Bool) → nat_le m max_literal ≡ b → (cond b (Some (negative m)) None) ≡ Some l → IsLiteralText t l
    go true q k =
        let same : negative m ≡ l = cc in
        let small : m ≤ max_literal = leb-true m max_literal q in
        let low : 1 ≤ m = counting t (Negative m) e in
        subst (IsLiteralText t) same (record { within = (low, small); text = text-Negative t m e (omega arith) })
    go false q k = absurd (cc)
literal-text t Mark l e h = absurd (cc)
literal-text t Other l e h = absurd (cc)

-- each state's words
id-Follows : (t : List ℕ) (next : LineState) → on_id (word_of t) ≡ Some next → Follows at_id t next
unfolding so_far
id-Follows t next h = go (number_in (word_of t)) refl h
  where
    go : (o : Option ℕ) → number_in (word_of t) ≡ o → (elim o [ Some n ↦ Some (at_clause n []) | None ↦ None ]) ≡ Some next → Follows at_id t next
    go None e k = absurd (cc)
    go (Some n) e k =
        let same : at_clause n [] ≡ next = cc in
        let m = number-text t (word_of t) n refl e in
        subst (Follows at_id t) same (record { within = (m.within, All-nil IsLiteral); words = ap (λ x. x ∷ []) m.text })

literal-Follows : (id : ℕ) (c : Clause) (t : List ℕ) (next : LineState) → IsWithin (at_clause id c) → on_literal id c (word_of t) ≡ Some next → Follows (at_clause id c) t next
unfolding so_far
literal-Follows id c t next w h = go (literal_in (word_of t)) refl h
  where
    go : (o : Option Literal) → literal_in (word_of t) ≡ o → (elim o [ Some l ↦ Some (at_clause id (c ++ l ∷ [])) | None ↦ None ]) ≡ Some next → Follows (at_clause id c) t next
    go None e k = absurd (cc)
    go (Some l) e k =
        let same : at_clause id (c ++ l ∷ []) ≡ next = cc in
        let m = literal-text t (word_of t) l refl e in
        subst (Follows (at_clause id c) t) same (record { within = (w.0, All-push IsLiteral c l w.1 m.within); words = literals-more id c l t m.text })

candidate-Follows : (a : Addition) (s : LineState) (t : List ℕ) (next : LineState) → so_far s ≡ front a → IsAddition a → on_candidate a (word_of t) ≡ Some next → Follows s t next
unfolding so_far
candidate-Follows a s t next words w h = go (candidate_in (word_of t)) refl h
  where
    go : (o : Option ℕ) → candidate_in (word_of t) ≡ o → (elim o [ Some n ↦ Some (at_group a (record { candidate = n; hints = [] })) | None ↦ None ]) ≡ Some next → Follows s t next
    go None e k = absurd (cc)
    go (Some n) e k =
        let same : at_group a (record { candidate = n; hints = [] }) ≡ next = cc in
        let m = candidate-text t (word_of t) n refl e in
        subst (Follows s t) same (record {
          within = (w, record { candidate = m.within; hints = All-nil IsNumber });
          words = ap (λ r. r ++ t ∷ []) words ∙ front-candidate a n t m.text;
        })

hint-Follows : (id : ℕ) (c : Clause) (hs : List ℕ) (t : List ℕ) (next : LineState) → IsWithin (at_hints id c hs) → on_hint id c hs (word_of t) ≡ Some next → Follows (at_hints id c hs) t next
unfolding so_far
hint-Follows id c hs t next w h = go (number_in (word_of t)) refl h
  where
    go : (o : Option ℕ) → number_in (word_of t) ≡ o → (elim o [ Some n ↦ Some (at_hints id c (hs ++ n ∷ [])) | None ↦ on_candidate (without_groups id c hs) (word_of t) ]) ≡ Some next
        → Follows (at_hints id c hs) t next
    go None e k = candidate-Follows (without_groups id c hs) (at_hints id c hs) t next refl w k
    go (Some n) e k =
        let same : at_hints id c (hs ++ n ∷ []) ≡ next = cc in
        let m = number-text t (word_of t) n refl e in
        subst (Follows (at_hints id c hs) t) same (record {
          within = record { id = w.id; clause = w.clause; hints = All-push IsNumber hs n w.hints m.within; groups = w.groups };
          words = front-hint id c hs n t m.text;
        })

with_group-within : (a : Addition) (g : Group) → IsAddition a → IsGroup g → IsAddition (with_group a g)
with_group-within a g w v = record { id = w.id; clause = w.clause; hints = w.hints; groups = All-push IsGroup a.groups g w.groups v }

group_hint-Follows : (a : Addition) (g : Group) (t : List ℕ) (next : LineState) → IsWithin (at_group a g) → on_group_hint a g (word_of t) ≡ Some next → Follows (at_group a g) t next
unfolding so_far
group_hint-Follows a g t next w h = go (number_in (word_of t)) refl h
  where
    go : (o : Option ℕ) → number_in (word_of t) ≡ o
        → (elim o [ Some n ↦ Some (at_group a (record { candidate = g.candidate; hints = g.hints ++ n ∷ [] })) | None ↦ on_candidate (with_group a g) (word_of t) ]) ≡ Some next
        → Follows (at_group a g) t next
    go None e k = candidate-Follows (with_group a g) (at_group a g) t next refl (with_group-within a g w.0 w.1) k
    go (Some n) e k =
        let same : at_group a (record { candidate = g.candidate; hints = g.hints ++ n ∷ [] }) ≡ next = cc in
        let m = number-text t (word_of t) n refl e in
        subst (Follows (at_group a g) t) same (record {
          within = (w.0, record { candidate = w.1.candidate; hints = All-push IsNumber g.hints n w.1.hints m.within });
          words = front-group_hint a g n t m.text;
        })

deleted-Follows : (d : Deletion) (t : List ℕ) (next : LineState) → IsWithin (at_ids d) → on_deleted d (word_of t) ≡ Some next → Follows (at_ids d) t next
unfolding so_far
deleted-Follows d t next w h = go (number_in (word_of t)) refl h
  where
    go : (o : Option ℕ) → number_in (word_of t) ≡ o → (elim o [ Some n ↦ Some (at_ids (record { id = d.id; ids = d.ids ++ n ∷ [] })) | None ↦ None ]) ≡ Some next → Follows (at_ids d) t next
    go None e k = absurd (cc)
    go (Some n) e k =
        let same : at_ids (record { id = d.id; ids = d.ids ++ n ∷ [] }) ≡ next = cc in
        let m = number-text t (word_of t) n refl e in
        subst (Follows (at_ids d) t) same (record { within = record { id = w.id; ids = All-push IsNumber d.ids n w.ids m.within }; words = ids-more d n t m.text })

-- the `0`s and the `d`
no_hints : (id : ℕ) (c : Clause) → IsWithin (at_clause id c) → IsWithin (at_hints id c [])
no_hints id c w = record { id = w.0; clause = w.1; hints = All-nil IsNumber; groups = All-nil IsGroup }

zero-Follows : (s next : LineState) (t : List ℕ) → IsWithin s → word_of t ≡ Zero → on s Zero ≡ Some next → Follows s t next
unfolding so_far
zero-Follows at_id next t w e h = absurd (cc)
zero-Follows (at_clause id []) next t w e h =
    let same : at_hints id [] [] ≡ next = cc in
    subst (Follows (at_clause id []) t) same (record { within = no_hints id [] w; words = front-begin id [] t (text-Zero t e) })
zero-Follows (at_clause id (l ∷ c)) next t w e h =
    let same : at_hints id (l ∷ c) [] ≡ next = cc in
    subst (Follows (at_clause id (l ∷ c)) t) same (record { within = no_hints id (l ∷ c) w; words = front-begin id (l ∷ c) t (text-Zero t e) })
zero-Follows (at_hints id c hs) next t w e h =
    let same : ended (add (without_groups id c hs)) ≡ next = cc in
    subst (Follows (at_hints id c hs) t) same (record { within = w; words = front-end (without_groups id c hs) t (text-Zero t e) })
zero-Follows (at_group a g) next t w e h =
    let same : ended (add (with_group a g)) ≡ next = cc in
    subst (Follows (at_group a g) t) same (record { within = with_group-within a g w.0 w.1; words = front-end (with_group a g) t (text-Zero t e) })
zero-Follows (at_ids d) next t w e h =
    let same : ended (delete d) ≡ next = cc in
    subst (Follows (at_ids d) t) same (record { within = w; words = ids-end d t (text-Zero t e) })
zero-Follows (ended s) next t w e h = absurd (cc)

mark-Follows : (id : ℕ) (next : LineState) (t : List ℕ) → IsWithin (at_clause id []) → word_of t ≡ Mark → at_ids (record { id = id; ids = [] }) ≡ next → Follows (at_clause id []) t next
unfolding so_far
mark-Follows id next t w e same =
    subst (Follows (at_clause id []) t) same (record { within = record { id = w.0; ids = All-nil IsNumber }; words = ap (λ x. decimal id ∷ x ∷ []) (text-Mark t e) })

word-Follows : (s next : LineState) (t : List ℕ) (w : Word) → IsWithin s → word_of t ≡ w → on s w ≡ Some next → Follows s t next
word-Follows s next t Zero i e h = zero-Follows s next t i e h
word-Follows at_id next t w i e h = id-Follows t next (ap on_id e ∙ h)
word-Follows (at_clause id []) next t Mark i e h = mark-Follows id next t i e (cc)
word-Follows (at_clause id []) next t (Positive n) i e h = literal-Follows id [] t next i (ap (on_literal id []) e ∙ h)
word-Follows (at_clause id []) next t (Negative n) i e h = literal-Follows id [] t next i (ap (on_literal id []) e ∙ h)
word-Follows (at_clause id []) next t Other i e h = literal-Follows id [] t next i (ap (on_literal id []) e ∙ h)
word-Follows (at_clause id (l ∷ c)) next t w i e h = literal-Follows id (l ∷ c) t next i (ap (on_literal id (l ∷ c)) e ∙ h)
word-Follows (at_hints id c hs) next t w i e h = hint-Follows id c hs t next i (ap (on_hint id c hs) e ∙ h)
word-Follows (at_group a g) next t w i e h = group_hint-Follows a g t next i (ap (on_group_hint a g) e ∙ h)
word-Follows (at_ids d) next t w i e h = deleted-Follows d t next i (ap (on_deleted d) e ∙ h)
word-Follows (ended s) next t w i e h = absurd (cc)

-- Where the machine takes a word, the words so far are one more, and each number is within its
-- limit.
pub on-Follows : (s next : LineState) (t : List ℕ) → IsWithin s → on s (word_of t) ≡ Some next → Follows s t next
on-Follows s next t i h = word-Follows s next t (word_of t) i refl h
