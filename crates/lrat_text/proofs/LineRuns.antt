-- The machine takes the words of every step, and each state's words begin those of some step.
use Rattle.std.proofs.Common.{◌≡◌, ℕ, Bool, true, false, List, [], ◌∷◌, ◌++◌, map, nat_le, le-leb, refl, sym, ap, ◌∙◌, arith, decimal, Option, Some, None, All, codes, append_assoc, append-nil, cond}
use Rattle.theory.specs.Literals.{Literal, Clause, positive, negative}
use Rattle.theory.specs.Steps.{Group, Addition, Deletion, Step, add, delete}
use Rattle.theory.specs.Texts.{literal_text, groups_words, step_words, zero_text, minus}
use Rattle.theory.specs.ProofReading.{max_literal, max_number, IsNumber, IsLiteral, IsGroup, IsAddition, IsStep, LineCanGoOn}
use Rattle.lrat_text.specs.declared.word.Word.{Word}
use Rattle.lrat_text.specs.declared.word.Word.TheVariants.{Positive, Negative}
use Rattle.lrat_text.specs.LineWords.{word_of, number_in}
use Rattle.lrat_text.specs.LineMachine.{LineState, at_id, at_clause, at_hints, at_group, at_ids, ended, with_group, without_groups, on, on_candidate, IsWithin}
use Rattle.lrat_text.proofs.WordTexts.{word_of-decimal, word_of-minus}
use Rattle.lrat_text.proofs.LineMachineLemmas.{front, so_far}
use Rattle.std.proofs.lemmas.List.Elements.{All-head, All-tail, All-nil, All-push}

-- the state behind words, if they can stand there
abbrev pub then_on : Option LineState → List ℕ → Option LineState
then_on None t = None
then_on (Some s) t = on s (word_of t)

abbrev pub runs : Option LineState → List (List ℕ) → Option LineState
runs o [] = o
runs o (t ∷ ts) = runs (then_on o t) ts

pub runs-append : (o : Option LineState) (ts us : List (List ℕ)) → runs o (ts ++ us) ≡ runs (runs o ts) us
runs-append o [] us = refl
runs-append o (t ∷ ts) us = runs-append (then_on o t) ts us

pub runs-None : (ts : List (List ℕ)) → runs None ts ≡ None
runs-None [] = refl
runs-None (t ∷ ts) = runs-None ts

-- a number, a literal and a candidate are taken where they may stand
number-in : (n : ℕ) → IsNumber n → number_in (word_of (decimal n)) ≡ Some n
number-in n h = let small : nat_le n max_number ≡ true = le-leb n max_number h.1 in ap number_in (word_of-decimal n h.0 h.1) ∙ ap (λ b. cond b (Some n) None) small

on-id : (n : ℕ) → IsNumber n → on at_id (word_of (decimal n)) ≡ Some (at_clause n [])
on-id n h = ap (λ o. elim o [ Some m ↦ Some (at_clause m []) | None ↦ None ]) (number-in n h)

taken_literal : ℕ → Clause → Option Literal → Option LineState
taken_literal id c o = elim o [ Some l ↦ Some (at_clause id (c ++ l ∷ [])) | None ↦ None ]

on-literal : (id : ℕ) (c : Clause) (l : Literal) → IsLiteral l → on (at_clause id c) (word_of (literal_text l)) ≡ Some (at_clause id (c ++ l ∷ []))
unfolding taken_literal
on-literal id c l h = go l.positive refl
  where
    small : nat_le l.var max_literal ≡ true
    small = le-leb l.var max_literal h.1

    plain : (c : Clause) (w : Word) → w ≡ Positive l.var → l.positive ≡ true → on (at_clause id c) w ≡ Some (at_clause id (c ++ l ∷ []))
    plain [] w e p = ap (on (at_clause id [])) e ∙ ap (λ b. taken_literal id [] (cond b (Some (positive l.var)) None)) small ∙ ap (λ j. taken_literal id [] (Some j)) (λ i. record { var = l.var; positive = sym p i })
    plain (k ∷ c) w e p =
        ap (on (at_clause id (k ∷ c))) e ∙ ap (λ b. taken_literal id (k ∷ c) (cond b (Some (positive l.var)) None)) small ∙ ap (λ j. taken_literal id (k ∷ c) (Some j)) (λ i. record { var = l.var; positive = sym p i })

    signed : (c : Clause) (w : Word) → w ≡ Negative l.var → l.positive ≡ false → on (at_clause id c) w ≡ Some (at_clause id (c ++ l ∷ []))
    signed [] w e p = ap (on (at_clause id [])) e ∙ ap (λ b. taken_literal id [] (cond b (Some (negative l.var)) None)) small ∙ ap (λ j. taken_literal id [] (Some j)) (λ i. record { var = l.var; positive = sym p i })
    signed (k ∷ c) w e p =
        ap (on (at_clause id (k ∷ c))) e ∙ ap (λ b. taken_literal id (k ∷ c) (cond b (Some (negative l.var)) None)) small ∙ ap (λ j. taken_literal id (k ∷ c) (Some j)) (λ i. record { var = l.var; positive = sym p i })

    go : (b : Bool) → l.positive ≡ b → on (at_clause id c) (word_of (literal_text l)) ≡ Some (at_clause id (c ++ l ∷ []))
    go true p = plain c (word_of (literal_text l)) (ap (λ b. word_of (cond b (decimal l.var) (minus ∷ decimal l.var))) p ∙ word_of-decimal l.var h.0 (omega arith)) p
    go false p = signed c (word_of (literal_text l)) (ap (λ b. word_of (cond b (decimal l.var) (minus ∷ decimal l.var))) p ∙ word_of-minus l.var h.0 (omega arith)) p

on-hint : (id : ℕ) (c : Clause) (hs : List ℕ) (n : ℕ) → IsNumber n → on (at_hints id c hs) (word_of (decimal n)) ≡ Some (at_hints id c (hs ++ n ∷ []))
on-hint id c hs n h =
    ap (on (at_hints id c hs)) (word_of-decimal n h.0 h.1)
    ∙ ap (λ b. elim (cond b (Some n) None) [ Some m ↦ Some (at_hints id c (hs ++ m ∷ [])) | None ↦ on_candidate (without_groups id c hs) (Positive n) ]) (le-leb n max_number h.1)

on-candidate : (id : ℕ) (c : Clause) (hs : List ℕ) (n : ℕ) → IsNumber n
    → on (at_hints id c hs) (word_of (minus ∷ decimal n)) ≡ Some (at_group (without_groups id c hs) (record { candidate = n; hints = [] }))
on-candidate id c hs n h =
    ap (on (at_hints id c hs)) (word_of-minus n h.0 h.1)
    ∙ ap (λ b. elim (cond b (Some n) None) [ Some m ↦ Some (at_group (without_groups id c hs) (record { candidate = m; hints = [] })) | None ↦ None ]) (le-leb n max_number h.1)

on-group_hint : (a : Addition) (g : Group) (n : ℕ) → IsNumber n
    → on (at_group a g) (word_of (decimal n)) ≡ Some (at_group a (record { candidate = g.candidate; hints = g.hints ++ n ∷ [] }))
on-group_hint a g n h =
    ap (on (at_group a g)) (word_of-decimal n h.0 h.1)
    ∙ ap (λ b. elim (cond b (Some n) None) [ Some m ↦ Some (at_group a (record { candidate = g.candidate; hints = g.hints ++ m ∷ [] })) | None ↦ on_candidate (with_group a g) (Positive n) ]) (le-leb n max_number h.1)

on-next_candidate : (a : Addition) (g : Group) (n : ℕ) → IsNumber n
    → on (at_group a g) (word_of (minus ∷ decimal n)) ≡ Some (at_group (with_group a g) (record { candidate = n; hints = [] }))
on-next_candidate a g n h =
    ap (on (at_group a g)) (word_of-minus n h.0 h.1)
    ∙ ap (λ b. elim (cond b (Some n) None) [ Some m ↦ Some (at_group (with_group a g) (record { candidate = m; hints = [] })) | None ↦ None ]) (le-leb n max_number h.1)

on-deleted : (d : Deletion) (n : ℕ) → IsNumber n → on (at_ids d) (word_of (decimal n)) ≡ Some (at_ids (record { id = d.id; ids = d.ids ++ n ∷ [] }))
on-deleted d n h =
    ap (on (at_ids d)) (word_of-decimal n h.0 h.1)
    ∙ ap (λ b. elim (cond b (Some n) None) [ Some m ↦ Some (at_ids (record { id = d.id; ids = d.ids ++ m ∷ [] })) | None ↦ None ]) (le-leb n max_number h.1)

on-clause_end : (id : ℕ) (c : Clause) → on (at_clause id c) (word_of zero_text) ≡ Some (at_hints id c [])
on-clause_end id [] = refl
on-clause_end id (l ∷ c) = refl

-- runs of words of one kind
runs-literals : (id : ℕ) (c ls : Clause) (ts : List (List ℕ)) → All IsLiteral ls
    → runs (Some (at_clause id c)) (map literal_text ls ++ ts) ≡ runs (Some (at_clause id (c ++ ls))) ts
runs-literals id c [] ts h = ap (λ k. runs (Some (at_clause id k)) ts) (sym (append-nil c))
runs-literals id c (l ∷ ls) ts h =
    ap (λ o. runs o (map literal_text ls ++ ts)) (on-literal id c l (All-head IsLiteral l ls h))
    ∙ runs-literals id (c ++ l ∷ []) ls ts (All-tail IsLiteral l ls h)
    ∙ ap (λ k. runs (Some (at_clause id k)) ts) (append_assoc c (l ∷ []) ls)

runs-hints : (id : ℕ) (c : Clause) (hs ns : List ℕ) (ts : List (List ℕ)) → All IsNumber ns
    → runs (Some (at_hints id c hs)) (map decimal ns ++ ts) ≡ runs (Some (at_hints id c (hs ++ ns))) ts
runs-hints id c hs [] ts h = ap (λ k. runs (Some (at_hints id c k)) ts) (sym (append-nil hs))
runs-hints id c hs (n ∷ ns) ts h =
    ap (λ o. runs o (map decimal ns ++ ts)) (on-hint id c hs n (All-head IsNumber n ns h))
    ∙ runs-hints id c (hs ++ n ∷ []) ns ts (All-tail IsNumber n ns h)
    ∙ ap (λ k. runs (Some (at_hints id c k)) ts) (append_assoc hs (n ∷ []) ns)

runs-group_hints : (a : Addition) (n : ℕ) (hs ns : List ℕ) (ts : List (List ℕ)) → All IsNumber ns
    → runs (Some (at_group a (record { candidate = n; hints = hs }))) (map decimal ns ++ ts) ≡ runs (Some (at_group a (record { candidate = n; hints = hs ++ ns }))) ts
runs-group_hints a c hs [] ts h = ap (λ k. runs (Some (at_group a (record { candidate = c; hints = k }))) ts) (sym (append-nil hs))
runs-group_hints a c hs (n ∷ ns) ts h =
    ap (λ o. runs o (map decimal ns ++ ts)) (on-group_hint a (record { candidate = c; hints = hs }) n (All-head IsNumber n ns h))
    ∙ runs-group_hints a c (hs ++ n ∷ []) ns ts (All-tail IsNumber n ns h)
    ∙ ap (λ k. runs (Some (at_group a (record { candidate = c; hints = k }))) ts) (append_assoc hs (n ∷ []) ns)

runs-ids : (id : ℕ) (hs ns : List ℕ) (ts : List (List ℕ)) → All IsNumber ns
    → runs (Some (at_ids (record { id = id; ids = hs }))) (map decimal ns ++ ts) ≡ runs (Some (at_ids (record { id = id; ids = hs ++ ns }))) ts
runs-ids id hs [] ts h = ap (λ k. runs (Some (at_ids (record { id = id; ids = k }))) ts) (sym (append-nil hs))
runs-ids id hs (n ∷ ns) ts h =
    ap (λ o. runs o (map decimal ns ++ ts)) (on-deleted (record { id = id; ids = hs }) n (All-head IsNumber n ns h))
    ∙ runs-ids id (hs ++ n ∷ []) ns ts (All-tail IsNumber n ns h)
    ∙ ap (λ k. runs (Some (at_ids (record { id = id; ids = k }))) ts) (append_assoc hs (n ∷ []) ns)

-- groups behind a group, then the last 0
with_groups : Addition → List Group → Addition
with_groups a gs = record { id = a.id; clause = a.clause; hints = a.hints; groups = a.groups ++ gs }

runs-group : (a : Addition) (g : Group) (gs : List Group) → IsGroup g → All IsGroup gs
    → runs (Some (at_group a (record { candidate = g.candidate; hints = [] }))) (map decimal g.hints ++ (groups_words gs ++ zero_text ∷ [])) ≡ Some (ended (add (with_groups a (g ∷ gs))))
unfolding with_groups
runs-group a g [] h hs = runs-group_hints a g.candidate [] g.hints (zero_text ∷ []) h.hints
runs-group a g (k ∷ gs) h hs =
    runs-group_hints a g.candidate [] g.hints (groups_words (k ∷ gs) ++ zero_text ∷ []) h.hints
    ∙ ap (λ ts. runs (Some (at_group a g)) ((minus ∷ decimal k.candidate) ∷ ts)) (append_assoc (map decimal k.hints) (groups_words gs) (zero_text ∷ []))
    ∙ ap (λ o. runs o (map decimal k.hints ++ (groups_words gs ++ zero_text ∷ []))) (on-next_candidate a g k.candidate (All-head IsGroup k gs hs).candidate)
    ∙ runs-group (with_group a g) k gs (All-head IsGroup k gs hs) (All-tail IsGroup k gs hs)
    ∙ ap (λ r. Some (ended (add (record { id = a.id; clause = a.clause; hints = a.hints; groups = r })))) (append_assoc a.groups (g ∷ []) (k ∷ gs))

runs-groups : (id : ℕ) (c : Clause) (hs : List ℕ) (gs : List Group) → All IsGroup gs
    → runs (Some (at_hints id c hs)) (groups_words gs ++ zero_text ∷ []) ≡ Some (ended (add (record { id = id; clause = c; hints = hs; groups = gs })))
unfolding with_groups
runs-groups id c hs [] h = refl
runs-groups id c hs (g ∷ gs) h =
    ap (λ ts. runs (Some (at_hints id c hs)) ((minus ∷ decimal g.candidate) ∷ ts)) (append_assoc (map decimal g.hints) (groups_words gs) (zero_text ∷ []))
    ∙ ap (λ o. runs o (map decimal g.hints ++ (groups_words gs ++ zero_text ∷ []))) (on-candidate id c hs g.candidate (All-head IsGroup g gs h).candidate)
    ∙ runs-group (without_groups id c hs) g gs (All-head IsGroup g gs h) (All-tail IsGroup g gs h)

addition_split : (a : Addition) → step_words (add a) ≡ decimal a.id ∷ (map literal_text a.clause ++ zero_text ∷ (map decimal a.hints ++ (groups_words a.groups ++ zero_text ∷ [])))
addition_split a = simp append_assoc

-- The machine takes each step's words.
pub step-runs : (s : Step) → IsStep s → runs (Some at_id) (step_words s) ≡ Some (ended s)
step-runs (add a) h =
    ap (runs (Some at_id)) (addition_split a)
    ∙ ap (λ o. runs o (map literal_text a.clause ++ zero_text ∷ (map decimal a.hints ++ (groups_words a.groups ++ zero_text ∷ [])))) (on-id a.id h.id)
    ∙ runs-literals a.id [] a.clause (zero_text ∷ (map decimal a.hints ++ (groups_words a.groups ++ zero_text ∷ []))) h.clause
    ∙ ap (λ o. runs o (map decimal a.hints ++ (groups_words a.groups ++ zero_text ∷ []))) (on-clause_end a.id a.clause)
    ∙ runs-hints a.id a.clause [] a.hints (groups_words a.groups ++ zero_text ∷ []) h.hints
    ∙ runs-groups a.id a.clause a.hints a.groups h.groups
step-runs (delete d) h =
    ap (λ o. runs o (codes "d" ∷ (map decimal d.ids ++ zero_text ∷ []))) (on-id d.id h.id)
    ∙ runs-ids d.id [] d.ids (zero_text ∷ []) h.ids

-- some step's words begin with the words that lead to a state
whole : (words : List (List ℕ)) (s : Step) → IsStep s → words ≡ step_words s → LineCanGoOn words
whole words s h e = record { more = []; step = s; readable = record { within = h; are = append-nil words ∙ e } }

addition-goes_on : (a : Addition) (words more : List (List ℕ)) → IsAddition a → words ++ more ≡ step_words (add a) → LineCanGoOn words
addition-goes_on a words more h e = record { more = more; step = add a; readable = record { within = h; are = e } }

clause_only : (id : ℕ) (c : Clause) → (decimal id ∷ map literal_text c) ++ zero_text ∷ zero_text ∷ [] ≡ step_words (add (without_groups id c []))
clause_only id c = simp append_assoc

pub so_far-goes_on : (s : LineState) → IsWithin s → LineCanGoOn (so_far s)
unfolding so_far front
so_far-goes_on at_id h =
    addition-goes_on (without_groups 1 [] []) [] (step_words (add (without_groups 1 [] [])))
    (record { id = (omega arith, omega arith); clause = All-nil IsLiteral; hints = All-nil IsNumber; groups = All-nil IsGroup }) refl
so_far-goes_on (at_clause id c) h =
    addition-goes_on (without_groups id c []) (decimal id ∷ map literal_text c) (zero_text ∷ zero_text ∷ [])
    (record { id = h.0; clause = h.1; hints = All-nil IsNumber; groups = All-nil IsGroup }) (clause_only id c)
so_far-goes_on (at_hints id c hs) h = addition-goes_on (without_groups id c hs) (front (without_groups id c hs)) (zero_text ∷ []) h refl
so_far-goes_on (at_group a g) h =
    addition-goes_on (with_group a g) (front (with_group a g)) (zero_text ∷ [])
    (record { id = h.0.id; clause = h.0.clause; hints = h.0.hints; groups = All-push IsGroup a.groups g h.0.groups h.1 }) refl
so_far-goes_on (at_ids d) h = record { more = zero_text ∷ []; step = delete d; readable = record { within = h; are = refl } }
so_far-goes_on (ended s) h = whole (step_words s) s h refl

-- words that lead nowhere can't go on
pub stuck : (words : List (List ℕ)) → runs (Some at_id) words ≡ None → ¬ (LineCanGoOn words)
stuck words h c =
    let all : runs (Some at_id) (step_words c.step) ≡ Some (ended c.step) = step-runs c.step c.readable.within in
    let front_none : runs (Some at_id) (words ++ c.more) ≡ None = runs-append (Some at_id) words c.more ∙ ap (λ o. runs o c.more) h ∙ runs-None c.more in
    let none : runs (Some at_id) (step_words c.step) ≡ None = ap (runs (Some at_id)) (sym c.readable.are) ∙ front_none in
    cc
