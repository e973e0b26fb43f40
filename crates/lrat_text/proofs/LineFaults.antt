-- The fault of a word that can't stand in a line is the one that the machine says.
use Rattle.std.proofs.Common.{◌≡◌, ℕ, ◌+◌, ◌≤◌, Bool, true, false, ◌||◌, List, [], ◌∷◌, ◌++◌, map, nat_eq, nat_lt, refl, sym, ap, ◌∙◌, arith, decimal, All, codes, count_by, cond, zero-add, lt-ltb, ltb-true, append_assoc}
use Rattle.std.proofs.lemmas.List.Sums.{sum_by-append}
use Rattle.theory.specs.Literals.{Literal, Clause}
use Rattle.theory.specs.Steps.{Group, Addition, Step, add, delete}
use Rattle.theory.specs.Texts.{literal_text, clause_words, group_words, groups_words, step_words, zero_text, minus}
use Rattle.theory.specs.Tokens.{is_text, is_zero_text, is_positive_text, is_natural_text, is_negative_text, is_number_text, size_of}
use Rattle.theory.specs.ProofReading.{TextFault, bad_number, bad_shape, max_literal, max_number, IsNumber, IsLiteral, IsGroup, IsAddition, IsStep, word_fault}
use Rattle.theory.proofs.reading.NumberTexts.{zero_text-is, literal_text-not_zero, literal_text-is_number, decimal-is_positive}
use Rattle.theory.proofs.literals.LiteralLemmas.{or-left, or-right}
use Rattle.lrat_text.specs.LineWords.{word_of, capped}
use Rattle.lrat_text.specs.LineMachine.{LineState, at_id, at_clause, at_hints, at_group, at_ids, ended, with_group, without_groups, IsWithin, size_fault, number_fault_in, fault_in}
use Rattle.lrat_text.proofs.WordTexts.{word_cases, not_zero}
use Rattle.lrat_text.proofs.LineMachineLemmas.{front, so_far}
use Rattle.std.proofs.lemmas.List.Elements.{All-head, All-tail, All-push}
use Rattle.theory.proofs.literals.ListLemmas.{is_text-eq}

-- the cap hides no fault
size_fault-capped : (limit n : ℕ) → limit ≤ max_number → size_fault limit n ≡ size_fault limit (capped n)
size_fault-capped limit n h = ap (λ b. cond b bad_number bad_shape) (go (nat_lt limit n) refl)
  where
    same : (b : Bool) → nat_lt limit (capped n) ≡ b → nat_lt limit n ≡ false → false ≡ b
    same true e f = absurd (let l = ltb-true limit (capped n) e in let k : nat_lt limit n ≡ true = lt-ltb limit n (omega arith) in cc)
    same false e f = refl

    go : (b : Bool) → nat_lt limit n ≡ b → nat_lt limit n ≡ nat_lt limit (capped n)
    go true e = e ∙ sym (lt-ltb limit (capped n) (let l = ltb-true limit n e in omega arith))
    go false e = e ∙ same (nat_lt limit (capped n)) refl e

-- a fault by what the word is
fault-word : (s : LineState) (t : List ℕ) (f : TextFault) → f ≡ number_fault_in s (capped (size_of t)) → number_fault_in s 0 ≡ bad_shape
    → cond (is_number_text t) f bad_number ≡ fault_in s (word_of t)
fault-word s t f e shape =
    word_cases (λ w. cond (is_number_text t) f bad_number ≡ fault_in s w) t
    (λ z. number (or-left (is_natural_text t) (is_negative_text t) (or-left (is_zero_text t) (is_positive_text t) z)) ∙ ap (λ x. number_fault_in s (capped (size_of x))) (zero_text-is t z) ∙ shape)
    (λ z p. number (or-left (is_natural_text t) (is_negative_text t) (or-right (is_zero_text t) (is_positive_text t) p)))
    (λ z p n. number (or-right (is_natural_text t) (is_negative_text t) n))
    (λ z p n m. other z p n)
    (λ z p n m. other z p n)
  where
    number : is_number_text t ≡ true → cond (is_number_text t) f bad_number ≡ number_fault_in s (capped (size_of t))
    number h = ap (λ b. cond b f bad_number) h ∙ e

    other : is_zero_text t ≡ false → is_positive_text t ≡ false → is_negative_text t ≡ false → cond (is_number_text t) f bad_number ≡ bad_number
    other z p n = ap (λ b. cond ((b || is_positive_text t) || is_negative_text t) f bad_number) z ∙ ap (λ b. cond (b || is_negative_text t) f bad_number) p ∙ ap (λ b. cond b f bad_number) n

-- behind the second word, by how many zeros there are
by_zeros : ℕ → ℕ → TextFault
by_zeros n size = cond (nat_eq n 0) (size_fault max_literal size) (cond (nat_eq n 1) (size_fault max_number size) bad_shape)

deleted_by_zeros : ℕ → ℕ → TextFault
deleted_by_zeros n size = cond (nat_eq n 0) (size_fault max_number size) bad_shape

addition_fault : (id second : List ℕ) (words : List (List ℕ)) (t : List ℕ) (n : ℕ) → is_text second (codes "d") ≡ false → count_by is_zero_text (second ∷ words) ≡ n
    → word_fault (id ∷ second ∷ words) t ≡ cond (is_number_text t) (by_zeros n (size_of t)) bad_number
unfolding by_zeros deleted_by_zeros
addition_fault id second words t n m z =
    ap (λ b. cond (is_number_text t) (cond b (deleted_by_zeros (count_by is_zero_text words) (size_of t)) (by_zeros (count_by is_zero_text (second ∷ words)) (size_of t))) bad_number) m
    ∙ ap (λ k. cond (is_number_text t) (by_zeros k (size_of t)) bad_number) z

deletion_fault : (id : List ℕ) (words : List (List ℕ)) (t : List ℕ) (n : ℕ) → count_by is_zero_text words ≡ n
    → word_fault (id ∷ codes "d" ∷ words) t ≡ cond (is_number_text t) (deleted_by_zeros n (size_of t)) bad_number
unfolding by_zeros deleted_by_zeros
deletion_fault id words t n z = ap (λ k. cond (is_number_text t) (deleted_by_zeros k (size_of t)) bad_number) z

-- how many zeros there are
zeros : List (List ℕ) → ℕ
zeros words = count_by is_zero_text words

zeros-append : (xs ys : List (List ℕ)) → zeros (xs ++ ys) ≡ zeros xs + zeros ys
unfolding zeros
zeros-append xs ys = sum_by-append (λ x. cond (is_zero_text x) 1 0) xs ys

zeros-one : (x : List ℕ) (b : Bool) → is_zero_text x ≡ b → zeros (x ∷ []) ≡ cond b 1 0
unfolding zeros
zeros-one x b e = ap (λ r. 0 + cond r 1 0) e ∙ zero-add (cond b 1 0)

zeros-other : (x : List ℕ) (xs : List (List ℕ)) → is_zero_text x ≡ false → zeros (x ∷ xs) ≡ zeros xs
zeros-other x xs e = zeros-append (x ∷ []) xs ∙ ap (λ n. n + zeros xs) (zeros-one x false e) ∙ zero-add (zeros xs)

zeros-none : {X : Type 0} (P : X → Type 0) (f : X → List ℕ) (xs : List X) → ((x : X) → P x → is_zero_text (f x) ≡ false) → All P xs → zeros (map f xs) ≡ 0
unfolding zeros
zeros-none P f [] h all = refl
zeros-none P f (x ∷ xs) h all = zeros-other (f x) (map f xs) (h x (All-head P x xs all)) ∙ zeros-none P f xs h (All-tail P x xs all)

decimal-not_zero : (n : ℕ) → IsNumber n → is_zero_text (decimal n) ≡ false
decimal-not_zero n h = not_zero (decimal n) (decimal-is_positive n (omega arith) (omega arith))

minus-not_zero : (t : List ℕ) → is_zero_text (minus ∷ t) ≡ false
minus-not_zero [] = refl
minus-not_zero (b ∷ t) = refl

literal-not_zero : (l : Literal) → IsLiteral l → is_zero_text (literal_text l) ≡ false
literal-not_zero l h = literal_text-not_zero l h.0 (omega arith)

zeros-groups : (gs : List Group) → All IsGroup gs → zeros (groups_words gs) ≡ 0
unfolding zeros
zeros-groups [] h = refl
zeros-groups (g ∷ gs) h =
    let v = All-head IsGroup g gs h in
    zeros-append (group_words g) (groups_words gs)
    ∙ ap (λ n. n + zeros (groups_words gs)) (zeros-other (minus ∷ decimal g.candidate) (map decimal g.hints) (minus-not_zero (decimal g.candidate)) ∙ zeros-none IsNumber decimal g.hints decimal-not_zero v.hints)
    ∙ zero-add (zeros (groups_words gs))
    ∙ zeros-groups gs (All-tail IsGroup g gs h)

zeros-clause : (c : Clause) → All IsLiteral c → zeros (clause_words c) ≡ 1
zeros-clause c h =
    zeros-append (map literal_text c) (zero_text ∷ []) ∙ ap (λ n. n + zeros (zero_text ∷ [])) (zeros-none IsLiteral literal_text c literal-not_zero h)
    ∙ zero-add (zeros (zero_text ∷ [])) ∙ zeros-one zero_text true refl

-- the words of an addition behind its number
body : Addition → List (List ℕ)
body a = clause_words a.clause ++ map decimal a.hints ++ groups_words a.groups

zeros-body : (a : Addition) → IsAddition a → zeros (body a) ≡ 1
unfolding body
zeros-body a h =
    let one = zeros-clause a.clause h.clause in
    let hints = zeros-none IsNumber decimal a.hints decimal-not_zero h.hints in
    let groups = zeros-groups a.groups h.groups in
    let first = zeros-append (clause_words a.clause ++ map decimal a.hints) (groups_words a.groups) in
    let second = zeros-append (clause_words a.clause) (map decimal a.hints) in
    omega arith

literal-not_mark : (l : Literal) → IsLiteral l → is_text (literal_text l) (codes "d") ≡ false
literal-not_mark l h = go (is_text (literal_text l) (codes "d")) refl
  where
    go : (b : Bool) → is_text (literal_text l) (codes "d") ≡ b → b ≡ false
    go true e = absurd (let number = literal_text-is_number l h.0 (omega arith) in let d : is_number_text (codes "d") ≡ true = ap is_number_text (sym (is_text-eq (literal_text l) (codes "d") e)) ∙ number in cc)
    go false e = refl

-- behind the words of an addition, and these more
body_fault : (id : List ℕ) (c : Clause) (more : List (List ℕ)) (t : List ℕ) (n : ℕ) → All IsLiteral c → zeros (clause_words c ++ more) ≡ n
    → word_fault (id ∷ (clause_words c ++ more)) t ≡ cond (is_number_text t) (by_zeros n (size_of t)) bad_number
unfolding zeros
body_fault id [] more t n h z = addition_fault id zero_text more t n refl z
body_fault id (l ∷ c) more t n h z =
    addition_fault id (literal_text l) (clause_words c ++ more) t n (literal-not_mark l (All-head IsLiteral l c h)) z

-- the fault at each state
number_fault-sized : (s : LineState) (limit : ℕ) (t : List ℕ) → limit ≤ max_number → number_fault_in s (capped (size_of t)) ≡ size_fault limit (capped (size_of t)) → number_fault_in s 0 ≡ bad_shape
    → cond (is_number_text t) (size_fault limit (size_of t)) bad_number ≡ fault_in s (word_of t)
number_fault-sized s limit t small e shape = fault-word s t (size_fault limit (size_of t)) (size_fault-capped limit (size_of t) small ∙ sym e) shape

clause-fault : (id : ℕ) (c : Clause) (t : List ℕ) → All IsLiteral c → word_fault (decimal id ∷ map literal_text c) t ≡ fault_in (at_clause id c) (word_of t)
unfolding by_zeros zeros
clause-fault id [] t h = number_fault-sized (at_clause id []) max_literal t (omega arith) refl refl
clause-fault id (l ∷ c) t h =
    addition_fault (decimal id) (literal_text l) (map literal_text c) t 0 (literal-not_mark l (All-head IsLiteral l c h)) (zeros-none IsLiteral literal_text (l ∷ c) literal-not_zero h)
    ∙ number_fault-sized (at_clause id (l ∷ c)) max_literal t (omega arith) refl refl

front-fault : (a : Addition) (s : LineState) (t : List ℕ) → IsAddition a → number_fault_in s (capped (size_of t)) ≡ size_fault max_number (capped (size_of t)) → number_fault_in s 0 ≡ bad_shape
    → word_fault (front a) t ≡ fault_in s (word_of t)
unfolding front body by_zeros
front-fault a s t h e shape =
    ap (λ ws. word_fault (decimal a.id ∷ ws) t) (append_assoc (clause_words a.clause) (map decimal a.hints) (groups_words a.groups))
    ∙ body_fault (decimal a.id) a.clause (map decimal a.hints ++ groups_words a.groups) t 1 h.clause
    (ap zeros (sym (append_assoc (clause_words a.clause) (map decimal a.hints) (groups_words a.groups))) ∙ zeros-body a h)
    ∙ number_fault-sized s max_number t (omega arith) e shape

ended-fault : (s : Step) (t : List ℕ) → cond (is_number_text t) bad_shape bad_number ≡ fault_in (ended s) (word_of t)
ended-fault s t = fault-word (ended s) t bad_shape refl refl

addition_split : (a : Addition) → step_words (add a) ≡ decimal a.id ∷ (clause_words a.clause ++ (map decimal a.hints ++ groups_words a.groups ++ zero_text ∷ []))
addition_split a = simp append_assoc

zeros-addition : (a : Addition) → IsAddition a → zeros (clause_words a.clause ++ (map decimal a.hints ++ groups_words a.groups ++ zero_text ∷ [])) ≡ 2
unfolding body
zeros-addition a h =
    ap zeros (joined) ∙ zeros-append (body a) (zero_text ∷ []) ∙ ap (λ n. n + zeros (zero_text ∷ [])) (zeros-body a h) ∙ ap (λ n. 1 + n) (zeros-one zero_text true refl)
  where
    joined : clause_words a.clause ++ (map decimal a.hints ++ groups_words a.groups ++ zero_text ∷ []) ≡ body a ++ zero_text ∷ []
    joined = simp append_assoc

ended_step-fault : (s : Step) (t : List ℕ) → IsStep s → word_fault (step_words s) t ≡ fault_in (ended s) (word_of t)
unfolding by_zeros deleted_by_zeros zeros
ended_step-fault (add a) t h =
    ap (λ ws. word_fault ws t) (addition_split a)
    ∙ body_fault (decimal a.id) a.clause (map decimal a.hints ++ groups_words a.groups ++ zero_text ∷ []) t 2 h.clause (zeros-addition a h)
    ∙ ended-fault (add a) t
ended_step-fault (delete d) t h =
    deletion_fault (decimal d.id) (map decimal d.ids ++ zero_text ∷ []) t 1
    (zeros-append (map decimal d.ids) (zero_text ∷ []) ∙ ap (λ n. n + zeros (zero_text ∷ [])) (zeros-none IsNumber decimal d.ids decimal-not_zero h.ids)
    ∙ zero-add (zeros (zero_text ∷ [])) ∙ zeros-one zero_text true refl)
    ∙ ended-fault (delete d) t

-- The fault of a word behind the words that lead to a state.
pub word_fault-so_far : (s : LineState) (t : List ℕ) → IsWithin s → word_fault (so_far s) t ≡ fault_in s (word_of t)
unfolding so_far by_zeros deleted_by_zeros zeros
word_fault-so_far at_id t h = number_fault-sized at_id max_number t (omega arith) refl refl
word_fault-so_far (at_clause id c) t h = clause-fault id c t h.1
word_fault-so_far (at_hints id c hs) t h = front-fault (without_groups id c hs) (at_hints id c hs) t h refl refl
word_fault-so_far (at_group a g) t h =
    front-fault (with_group a g) (at_group a g) t
    (record { id = h.0.id; clause = h.0.clause; hints = h.0.hints; groups = All-push IsGroup a.groups g h.0.groups h.1 }) refl refl
word_fault-so_far (at_ids d) t h =
    deletion_fault (decimal d.id) (map decimal d.ids) t 0 (zeros-none IsNumber decimal d.ids decimal-not_zero h.ids)
    ∙ number_fault-sized (at_ids d) max_number t (omega arith) refl refl
word_fault-so_far (ended s) t h = ended_step-fault s t h
