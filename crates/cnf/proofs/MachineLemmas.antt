-- The machine without the tokens before says what the machine with them says.
use Rattle.std.proofs.Common.{◌≡◌, ℕ, ◌+◌, Bool, true, false, not, ◌&&◌, List, [], ◌∷◌, ◌++◌, length, Option, Some, None, nat_eq, nat_lt, nat_le, if◌then◌else◌, cond, codes, refl, sym, ap, subst, ◌∙◌, arith, length-append, sum_by, zero-add}
use Rattle.std.proofs.lemmas.List.Sums.{sum_by-append}
use Rattle.theory.specs.Literals.{Literal, Clause}
use Rattle.theory.specs.Tokens.{Place, is_text, is_zero_text, is_natural_text, is_number_text, size_of}
use Rattle.theory.specs.Reading.{Limits, Token, word, header_end, Placed, tokens_of, end_of, max_vars, max_clauses, max_literals, is_zero, ended, number_in, body_fault, fault_at, fault_at_end, ends_inside, ReadFault, clause_not_ended, too_few_clauses, Reading, formula, refusal}
use Rattle.theory.proofs.reading.NumberTexts.{literal_of_text}
use Rattle.theory.proofs.reading.ReadingMachine.{ReaderState, at_p, at_cnf, at_vars, at_clauses, at_header_end, at_body, step, on_body, on_literal, at_end, read_on, read_within}
use Rattle.cnf.specs.Machine.{clause_fault, fault_in, ends_in, run, reading_of}
use Rattle.theory.proofs.reading.ReadingLemmas.{when}

-- whether a clause is begun
abbrev is_begun : Clause → Bool
is_begun [] = false
is_begun (l ∷ part) = true

-- the tokens before the body V C of these clauses
record BehindHeader (V C : ℕ) (cs : List Clause) (part : Clause) (before : List Token) : Type 0 where
  p : Token
  cnf : Token
  vars : Token
  clauses : Token
  end : Token
  body : List Token
  are : before ≡ p ∷ cnf ∷ vars ∷ clauses ∷ end ∷ body
  vars_is : number_in vars ≡ V
  clauses_is : number_in clauses ≡ C
  whole : ended body ≡ length cs
  begun : ends_inside body ≡ is_begun part

record BehindNumbers (V C : ℕ) (before : List Token) : Type 0 where
  p : Token
  cnf : Token
  vars : Token
  clauses : Token
  are : before ≡ p ∷ cnf ∷ vars ∷ clauses ∷ []
  vars_is : number_in vars ≡ V
  clauses_is : number_in clauses ≡ C

record BehindVars (V : ℕ) (before : List Token) : Type 0 where
  p : Token
  cnf : Token
  vars : Token
  are : before ≡ p ∷ cnf ∷ vars ∷ []
  vars_is : number_in vars ≡ V

record BehindCnf (before : List Token) : Type 0 where
  p : Token
  cnf : Token
  are : before ≡ p ∷ cnf ∷ []

record BehindP (before : List Token) : Type 0 where
  p : Token
  are : before ≡ p ∷ []

-- what a state knows of the tokens before it
abbrev Knows : ReaderState → List Token → Type 0
Knows at_p before = before ≡ []
Knows at_cnf before = BehindP before
Knows at_vars before = BehindCnf before
Knows (at_clauses V) before = BehindVars V before
Knows (at_header_end V C) before = BehindNumbers V C before
Knows (at_body V C cs part) before = BehindHeader V C cs part before

ends_inside-push : (body : List Token) (t : Token) → ends_inside (body ++ t ∷ []) ≡ not (is_zero t)
ends_inside-push [] t = refl
ends_inside-push (u ∷ []) t = refl
ends_inside-push (u ∷ v ∷ body) t = ends_inside-push (v ∷ body) t

ended-push : (body : List Token) (t : Token) (b : Bool) → is_zero t ≡ b → ended (body ++ t ∷ []) ≡ ended body + cond b 1 0
ended-push body t b e = sum_by-append (λ x. cond (is_zero x) 1 0) body (t ∷ []) ∙ ap (λ n. ended body + n) (zero-add (cond (is_zero t) 1 0) ∙ ap (λ (r : Bool). cond r 1 0) e)

is_begun-push : (part : Clause) (l : Literal) → is_begun (part ++ l ∷ []) ≡ true
is_begun-push [] l = refl
is_begun-push (k ∷ part) l = refl

-- a word in the body
on_clause : (L : Limits) (V C : ℕ) (cs : List Clause) (part : Clause) (before : List Token) (text : List ℕ) (next : ReaderState) → BehindHeader V C cs part before
    → on_body L V C cs part text ≡ Some next → Knows next (before ++ word text ∷ [])
on_clause L V C cs part before text next k h = go (nat_lt (length cs) C) (is_zero_text text) refl refl
  where
    more : (k.p ∷ k.cnf ∷ k.vars ∷ k.clauses ∷ k.end ∷ (k.body ++ word text ∷ [])) ≡ before ++ word text ∷ []
    more = ap (λ (b : List Token). b ++ word text ∷ []) (sym k.are)

    go : (r z : Bool) → nat_lt (length cs) C ≡ r → is_zero_text text ≡ z → Knows next (before ++ word text ∷ [])
    go false z e f = absurd (let never : on_body L V C cs part text ≡ None = rw e refl in cc)
    go true true e f =
        let value : on_body L V C cs part text ≡ Some (at_body V C (cs ++ part ∷ []) []) = rw (e, f) refl in
        let same : at_body V C (cs ++ part ∷ []) [] ≡ next = cc in
        subst (λ (s : ReaderState). Knows s (before ++ word text ∷ [])) same (record {
          p = k.p;
          cnf = k.cnf;
          vars = k.vars;
          clauses = k.clauses;
          end = k.end;
          body = k.body ++ word text ∷ [];
          are = sym more;
          vars_is = k.vars_is;
          clauses_is = k.clauses_is;
          whole = ended-push k.body (word text) true f ∙ ap (λ n. n + 1) k.whole ∙ (let l : length cs + 1 ≡ length (cs ++ part ∷ []) = omega (arith, length-append cs (part ∷ [])) in l);
          begun = ends_inside-push k.body (word text) ∙ ap not f;
        })
    go true false e f =
        let value : on_body L V C cs part text ≡ on_literal L V C cs part text = rw (e, f) refl in
        let w = when (is_number_text text && (nat_le (size_of text) V && nat_lt (sum_by length cs + length part) (max_literals L))) (at_body V C cs (part ++ literal_of_text text ∷ [])) next (sym value ∙ h) in
        subst (λ (s : ReaderState). Knows s (before ++ word text ∷ [])) w.1 (record {
          p = k.p;
          cnf = k.cnf;
          vars = k.vars;
          clauses = k.clauses;
          end = k.end;
          body = k.body ++ word text ∷ [];
          are = sym more;
          vars_is = k.vars_is;
          clauses_is = k.clauses_is;
          whole = ended-push k.body (word text) false f ∙ (let l : ended k.body + 0 ≡ ended k.body = omega arith in l) ∙ k.whole;
          begun = ends_inside-push k.body (word text) ∙ ap not f ∙ sym (is_begun-push part (literal_of_text text));
        })

knows-step : (L : Limits) (s next : ReaderState) (before : List Token) (t : Token) → Knows s before → step L s t ≡ Some next → Knows next (before ++ t ∷ [])
knows-step L at_p next before (word text) k h =
    let w = when (is_text text (codes "p")) at_cnf next h in
    subst (λ (s : ReaderState). Knows s (before ++ word text ∷ [])) w.1 (record { p = word text; are = ap (λ (b : List Token). b ++ word text ∷ []) k })
knows-step L at_cnf next before (word text) k h =
    let w = when (is_text text (codes "cnf")) at_vars next h in
    subst (λ (s : ReaderState). Knows s (before ++ word text ∷ [])) w.1 (record { p = k.p; cnf = word text; are = ap (λ (b : List Token). b ++ word text ∷ []) k.are })
knows-step L at_vars next before (word text) k h =
    let w = when (is_natural_text text && nat_le (size_of text) (max_vars L)) (at_clauses (size_of text)) next h in
    subst (λ (s : ReaderState). Knows s (before ++ word text ∷ [])) w.1 (record { p = k.p; cnf = k.cnf; vars = word text; are = ap (λ (b : List Token). b ++ word text ∷ []) k.are; vars_is = refl })
knows-step L (at_clauses V) next before (word text) k h =
    let w = when (is_natural_text text && nat_le (size_of text) (max_clauses L)) (at_header_end V (size_of text)) next h in
    subst (λ (s : ReaderState). Knows s (before ++ word text ∷ [])) w.1
    (record { p = k.p; cnf = k.cnf; vars = k.vars; clauses = word text; are = ap (λ (b : List Token). b ++ word text ∷ []) k.are; vars_is = k.vars_is; clauses_is = refl })
knows-step L (at_header_end V C) next before (word text) k h = absurd (cc)
knows-step L (at_body V C cs part) next before (word text) k h = on_clause L V C cs part before text next k h
knows-step L at_p next before header_end k h = absurd (cc)
knows-step L at_cnf next before header_end k h = absurd (cc)
knows-step L at_vars next before header_end k h = absurd (cc)
knows-step L (at_clauses V) next before header_end k h = absurd (cc)
knows-step L (at_header_end V C) next before header_end k h =
    let same : at_body V C [] [] ≡ next = cc in
    subst (λ (s : ReaderState). Knows s (before ++ header_end ∷ [])) same (record {
      p = k.p;
      cnf = k.cnf;
      vars = k.vars;
      clauses = k.clauses;
      end = header_end;
      body = [];
      are = ap (λ (b : List Token). b ++ header_end ∷ []) k.are;
      vars_is = k.vars_is;
      clauses_is = k.clauses_is;
      whole = refl;
      begun = refl;
    })
knows-step L (at_body V C cs part) next before header_end k h = absurd (cc)

body_fault-is : (V C : ℕ) (body : List Token) (t : Token) → body_fault V C body t ≡ clause_fault V C (ended body) t
body_fault-is V C body header_end = refl
body_fault-is V C body (word text) = refl

same-fault : (s : ReaderState) (before : List Token) (t : Token) → Knows s before → fault_at before t ≡ fault_in s t
same-fault at_p before t k = ap (λ (b : List Token). fault_at b t) k
same-fault at_cnf before t k = ap (λ (b : List Token). fault_at b t) k.are
same-fault at_vars before t k = ap (λ (b : List Token). fault_at b t) k.are
same-fault (at_clauses V) before t k = ap (λ (b : List Token). fault_at b t) k.are
same-fault (at_header_end V C) before t k = ap (λ (b : List Token). fault_at b t) k.are
same-fault (at_body V C cs part) before t k =
    ap (λ (b : List Token). fault_at b t) k.are
    ∙ body_fault-is (number_in k.vars) (number_in k.clauses) k.body t
    ∙ ap (λ x. clause_fault x (number_in k.clauses) (ended k.body) t) k.vars_is
    ∙ ap (λ x. clause_fault V x (ended k.body) t) k.clauses_is
    ∙ ap (λ x. clause_fault V C x t) k.whole

abbrev end_fault : Bool → ReadFault
end_fault b = if b then clause_not_ended else too_few_clauses

same-end : (s : ReaderState) (before : List Token) (end : Place) → Knows s before → at_end s before end ≡ ends_in s end
same-end at_p before end k = ap (λ (b : List Token). refusal (fault_at_end b) end) k
same-end at_cnf before end k = ap (λ (b : List Token). refusal (fault_at_end b) end) k.are
same-end at_vars before end k = ap (λ (b : List Token). refusal (fault_at_end b) end) k.are
same-end (at_clauses V) before end k = ap (λ (b : List Token). refusal (fault_at_end b) end) k.are
same-end (at_header_end V C) before end k = ap (λ (b : List Token). refusal (fault_at_end b) end) k.are
same-end (at_body V C cs []) before end k =
    ap (λ (r : Reading). if nat_eq (length cs) C then formula (record { vars = V; clauses = cs }) else r)
    (ap (λ (b : List Token). refusal (fault_at_end b) end) k.are ∙ ap (λ (b : Bool). refusal (end_fault b) end) k.begun)
same-end (at_body V C cs (l ∷ part)) before end k = ap (λ (b : List Token). refusal (fault_at_end b) end) k.are ∙ ap (λ (b : Bool). refusal (end_fault b) end) k.begun

run-read : (L : Limits) (s : ReaderState) (before : List Token) (ts : List Placed) (end : Place) → Knows s before → read_on L s before ts end ≡ run L s ts end
run-read L s before [] end k = same-end s before end k
run-read L s before (t ∷ ts) end k = go (step L s t.token) refl (λ next. run-read L next (before ++ t.token ∷ []) ts end)
  where
    go : (o : Option ReaderState) → step L s t.token ≡ o → ((next : ReaderState) → Knows next (before ++ t.token ∷ []) → read_on L next (before ++ t.token ∷ []) ts end ≡ run L next ts end)
        → ◌≡◌ {A = Reading} (elim o [ Some next ↦ read_on L next (before ++ t.token ∷ []) ts end | None ↦ refusal (fault_at before t.token) t.place ])
        (elim o [ Some next ↦ run L next ts end | None ↦ refusal (fault_in s t.token) t.place ])
    go (Some next) e more = more next (knows-step L s next before t.token k e)
    go None e more = ap (λ f. refusal f t.place) (same-fault s before t.token k)

pub reading_of-read : (L : Limits) (bytes : List ℕ) → read_within L bytes ≡ reading_of L bytes
reading_of-read L bytes = run-read L at_p [] (tokens_of bytes) (end_of bytes) refl

-- one step
abbrev after_step : Limits → ReaderState → Placed → List Placed → Place → Option ReaderState → Reading
after_step L s t ts end o = elim o [ Some next ↦ run L next ts end | None ↦ refusal (fault_in s t.token) t.place ]

pub run-step : (L : Limits) (s next : ReaderState) (t : Placed) (ts : List Placed) (end : Place) → step L s t.token ≡ Some next → run L s (t ∷ ts) end ≡ run L next ts end
run-step L s next t ts end e = ap (after_step L s t ts end) e

pub run-fault : (L : Limits) (s : ReaderState) (t : Placed) (ts : List Placed) (end : Place) → step L s t.token ≡ None → run L s (t ∷ ts) end ≡ refusal (fault_in s t.token) t.place
run-fault L s t ts end e = ap (after_step L s t ts end) e
