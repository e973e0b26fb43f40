-- The machine reads the tokens that are printed for a formula.
use Rattle.std.proofs.Common.{◌≡◌, ℕ, ◌+◌, ◌^◌, ◌<◌, ◌≤◌, true, false, List, [], ◌∷◌, ◌++◌, map, length, nat_lt, nat_le, refl, ap, ◌∙◌, arith, decimal, Option, Some, None, All, sum_by, append_assoc, append-nil, length-append, zero-add, lt-ltb, le-leb}
use Rattle.std.proofs.lemmas.List.Sums.{sum_by-append}
use Rattle.theory.specs.Literals.{Literal, Clause, IsVariable}
use Rattle.theory.specs.Truth.{Formula, IsOver}
use Rattle.theory.specs.Texts.{literal_text, clause_words, zero_text}
use Rattle.theory.specs.Tokens.{is_zero_text, is_natural_text, is_number_text, size_of}
use Rattle.theory.specs.Reading.{Limits, Token, word, header_end, max_vars, max_clauses, max_literals, formula_tokens, clauses_tokens, IsWithinLimits}
use Rattle.theory.proofs.reading.NumberTexts.{literal_of_text, decimal-is_natural, size_of-decimal, literal_text-is_number, literal_text-not_zero, literal_text-of}
use Rattle.theory.proofs.reading.LimitLemmas.{few-vars, few-clauses}
use Rattle.theory.proofs.reading.ReadingMachine.{ReaderState, at_p, at_vars, at_clauses, at_header_end, at_body, step, on_body, on_vars, on_clauses}
use Rattle.std.proofs.lemmas.List.Elements.{All-head, All-tail}

-- the state after tokens, if they can stand there
unfoldable pub then_step : Limits → Option ReaderState → Token → Option ReaderState
then_step L None t = None
then_step L (Some s) t = step L s t

abbrev pub states : Limits → Option ReaderState → List Token → Option ReaderState
states L o [] = o
states L o (t ∷ ts) = states L (then_step L o t) ts

pub states-append : (L : Limits) (o : Option ReaderState) (ts us : List Token) → states L o (ts ++ us) ≡ states L (states L o ts) us
states-append L o [] us = refl
states-append L o (t ∷ ts) us = states-append L (then_step L o t) ts us

pub states-None : (L : Limits) (ts : List Token) → states L None ts ≡ None
unfolding then_step
states-None L [] = refl
states-None L (t ∷ ts) = states-None L ts

-- how many literals the clauses have
unfoldable pub count : List Clause → ℕ
count cs = sum_by length cs

pub count-push : (cs : List Clause) (c : Clause) → count (cs ++ c ∷ []) ≡ count cs + length c
unfolding count
count-push cs c = sum_by-append length cs (c ∷ []) ∙ ap (λ n. sum_by length cs + n) (zero-add (length c))

pub count-cons : (c : Clause) (cs : List Clause) → count (c ∷ cs) ≡ length c + count cs
unfolding count
count-cons c cs = sum_by-append length (c ∷ []) cs ∙ ap (λ n. n + sum_by length cs) (zero-add (length c))

text-step : (L : Limits) (V C : ℕ) (cs : List Clause) (part : Clause) (text : List ℕ) → nat_lt (length cs) C ≡ true → is_zero_text text ≡ false → is_number_text text ≡ true
    → nat_le (size_of text) V ≡ true → nat_lt (sum_by length cs + length part) (max_literals L) ≡ true
    → on_body L V C cs part text ≡ Some (at_body V C cs (part ++ literal_of_text text ∷ []))
text-step L V C cs part text room not_zero number size few = rw (room, number, not_zero, size, few) refl

module _ (L : Limits) (V C : ℕ) (small : V ≤ max_vars L) where
  bound : (l : Literal) → IsVariable V l.var → l.var < 2 ^ 64
  bound l v = let few = few-vars L in omega arith

  literal-step : (cs : List Clause) (part : Clause) (l : Literal) → IsVariable V l.var → length cs < C → count cs + length part < max_literals L
      → step L (at_body V C cs part) (word (literal_text l)) ≡ Some (at_body V C cs (part ++ l ∷ []))
  unfolding count
  literal-step cs part l v room fits =
      text-step L V C cs part (literal_text l) (lt-ltb (length cs) C room) (literal_text-not_zero l v.0 (bound l v)) (literal_text-is_number l v.0 (bound l v))
      (let size : size_of (literal_text l) ≡ l.var = ap (λ (k : Literal). k.var) (literal_text-of l v.0 (bound l v)) in rw size (le-leb l.var V v.1))
      (lt-ltb (sum_by length cs + length part) (max_literals L) fits)
      ∙ ap (λ k. Some (at_body V C cs (part ++ k ∷ []))) (literal_text-of l v.0 (bound l v))

  zero-step : (cs : List Clause) (part : Clause) → length cs < C → step L (at_body V C cs part) (word zero_text) ≡ Some (at_body V C (cs ++ part ∷ []) [])
  zero-step cs part room = let below : nat_lt (length cs) C ≡ true = lt-ltb (length cs) C room in rw below refl

  -- the words of a clause, then 0
  clause-states : (cs : List Clause) (part c : Clause) (ts : List Token) → IsOver V c → length cs < C → count cs + length part + length c ≤ max_literals L
      → states L (Some (at_body V C cs part)) (map word (clause_words c) ++ ts) ≡ states L (Some (at_body V C (cs ++ (part ++ c) ∷ []) [])) ts
  unfolding then_step
  clause-states cs part [] ts over room fits = rw (zero-step cs part room, append-nil part) refl
  clause-states cs part (l ∷ c) ts over room fits =
      let s = literal-step cs part l (All-head (λ k. IsVariable V k.var) l c over) room (omega arith) in
      let rest = clause-states cs (part ++ l ∷ []) c ts (All-tail (λ k. IsVariable V k.var) l c over) room (omega (arith, length-append part (l ∷ []))) in
      ap (λ o. states L o (map word (clause_words c) ++ ts)) s ∙ rest ∙ ap (λ (p : Clause). states L (Some (at_body V C (cs ++ p ∷ []) [])) ts) (append_assoc part (l ∷ []) c)

  clauses-states : (done cs : List Clause) → All (IsOver V) cs → length done + length cs ≡ C → count done + count cs ≤ max_literals L
      → states L (Some (at_body V C done [])) (clauses_tokens cs) ≡ Some (at_body V C (done ++ cs) [])
  clauses-states done [] over all fits = rw append-nil refl
  clauses-states done (c ∷ cs) over all fits =
      let n = count-cons c cs in
      let m = count-push done c in
      clause-states done [] c (clauses_tokens cs) (All-head (IsOver V) c cs over) (omega arith) (omega arith)
      ∙ clauses-states (done ++ c ∷ []) cs (All-tail (IsOver V) c cs over) (omega (arith, length-append done (c ∷ []))) (omega arith)
      ∙ ap (λ (x : List Clause). Some (at_body V C x [])) (append_assoc done (c ∷ []) cs)

vars-step : (L : Limits) (n : ℕ) → n ≤ max_vars L → step L at_vars (word (decimal n)) ≡ Some (at_clauses n)
vars-step L n small = let few = few-vars L in go (decimal n) (decimal-is_natural n (omega arith)) (size_of-decimal n (omega arith))
  where
    go : (t : List ℕ) → is_natural_text t ≡ true → size_of t ≡ n → on_vars L t ≡ Some (at_clauses n)
    go t natural size = let fits : nat_le n (max_vars L) ≡ true = le-leb n (max_vars L) small in rw (natural, size, fits) refl

clauses-step : (L : Limits) (V n : ℕ) → n ≤ max_clauses L → step L (at_clauses V) (word (decimal n)) ≡ Some (at_header_end V n)
clauses-step L V n small = let few = few-clauses L in go (decimal n) (decimal-is_natural n (omega arith)) (size_of-decimal n (omega arith))
  where
    go : (t : List ℕ) → is_natural_text t ≡ true → size_of t ≡ n → on_clauses L V t ≡ Some (at_header_end V n)
    go t natural size = let fits : nat_le n (max_clauses L) ≡ true = le-leb n (max_clauses L) small in rw (natural, size, fits) refl

-- the machine reads what is printed
pub formula-states : (L : Limits) (F : Formula) → IsWithinLimits L F → states L (Some at_p) (formula_tokens F) ≡ Some (at_body F.vars (length F.clauses) F.clauses [])
unfolding then_step count
formula-states L F w =
    ap (λ o. states L (then_step L (then_step L o (word (decimal (length F.clauses)))) header_end) (clauses_tokens F.clauses)) (vars-step L F.vars w.vars)
    ∙ ap (λ o. states L (then_step L o header_end) (clauses_tokens F.clauses)) (clauses-step L F.vars (length F.clauses) w.clauses)
    ∙ clauses-states L F.vars (length F.clauses) w.vars [] F.clauses w.formula (zero-add (length F.clauses)) (omega (arith, w.literals))
