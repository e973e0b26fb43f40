-- What the machine says is what the grammar says.
use Rattle.std.proofs.Common.{◌≡◌, ℕ, zero, suc, ◌+◌, ◌-◌, min, ◌<◌, ◌≤◌, Bool, true, false, ◌&&◌, List, [], ◌∷◌, ◌++◌, map, length, nat_eq, nat_lt, nat_le, eqb-true, eq-eqb, refl, sym, ap, subst, ◌∙◌, ◌⊎◌, inl, inr, arith, decimal, Option, Some, None, All, codes, sum_by, append_assoc, append-nil, length-append, if◌then◌else◌, zero-add, leb-true, ltb-true}
use Rattle.std.proofs.lemmas.List.Sums.{sum_by-append}
use Rattle.theory.specs.Literals.{Clause, IsVariable}
use Rattle.theory.specs.Truth.{Formula, IsOver}
use Rattle.theory.specs.Texts.{literal_text, clause_words, zero_text}
use Rattle.theory.specs.Tokens.{Place, is_text, is_zero_text, is_natural_text, is_number_text, size_of}
use Rattle.theory.specs.Reading.{Limits, Token, word, header_end, Placed, tokens_in, tokens_of, end_of, max_vars, max_clauses, max_literals, max_bytes, formula_tokens, clauses_tokens, IsWithinLimits, IsReadable, CanGoOn, fault_at, fault_at_end, IsFaultAt, IsFaultAtEnd, ReadsWithin, Reading, formula, refusal}
use Rattle.theory.proofs.reading.NumberTexts.{literal_of_text, natural-decimal, number-literal, number-size, zero_text-is}
use Rattle.theory.proofs.literals.LiteralLemmas.{and-left, and-right}
use Rattle.theory.proofs.reading.LimitLemmas.{few-vars, few-clauses}
use Rattle.theory.proofs.reading.ReadingMachine.{ReaderState, at_p, at_cnf, at_vars, at_clauses, at_header_end, at_body, step, on_body, on_literal, on_vars, on_clauses, at_end, read_on, read_within}
use Rattle.std.proofs.lemmas.List.Elements.{All-append, All-cons, All-push}
use Rattle.std.proofs.lemmas.List.{map-append}
use Rattle.theory.proofs.reading.PrintedTokens.{then_step, states, states-append, states-None, count, count-push, count-cons, formula-states}
use Rattle.theory.proofs.literals.ListLemmas.{is_text-eq}

words_of : Clause → List Token
words_of c = map word (map literal_text c)

zero_word : Token
zero_word = word zero_text

-- the tokens so far are those that lead to the state
header : ℕ → ℕ → List Token
header V C = word (codes "p") ∷ word (codes "cnf") ∷ word (decimal V) ∷ word (decimal C) ∷ header_end ∷ []

record GoodBody (L : Limits) (V C : ℕ) (cs : List Clause) (part : Clause) (ts : List Token) : Type 0 where
  vars : V ≤ max_vars L
  clauses : C ≤ max_clauses L
  room : length cs + min 1 (length part) ≤ C
  few : count cs + length part ≤ max_literals L
  over : All (IsOver V) cs
  over_part : IsOver V part
  are : ts ≡ header V C ++ (clauses_tokens cs ++ words_of part)

Good : Limits → ReaderState → List Token → Type 0
Good L at_p ts = ts ≡ []
Good L at_cnf ts = ts ≡ word (codes "p") ∷ []
Good L at_vars ts = ts ≡ word (codes "p") ∷ word (codes "cnf") ∷ []
Good L (at_clauses V) ts = (V ≤ max_vars L) × (ts ≡ word (codes "p") ∷ word (codes "cnf") ∷ word (decimal V) ∷ [])
Good L (at_header_end V C) ts = (V ≤ max_vars L) × (C ≤ max_clauses L) × (ts ≡ word (codes "p") ∷ word (codes "cnf") ∷ word (decimal V) ∷ word (decimal C) ∷ [])
Good L (at_body V C cs part) ts = GoodBody L V C cs part ts

clauses_tokens-append : (cs ds : List Clause) → clauses_tokens (cs ++ ds) ≡ clauses_tokens cs ++ clauses_tokens ds
clauses_tokens-append [] ds = refl
clauses_tokens-append (c ∷ cs) ds = ap (λ r. map word (clause_words c) ++ r) (clauses_tokens-append cs ds) ∙ sym (append_assoc (map word (clause_words c)) (clauses_tokens cs) (clauses_tokens ds))

clause_words-are : (c : Clause) (ts : List Token) → map word (clause_words c) ++ ts ≡ words_of c ++ zero_word ∷ ts
unfolding words_of zero_word
clause_words-are c ts = ap (λ r. r ++ ts) (map-append word (map literal_text c) (zero_text ∷ [])) ∙ append_assoc (map word (map literal_text c)) (word zero_text ∷ []) ts

-- clauses that fill up the number: this one, then empty ones
empties : ℕ → List Clause
empties zero = []
empties (suc k) = [] ∷ empties k

fill : ℕ → Clause → List Clause
fill zero part = []
fill (suc k) part = part ∷ empties k

fill_tokens : ℕ → List Token
fill_tokens zero = []
fill_tokens (suc k) = zero_word ∷ clauses_tokens (empties k)

length-empties : (k : ℕ) → length (empties k) ≡ k
unfolding empties
length-empties zero = refl
length-empties (suc k) = ap suc (length-empties k)

length-fill : (k : ℕ) (part : Clause) → length (fill k part) ≡ k
unfolding fill
length-fill zero part = refl
length-fill (suc k) part = ap suc (length-empties k)

count-empties : (k : ℕ) → count (empties k) ≡ 0
unfolding empties count
count-empties zero = refl
count-empties (suc k) = count-cons [] (empties k) ∙ zero-add (count (empties k)) ∙ count-empties k

count-fill-le : (k : ℕ) (part : Clause) → count (fill k part) ≤ length part
unfolding fill count
count-fill-le zero part = omega arith
count-fill-le (suc k) part = omega (arith, count-cons part (empties k), count-empties k)

over-empties : (V k : ℕ) → All (IsOver V) (empties k)
unfolding empties
over-empties V zero = λ k d i. absurd (omega arith)
over-empties V (suc k) = All-cons (IsOver V) [] (empties k) (λ j d i. absurd (omega arith)) (over-empties V k)

over-fill : (V k : ℕ) (part : Clause) → IsOver V part → All (IsOver V) (fill k part)
unfolding fill
over-fill V zero part h = λ k d i. absurd (omega arith)
over-fill V (suc k) part h = All-cons (IsOver V) part (empties k) h (over-empties V k)

fill-tokens : (k : ℕ) (part : Clause) → min 1 (length part) ≤ k → words_of part ++ fill_tokens k ≡ clauses_tokens (fill k part)
unfolding fill fill_tokens words_of
fill-tokens zero [] h = refl
fill-tokens zero (l ∷ part) h = absurd (omega arith)
fill-tokens (suc k) part h = sym (clause_words-are part (clauses_tokens (empties k)))

-- the tokens that lead to a state can go on
body-CanGoOn : (L : Limits) (V C : ℕ) (cs : List Clause) (part : Clause) (ts : List Token) → GoodBody L V C cs part ts → CanGoOn L ts
unfolding header count
body-CanGoOn L V C cs part ts g =
    let k : ℕ = C - length cs in
    let value : Formula = record { vars = V; clauses = cs ++ fill k part } in
    let len : length (cs ++ fill k part) ≡ C = length-append cs (fill k part) ∙ ap (λ n. length cs + n) (length-fill k part) ∙ (let r = g.room in omega arith) in
    let within : IsWithinLimits L value = record {
      vars = g.vars;
      clauses = rw len g.clauses;
      literals = (let s = sum_by-append length cs (fill k part) in let f = count-fill-le k part in let m = g.few in omega arith);
      formula = All-append (IsOver V) cs (fill k part) g.over (over-fill V k part g.over_part);
    } in
    let body : (clauses_tokens cs ++ words_of part) ++ fill_tokens k ≡ clauses_tokens (cs ++ fill k part) =
    append_assoc (clauses_tokens cs) (words_of part) (fill_tokens k)
    ∙ ap (λ r. clauses_tokens cs ++ r) (fill-tokens k part (let r = g.room in omega arith))
    ∙ sym (clauses_tokens-append cs (fill k part)) in
    record {
      more = fill_tokens k;
      value = value;
      readable = record {
        within = within;
        tokens = ap (λ (r : List Token). r ++ fill_tokens k) g.are ∙ ap (λ (r : List Token). header V C ++ r) body
            ∙ ap (λ n. word (codes "p") ∷ word (codes "cnf") ∷ word (decimal V) ∷ word (decimal n) ∷ header_end ∷ clauses_tokens (cs ++ fill k part)) (sym len);
      };
    }

no_clauses : (L : Limits) (V C : ℕ) → V ≤ max_vars L → C ≤ max_clauses L → GoodBody L V C [] [] (header V C)
unfolding count words_of header
no_clauses L V C v c = record {
  vars = v;
  clauses = c;
  room = omega arith;
  few = omega arith;
  over = λ k d i. absurd (omega arith);
  over_part = λ k d i. absurd (omega arith);
  are = refl;
}

none-fit : (L : Limits) → (0 ≤ max_vars L) × (0 ≤ max_clauses L)
none-fit L = (omega arith, omega arith)

none : (L : Limits) → GoodBody L 0 0 [] [] (header 0 0)
none L = no_clauses L 0 0 (none-fit L).0 (none-fit L).1

-- what is the front of such tokens can go on too
front-CanGoOn : (L : Limits) (ts us vs : List Token) → CanGoOn L vs → vs ≡ ts ++ us → CanGoOn L ts
front-CanGoOn L ts us vs c e = record {
  more = us ++ c.more;
  value = c.value;
  readable = record { within = c.readable.within; tokens = sym (append_assoc ts us c.more) ∙ ap (λ (r : List Token). r ++ c.more) (sym e) ∙ c.readable.tokens };
}

Good-CanGoOn : (L : Limits) (s : ReaderState) (ts : List Token) → Good L s ts → CanGoOn L ts
unfolding Good header
Good-CanGoOn L at_p ts g = front-CanGoOn L ts (header 0 0) (header 0 0) (body-CanGoOn L 0 0 [] [] (header 0 0) (none L)) (rw g refl)
Good-CanGoOn L at_cnf ts g = front-CanGoOn L ts (word (codes "cnf") ∷ word (decimal 0) ∷ word (decimal 0) ∷ header_end ∷ []) (header 0 0) (body-CanGoOn L 0 0 [] [] (header 0 0) (none L)) (rw g refl)
Good-CanGoOn L at_vars ts g = front-CanGoOn L ts (word (decimal 0) ∷ word (decimal 0) ∷ header_end ∷ []) (header 0 0) (body-CanGoOn L 0 0 [] [] (header 0 0) (none L)) (rw g refl)
Good-CanGoOn L (at_clauses V) ts g = front-CanGoOn L ts (word (decimal 0) ∷ header_end ∷ []) (header V 0) (body-CanGoOn L V 0 [] [] (header V 0) (no_clauses L V 0 g.0 (none-fit L).1)) (rw g.1 refl)
Good-CanGoOn L (at_header_end V C) ts g = front-CanGoOn L ts (header_end ∷ []) (header V C) (body-CanGoOn L V C [] [] (header V C) (no_clauses L V C g.0 g.1)) (rw g.2 refl)
Good-CanGoOn L (at_body V C cs part) ts g = body-CanGoOn L V C cs part ts g

-- a test that lets something through has passed
pub when : {X : Type 0} (b : Bool) (x y : X) → (if b then Some x else None) ≡ Some y → (b ≡ true) × (x ≡ y)
when true x y h = (refl, cc)
when false x y h = absurd (cc)

vars-Good : (L : Limits) (ts : List Token) (text : List ℕ) (next : ReaderState) → Good L at_vars ts → on_vars L text ≡ Some next → Good L next (ts ++ word text ∷ [])
unfolding Good
vars-Good L ts text next g h =
    let w = when (is_natural_text text && nat_le (size_of text) (max_vars L)) (at_clauses (size_of text)) next h in
    let natural : is_natural_text text ≡ true = and-left (is_natural_text text) (nat_le (size_of text) (max_vars L)) w.0 in
    let small : size_of text ≤ max_vars L = leb-true (size_of text) (max_vars L) (and-right (is_natural_text text) (nat_le (size_of text) (max_vars L)) w.0) in
    let printed : decimal (size_of text) ≡ text = natural-decimal text natural (let few = few-vars L in omega arith) in
    subst (λ s. Good L s (ts ++ word text ∷ [])) w.1
    (small, ap (λ (r : List Token). r ++ word text ∷ []) g ∙ ap (λ d. word (codes "p") ∷ word (codes "cnf") ∷ word d ∷ []) (sym printed))

clauses-Good : (L : Limits) (V : ℕ) (ts : List Token) (text : List ℕ) (next : ReaderState) → Good L (at_clauses V) ts → on_clauses L V text ≡ Some next → Good L next (ts ++ word text ∷ [])
unfolding Good
clauses-Good L V ts text next g h =
    let w = when (is_natural_text text && nat_le (size_of text) (max_clauses L)) (at_header_end V (size_of text)) next h in
    let natural : is_natural_text text ≡ true = and-left (is_natural_text text) (nat_le (size_of text) (max_clauses L)) w.0 in
    let small : size_of text ≤ max_clauses L = leb-true (size_of text) (max_clauses L) (and-right (is_natural_text text) (nat_le (size_of text) (max_clauses L)) w.0) in
    let printed : decimal (size_of text) ≡ text = natural-decimal text natural (let few = few-clauses L in omega arith) in
    subst (λ s. Good L s (ts ++ word text ∷ [])) w.1
    (g.0, small, ap (λ (r : List Token). r ++ word text ∷ []) g.1 ∙ ap (λ d. word (codes "p") ∷ word (codes "cnf") ∷ word (decimal V) ∷ word d ∷ []) (sym printed))

-- the tokens of the body behind the header, with one more
more-tokens : (V C : ℕ) (ts body : List Token) (t : Token) → ts ≡ header V C ++ body → ts ++ t ∷ [] ≡ header V C ++ (body ++ t ∷ [])
unfolding header
more-tokens V C ts body t e = ap (λ (r : List Token). r ++ t ∷ []) e

ended-Good : (L : Limits) (V C : ℕ) (cs : List Clause) (part : Clause) (ts : List Token) (text : List ℕ) → GoodBody L V C cs part ts → length cs < C → is_zero_text text ≡ true
    → GoodBody L V C (cs ++ part ∷ []) [] (ts ++ word text ∷ [])
unfolding words_of zero_word
ended-Good L V C cs part ts text g room z = record {
  vars = g.vars;
  clauses = g.clauses;
  room = omega (arith, length-append cs (part ∷ []));
  few = (let f = g.few in omega (arith, count-push cs part));
  over = All-push (IsOver V) cs part g.over g.over_part;
  over_part = λ k d i. absurd (omega arith);
  are = more-tokens V C ts (clauses_tokens cs ++ words_of part) (word text) g.are ∙ ap (λ r. header V C ++ r)
      (append_assoc (clauses_tokens cs) (words_of part) (word text ∷ [])
      ∙ ap (λ (x : List ℕ). clauses_tokens cs ++ (words_of part ++ word x ∷ [])) (zero_text-is text z)
      ∙ ap (λ r. clauses_tokens cs ++ r) (sym (clause_words-are part []))
      ∙ sym (clauses_tokens-append cs (part ∷ []))
      ∙ sym (append-nil (clauses_tokens (cs ++ part ∷ []))));
}

literal-Good : (L : Limits) (V C : ℕ) (cs : List Clause) (part : Clause) (ts : List Token) (text : List ℕ) → GoodBody L V C cs part ts → length cs < C → is_zero_text text ≡ false → is_number_text text ≡ true
    → size_of text ≤ V → count cs + length part < max_literals L → GoodBody L V C cs (part ++ literal_of_text text ∷ []) (ts ++ word text ∷ [])
unfolding words_of
literal-Good L V C cs part ts text g room z number size few =
    let v = g.vars in
    let most = few-vars L in
    let printed : literal_text (literal_of_text text) ≡ text = number-literal text number z (omega arith) in
    record {
      vars = g.vars;
      clauses = g.clauses;
      room = omega arith;
      few = omega (arith, length-append part (literal_of_text text ∷ []));
      over = g.over;
      over_part = All-push (λ l. IsVariable V l.var) part (literal_of_text text) g.over_part (number-size text number z, size);
      are = more-tokens V C ts (clauses_tokens cs ++ words_of part) (word text) g.are ∙ ap (λ r. header V C ++ r)
          (append_assoc (clauses_tokens cs) (words_of part) (word text ∷ [])
          ∙ ap (λ (x : List ℕ). clauses_tokens cs ++ (words_of part ++ word x ∷ [])) (sym printed)
          ∙ ap (λ r. clauses_tokens cs ++ r) (sym (ap (map word) (map-append literal_text part (literal_of_text text ∷ [])) ∙ map-append word (map literal_text part) (literal_text (literal_of_text text) ∷ []))));
    }

body-Good : (L : Limits) (V C : ℕ) (cs : List Clause) (part : Clause) (ts : List Token) (text : List ℕ) (next : ReaderState) → GoodBody L V C cs part ts → on_body L V C cs part text ≡ Some next → Good L next (ts ++ word text ∷ [])
unfolding Good count
body-Good L V C cs part ts text next g h = roomy (nat_lt (length cs) C) refl h
  where
    literal : is_zero_text text ≡ false → length cs < C → on_literal L V C cs part text ≡ Some next → Good L next (ts ++ word text ∷ [])
    literal z room k =
        let rest : Bool = nat_le (size_of text) V && nat_lt (sum_by length cs + length part) (max_literals L) in
        let w = when (is_number_text text && rest) (at_body V C cs (part ++ literal_of_text text ∷ [])) next k in
        let number : is_number_text text ≡ true = and-left (is_number_text text) rest w.0 in
        let both : rest ≡ true = and-right (is_number_text text) rest w.0 in
        let size : size_of text ≤ V = leb-true (size_of text) V (and-left (nat_le (size_of text) V) (nat_lt (sum_by length cs + length part) (max_literals L)) both) in
        let few : sum_by length cs + length part < max_literals L = ltb-true (sum_by length cs + length part) (max_literals L) (and-right (nat_le (size_of text) V) (nat_lt (sum_by length cs + length part) (max_literals L)) both) in
        subst (λ s. Good L s (ts ++ word text ∷ [])) w.1 (literal-Good L V C cs part ts text g room z number size few)

    zeroed : (b : Bool) → is_zero_text text ≡ b → length cs < C → (if b then Some (at_body V C (cs ++ part ∷ []) []) else on_literal L V C cs part text) ≡ Some next → Good L next (ts ++ word text ∷ [])
    zeroed true z room k = let same : at_body V C (cs ++ part ∷ []) [] ≡ next = cc in subst (λ s. Good L s (ts ++ word text ∷ [])) same (ended-Good L V C cs part ts text g room z)
    zeroed false z room k = literal z room k

    roomy : (b : Bool) → nat_lt (length cs) C ≡ b → (if b then (if is_zero_text text then Some (at_body V C (cs ++ part ∷ []) []) else on_literal L V C cs part text) else None) ≡ Some next → Good L next (ts ++ word text ∷ [])
    roomy true r k = zeroed (is_zero_text text) refl (ltb-true (length cs) C r) k
    roomy false r k = absurd (cc)

Good-step : (L : Limits) (s next : ReaderState) (ts : List Token) (t : Token) → Good L s ts → step L s t ≡ Some next → Good L next (ts ++ t ∷ [])
unfolding Good header
Good-step L at_p next ts (word text) g h =
    let w = when (is_text text (codes "p")) at_cnf next h in
    subst (λ s. Good L s (ts ++ word text ∷ [])) w.1 (ap (λ (r : List Token). r ++ word text ∷ []) g ∙ ap (λ x. word x ∷ []) (is_text-eq text (codes "p") w.0))
Good-step L at_cnf next ts (word text) g h =
    let w = when (is_text text (codes "cnf")) at_vars next h in
    subst (λ s. Good L s (ts ++ word text ∷ [])) w.1 (ap (λ (r : List Token). r ++ word text ∷ []) g ∙ ap (λ x. word (codes "p") ∷ word x ∷ []) (is_text-eq text (codes "cnf") w.0))
Good-step L at_vars next ts (word text) g h = vars-Good L ts text next g h
Good-step L (at_clauses V) next ts (word text) g h = clauses-Good L V ts text next g h
Good-step L (at_header_end V C) next ts (word text) g h = absurd (cc)
Good-step L (at_body V C cs part) next ts (word text) g h = body-Good L V C cs part ts text next g h
Good-step L at_p next ts header_end g h = absurd (cc)
Good-step L at_cnf next ts header_end g h = absurd (cc)
Good-step L at_vars next ts header_end g h = absurd (cc)
Good-step L (at_clauses V) next ts header_end g h = absurd (cc)
Good-step L (at_header_end V C) next ts header_end g h =
    let same : at_body V C [] [] ≡ next = cc in
    let tokens : ts ++ header_end ∷ [] ≡ header V C = ap (λ (r : List Token). r ++ header_end ∷ []) g.2 in
    subst (λ s. Good L s (ts ++ header_end ∷ [])) same (subst (GoodBody L V C [] []) (sym tokens) (no_clauses L V C g.0 g.1))
Good-step L (at_body V C cs part) next ts header_end g h = absurd (cc)

-- what a token list is read as
TokensRead : Limits → List Placed → Place → Reading → Type 0
TokensRead L ts end (formula F) = IsReadable L (tokens_in ts) F
TokensRead L ts end (refusal fault place) = IsFaultAt L ts fault place ⊎ IsFaultAtEnd L ts end fault place

Reached : Limits → ReaderState → List Token → Type 0
Reached L s ts = states L (Some at_p) ts ≡ Some s

-- tokens that lead nowhere can't go on
stuck : (L : Limits) (ts : List Token) → states L (Some at_p) ts ≡ None → ¬ (CanGoOn L ts)
stuck L ts h c =
    let whole = formula-states L c.value c.readable.within in
    let front : states L (Some at_p) (ts ++ c.more) ≡ None = states-append L (Some at_p) ts c.more ∙ ap (λ o. states L o c.more) h ∙ states-None L c.more in
    let same : states L (Some at_p) (formula_tokens c.value) ≡ None = ap (states L (Some at_p)) (sym c.readable.tokens) ∙ front in
    cc

readable-state : (L : Limits) (s : ReaderState) (ts : List Token) (F : Formula) → Reached L s ts → IsReadable L ts F → s ≡ at_body F.vars (length F.clauses) F.clauses []
unfolding Reached
readable-state L s ts F r h =
    let whole = formula-states L F h.within in
    let here : states L (Some at_p) (formula_tokens F) ≡ Some s = ap (states L (Some at_p)) (sym h.tokens) ∙ r in
    cc

-- a state at the end that isn't behind the last clause
IsOpen : ReaderState → Type 0
IsOpen s = (F : Formula) → s ≡ at_body F.vars (length F.clauses) F.clauses [] → ⊥

end-refused : (L : Limits) (s : ReaderState) (before : List Token) (ts : List Placed) (end : Place) → tokens_in ts ≡ before → Good L s before → Reached L s before → IsOpen s
    → TokensRead L ts end (refusal (fault_at_end before) end)
unfolding TokensRead IsOpen
end-refused L s before ts end e g r o = inr (record {
  so_far = rw e (Good-CanGoOn L s before g);
  no_end = λ F h. o F (readable-state L s before F r (subst (λ (x : List Token). IsReadable L x F) e h));
  fault_is = ap fault_at_end (sym e);
  place_is = refl;
})

end-read : (L : Limits) (s : ReaderState) (before : List Token) (ts : List Placed) (end : Place) → tokens_in ts ≡ before → Good L s before → Reached L s before → TokensRead L ts end (at_end s before end)
unfolding TokensRead IsOpen Good header count words_of
end-read L at_p before ts end e g r = end-refused L at_p before ts end e g r (λ F h. cc)
end-read L at_cnf before ts end e g r = end-refused L at_cnf before ts end e g r (λ F h. cc)
end-read L at_vars before ts end e g r = end-refused L at_vars before ts end e g r (λ F h. cc)
end-read L (at_clauses V) before ts end e g r = end-refused L (at_clauses V) before ts end e g r (λ F h. cc)
end-read L (at_header_end V C) before ts end e g r = end-refused L (at_header_end V C) before ts end e g r (λ F h. cc)
end-read L (at_body V C cs (l ∷ part)) before ts end e g r = end-refused L (at_body V C cs (l ∷ part)) before ts end e g r (λ F h. cc)
end-read L (at_body V C cs []) before ts end e g r = go (nat_eq (length cs) C) refl
  where
    go : (b : Bool) → nat_eq (length cs) C ≡ b → TokensRead L ts end (if b then formula (record { vars = V; clauses = cs }) else refusal (fault_at_end before) end)
    go true q =
        let all : length cs ≡ C = eqb-true (length cs) C q in
        record {
          within = record { vars = g.vars; clauses = (let c = g.clauses in omega arith); literals = (let f = g.few in omega arith); formula = g.over };
          tokens = e ∙ g.are ∙ ap (λ r. header V C ++ r) (append-nil (clauses_tokens cs)) ∙ ap (λ n. header V n ++ clauses_tokens cs) (sym all);
        }
    go false q = end-refused L (at_body V C cs []) before ts end e g r (λ F h.
        let c : C ≡ length F.clauses = cc in
        let d : cs ≡ F.clauses = cc in
        let y : nat_eq (length cs) C ≡ true = eq-eqb (length cs) C (rw d (sym c)) in
        cc)

read_on-read : (L : Limits) (s : ReaderState) (before : List Token) (done ts all : List Placed) (end : Place) → tokens_in done ≡ before → all ≡ done ++ ts → Good L s before → Reached L s before
    → TokensRead L all end (read_on L s before ts end)
unfolding Reached then_step TokensRead
read_on-read L s before done [] all end e a g r = end-read L s before all end (ap tokens_in (a ∙ append-nil done) ∙ e) g r
read_on-read L s before done (t ∷ ts) all end e a g r = go (step L s t.token) refl (λ next. read_on-read L next (before ++ t.token ∷ []) (done ++ t ∷ []) ts all end)
  where
    pushed : tokens_in (done ++ t ∷ []) ≡ before ++ t.token ∷ []
    pushed = map-append (λ (x : Placed). x.token) done (t ∷ []) ∙ ap (λ (x : List Token). x ++ t.token ∷ []) e

    reached : states L (Some at_p) (before ++ t.token ∷ []) ≡ step L s t.token
    reached = states-append L (Some at_p) before (t.token ∷ []) ∙ ap (λ o. states L o (t.token ∷ [])) r

    go : (o : Option ReaderState) → step L s t.token ≡ o
        → ((next : ReaderState) → tokens_in (done ++ t ∷ []) ≡ before ++ t.token ∷ [] → all ≡ (done ++ t ∷ []) ++ ts → Good L next (before ++ t.token ∷ []) → Reached L next (before ++ t.token ∷ []) → TokensRead L all end (read_on L next (before ++ t.token ∷ []) ts end))
        → TokensRead L all end (elim o [ Some next ↦ read_on L next (before ++ t.token ∷ []) ts end | None ↦ refusal (fault_at before t.token) t.place ])
    go (Some next) q more = more next pushed (a ∙ sym (append_assoc done (t ∷ []) ts)) (Good-step L s next before t.token g q) (reached ∙ q)
    go None q more = inl (record {
      before = done;
      at = t;
      after = ts;
      tokens = a;
      so_far = rw e (Good-CanGoOn L s before g);
      no_further = rw e (stuck L (before ++ t.token ∷ []) (reached ∙ q));
      fault_is = ap (λ b. fault_at b t.token) (sym e);
      place_is = refl;
    })

-- The machine's answer is what the text is read as.
pub read-Reads : (L : Limits) (bytes : List ℕ) → length bytes ≤ max_bytes L → ReadsWithin L bytes (read_within L bytes)
unfolding TokensRead Reached Good
read-Reads L bytes short = go (read_within L bytes) (read_on-read L at_p [] [] (tokens_of bytes) (tokens_of bytes) (end_of bytes) refl refl refl refl)
  where
    go : (r : Reading) → TokensRead L (tokens_of bytes) (end_of bytes) r → ReadsWithin L bytes r
    go (formula F) h = (short, h)
    go (refusal fault place) h = inr (short, h)
