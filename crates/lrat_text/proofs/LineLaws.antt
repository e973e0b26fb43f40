-- What the machine says of a line is what the grammar says, and nothing else is.
use Rattle.std.proofs.Common.{◌≡◌, ℕ, List, [], ◌∷◌, ◌++◌, refl, sym, ap, subst, ◌∙◌, ◌⊎◌, inl, inr, Option, Some, None, append_assoc, append-nil}
use Rattle.theory.specs.Steps.{Step}
use Rattle.theory.specs.Texts.{step_words}
use Rattle.theory.specs.ProofReading.{TextFault, bad_shape, IsLineOf, LineCanGoOn, word_fault, IsWordFault, IsEndFault}
use Rattle.lrat_text.specs.LineWords.{word_of}
use Rattle.lrat_text.specs.LineMachine.{LineState, at_id, at_clause, at_hints, at_group, at_ids, ended, on, IsWithin, fault_in, LineReading, line_read, line_at_fault, at_end, read_words}
use Rattle.lrat_text.proofs.LineMachineLemmas.{so_far, on-Follows}
use Rattle.lrat_text.proofs.LineRuns.{runs, runs-append, runs-None, step-runs, so_far-goes_on, stuck}
use Rattle.lrat_text.proofs.LineFaults.{word_fault-so_far}

-- what a line is read as, in the words of the grammar
abbrev pub LineSays : List (List ℕ) → LineReading → Type 0
LineSays words (line_read s) = IsLineOf words s
LineSays words (line_at_fault fault) = IsWordFault words fault ⊎ IsEndFault words fault

-- the words led to the state
record Reached (s : LineState) (words : List (List ℕ)) : Type 0 where
  within : IsWithin s
  are : words ≡ so_far s
  run : runs (Some at_id) words ≡ Some s

start : Reached at_id []
unfolding so_far
start = record { within = tt; are = refl; run = refl }

run-more : (s : LineState) (words : List (List ℕ)) (t : List ℕ) → runs (Some at_id) words ≡ Some s → runs (Some at_id) (words ++ t ∷ []) ≡ on s (word_of t)
run-more s words t r = runs-append (Some at_id) words (t ∷ []) ∙ ap (λ o. runs o (t ∷ [])) r

Reached-more : (s next : LineState) (words : List (List ℕ)) (t : List ℕ) → Reached s words → on s (word_of t) ≡ Some next → Reached next (words ++ t ∷ [])
Reached-more s next words t r h =
    let f = on-Follows s next t r.within h in
    record { within = f.within; are = ap (λ x. x ++ t ∷ []) r.are ∙ f.words; run = run-more s words t r.run ∙ h }

goes_on : (s : LineState) (words : List (List ℕ)) → Reached s words → LineCanGoOn words
goes_on s words r = subst LineCanGoOn (sym r.are) (so_far-goes_on s r.within)

-- a state behind all words that isn't a step's end
IsOpen : LineState → Type 0
IsOpen s = (step : Step) → s ≡ ended step → ⊥

end_fault : (s : LineState) (words : List (List ℕ)) → Reached s words → IsOpen s → IsEndFault words bad_shape
unfolding IsOpen
end_fault s words r o = record {
  so_far = goes_on s words r;
  no_end = λ step h. o step (
      let all : runs (Some at_id) (step_words step) ≡ Some (ended step) = step-runs step h.within in
      let here : runs (Some at_id) (step_words step) ≡ Some s = ap (runs (Some at_id)) (sym h.are) ∙ r.run in
      cc);
  fault_is = refl;
}

end-says : (s : LineState) (words : List (List ℕ)) → Reached s words → LineSays words (at_end s)
unfolding IsOpen so_far
end-says at_id words r = inr (end_fault at_id words r (λ step e. cc))
end-says (at_clause id c) words r = inr (end_fault (at_clause id c) words r (λ step e. cc))
end-says (at_hints id c hs) words r = inr (end_fault (at_hints id c hs) words r (λ step e. cc))
end-says (at_group a g) words r = inr (end_fault (at_group a g) words r (λ step e. cc))
end-says (at_ids d) words r = inr (end_fault (at_ids d) words r (λ step e. cc))
end-says (ended step) words r = record { within = r.within; are = r.are }

read_words-from : (s : LineState) (before ts words : List (List ℕ)) → words ≡ before ++ ts → Reached s before → LineSays words (read_words s ts)
read_words-from s before [] words e r = subst (λ x. LineSays x (at_end s)) (sym (e ∙ append-nil before)) (end-says s before r)
read_words-from s before (t ∷ ts) words e r = go (on s (word_of t)) refl (λ next. read_words-from next (before ++ t ∷ []) ts words (e ∙ sym (append_assoc before (t ∷ []) ts)))
  where
    go : (o : Option LineState) → on s (word_of t) ≡ o → ((next : LineState) → Reached next (before ++ t ∷ []) → LineSays words (read_words next ts))
        → LineSays words (elim o [ Some next ↦ read_words next ts | None ↦ line_at_fault (fault_in s (word_of t)) ])
    go (Some next) h more = more next (Reached-more s next before t r h)
    go None h more = inl (record {
      before = before;
      at = t;
      after = ts;
      are = e;
      so_far = goes_on s before r;
      no_further = stuck (before ++ t ∷ []) (run-more s before t r.run ∙ h);
      fault_is = sym (ap (λ ws. word_fault ws t) r.are ∙ word_fault-so_far s t r.within);
    })

-- The machine says of each line what the grammar says.
pub read_words-says : (words : List (List ℕ)) → LineSays words (read_words at_id words)
read_words-says words = read_words-from at_id [] words words refl start

-- and back: words that go on led to a state
run-Reached : (s : LineState) (before ts : List (List ℕ)) (u : LineState) → Reached s before → runs (Some s) ts ≡ Some u → Reached u (before ++ ts)
run-Reached s before [] u r h = let same : s ≡ u = cc in subst (λ x. Reached x (before ++ [])) same (subst (Reached s) (sym (append-nil before)) r)
run-Reached s before (t ∷ ts) u r h = go (on s (word_of t)) refl h (λ next q k. run-Reached next (before ++ t ∷ []) ts u q k)
  where
    go : (o : Option LineState) → on s (word_of t) ≡ o → runs o ts ≡ Some u → ((next : LineState) → Reached next (before ++ t ∷ []) → runs (Some next) ts ≡ Some u → Reached u ((before ++ t ∷ []) ++ ts))
        → Reached u (before ++ t ∷ ts)
    go None e k more = absurd (let none : runs None ts ≡ None = runs-None ts in cc)
    go (Some next) e k more = subst (Reached u) (append_assoc before (t ∷ []) ts) (more next (Reached-more s next before t r e) k)

record Led (words : List (List ℕ)) : Type 0 where
  state : LineState
  reached : Reached state words

led : (words : List (List ℕ)) → LineCanGoOn words → Led words
led words c = go (runs (Some at_id) words) refl
  where
    go : (o : Option LineState) → runs (Some at_id) words ≡ o → Led words
    go None e = absurd (stuck words e c)
    go (Some s) e = record { state = s; reached = run-Reached at_id [] words s start e }

read-behind : (s u : LineState) (before ts : List (List ℕ)) → runs (Some s) before ≡ Some u → read_words s (before ++ ts) ≡ read_words u ts
read-behind s u [] ts h = let same : s ≡ u = cc in ap (λ x. read_words x ts) same
read-behind s u (t ∷ before) ts h = go (on s (word_of t)) refl h (λ next k. read-behind next u before ts k)
  where
    go : (o : Option LineState) → on s (word_of t) ≡ o → runs o before ≡ Some u → ((next : LineState) → runs (Some next) before ≡ Some u → read_words next (before ++ ts) ≡ read_words u ts)
        → read_words s (t ∷ (before ++ ts)) ≡ read_words u ts
    go None e k more = absurd (let none : runs None before ≡ None = runs-None before in cc)
    go (Some next) e k more = ap (λ o. elim o [ Some n ↦ read_words n (before ++ ts) | None ↦ line_at_fault (fault_in s (word_of t)) ]) e ∙ more next k

line-only : (words : List (List ℕ)) (s : Step) → IsLineOf words s → read_words at_id words ≡ line_read s
line-only words s h =
    ap (read_words at_id) (sym (append-nil words))
    ∙ read-behind at_id (ended s) words [] (ap (runs (Some at_id)) h.are ∙ step-runs s h.within)

word-only : (words : List (List ℕ)) (fault : TextFault) → IsWordFault words fault → read_words at_id words ≡ line_at_fault fault
word-only words fault f = at (led f.before f.so_far)
  where
    at : Led f.before → read_words at_id words ≡ line_at_fault fault
    at l = go (on l.state (word_of f.at)) refl
      where
        go : (o : Option LineState) → on l.state (word_of f.at) ≡ o → read_words at_id words ≡ line_at_fault fault
        go (Some next) e = absurd (f.no_further (goes_on next (f.before ++ f.at ∷ []) (Reached-more l.state next f.before f.at l.reached e)))
        go None e =
            ap (read_words at_id) f.are
            ∙ read-behind at_id l.state f.before (f.at ∷ f.after) l.reached.run
            ∙ ap (λ o. elim o [ Some n ↦ read_words n f.after | None ↦ line_at_fault (fault_in l.state (word_of f.at)) ]) e
            ∙ ap line_at_fault (sym (f.fault_is ∙ ap (λ ws. word_fault ws f.at) l.reached.are ∙ word_fault-so_far l.state f.at l.reached.within))

open_end : (s : LineState) (words : List (List ℕ)) → Reached s words → ((step : Step) → ¬ (IsLineOf words step)) → at_end s ≡ line_at_fault bad_shape
unfolding so_far
open_end at_id words r h = refl
open_end (at_clause id c) words r h = refl
open_end (at_hints id c hs) words r h = refl
open_end (at_group a g) words r h = refl
open_end (at_ids d) words r h = refl
open_end (ended step) words r h = absurd (h step (record { within = r.within; are = r.are }))

end-only : (words : List (List ℕ)) (fault : TextFault) → IsEndFault words fault → read_words at_id words ≡ line_at_fault fault
end-only words fault f =
    let l = led words f.so_far in
    ap (read_words at_id) (sym (append-nil words))
    ∙ read-behind at_id l.state words [] l.reached.run
    ∙ open_end l.state words l.reached f.no_end
    ∙ ap line_at_fault (sym f.fault_is)

-- The grammar says nothing else of a line.
pub read_words-only : (words : List (List ℕ)) (r : LineReading) → LineSays words r → read_words at_id words ≡ r
read_words-only words (line_read s) h = line-only words s h
read_words-only words (line_at_fault fault) (inl h) = word-only words fault h
read_words-only words (line_at_fault fault) (inr h) = end-only words fault h
