-- What a search goes on with after an answer of propagation.
use Rattle.std.proofs.Common.{◌≡◌, ℕ, zero, suc, ◌+◌, ◌≤◌, Bool, true, false, not, List, [], ◌∷◌, ◌++◌, refl, ap, sym, ◌∙◌, nat_eq, find, cond, Option, Some, None, arith, unwrap_or, if◌then◌else◌}
use Rattle.std.specs.Option.{option_or}
use Rattle.std.proofs.lemmas.List.Folds.{find-append}
use Rattle.theory.specs.Literals.{Clause, has_var, IsVariable}
use Rattle.theory.specs.Trails.{Trail, literals, current_level, variables, least_free}
use Rattle.theory.specs.Propagation.{least_false, Closed, quiet, conflict, Propagates, grows, rests, unit_entry, Rule}
use Rattle.theory.specs.Learning.{learn}
use Rattle.theory.specs.Search.{Next, ends, goes_on, exhausted, refuted}
use Rattle.theory.specs.Ordered.{OrderedState, decided_next, learnt_next, on_quiet, after}
use Rattle.theory.proofs.literals.LiteralLemmas.{not_true}
use Rattle.theory.proofs.trails.LawfulTrails.{Propagates-conflict}

-- what the answer of propagation says of the state that it leaves
abbrev pub Answers : Closed → OrderedState → Type 0
Answers quiet s = least_false (literals s.trail) s.clauses ≡ None
Answers (conflict n) s = least_false (literals s.trail) s.clauses ≡ Some n

pub Propagates-quiet : (rule : Rule) (K : List Clause) (T U : Trail) → Propagates rule K T quiet U → least_false (literals U) K ≡ None
Propagates-quiet rule K T U (rests h i) = h
Propagates-quiet rule K T U (grows {u = u} h i more) = Propagates-quiet rule K (T ++ unit_entry T u ∷ []) U more

pub Propagates-none : (rule : Rule) (K : List Clause) (T U : Trail) → Propagates rule K T quiet U → rule U K ≡ None
Propagates-none rule K T U (rests h i) = i
Propagates-none rule K T U (grows {u = u} h i more) = Propagates-none rule K (T ++ unit_entry T u ∷ []) U more

pub Propagates-Answers : (rule : Rule) (K : List Clause) (T U : Trail) (s : OrderedState) (a : Closed) → Propagates rule K T a U → s.clauses ≡ K → s.trail ≡ U → Answers a s
Propagates-Answers rule K T U s quiet h p q = rw (p, q) (Propagates-quiet rule K T U h)
Propagates-Answers rule K T U s (conflict n) h p q = rw (p, q) (Propagates-conflict rule K T U n h)

-- what is found among the variables
find-variables : (p : ℕ → Bool) (V x : ℕ) → find p (variables V) ≡ Some x → IsVariable V x × (p x ≡ true)
find-variables p zero x h = absurd (cc)
find-variables p (suc V) x h = first (find p (variables V)) (sym (find-append p (variables V) (suc V ∷ [])) ∙ h) (find-variables p V)
  where
    last : (b : Bool) → p (suc V) ≡ b → cond b (Some (suc V)) None ≡ Some x → IsVariable (suc V) x × (p x ≡ true)
    last true e k = let one : suc V ≡ x = cc in ((omega arith, omega arith), ap p (sym one) ∙ e)
    last false e k = absurd (cc)

    first : (o : Option ℕ) → option_or o (find p (suc V ∷ [])) ≡ Some x → ((y : ℕ) → o ≡ Some y → IsVariable V y × (p y ≡ true)) → IsVariable (suc V) x × (p x ≡ true)
    first (Some y) k more =
        let one : y ≡ x = cc in
        let low = (more y refl).0.0 in
        let high = (more y refl).0.1 in
        ((omega arith, omega arith), ap p (sym one) ∙ (more y refl).1)
    first None k more = last (p (suc V)) refl k

-- the least free variable is a variable, and free
pub least_free-variable : (V : ℕ) (T : Trail) (x : ℕ) → least_free V T ≡ Some x → IsVariable V x × (has_var (literals T) x ≡ false)
least_free-variable V T x h =
    let found = find-variables (λ v. not (has_var (literals T) v)) V x h in
    (found.0, not_true (has_var (literals T) x) found.1)

pub after-quiet : (V budget : ℕ) (s t : OrderedState) → after V budget s quiet ≡ goes_on t
    → (x : ℕ) × (IsVariable V x × (has_var (literals s.trail) x ≡ false)) × (t ≡ decided_next s x)
after-quiet V budget s t e = go (least_free V s.trail) refl e
  where
    go : (o : Option ℕ) → least_free V s.trail ≡ o → on_quiet V s o ≡ goes_on t
        → (x : ℕ) × (IsVariable V x × (has_var (literals s.trail) x ≡ false)) × (t ≡ decided_next s x)
    go None p q = absurd (cc)
    go (Some x) p q = (x, least_free-variable V s.trail x p, cc)

-- the state after the conflict of number n
abbrev pub conflict_next : OrderedState → ℕ → OrderedState
conflict_next s n = learnt_next s (learn s.clauses s.trail n)

pub above_zero : (level : ℕ) → nat_eq level 0 ≡ false → 1 ≤ level
above_zero zero h = absurd (cc)
above_zero (suc n) h = omega arith

pub after-conflict : (V budget n : ℕ) (s t : OrderedState) → after V budget s (conflict n) ≡ goes_on t → (1 ≤ current_level s.trail) × (t ≡ conflict_next s n)
after-conflict V budget n s t e = level (nat_eq (current_level s.trail) 0) refl e
  where
    Claim : Type 0
    Claim = (1 ≤ current_level s.trail) × (t ≡ conflict_next s n)

    stop : Next OrderedState
    stop = ends (refuted (s.lines ++ learn s.clauses s.trail n ∷ []))

    count : (b : Bool) → nat_eq (current_level s.trail) 0 ≡ false → (if b then ends (exhausted (unwrap_or s.decided 0)) else goes_on (conflict_next s n)) ≡ goes_on t → Claim
    count true p q = absurd (cc)
    count false p q = (above_zero (current_level s.trail) p, cc)

    level : (b : Bool) → nat_eq (current_level s.trail) 0 ≡ b
        → (if b then stop else if nat_eq (s.conflicts + 1) budget then ends (exhausted (unwrap_or s.decided 0)) else goes_on (conflict_next s n)) ≡ goes_on t → Claim
    level true p q = absurd (cc)
    level false p q = count (nat_eq (s.conflicts + 1) budget) p q
