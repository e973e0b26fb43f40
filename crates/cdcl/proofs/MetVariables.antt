-- The variables that resolution has seen: those of the clauses that it went through.
use Rattle.std.proofs.Common.{◌≡◌, ℕ, Bool, true, false, ◌||◌, List, [], ◌∷◌, ◌++◌, refl, ap, sym, ◌∙◌, nat_eq, eqb-true, eq-eqb}
use Rattle.std.specs.List.{list_any}
use Rattle.std.proofs.lemmas.List.Folds.{list_any-append}
use Rattle.theory.specs.Literals.{Literal, Clause, has_var, without}
use Rattle.theory.specs.Propagation.{clause_at}
use Rattle.cdcl.specs.Numbers.{is_one_of}
use Rattle.cdcl.proofs.SetLemmas.{has_var-without}

or-true : (a : Bool) → a || true ≡ true
or-true true = refl
or-true false = refl

or-none : (a : Bool) → a || false ≡ a
or-none true = refl
or-none false = refl

or-swap : (a b : Bool) → a || b ≡ b || a
or-swap true b = sym (or-true b)
or-swap false b = sym (or-none b)

or-move : (a b c : Bool) → (a || false) || (b || c) ≡ (a || b) || c
or-move true b c = refl
or-move false b c = refl

-- a variable that was seen is one of those seen
pub met-seen : (seen : List ℕ) (v : ℕ) → list_any (λ w. nat_eq w v) seen ≡ true → is_one_of seen v ≡ true
met-seen [] v h = absurd (cc)
met-seen (w ∷ seen) v h = go (nat_eq w v) refl h (λ r. met-seen seen v r)
  where
    go : (b : Bool) → nat_eq w v ≡ b → b || list_any (λ u. nat_eq u v) seen ≡ true → (list_any (λ u. nat_eq u v) seen ≡ true → is_one_of seen v ≡ true)
        → nat_eq v w || is_one_of seen v ≡ true
    go true e k more = rw (eq-eqb v w (sym (eqb-true w v e))) refl
    go false e k more = rw (more k) (or-true (nat_eq v w))

-- a literal's variable comes last
pub met-pushed : (l : Literal) (before after : List ℕ) (v : ℕ) → after ≡ before ++ l.var ∷ [] → is_one_of after v ≡ (has_var (l ∷ []) v || is_one_of before v)
met-pushed l before after v push = rw (push, list_any-append) (or-swap (is_one_of before v) (nat_eq v l.var || false))

-- or it was there
pub met-there : (l : Literal) (seen : List ℕ) (v : ℕ) → is_one_of seen l.var ≡ true → is_one_of seen v ≡ (has_var (l ∷ []) v || is_one_of seen v)
met-there l seen v h = go (nat_eq v l.var) refl
  where
    go : (b : Bool) → nat_eq v l.var ≡ b → is_one_of seen v ≡ ((b || false) || is_one_of seen v)
    go true e = ap (is_one_of seen) (eqb-true v l.var e) ∙ h
    go false e = refl

-- a literal, where those behind it were met before
pub met-more : (l : Literal) (c : Clause) (before between after : List ℕ) (v : ℕ) → is_one_of after v ≡ (has_var (l ∷ []) v || is_one_of between v)
    → is_one_of between v ≡ (has_var c v || is_one_of before v) → is_one_of after v ≡ (has_var (l ∷ c) v || is_one_of before v)
met-more l c before between after v one rest =
    one ∙ (ap (λ b. (nat_eq v l.var || false) || b) rest ∙ or-move (nat_eq v l.var) (has_var c v) (is_one_of before v))

-- the clause of one more number, without a literal whose variable was met before
pub met-resolved : (K : List Clause) (numbers more : List ℕ) (n : ℕ) (l : Literal) (before after : List ℕ) (v : ℕ) → is_one_of before l.var ≡ true
    → is_one_of after v ≡ (has_var (without (clause_at K n) l) v || is_one_of before v)
    → is_one_of before v ≡ list_any (λ m. has_var (clause_at K m) v) numbers → more ≡ numbers ++ n ∷ []
    → is_one_of after v ≡ list_any (λ m. has_var (clause_at K m) v) more
met-resolved K numbers more n l before after v met step is push =
    rw (push, list_any-append) (step ∙ (go (nat_eq v l.var) refl ∙ (or-swap (has_var (clause_at K n) v || false) (is_one_of before v) ∙ ap (λ b. b || (has_var (clause_at K n) v || false)) is)))
  where
    go : (b : Bool) → nat_eq v l.var ≡ b → (has_var (without (clause_at K n) l) v || is_one_of before v) ≡ ((has_var (clause_at K n) v || false) || is_one_of before v)
    go true e =
        let here : is_one_of before v ≡ true = ap (is_one_of before) (eqb-true v l.var e) ∙ met in
        rw here (or-true (has_var (without (clause_at K n) l) v) ∙ sym (or-true (has_var (clause_at K n) v || false)))
    go false e = ap (λ b. b || is_one_of before v) (has_var-without l (clause_at K n) v e ∙ sym (or-none (has_var (clause_at K n) v)))
