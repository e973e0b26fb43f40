-- What lines forget: none of it is a hint of a later line, and its clauses stay forgotten.
use Rattle.std.proofs.Common.{◌≡◌, ℕ, zero, suc, ◌+◌, ◌-◌, ◌<◌, ◌≤◌, Bool, true, false, List, [], ◌∷◌, ◌++◌, length, refl, ap, sym, subst, ◌∙◌, nat_eq, ◌⊎◌, inl, inr, Option, Some, None, slice_get, unwrap_or, append_assoc, append-nil, length-append, arith, if◌then◌else◌}
use Rattle.std.specs.List.{list_any}
use Rattle.std.proofs.lemmas.List.{length-map}
use Rattle.std.proofs.lemmas.List.Folds.{list_any-append}
use Rattle.theory.specs.Literals.{Literal, Clause}
use Rattle.theory.specs.Trails.{Trail}
use Rattle.theory.specs.Propagation.{clause_at}
use Rattle.theory.specs.Learning.{Line}
use Rattle.theory.specs.Forgetting.{forgotten, forget}
use Rattle.theory.specs.Deletions.{is_among, are_different}
use Rattle.theory.specs.Replaying.{IsForgetting, AreForgetting}
use Rattle.theory.specs.Proofs.{forgotten_by}
use Rattle.theory.specs.Kept.{clauses_of, IsSearchOf}
use Rattle.theory.proofs.literals.LiteralLemmas.{or-cases}
use Rattle.theory.proofs.searching.ForgottenClauses.{AreLeft-length}

-- a clause that is there stays under its number
slice_get-more : {X : Type 0} (xs ys : List X) (i : ℕ) (x : X) → slice_get xs i ≡ Some x → slice_get (xs ++ ys) i ≡ Some x
slice_get-more [] ys i x h = absurd (cc)
slice_get-more (y ∷ xs) ys zero x h = h
slice_get-more (y ∷ xs) ys (suc i) x h = slice_get-more xs ys i x h

pub gone-more : (C : List Clause) (c : Clause) (k : ℕ) → clause_at C k ≡ forgotten → clause_at (C ++ c ∷ []) k ≡ forgotten
gone-more C c k h = go (slice_get C (k - 1)) refl h
  where
    go : (o : Option Clause) → slice_get C (k - 1) ≡ o → unwrap_or o [] ≡ forgotten → clause_at (C ++ c ∷ []) k ≡ forgotten
    go (Some d) e q = ap (λ (o : Option Clause). unwrap_or o []) (slice_get-more C (c ∷ []) (k - 1) d e) ∙ q
    go None e q = absurd (cc)

-- how many clauses there are
pub length-kept : (V : ℕ) (K : List Clause) (Q : List Literal) (C : List Clause) (T : Trail) (lines : List Line) → IsSearchOf V K Q C T lines → length C ≡ length K + length lines
length-kept V K Q C T lines i =
    let parts : length C ≡ length K + length i.learnt = ap length i.are_clauses ∙ length-append K i.learnt in
    let left : length i.learnt ≡ length (clauses_of lines) = AreLeft-length (clauses_of lines) i.learnt i.left in
    let all : length (clauses_of lines) ≡ length lines = length-map lines (λ (x : Line). x.clause) in
    omega (arith, parts, left, all)

-- one line more, and what it forgets
pub AreForgetting-push : (N n : ℕ) (gone : List ℕ) (lines : List Line) (line : Line) → AreForgetting N n gone lines → IsForgetting N (n + length lines) (gone ++ forgotten_by lines) line
    → AreForgetting N n gone (lines ++ line ∷ [])
AreForgetting-push N n gone [] line h one =
    let number : n + 0 ≡ n = omega arith in
    (subst (λ k. IsForgetting N k gone line) number (subst (λ ns. IsForgetting N (n + 0) ns line) (append-nil gone) one), tt)
AreForgetting-push N n gone (x ∷ lines) line h one =
    let number : n + length (x ∷ lines) ≡ n + 1 + length lines = omega arith in (
      h.0,
      AreForgetting-push N (n + 1) (gone ++ x.forgets) lines line h.1
          (subst (λ k. IsForgetting N k ((gone ++ x.forgets) ++ forgotten_by lines) line) number (subst (λ ns. IsForgetting N (n + length (x ∷ lines)) ns line) (sym (append_assoc gone x.forgets (forgotten_by lines))) one)),
    )

pub forgotten_by-push : (lines : List Line) (line : Line) → forgotten_by (lines ++ line ∷ []) ≡ forgotten_by lines ++ line.forgets
forgotten_by-push [] line = append-nil line.forgets
forgotten_by-push (x ∷ lines) line = ap (λ ns. x.forgets ++ ns) (forgotten_by-push lines line) ∙ sym (append_assoc x.forgets (forgotten_by lines) line.forgets)

pub is_among-push : (k : ℕ) (lines : List Line) (line : Line) → is_among k (forgotten_by (lines ++ line ∷ [])) ≡ true → (is_among k (forgotten_by lines) ≡ true) ⊎ (is_among k line.forgets ≡ true)
is_among-push k lines line h =
    or-cases (is_among k (forgotten_by lines)) (is_among k line.forgets) (sym (list_any-append (nat_eq k) (forgotten_by lines) line.forgets) ∙ (sym (ap (is_among k) (forgotten_by-push lines line)) ∙ h))

-- a line that forgets nothing, of whose hints none is gone
pub AreForgetting-line : (V : ℕ) (K : List Clause) (Q : List Literal) (C : List Clause) (T : Trail) (lines : List Line) (line : Line) → IsSearchOf V K Q C T lines → line.forgets ≡ []
    → ((k : ℕ) → clause_at C k ≡ forgotten → is_among k line.hints ≡ false) → AreForgetting (length K) (length K + 1) [] (lines ++ line ∷ [])
AreForgetting-line V K Q C T lines line i none clear = AreForgetting-push (length K) (length K + 1) [] lines line i.forgetting (record {
  clear = λ k a. clear k (i.gone k a);
  distinct = ap are_different none;
  own = λ k a. absurd (let it : is_among k [] ≡ true = subst (λ ns. is_among k ns ≡ true) none a in cc);
})

-- what is gone stays so with one clause more
pub gone-line : (V : ℕ) (K : List Clause) (Q : List Literal) (C : List Clause) (T : Trail) (lines : List Line) (line : Line) → IsSearchOf V K Q C T lines → line.forgets ≡ []
    → (k : ℕ) → is_among k (forgotten_by (lines ++ line ∷ [])) ≡ true → clause_at (C ++ line.clause ∷ []) k ≡ forgotten
gone-line V K Q C T lines line i none k a = elim (is_among-push k lines line a) [
  | inl b ↦ gone-more C line.clause k (i.gone k b)
  | inr b ↦ absurd (let it : is_among k [] ≡ true = subst (λ ns. is_among k ns ≡ true) none b in cc)
]

-- a forgotten clause stays so where more are forgotten
forget-stays : (ns : List ℕ) (n i : ℕ) (K : List Clause) → unwrap_or (slice_get K i) [] ≡ forgotten → unwrap_or (slice_get (forget ns n K) i) [] ≡ forgotten
forget-stays ns n i [] h = h
forget-stays ns n zero (c ∷ K) h = go (list_any (nat_eq n) ns)
  where
    go : (b : Bool) → (if b then forgotten else c) ≡ forgotten
    go true = refl
    go false = h
forget-stays ns n (suc i) (c ∷ K) h = forget-stays ns (n + 1) i K h

pub gone-forget : (ns : List ℕ) (C : List Clause) (k : ℕ) → clause_at C k ≡ forgotten → clause_at (forget ns 1 C) k ≡ forgotten
gone-forget ns C k h = forget-stays ns 1 (k - 1) C h

-- a clause that is forgotten is
forget-here : (ns : List ℕ) (n i : ℕ) (K : List Clause) → i < length K → list_any (nat_eq (n + i)) ns ≡ true → unwrap_or (slice_get (forget ns n K) i) [] ≡ forgotten
forget-here ns n i [] l h = absurd (omega arith)
forget-here ns n zero (c ∷ K) l h = let e : n + 0 ≡ n = omega arith in ap (λ b. if b then forgotten else c) (ap (λ k. list_any (nat_eq k) ns) (sym e) ∙ h)
forget-here ns n (suc i) (c ∷ K) l h = let e : n + suc i ≡ n + 1 + i = omega arith in forget-here ns (n + 1) i K (omega arith) (ap (λ k. list_any (nat_eq k) ns) (sym e) ∙ h)

pub forgotten-at : (ns : List ℕ) (C : List Clause) (k : ℕ) → 1 ≤ k → k ≤ length C → is_among k ns ≡ true → clause_at (forget ns 1 C) k ≡ forgotten
forgotten-at ns C k one end h = let e : 1 + (k - 1) ≡ k = omega arith in forget-here ns 1 (k - 1) C (omega arith) (ap (λ j. list_any (nat_eq j) ns) e ∙ h)
