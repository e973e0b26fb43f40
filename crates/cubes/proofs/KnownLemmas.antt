-- Cubes as keys: the comparison of keys, which is that of the literals' codes, tells cubes apart.
-- So looking up is what it says.
use Rattle.std.proofs.Common.{◌≡◌, ◌≢◌, ℕ, ◌≤◌, Bool, true, false, ◌&&◌, List, [], ◌∷◌, ◌++◌, All, Some, None, Contains, ◌⊎◌, inl, inr, refl, sym, ap, ap₂, ◌∙◌, subst, eqb-true}
use Rattle.std.specs.Cmp.{IsEquivalence}
use Rattle.std.specs.Cmp.Lexicographic.{pointwise}
use Rattle.std.specs.Map.{KeepsOthers}
use Rattle.std.proofs.lemmas.Cmp.{nat_eq_equiv, lists_equiv}
use Rattle.std.proofs.lemmas.List.Elements.{All-tail, Contains-append_left, Contains-push, Contains-push_cases, All-contains, All-weaker}
use Rattle.theory.specs.Literals.{Literal}
use Rattle.theory.specs.Truth.{Formula, IsFormula}
use Rattle.theory.specs.Plans.{Search, Plan}
use Rattle.theory.specs.Learning.{Line}
use Rattle.theory.specs.Search as search
use Rattle.theory.specs.Results.{done, skipped, Solved, IsTrueOf}
use Rattle.theory.specs.Checked.{IsCheckedOf}
use Rattle.theory.proofs.trees.CheckedTrees.{IsCheckedOf-IsTrueOf}
use Rattle.cnf.specs.Lits.{code}
use Rattle.cnf.specs.contracts.lit.LitPartialEq.TheImpl.{ghosts}
use Rattle.trail.specs.Cubes.{AreOfVariables}
use Rattle.trail.proofs.Tables.{code-one}
use Rattle.cdcl.specs.Outcome.{outcome_by}
use Rattle.cdcl.specs.declared.api.outcome.Outcome.{Outcome}
use Rattle.cubes.specs.declared.known.Known.{Known}
use Rattle.cubes.specs.declared.solved.Solved as made
use Rattle.cubes.specs.Solved.{what_by, AreTrueBy, AreCheckedBy}
use Rattle.cubes.specs.Known.{AreKnown, AreOutcomes, AreCheckedOutcomes, known_of}

eq-same : (k l : Literal) → ghosts.eq k l ≡ true → k ≡ l
eq-same k l e = code-one k l (eqb-true (code k) (code l) e)

eq-equiv : IsEquivalence ghosts.eq
eq-equiv = record {
  refl = λ k. nat_eq_equiv.refl (code k);
  symm = λ k l. nat_eq_equiv.symm (code k) (code l);
  congr = λ k l m. nat_eq_equiv.congr (code k) (code l) (code m);
}

keys-equiv : IsEquivalence (pointwise ghosts.eq)
keys-equiv = lists_equiv eq-equiv

first : (a b : Bool) → a && b ≡ true → a ≡ true
first true b h = refl
first false b h = absurd (cc)

second : (a b : Bool) → a && b ≡ true → b ≡ true
second true b h = h
second false b h = absurd (cc)

pub keys-same : (P Q : List Literal) → AreOfVariables P → AreOfVariables Q → pointwise ghosts.eq P Q ≡ true → P ≡ Q
keys-same [] [] p q h = refl
keys-same [] (l ∷ Q) p q h = absurd (cc)
keys-same (k ∷ P) [] p q h = absurd (cc)
keys-same (k ∷ P) (l ∷ Q) p q h =
    ap₂ (λ x xs. x ∷ xs) (eq-same k l (first _ _ h)) (keys-same P Q (All-tail (λ (x : Literal). 1 ≤ x.var) k P p) (All-tail (λ (x : Literal). 1 ≤ x.var) l Q q) (second (ghosts.eq k l) (pointwise ghosts.eq P Q) h))

-- what changes at one cube leaves the others
pub known-others : {L : Type 0} (P Q : List Literal) (k n : Known L) → AreOfVariables P → AreOfVariables Q → Q ≢ P
    → KeepsOthers (λ x y. pointwise ghosts.eq x.items y.items) (λ key. pointwise ghosts.eq P key.items) k.outcomes.entries n.outcomes.entries → known_of n Q ≡ known_of k Q
unfolding KeepsOthers
known-others {L} P Q k n p q other keeps = keeps (λ key. pointwise ghosts.eq Q key.items) (λ x y h. keys-equiv.congr Q x.items y.items h) (λ key h. go key.items (pointwise ghosts.eq Q key.items) refl h)
  where
    go : (R : List Literal) (b : Bool) → pointwise ghosts.eq Q R ≡ b → pointwise ghosts.eq P R ≡ true → pointwise ghosts.eq Q R ≡ false
    go R true e h = absurd (other (keys-same Q P q p (keys-equiv.congr Q R P e ∙ (keys-equiv.symm R P ∙ h))))
    go R false e h = e

pub keys-own : (P Q : List Literal) → P ≡ Q → pointwise ghosts.eq P Q ≡ true
keys-own P Q e = subst (λ R. pointwise ghosts.eq P R ≡ true) e (keys-equiv.refl P)

pub same_or_not : (P Q : List Literal) → AreOfVariables P → AreOfVariables Q → (Q ≡ P) ⊎ (Q ≢ P)
same_or_not P Q p q = go (pointwise ghosts.eq Q P) refl
  where
    go : (b : Bool) → pointwise ghosts.eq Q P ≡ b → (Q ≡ P) ⊎ (Q ≢ P)
    go true e = inl (keys-same Q P q p e)
    go false e = inr (λ s. let own : pointwise ghosts.eq P P ≡ true = keys-equiv.refl P in let here : pointwise ghosts.eq P P ≡ false = rw s at e in cc)

module _ {L : Type 0} (lines : L → List Line) (rs : List Solved) (k n : Known L) (P : List Literal) (known : AreKnown lines rs k) where
  -- a result without an outcome
  pub AreKnown-skipped : (place : ℕ) → AreKnown lines (rs ++ record { cube = P; what = skipped place } ∷ []) k
  AreKnown-skipped place = record {
    found = λ Q o q h. Contains-append_left rs _ _ (known.found Q o q h);
    missing = λ Q o q h c. go Q o q h (Contains-push_cases rs _ _ c);
  }
    where
      go : (Q : List Literal) (o : search.Outcome) → AreOfVariables Q → known_of k Q ≡ None
          → Contains rs (record { cube = Q; what = done o }) ⊎ ◌≡◌ {A = Solved} (record { cube = P; what = skipped place }) (record { cube = Q; what = done o }) → ⊥
      go Q o q h (inl c) = known.missing Q o q h c
      go Q o q h (inr e) = let apart : skipped place ≡ done o = ap (λ (r : Solved). r.what) e in cc

  -- one outcome more
  module _ (o : Outcome L) (p : AreOfVariables P) (now : known_of n P ≡ Some o) (others : (Q : List Literal) → AreOfVariables Q → Q ≢ P → known_of n Q ≡ known_of k Q) where
    pub AreKnown-done : AreKnown lines (rs ++ record { cube = P; what = done (outcome_by lines o) } ∷ []) n
    AreKnown-done = record { found = λ Q a q h. find Q a q h (same_or_not P Q p q); missing = λ Q a q h c. lack Q a q h c (same_or_not P Q p q) }
      where
        find : (Q : List Literal) (a : Outcome L) → AreOfVariables Q → known_of n Q ≡ Some a → (Q ≡ P) ⊎ (Q ≢ P)
            → Contains (rs ++ record { cube = P; what = done (outcome_by lines o) } ∷ []) (record { cube = Q; what = done (outcome_by lines a) })
        find Q a q h (inl e) =
            let one : o ≡ a = (let two : known_of n P ≡ Some a = rw e at h in cc) in
            rw (e, ← one) (Contains-push rs (record { cube = P; what = done (outcome_by lines o) }))
        find Q a q h (inr other) = Contains-append_left rs _ _ (known.found Q a q (sym (others Q q other) ∙ h))

        old : (Q : List Literal) (a : search.Outcome) → AreOfVariables Q → known_of k Q ≡ None → (Q ≢ P)
            → Contains rs (record { cube = Q; what = done a }) ⊎ ◌≡◌ {A = Solved} (record { cube = P; what = done (outcome_by lines o) }) (record { cube = Q; what = done a }) → ⊥
        old Q a q h other (inl c) = known.missing Q a q h c
        old Q a q h other (inr e) = other (sym (ap (λ (r : Solved). r.cube) e))

        lack : (Q : List Literal) (a : search.Outcome) → AreOfVariables Q → known_of n Q ≡ None → Contains (rs ++ record { cube = P; what = done (outcome_by lines o) } ∷ []) (record { cube = Q; what = done a })
            → (Q ≡ P) ⊎ (Q ≢ P) → ⊥
        lack Q a q h c (inl e) = let two : known_of n P ≡ None = rw e at h in cc
        lack Q a q h c (inr other) = old Q a q (sym (others Q q other) ∙ h) other (Contains-push_cases rs _ _ c)

-- of true results, what is known is so
pub AreOutcomes-known : {L : Type 0} (lines : L → List Line) (F : Formula) (plan : Plan) (rs : List Solved) (k : Known L) → All (λ r. IsTrueOf F plan r.cube r.what) rs → AreKnown lines rs k → AreOutcomes lines F plan k
AreOutcomes-known lines F plan rs k all known Q o q h = All-contains (λ (r : Solved). IsTrueOf F plan r.cube r.what) rs (record { cube = Q; what = done (outcome_by lines o) }) all (known.found Q o q h)

-- and of checked ones it is checked
pub AreCheckedOutcomes-known : {L : Type 0} (lines : L → List Line) (F : Formula) (by : Search) (rs : List Solved) (k : Known L) → All (λ r. IsCheckedOf by F r.cube r.what) rs → AreKnown lines rs k
    → AreCheckedOutcomes lines by F k
AreCheckedOutcomes-known lines F by rs k all known Q o q h = All-contains (λ (r : Solved). IsCheckedOf by F r.cube r.what) rs (record { cube = Q; what = done (outcome_by lines o) }) all (known.found Q o q h)

-- what is true is checked
pub AreCheckedBy-true : {L : Type 0} (lines : L → List Line) (F : Formula) (plan : Plan) (rs : List (made.Solved L)) → IsFormula F → AreTrueBy lines F plan rs → AreCheckedBy lines plan.search F rs
AreCheckedBy-true {L} lines F plan rs formed all =
    All-weaker (λ (s : made.Solved L). IsTrueOf F plan s.cube (what_by lines s.what)) (λ s. IsCheckedOf plan.search F s.cube (what_by lines s.what)) (λ s h. IsCheckedOf-IsTrueOf F plan s.cube (what_by lines s.what) formed h) rs all
