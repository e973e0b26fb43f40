-- What a visit finds, and what follows for the walk.
use Rattle.std.proofs.Common.{◌≡◌, ℕ, suc, zero, ◌+◌, ◌<◌, ◌≤◌, Bool, true, false, List, [], ◌∷◌, ◌++◌, length, set, take, Some, refl, ap, sym, subst, ◌∙◌, ◌⊎◌, inl, inr, arith}
use Rattle.std.specs.List.{Contains, list_all}
use Rattle.std.specs.List.Sorted.{IsPermutation}
use Rattle.std.proofs.lemmas.List.Sorted.{Contains-permutation, IsPermutation-sym}
use Rattle.theory.specs.Literals.{Literal, Clause, same, has, negated}
use Rattle.theory.specs.Status.{is_false, others_false}
use Rattle.theory.specs.Trails.{Trail, literals}
use Rattle.theory.proofs.literals.LiteralLemmas.{same-refl, or-left, or-right}
use Rattle.cnf.specs.Lits.{code}
use Rattle.kernel.specs.Watching.{IsConsistent, Good, reached, At, StandsFrom, Tending, list_at, IsBeside, lesser, moved, WasUnit, GoodBut, AllGood, Walks, IsNext, IsServed}
use Rattle.kernel.specs.declared.watches.watch.Watched.{Watched}
use Rattle.kernel.specs.Visiting.{Replaces}
use Rattle.kernel.proofs.LiteralFacts.{has-push, negated-negated, same-sym-false}
use Rattle.kernel.proofs.Places.{At-one}
use Rattle.kernel.proofs.Serving.{not-served, GoodBut-pass, GoodBut-move, GoodBut-end, GoodBut-start}
use Rattle.kernel.proofs.Steps.{both, Good-unit, Good-move, Tends-unit, Tends-false, Tends-move, lesser-reached, lesser-self, list-moved_from}
use Rattle.kernel.proofs.TrailFacts.{Includes-up_to}

-- a fact on each member
pub all-from : (p : Literal → Bool) (c : Clause) → ((l : Literal) → has c l ≡ true → p l ≡ true) → list_all p c ≡ true
all-from p [] h = refl
all-from p (k ∷ c) h =
    let here : p k ≡ true = h k (or-left (same k k) (has c k) (same-refl k)) in
    let rest : list_all p c ≡ true = all-from p c (λ l m. h l (or-right (same l k) (has c l) m)) in
    rw (here, rest) refl

-- the clause under a visit, with what is known of it
pub record Visits (K : List Clause) (T : Trail) (g : Literal) (t : Tending) (j n : ℕ) (c : Clause) (w : Watched) : Type 0 where
  pub clause : At K n c
  pub watch : At t.pairs n w
  pub listed : At (list_at t.lists g) j n
  pub gone : has (literals T) (negated g) ≡ true

-- nothing changes, since the clause is good as it is
pub Walks-good : (floor : ℕ) (K : List Clause) (T : Trail) (served : ℕ) (g : Literal) (t : Tending) (j n : ℕ) (c : Clause) (w : Watched) → Visits K T g t j n c w
    → Good K (literals (take served T) ++ negated g ∷ []) (literals T) t.units t.least w n → Walks floor K T served g t j → Walks floor K T served g t (j + 1)
Walks-good floor K T served g t j n c w v good s = record {
  tends = s.tends;
  good = GoodBut-pass K (literals (take served T)) (negated g) (literals T) t t (list_at t.lists g) j n w refl (λ m x. x) (λ m x. x) v.listed v.watch good s.good;
}

-- the other one is free, and the rest false
pub Walks-unit : (floor : ℕ) (K : List Clause) (T : Trail) (served : ℕ) (g k : Literal) (t u : Tending) (j n : ℕ) (c : Clause) (w : Watched) → u.pairs ≡ t.pairs → u.lists ≡ t.lists → u.least ≡ t.least → IsPermutation (n ∷ t.units) u.units
    → IsNext T served g → Visits K T g t j n c w → IsBeside w g k → has (literals T) (negated k) ≡ false → has c k ≡ true → others_false (literals T) c k ≡ true → Walks floor K T served g t j → Walks floor K T served g u (j + 1)
Walks-unit floor K T served g k t u j n c w pairs lists least units next v beside free k_in others s = record {
  tends = Tends-unit floor K T t u n pairs lists least was v.clause.0 unit s.tends;
  good = rw lists (GoodBut-pass K (literals (take served T)) (negated g) (literals T) t u (list_at t.lists g) j n w pairs (λ m h. more m h) (λ m h. rw least h) v.listed v.watch
      (Good-unit K (literals (take served T) ++ negated g ∷ []) (literals T) u.units u.least w g k n beside next free (more_self)) s.good);
}
  where
    more : (m : ℕ) → Contains t.units m → Contains u.units m
    more m h = Contains-permutation (n ∷ t.units) u.units m units (suc h.0, (let z : suc h.0 < length (n ∷ t.units) = omega (arith, h.1) in z), h.2)

    more_self : Contains u.units n
    more_self = Contains-permutation (n ∷ t.units) u.units n units (0, (let z : 0 < length (n ∷ t.units) = omega arith in z), refl)

    was : (m : ℕ) → Contains u.units m → (m ≡ n) ⊎ Contains t.units m
    was m h = split (Contains-permutation u.units (n ∷ t.units) m (IsPermutation-sym (n ∷ t.units) u.units units) h)
      where
        split : Contains (n ∷ t.units) m → (m ≡ n) ⊎ Contains t.units m
        split (zero, l, e) = inl (sym e)
        split (suc p, l, e) = inr (p, (let z : p < length t.units = omega (arith, l) in z), e)

    unit : (d : Clause) → At K n d → WasUnit (literals T) d
    unit d a = rw (← At-one K n c d v.clause a) (k, k_in, others)

-- all are false
pub Walks-false : (floor : ℕ) (K : List Clause) (T : Trail) (served : ℕ) (g k : Literal) (t u : Tending) (j n : ℕ) (c : Clause) (w : Watched) → u.pairs ≡ t.pairs → u.lists ≡ t.lists → u.units ≡ t.units → u.least ≡ Some (lesser t.least n)
    → Visits K T g t j n c w → is_false (literals T) c ≡ true → Walks floor K T served g t j → Walks floor K T served g u (j + 1)
Walks-false floor K T served g k t u j n c w pairs lists units least v all s = record {
  tends = Tends-false floor K T t u n pairs lists units least v.clause.0 (λ d a. rw (← At-one K n c d v.clause a) all) s.tends;
  good = rw lists (GoodBut-pass K (literals (take served T)) (negated g) (literals T) t u (list_at t.lists g) j n w pairs (λ m h. rw units h) (λ m h. rw least (lesser-reached t.least n m h)) v.listed v.watch
      (reached (rw least (lesser-self t.least n))) s.good);
}

-- another literal is watched
pub Walks-move : (floor : ℕ) (K : List Clause) (T : Trail) (served : ℕ) (g k z : Literal) (t u : Tending) (j n : ℕ) (c : Clause) (w : Watched)
    → u.pairs ≡ set t.pairs n (both k z) → u.lists ≡ moved t.lists g z n j → u.units ≡ t.units → u.least ≡ t.least
    → IsConsistent (literals T) → code g < length t.lists → code z < length t.lists
    → IsNext T served g → Visits K T g t j n c w → IsBeside w g k → Replaces (literals T) c k z → Walks floor K T served g t j → Walks floor K T served g u j
Walks-move floor K T served g k z t u j n c w pairs lists units least ok hg hz next v beside r s = record {
  tends = Tends-move floor K T t u g k z w c n j pairs lists units least ok (λ m h. Includes-up_to T m) v.clause v.watch v.listed hg hz beside r.member r.apart v.gone r.not_false s.tends;
  good = subst (λ (ns : List ℕ). GoodBut K (literals (take served T)) (negated g) (literals T) u ns j) (sym (ap (λ (x : List (List ℕ)). list_at x g) lists ∙ list-moved_from t.lists g z n j hg))
      (GoodBut-move K (literals (take served T)) (negated g) (literals T) t u (list_at t.lists g) j n (both k z) pairs units least v.listed (go (s.good n w v.watch)) s.good);
}
  where
    k_z : same k z ≡ false
    k_z = same-sym-false z k r.apart

    go : Good K (literals (take served T) ++ negated g ∷ []) (literals T) t.units t.least w n ⊎ (StandsFrom j (list_at t.lists g) n × Good K (literals (take served T)) (literals T) t.units t.least w n) → Good K (literals (take served T) ++ negated g ∷ []) (literals T) t.units t.least (both k z) n
    go (inl h) = Good-move K (literals (take served T) ++ negated g ∷ []) (literals (take served T) ++ negated g ∷ []) (literals T) t.units t.least w g k z n ok beside next v.gone r.not_false k_z (λ a b. b) h
    go (inr (_, h)) = Good-move K (literals (take served T)) (literals (take served T) ++ negated g ∷ []) (literals T) t.units t.least w g k z n ok beside next v.gone r.not_false k_z
        (λ a b. not-served (literals (take served T)) (negated g) k (subst (λ (y : Literal). same k y ≡ false) (sym (negated-negated g)) a) b) h

pub gone-true : (T : Trail) (served : ℕ) (g : Literal) → IsNext T served g → has (literals T) (negated g) ≡ true
gone-true T served g next = next (negated g) (has-push (literals (take served T)) (negated g) (negated g) ∙ or-right (has (literals (take served T)) (negated g)) (same (negated g) (negated g)) (same-refl (negated g)))

-- a walk begins
pub Walks-start : (floor : ℕ) (K : List Clause) (T : Trail) (served : ℕ) (g : Literal) (t : Tending) → IsServed floor K T served t → Walks floor K T served g t 0
Walks-start floor K T served g t s = record {
  tends = s.tends;
  good = subst (λ (x : Literal). GoodBut K (literals (take served T)) (negated g) (literals T) t (list_at t.lists x) 0) (negated-negated g) (GoodBut-start K (literals (take served T)) (negated g) (literals T) t s.tends.listed s.tends.found s.good);
}

-- and ends
pub Walks-end : (floor : ℕ) (K : List Clause) (T : Trail) (served : ℕ) (g : Literal) (t : Tending) (j : ℕ) → length (list_at t.lists g) ≤ j → Walks floor K T served g t j → AllGood K (literals (take served T) ++ negated g ∷ []) (literals T) t
Walks-end floor K T served g t j h s = GoodBut-end K (literals (take served T)) (negated g) (literals T) t (list_at t.lists g) j h s.good
