-- Which literals of a clause are watched first.
use Rattle.std.proofs.Common.{◌≡◌, ℕ, ◌+◌, ◌<◌, ◌≤◌, Bool, true, false, List, [], ◌∷◌, ◌++◌, length, get_or, take, Some, ap, sym, subst, ◌∙◌, ◌⊎◌, inl, inr, arith, if◌then◌else◌}
use Rattle.std.proofs.lemmas.List.{take_more, take_all}
use Rattle.theory.specs.Literals.{Literal, Clause, same, has, has_var, negated}
use Rattle.theory.specs.Status.{unit_literal}
use Rattle.theory.specs.Trails.{Trail, level_of}
use Rattle.theory.proofs.literals.LiteralLemmas.{or-cases, same-eq, same-refl}
use Rattle.theory.proofs.literals.LiteralSets.{has-append_cases}
use Rattle.kernel.specs.Watching.{IsPair}
use Rattle.kernel.specs.Attaching.{IsLater}
use Rattle.kernel.proofs.LiteralFacts.{true_false, same-sym, same-sym-false, free-not_negated}
use Rattle.kernel.proofs.LeastClauses.{unit_literal-says}
use Rattle.kernel.proofs.AtRest.{other-false}
use Rattle.kernel.proofs.Walking.{all-from}
use Rattle.kernel.proofs.Visits.{has-get}

-- the literals of a front and the next one
pub front-cases : (c : Clause) (i : ℕ) (l x : Literal) → l ≡ get_or c i l → i < length c → has (take (i + 1) c) x ≡ true → (has (take i c) x ≡ true) ⊎ (x ≡ l)
front-cases c i l x read inside h = go (has-append_cases (take i c) (l ∷ []) x (subst (λ (d : Clause). has d x ≡ true) (take_more c i l inside ∙ ap (λ y. take i c ++ y ∷ []) (sym read)) h))
  where
    go : (has (take i c) x ≡ true) ⊎ (has (l ∷ []) x ≡ true) → (has (take i c) x ≡ true) ⊎ (x ≡ l)
    go (inl e) = inl e
    go (inr e) = one (or-cases (same x l) false e)
      where
        one : (same x l ≡ true) ⊎ (false ≡ true) → (has (take i c) x ≡ true) ⊎ (x ≡ l)
        one (inl f) = inr (same-eq x l f)
        one (inr f) = absurd (cc)

pub in-whole : (c : Clause) (i : ℕ) (l : Literal) → l ≡ get_or c i l → i < length c → has c l ≡ true
in-whole c i l read inside = subst (λ (x : Literal). has c x ≡ true) (sym read) (has-get c i l inside)

pub pair-one : (c : Clause) (k : Literal) (i : ℕ) → has c k ≡ true → length c ≤ i → ((x : Literal) → has (take i c) x ≡ true → x ≡ k) → IsPair c (record { first = k; second = k })
pair-one c k i a end all = record { first_in = a; second_in = a; single = λ h. all-from (same k) c (λ l m. rw (all l (subst (λ (d : Clause). has d l ≡ true) (sym (take_all i c end)) m)) (same-refl k)) }

-- in a unit clause only one literal is free
pub free-is : (P : List Literal) (c : Clause) (l k : Literal) → unit_literal P c ≡ Some l → has c k ≡ true → has_var P k.var ≡ false → k ≡ l
free-is P c l k unit m free = go (other-false P c l k (unit_literal-says P c l unit).others m)
  where
    go : (l ≡ k) ⊎ (has P (negated k) ≡ true) → k ≡ l
    go (inl e) = sym e
    go (inr e) = absurd (free-not_negated P k free e)

pub none-free : (P : List Literal) (c : Clause) (l : Literal) (i : ℕ) → unit_literal P c ≡ Some l → length c ≤ i → ((x : Literal) → has (take i c) x ≡ true → has_var P x.var ≡ true) → ⊥
none-free P c l i unit end all =
    let u = unit_literal-says P c l unit in
    true_false (has_var P l.var) (all l (subst (λ (d : Clause). has d l ≡ true) (sym (take_all i c end)) u.member)) u.free

pub taken-more : (P : List Literal) (c : Clause) (i : ℕ) (l : Literal) → l ≡ get_or c i l → i < length c → has_var P l.var ≡ true → ((x : Literal) → has (take i c) x ≡ true → has_var P x.var ≡ true) → (x : Literal) → has (take (i + 1) c) x ≡ true → has_var P x.var ≡ true
taken-more P c i l read inside h all x m = go (front-cases c i l x read inside m)
  where
    go : (has (take i c) x ≡ true) ⊎ (x ≡ l) → has_var P x.var ≡ true
    go (inl f) = all x f
    go (inr f) = rw f h

-- the search for the literal of the greatest level
pub record IsLatest (T : Trail) (c front : Clause) (free latest : Literal) : Type 0 where
  pub member : has c latest ≡ true
  pub others : same free latest ≡ true → (x : Literal) → has front x ≡ true → x ≡ free
  pub greatest : (x : Literal) → has front x ≡ true → same free x ≡ false → level_of T x ≤ level_of T latest

-- the next literal takes its place
pub latest-taken : (T : Trail) (c : Clause) (i : ℕ) (free latest l : Literal) → l ≡ get_or c i l → i < length c → same l free ≡ false → (same latest free ≡ true) ⊎ (level_of T latest < level_of T l) → IsLatest T c (take i c) free latest → IsLatest T c (take (i + 1) c) free l
latest-taken T c i free latest l read inside apart why p = record {
  member = in-whole c i l read inside;
  others = λ h. absurd (true_false (same free l) h (same-sym-false l free apart));
  greatest = λ x m ne. go x ne (front-cases c i l x read inside m);
}
  where
    go : (x : Literal) → same free x ≡ false → (has (take i c) x ≡ true) ⊎ (x ≡ l) → level_of T x ≤ level_of T l
    go x ne (inl e) = by why
      where
        by : (same latest free ≡ true) ⊎ (level_of T latest < level_of T l) → level_of T x ≤ level_of T l
        by (inl f) = absurd (true_false (same free x) (rw (p.others (same-sym latest free f) x e) (same-refl free)) ne)
        by (inr f) = omega (arith, p.greatest x e ne, f)
    go x ne (inr e) = rw e (let z : level_of T l ≤ level_of T l = omega arith in z)

-- the next literal is passed over
pub latest-passed : (T : Trail) (c : Clause) (i : ℕ) (free latest l : Literal) → l ≡ get_or c i l → i < length c → (same l free ≡ true) ⊎ ((same latest free ≡ false) × (level_of T l ≤ level_of T latest)) → IsLatest T c (take i c) free latest → IsLatest T c (take (i + 1) c) free latest
latest-passed T c i free latest l read inside why p = record {
  member = p.member;
  others = λ h x m. go h x (front-cases c i l x read inside m);
  greatest = λ x m ne. more x ne (front-cases c i l x read inside m);
}
  where
    is_free : same free latest ≡ true → (same l free ≡ true) ⊎ ((same latest free ≡ false) × (level_of T l ≤ level_of T latest)) → l ≡ free
    is_free h (inl e) = same-eq l free e
    is_free h (inr e) = absurd (true_false (same latest free) (same-sym free latest h) e.0)

    go : same free latest ≡ true → (x : Literal) → (has (take i c) x ≡ true) ⊎ (x ≡ l) → x ≡ free
    go h x (inl e) = p.others h x e
    go h x (inr e) = e ∙ is_free h why

    more : (x : Literal) → same free x ≡ false → (has (take i c) x ≡ true) ⊎ (x ≡ l) → level_of T x ≤ level_of T latest
    more x ne (inl e) = p.greatest x e ne
    more x ne (inr e) = by why
      where
        by : (same l free ≡ true) ⊎ ((same latest free ≡ false) × (level_of T l ≤ level_of T latest)) → level_of T x ≤ level_of T latest
        by (inl f) = absurd (true_false (same free x) (rw (e, same-eq l free f) (same-refl free)) ne)
        by (inr f) = rw e f.1

pub latest-pair : (T : Trail) (c : Clause) (i : ℕ) (free latest : Literal) → length c ≤ i → has c free ≡ true → IsLatest T c (take i c) free latest → IsPair c (record { first = free; second = latest })
latest-pair T c i free latest end m p = record {
  first_in = m;
  second_in = p.member;
  single = λ h. all-from (same free) c (λ l n. rw (p.others h l (subst (λ (d : Clause). has d l ≡ true) (sym (take_all i c end)) n)) (same-refl free));
}

-- one turn of the search
pub latest-turn : (T : Trail) (c : Clause) (i : ℕ) (free latest l : Literal) (b : Bool) → l ≡ get_or c i l → i < length c → IsLater T free latest l b → IsLatest T c (take i c) free latest → IsLatest T c (take (i + 1) c) free (if b then l else latest)
latest-turn T c i free latest l true read inside h p = latest-taken T c i free latest l read inside h.0 h.1 p
latest-turn T c i free latest l false read inside h p = latest-passed T c i free latest l read inside h p
