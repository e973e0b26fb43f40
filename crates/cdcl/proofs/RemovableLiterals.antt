-- Removable literals: an entry's negation is removable just where the other literals of the entry's
-- reason are of level 0, in the set, or removable.
use Rattle.std.proofs.Common.{◌≡◌, ℕ, ◌<◌, ◌≤◌, Bool, true, false, ◌&&◌, ◌||◌, List, [], ◌∷◌, ◌++◌, length, slice_get, Option, Some, None, refl, ap, sym, subst, ◌∙◌, nat_eq, nat_lt, ltb-true, ◌⊎◌, inl, inr, append-nil, append_assoc, if◌then◌else◌}
use Rattle.std.specs.List.{list_all}
use Rattle.theory.specs.Literals.{Literal, Clause, negated, has, has_var, without}
use Rattle.theory.specs.Trails.{Trail, Entry, literals, entry_of, level_of, current_level}
use Rattle.theory.specs.Propagation.{clause_at}
use Rattle.theory.specs.Lawful.{IsReason, IsGrounded, IsLawfulAfter, IsLawful}
use Rattle.theory.specs.Removing.{is_covered, is_removable, removable}
use Rattle.theory.proofs.literals.LiteralLemmas.{and-left, and-right, or-cases, or-left, or-right}
use Rattle.theory.proofs.literals.LiteralSets.{true_false, false_unless, and-true, negated-negated, has-head, has-equal, has-tail, has-cases, has_var-has, literal_of_var, has_var-append_left, Refutes-from_is_false, list_all-has}
use Rattle.theory.proofs.trails.TrailLists.{literals-append}
use Rattle.theory.proofs.trails.TrailEntries.{literals-distinct, has-literals_at}
use Rattle.theory.proofs.searching.Walks.{at-place}
use Rattle.cdcl.proofs.PlaceLemmas.{Placed, placed, entry_of-placed}
use Rattle.cdcl.proofs.TrailValues.{entry_of-there}
use Rattle.std.proofs.Math.Seq.{take-length}
use Rattle.cdcl.proofs.Pending.{lt-true}

-- the walk from the trail's beginning, in two parts
removable-append : (K : List Clause) (T : Trail) (S : Clause) (xs ys : Trail) (R : List Literal) → removable K T S (xs ++ ys) R ≡ removable K T S ys (removable K T S xs R)
removable-append K T S [] ys R = refl
removable-append K T S (e ∷ xs) ys R = removable-append K T S xs ys (if is_removable K T S R e then negated e.lit ∷ R else R)

-- it only adds
removable-grows : (K : List Clause) (T : Trail) (S : Clause) (es : Trail) (R : List Literal) (l : Literal) → has R l ≡ true → has (removable K T S es R) l ≡ true
removable-grows K T S [] R l h = h
removable-grows K T S (e ∷ es) R l h = go (is_removable K T S R e) (λ N a. removable-grows K T S es N l a)
  where
    go : (b : Bool) → ((N : List Literal) → has N l ≡ true → has (removable K T S es N) l ≡ true) → has (removable K T S es (if b then negated e.lit ∷ R else R)) l ≡ true
    go true more = more (negated e.lit ∷ R) (has-tail (negated e.lit) l R h)
    go false more = more R h

-- negations of entries
pub removable-from : (K : List Clause) (T : Trail) (S : Clause) (es : Trail) (R : List Literal) (l : Literal) → has (removable K T S es R) l ≡ true → (has R l ≡ true) ⊎ (has (literals es) (negated l) ≡ true)
removable-from K T S [] R l h = inl h
removable-from K T S (e ∷ es) R l h = go (is_removable K T S R e) h (λ N a. removable-from K T S es N l a)
  where
    later : (has (literals es) (negated l) ≡ true) → has (e.lit ∷ literals es) (negated l) ≡ true
    later a = has-tail e.lit (negated l) (literals es) a

    go : (b : Bool) → has (removable K T S es (if b then negated e.lit ∷ R else R)) l ≡ true
        → ((N : List Literal) → has (removable K T S es N) l ≡ true → (has N l ≡ true) ⊎ (has (literals es) (negated l) ≡ true)) → (has R l ≡ true) ⊎ (has (e.lit ∷ literals es) (negated l) ≡ true)
    go true k more = elim (more (negated e.lit ∷ R) k) [
      | inl a ↦ elim (has-cases (negated e.lit) l R a) [
        | inl i ↦ inr (has-equal e.lit (negated l) (literals es) (ap negated i ∙ negated-negated e.lit))
        | inr r ↦ inl r
      ]
      | inr a ↦ inr (later a)
    ]
    go false k more = elim (more R k) [ inl a ↦ inl a | inr a ↦ inr (later a) ]

-- a lawful trail in two parts
lawful-behind : (K : List Clause) (before A B : Trail) → IsLawfulAfter K before (A ++ B) → IsLawfulAfter K (before ++ A) B
lawful-behind K before [] B h = subst (λ (U : Trail). IsLawfulAfter K U B) (sym (append-nil before)) h
lawful-behind K before (a ∷ A) B h = subst (λ (U : Trail). IsLawfulAfter K U B) (append_assoc before (a ∷ []) A) (lawful-behind K (before ++ a ∷ []) A B h.1)

-- the variables of later entries are new
later-new : (K : List Clause) (before es : Trail) (l : Literal) → IsLawfulAfter K before es → has (literals es) l ≡ true → has_var (literals before) l.var ≡ false
later-new K before [] l h a = absurd (cc)
later-new K before (e ∷ es) l h a = elim (has-cases e.lit l (literals es) a) [
  | inl i ↦ subst (λ (x : Literal). has_var (literals before) x.var ≡ false) (sym i) h.0.is_new
  | inr r ↦ has_var-append_left (literals before) (e.lit ∷ []) l.var (subst (λ (c : Clause). has_var c l.var ≡ false) (literals-append before (e ∷ [])) (later-new K (before ++ e ∷ []) es l h.1 r))
]

all-have : (p : Literal → Bool) (c : Clause) → ((l : Literal) → has c l ≡ true → p l ≡ true) → list_all p c ≡ true
all-have p [] h = refl
all-have p (k ∷ c) h = and-true (p k) (list_all p c) (h k (has-head k c)) (all-have p c (λ l a. h l (has-tail k l c a)))

-- whether a literal is of level 0, in S, or in R
abbrev pub is_covered_in : Trail → Clause → List Literal → Literal → Bool
is_covered_in T S R k = nat_eq (level_of T k) 0 || (has S k || has R k)

covered-more : (T : Trail) (S : Clause) (R N : List Literal) (k : Literal) → (has R k ≡ true → has N k ≡ true) → is_covered_in T S R k ≡ true → is_covered_in T S N k ≡ true
covered-more T S R N k more h = elim (or-cases (nat_eq (level_of T k) 0) (has S k || has R k) h) [
  | inl z ↦ or-left (nat_eq (level_of T k) 0) (has S k || has N k) z
  | inr a ↦ or-right (nat_eq (level_of T k) 0) (has S k || has N k)
      (elim (or-cases (has S k) (has R k) a) [ inl s ↦ or-left (has S k) (has N k) s | inr r ↦ or-right (has S k) (has N k) (more r) ])
]

-- an entry's negation is removable by its reason
pub record IsRemovableBy (K : List Clause) (T : Trail) (S : Clause) (e : Entry) : Type 0 where
  pub number : ℕ
  pub reason : e.reason ≡ Some number
  pub above : 1 ≤ e.level
  pub lower : e.level < current_level T
  pub others : (k : Literal) → has (without (clause_at K number) e.lit) k ≡ true → is_covered_in T S (removable K T S T []) k ≡ true

module _ (K : List Clause) (T : Trail) (S : Clause) (lawful : IsLawful K T) (before : Trail) (e : Entry) (behind : Trail) (place : T ≡ before ++ e ∷ behind) where
  abbrev pub soon : List Literal
  soon = removable K T S before []

  abbrev pub whole : List Literal
  whole = removable K T S T []

  rest : IsLawfulAfter K before (e ∷ behind)
  rest = lawful-behind K [] before (e ∷ behind) (subst (IsLawfulAfter K []) place lawful)

  parted : whole ≡ removable K T S (e ∷ behind) soon
  parted = ap (λ (U : Trail). removable K T S U []) place ∙ removable-append K T S before (e ∷ behind) []

  grown : (k : Literal) → has soon k ≡ true → has whole k ≡ true
  grown k a = subst (λ (R : List Literal). has R k ≡ true) (sym parted) (removable-grows K T S (e ∷ behind) soon k a)

  earlier : (k : Literal) → has_var (literals before) k.var ≡ true → has whole k ≡ true → has soon k ≡ true
  earlier k there a = elim (removable-from K T S (e ∷ behind) soon k (subst (λ (R : List Literal). has R k ≡ true) parted a)) [
    | inl r ↦ r
    | inr b ↦ true_false (has_var (literals before) k.var) there (later-new K before (e ∷ behind) (negated k) rest b)
  ]

  own : has whole (negated e.lit) ≡ is_removable K T S soon e
  own = ap (λ (R : List Literal). has R (negated e.lit)) parted ∙ go (is_removable K T S soon e)
    where
      twice : (U : Trail) → has (literals U) (negated (negated e.lit)) ≡ true → has (literals U) e.lit ≡ true
      twice U a = subst (λ (l : Literal). has (literals U) l ≡ true) (negated-negated e.lit) a

      here : has_var (literals (before ++ e ∷ [])) e.lit.var ≡ true
      here = has_var-has (literals (before ++ e ∷ [])) e.lit (has-literals_at (before ++ e ∷ []) e (at-place (before ++ e ∷ []) before e [] refl))

      not_there : has (removable K T S behind soon) (negated e.lit) ≡ true → ⊥
      not_there t = elim (removable-from K T S behind soon (negated e.lit) t) [
        | inl r ↦ elim (removable-from K T S before [] (negated e.lit) r) [
          | inl z ↦ absurd (cc)
          | inr a ↦ true_false (has_var (literals before) e.lit.var) (has_var-has (literals before) e.lit (twice before a)) rest.0.is_new
        ]
        | inr a ↦ true_false (has_var (literals (before ++ e ∷ [])) e.lit.var) here (later-new K (before ++ e ∷ []) behind e.lit rest.1 (twice behind a))
      ]

      go : (b : Bool) → has (removable K T S behind (if b then negated e.lit ∷ soon else soon)) (negated e.lit) ≡ b
      go true = removable-grows K T S behind (negated e.lit ∷ soon) (negated e.lit) (has-head (negated e.lit) soon)
      go false = false_unless (has (removable K T S behind soon) (negated e.lit)) not_there

  pub removable-reason : has whole (negated e.lit) ≡ true → IsRemovableBy K T S e
  removable-reason t = go e.reason refl (sym own ∙ t)
    where
      go : (o : Option ℕ) → e.reason ≡ o → nat_lt 0 e.level && (nat_lt e.level (current_level T) && is_covered K T S soon e.lit o) ≡ true → IsRemovableBy K T S e
      go None q h = absurd (true_false false (and-right (nat_lt e.level (current_level T)) false (and-right (nat_lt 0 e.level) (nat_lt e.level (current_level T) && false) h)) refl)
      go (Some n) q h =
          let inner = and-right (nat_lt 0 e.level) (nat_lt e.level (current_level T) && is_covered K T S soon e.lit (Some n)) h in
          let all = and-right (nat_lt e.level (current_level T)) (is_covered K T S soon e.lit (Some n)) inner in
          record {
            number = n;
            reason = q;
            above = ltb-true 0 e.level (and-left (nat_lt 0 e.level) (nat_lt e.level (current_level T) && is_covered K T S soon e.lit (Some n)) h);
            lower = ltb-true e.level (current_level T) (and-left (nat_lt e.level (current_level T)) (is_covered K T S soon e.lit (Some n)) inner);
            others = λ k a. covered-more T S soon whole k (grown k) (list_all-has (is_covered_in T S soon) (without (clause_at K n) e.lit) k all a);
          }

  pub reason-removable : IsRemovableBy K T S e → has whole (negated e.lit) ≡ true
  reason-removable h = own ∙ by_reason e.reason h.reason
    where
      reason : IsReason K (literals before) e.lit h.number
      reason = (subst (IsGrounded K before e) h.reason rest.0.grounded).1

      covers : list_all (is_covered_in T S soon) (without (clause_at K h.number) e.lit) ≡ true
      covers = all-have (is_covered_in T S soon) (without (clause_at K h.number) e.lit) (λ k a. covered-more T S whole soon k
          (earlier k (has_var-has (literals before) (negated k) (Refutes-from_is_false (literals before) (without (clause_at K h.number) e.lit) reason.others k a))) (h.others k a))

      by_reason : (o : Option ℕ) → o ≡ Some h.number → nat_lt 0 e.level && (nat_lt e.level (current_level T) && is_covered K T S soon e.lit o) ≡ true
      by_reason None q = absurd (cc)
      by_reason (Some n) q =
          let same : n ≡ h.number = cc in
          and-true (nat_lt 0 e.level) _ (lt-true 0 e.level h.above) (and-true (nat_lt e.level (current_level T)) _ (lt-true e.level (current_level T) h.lower)
          (subst (λ m. list_all (is_covered_in T S soon) (without (clause_at K m) e.lit) ≡ true) (sym same) covers))

-- a variable's removable literal is its entry's negation
pub var-removable : (K : List Clause) (T : Trail) (S : Clause) (e : Entry) → IsLawful K T → has (literals T) e.lit ≡ true → has_var (removable K T S T []) e.lit.var ≡ true → has (removable K T S T []) (negated e.lit) ≡ true
var-removable K T S e lawful there h =
    let m = literal_of_var (removable K T S T []) e.lit.var h in
    elim (removable-from K T S T [] m.0 m.1) [
      | inl z ↦ absurd (cc)
      | inr a ↦ (
          let one : negated m.0 ≡ e.lit = literals-distinct K T (negated m.0) e.lit lawful a there m.2 in
          let is : m.0 ≡ negated e.lit = sym (negated-negated m.0) ∙ ap negated one in
          subst (λ (l : Literal). has (removable K T S T []) l ≡ true) is m.1)
    ]

-- the place of a variable's entry
pub placed-entry : (K : List Clause) (T : Trail) (v : ℕ) (e : Entry) → IsLawful K T → entry_of T v ≡ Some e → (q : ℕ) × (slice_get T q ≡ Some e) × (e.lit.var ≡ v)
placed-entry K T v e lawful h =
    let there = entry_of-there T v e h in
    let p : Placed T (length T) e.lit = placed T (length T) e.lit (subst (λ (U : Trail). has (literals U) e.lit ≡ true) (sym (take-length T)) there.1) in
    let found = entry_of-placed K T p.place p.entry lawful p.at in
    let same : entry_of T p.entry.lit.var ≡ Some e = ap (λ (l : Literal). entry_of T l.var) p.is ∙ (ap (entry_of T) there.0 ∙ h) in
    let one : p.entry ≡ e = cc in
    (p.place, p.at ∙ ap Some one, there.0)
