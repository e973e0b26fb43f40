-- The places of the entries that make a clause's literals false, and the reasons of these entries.
use Rattle.std.proofs.Common.{◌≡◌, ℕ, zero, suc, ◌+◌, ◌-◌, ◌<◌, ◌≤◌, Bool, true, false, ◌||◌, List, [], ◌∷◌, ◌++◌, length, take, get_or, Option, Some, None, slice_get, refl, ap, sym, subst, ◌∙◌, nat_eq, eqb-true, eq-eqb, inl, inr, All, arith, slice_index, if◌then◌else◌, IsPermutation}
use Rattle.std.specs.List.{Contains, dedup}
use Rattle.std.specs.List.Sorted.{IsStrictlyIncreasing}
use Rattle.std.proofs.lemmas.List.{take_more, take_all, get_or_default}
use Rattle.std.proofs.lemmas.List.Folds.{list_any_at}
use Rattle.std.proofs.lemmas.List.Sorted.{list_any-IsPermutation}
use Rattle.std.proofs.lemmas.List.Kept.{Contains-dedup_nat, Contains-from_dedup}
use Rattle.std.proofs.lemmas.Map.Views.{Contains-from_any}
use Rattle.theory.specs.Literals.{Literal, Clause, same, negated, has, without}
use Rattle.theory.specs.Status.{is_false}
use Rattle.theory.specs.Trails.{Entry, Trail, literals, entry_of}
use Rattle.theory.specs.Propagation.{clause_at}
use Rattle.theory.specs.Lawful.{IsReason, IsLawful}
use Rattle.theory.specs.Units.{has_two, reason_against, with_number, reasons_against, unit_line, wide_reason}
use Rattle.theory.proofs.literals.LiteralLemmas.{same-refl, or-cases, or-left}
use Rattle.theory.proofs.literals.LiteralSets.{true_false, false_unless, one_or_other, other-same, has-head, has-cases, has-without, has-from_without, Refutes-from_is_false, is_false-from_Refutes, negated-negated}
use Rattle.theory.proofs.searching.UnitLines.{has_two-one, has_two-other}
use Rattle.kernel.specs.State.{State}
use Rattle.kernel.proofs.LiteralFacts.{same-sym-false}
use Rattle.cdcl.specs.Numbers.{is_one_of}
use Rattle.cdcl.specs.Removing.{reason_at}
use Rattle.cdcl.specs.Units.{is_against, reasons_at}
use Rattle.cdcl.proofs.ArrangedClauses.{Covers, both, covers, covered, without-covers}
use Rattle.cdcl.proofs.BelowLemmas.{entry-reason}
use Rattle.cdcl.proofs.PlaceLemmas.{Placed, placed-inside, placed-there, entry-read, places-distinct, placed, place-found, false-below, entry_of-false}

-- numbers from k on, each above the one before
Rises : ℕ → List ℕ → Type 0
Rises k [] = Unit {0}
Rises k (p ∷ places) = (k ≤ p) × Rises (p + 1) places

Rises-increasing : (k : ℕ) (places : List ℕ) → IsStrictlyIncreasing places → (0 < length places → k ≤ slice_index places 0) → Rises k places
unfolding Rises
Rises-increasing k [] up low = tt
Rises-increasing k (p ∷ places) up low = (low (omega arith), Rises-increasing (p + 1) places (λ i less. (let one : suc i + 1 ≡ suc (i + 1) = omega arith in subst (λ n. slice_index places i < slice_index (p ∷ places) n) one (up (suc i) (omega (arith, less))))) (λ some. (let more = up 0 (omega (arith, some)) in omega (arith, more))))

-- none of them is below k
Rises-above : (k q : ℕ) (places : List ℕ) → Rises k places → is_one_of places q ≡ true → k ≤ q
unfolding Rises
Rises-above k q [] rises h = absurd (cc)
Rises-above k q (p ∷ places) rises h = elim (or-cases (nat_eq q p) (is_one_of places q) h) [
  | inl e ↦ (let is = eqb-true q p e in let low = rises.0 in omega (arith, is, low))
  | inr t ↦ (let more = Rises-above (p + 1) q places rises.1 t in let low = rises.0 in omega (arith, more, low))
]

-- the reasons that r gives, at these places
numbers_of : (ℕ → Option ℕ) → List ℕ → List ℕ
numbers_of r [] = []
numbers_of r (p ∷ places) = with_number (r p) (numbers_of r places)

-- from the place k on
gathered-from : (c : Clause) (r : ℕ → Option ℕ) (T : Trail) (k : ℕ) (places : List ℕ) → Rises k places → ((q : ℕ) → is_one_of places (k + q) ≡ is_against c (slice_get T q)) → ((q : ℕ) → r (k + q) ≡ reason_at (slice_get T q))
    → numbers_of r places ≡ reasons_against T c
unfolding Rises numbers_of
gathered-from c r [] k [] rises are reasons = refl
gathered-from c r [] k (p ∷ places) rises are reasons =
    let low = rises.0 in
    let there : p ≡ k + (p - k) = omega (arith, low) in
    absurd (true_false (is_one_of (p ∷ places) (k + (p - k))) (or-left (nat_eq (k + (p - k)) p) (is_one_of places (k + (p - k))) (eq-eqb (k + (p - k)) p (sym there))) (are (p - k)))
gathered-from c r (e ∷ T) k places rises are reasons =
    go (has c (negated e.lit)) refl places rises are (λ ps up at. gathered-from c r T (k + 1) ps up at (λ q. ap r (omega arith) ∙ reasons (suc q)))
  where
    More : Type 0
    More = (ps : List ℕ) → Rises (k + 1) ps → ((q : ℕ) → is_one_of ps (k + 1 + q) ≡ is_against c (slice_get T q)) → numbers_of r ps ≡ reasons_against T c

    go : (b : Bool) → has c (negated e.lit) ≡ b → (ps : List ℕ) → Rises k ps → ((q : ℕ) → is_one_of ps (k + q) ≡ is_against c (slice_get (e ∷ T) q)) → More
        → numbers_of r ps ≡ with_number (if b then e.reason else None) (reasons_against T c)
    go true h [] rises are more = absurd (true_false (is_against c (slice_get (e ∷ T) 0)) h (sym (are 0)))
    go true h (p ∷ ps) rises are more =
        let here : is_one_of (p ∷ ps) k ≡ true = ap (is_one_of (p ∷ ps)) (omega arith) ∙ (are 0 ∙ h) in
        let first : p ≡ k = elim (or-cases (nat_eq k p) (is_one_of ps k) here) [
          | inl t ↦ sym (eqb-true k p t)
          | inr t ↦ (let above = Rises-above (p + 1) k ps rises.1 t in let low = rises.0 in absurd (omega (arith, above, low)))
        ] in
        ap (λ (o : Option ℕ). with_number o (numbers_of r ps)) (ap r (first ∙ omega arith) ∙ reasons 0)
        ∙ ap (with_number e.reason) (more ps (subst (λ n. Rises (n + 1) ps) first rises.1) (λ q. later q first))
      where
        later : (q : ℕ) → p ≡ k → is_one_of ps (k + 1 + q) ≡ is_against c (slice_get T q)
        later q first =
            let other : nat_eq (k + suc q) p ≡ false = false_unless (nat_eq (k + suc q) p) (λ t. let is = eqb-true (k + suc q) p t in absurd (omega (arith, is, first))) in
            ap (is_one_of ps) (omega arith) ∙ (sym (ap (λ b. b || is_one_of ps (k + suc q)) other) ∙ are (suc q))
    go false h ps rises are more = more ps (above ps rises (ap (is_one_of ps) (omega arith) ∙ (are 0 ∙ h))) (λ q. ap (is_one_of ps) (omega arith) ∙ are (suc q))
      where
        above : (ns : List ℕ) → Rises k ns → is_one_of ns k ≡ false → Rises (k + 1) ns
        above [] rises out = tt
        above (p ∷ ns) rises out =
            let other : k ≡ p → ⊥ = λ is. true_false (is_one_of (p ∷ ns) k) (or-left (nat_eq k p) (is_one_of ns k) (eq-eqb k p is)) out in
            let low = rises.0 in
            (omega (arith, low, other), rises.1)

-- The places of all entries that make literals of the clause false, in the order of the trail: their
-- reasons are those against the clause.
pub reasons-gathered : (T : Trail) (c : Clause) (places : List ℕ) → IsStrictlyIncreasing places → ((q : ℕ) → is_one_of places q ≡ is_against c (slice_get T q)) → reasons_at T places ≡ reasons_against T c
unfolding numbers_of
reasons-gathered T c places up are =
    same-numbers places
    ∙ gathered-from c (λ p. reason_at (slice_get T p)) T 0 places (Rises-increasing 0 places up (λ some. omega arith)) (λ q. ap (is_one_of places) (omega arith) ∙ are q) (λ q. ap (λ p. reason_at (slice_get T p)) (omega arith))
  where
    same-numbers : (ps : List ℕ) → reasons_at T ps ≡ numbers_of (λ p. reason_at (slice_get T p)) ps
    same-numbers [] = refl
    same-numbers (p ∷ ps) = ap (with_number (reason_at (slice_get T p))) (same-numbers ps)

-- none of them is at the place of an entry or behind it, if all literals of the clause are false before
pub reasons-before : (T : Trail) (c : Clause) (place : ℕ) → ((q : ℕ) → place ≤ q → is_against c (slice_get T q) ≡ false) → reasons_against T c ≡ reasons_against (take place T) c
reasons-before [] c zero h = refl
reasons-before [] c (suc place) h = refl
reasons-before (e ∷ T) c zero h = nothing (e ∷ T) (λ q. h q (omega arith))
  where
    nothing : (U : Trail) → ((q : ℕ) → is_against c (slice_get U q) ≡ false) → reasons_against U c ≡ []
    nothing [] h = refl
    nothing (x ∷ U) h = ap (λ b. with_number (if b then x.reason else None) (reasons_against U c)) (h 0) ∙ nothing U (λ q. h (suc q))
reasons-before (e ∷ T) c (suc place) h = ap (with_number (reason_against c e)) (reasons-before T c place (λ q low. h (suc q) (omega (arith, low))))

-- one place more
pub one-more : (places : List ℕ) (p q : ℕ) → is_one_of (places ++ p ∷ []) q ≡ is_one_of places q || nat_eq q p
one-more [] p q = (go (nat_eq q p))
  where
    go : (b : Bool) → b || false ≡ b
    go true = refl
    go false = refl
one-more (x ∷ places) p q = ap (λ b. nat_eq q x || b) (one-more places p q) ∙ go (nat_eq q x) (is_one_of places q) (nat_eq q p)
  where
    go : (a b c : Bool) → a || (b || c) ≡ (a || b) || c
    go true b c = refl
    go false b c = refl

-- the one entry that makes a literal false
pub against-one : (K : List Clause) (T : Trail) (p : ℕ) (e : Entry) (l : Literal) (q : ℕ) → IsLawful K T → slice_get T p ≡ Some e → negated e.lit ≡ l → nat_eq q p ≡ is_against (l ∷ []) (slice_get T q)
against-one K T p e l q lawful at is = both (nat_eq q p) (is_against (l ∷ []) (slice_get T q)) (λ t. here (eqb-true q p t)) (λ t. eq-eqb q p (found (slice_get T q) refl t))
  where
    here : q ≡ p → is_against (l ∷ []) (slice_get T q) ≡ true
    here i = ap (λ (o : Option Entry). is_against (l ∷ []) o) (ap (slice_get T) i ∙ at) ∙ subst (λ (x : Literal). has (x ∷ []) (negated e.lit) ≡ true) is (has-head (negated e.lit) [])

    found : (o : Option Entry) → slice_get T q ≡ o → is_against (l ∷ []) o ≡ true → q ≡ p
    found None o t = absurd (cc)
    found (Some f) o t = elim (has-cases l (negated f.lit) [] t) [
      | inl i ↦ sym (places-distinct K T p q e f lawful at o (ap (λ (x : Literal). x.var) (sym (negated-negated e.lit) ∙ (ap negated (is ∙ sym i) ∙ negated-negated f.lit))))
      | inr n ↦ absurd (cc)
    ]

-- no entry makes a literal of no clause false
pub against-none : (o : Option Entry) → is_against [] o ≡ false
against-none None = refl
against-none (Some e) = refl

pub against-covers : (c d : Clause) (o : Option Entry) → Covers c d → Covers d c → is_against c o ≡ is_against d o
against-covers c d None to from = refl
against-covers c d (Some e) to from = both (has c (negated e.lit)) (has d (negated e.lit)) (to (negated e.lit)) (from (negated e.lit))

-- a literal that is left is false
pub left-false : (P : List Literal) (c : Clause) (l x : Literal) (i : ℕ) → is_false P (without c l) ≡ true → i < length c → x ≡ get_or c i x → same x l ≡ false → has P (negated x) ≡ true
left-false P c l x i false_clause inside at other =
    Refutes-from_is_false P (without c l) false_clause x
    (has-without c l x (subst (λ (k : Literal). has c k ≡ true) (sym at) (list_any_at (same (get_or c i x)) c i x inside (same-refl (get_or c i x)))) (same-sym-false x l other))

-- numbers in order, each once
pub sorted-once : (xs ys zs : List ℕ) (q : ℕ) → IsPermutation xs ys → zs ≡ dedup nat_eq ys → is_one_of zs q ≡ is_one_of xs q
sorted-once xs ys zs q permuted is =
    ap (λ (ns : List ℕ). is_one_of ns q) is ∙ (both (is_one_of (dedup nat_eq ys) q) (is_one_of ys q) to from ∙ sym (list_any-IsPermutation (nat_eq q) xs ys permuted))
  where
    among : (ns : List ℕ) → is_one_of ns q ≡ true → Contains ns q
    among ns h = Contains-from_any (λ x y e. eqb-true x y e) q ns h

    there : (ns : List ℕ) → Contains ns q → is_one_of ns q ≡ true
    there ns h = list_any_at (nat_eq q) ns h.0 q h.1 (eq-eqb q (get_or ns h.0 q) (sym h.2))

    to : is_one_of (dedup nat_eq ys) q ≡ true → is_one_of ys q ≡ true
    to h = there ys (Contains-from_dedup nat_eq ys q (among (dedup nat_eq ys) h))

    from : is_one_of ys q ≡ true → is_one_of (dedup nat_eq ys) q ≡ true
    from h = there (dedup nat_eq ys) (Contains-dedup_nat ys q (among ys h))

-- where no entry makes one of its literals false but l, a reason has no other literal
pub none-narrow : (K : List Clause) (T : Trail) (l : Literal) (n : ℕ) → IsReason K (literals T) l n → ((q : ℕ) → is_against (without (clause_at K n) l) (slice_get T q) ≡ false) → has_two (clause_at K n) ≡ false
none-narrow K T l n reason none = false_unless (has_two (clause_at K n)) (λ t. has_two-other (clause_at K n) l t reason.holds only)
  where
    only : (k : Literal) → has (clause_at K n) k ≡ true → k ≡ l
    only k h = elim (one_or_other l k) [ inl e ↦ sym e | inr o ↦ absurd (met k (has-without (clause_at K n) l k h o)) ]
      where
        met : (k : Literal) → has (without (clause_at K n) l) k ≡ true → ⊥
        met k h =
            let p = placed T (length T) (negated k) (subst (λ (U : Trail). has (literals U) (negated k) ≡ true) (sym (take_all (length T) T (omega arith))) (Refutes-from_is_false (literals T) (without (clause_at K n) l) reason.others k h)) in
            true_false (is_against (without (clause_at K n) l) (slice_get T p.place))
            (ap (is_against (without (clause_at K n) l)) p.at ∙ subst (λ (x : Literal). has (without (clause_at K n) l) x ≡ true) (sym (ap negated p.is ∙ negated-negated k)) h) (none p.place)

pub met-wide : (K : List Clause) (T : Trail) (l : Literal) (n p : ℕ) → IsReason K (literals T) l n → is_against (without (clause_at K n) l) (slice_get T p) ≡ true → has_two (clause_at K n) ≡ true
met-wide K T l n p reason met = go (slice_get T p) met (has_two (clause_at K n)) refl
  where
    go : (o : Option Entry) → is_against (without (clause_at K n) l) o ≡ true → (b : Bool) → has_two (clause_at K n) ≡ b → b ≡ true
    go o h true e = refl
    go None h false e = absurd (cc)
    go (Some f) h false e =
        let other = has-from_without (clause_at K n) l (negated f.lit) h in
        absurd (other-same l (negated f.lit) other.1 (has_two-one (clause_at K n) l (negated f.lit) e reason.holds other.0))

-- the place of the entry that makes a literal false is put behind the others
pub place-put : (K : List Clause) (T : Trail) (v p : ℕ) (l : Literal) (before after : List ℕ) (q : ℕ) → IsLawful K T → has (literals T) (negated l) ≡ true → v ≡ l.var → slice_get T p ≡ entry_of T v → after ≡ before ++ p ∷ []
    → is_one_of after q ≡ is_one_of before q || is_against (l ∷ []) (slice_get T q)
place-put K T v p l before after q lawful there var found is =
    let f = place-found K T (length T) p l lawful (subst (λ (U : Trail). has (literals U) (negated l) ≡ true) (sym (take_all (length T) T (omega arith))) there) (found ∙ ap (entry_of T) var) in
    ap (λ (ns : List ℕ). is_one_of ns q) is ∙ (one-more before p q ∙ ap (λ b. is_one_of before q || b) (against-one K T p f.0 l q lawful f.1 f.2))

-- there is such an entry
pub place-there : (K : List Clause) (T : Trail) (v : ℕ) (l : Literal) → IsLawful K T → has (literals T) (negated l) ≡ true → v ≡ l.var → entry_of T v ≡ None → ⊥
place-there K T v l lawful there var none =
    let f = entry_of-false K T (length T) l lawful (subst (λ (U : Trail). has (literals U) (negated l) ≡ true) (sym (take_all (length T) T (omega arith))) there) in
    let clash : None ≡ Some f.0 = sym none ∙ (ap (entry_of T) var ∙ f.1) in
    cc

-- the reason of one place more
pub reasons-next : (T : Trail) (places : List ℕ) (i p : ℕ) → i < length places → p ≡ get_or places i p → reasons_at T (take (i + 1) places) ≡ reasons_at T (take i places) ++ with_number (reason_at (slice_get T p)) []
reasons-next T places i p inside at = ap (reasons_at T) (take_more places i p inside) ∙ (behind (take i places) (get_or places i p) ∙ ap (λ n. reasons_at T (take i places) ++ with_number (reason_at (slice_get T n)) []) (sym at))
  where
    behind : (ps : List ℕ) (n : ℕ) → reasons_at T (ps ++ n ∷ []) ≡ reasons_at T ps ++ with_number (reason_at (slice_get T n)) []
    behind [] n = refl
    behind (x ∷ ps) n = ap (with_number (reason_at (slice_get T x))) (behind ps n) ∙ carried (reason_at (slice_get T x))
      where
        carried : (o : Option ℕ) → with_number o (reasons_at T ps ++ with_number (reason_at (slice_get T n)) []) ≡ with_number o (reasons_at T ps) ++ with_number (reason_at (slice_get T n)) []
        carried None = refl
        carried (Some m) = refl

-- a reason before a place is one on the whole trail
pub reason-whole : (K : List Clause) (T : Trail) (place : ℕ) (l : Literal) (n : ℕ) → IsReason K (literals (take place T)) l n → IsReason K (literals T) l n
reason-whole K T place l n r = record {
  numbered = r.numbered;
  holds = r.holds;
  others = is_false-from_Refutes (literals T) (without (clause_at K n) l) (λ k h. false-below T place k (Refutes-from_is_false (literals (take place T)) (without (clause_at K n) l) r.others k h));
}

-- The hints of a unit's line: the reasons at the places, and then its own.
pub hints-gathered : (k : State) (place : ℕ) (e : Entry) (n : ℕ) (places : List ℕ) → IsLawful k.clauses k.trail → slice_get k.trail place ≡ Some e → e.reason ≡ Some n → IsStrictlyIncreasing places
    → ((q : ℕ) → is_one_of places q ≡ is_against (without (clause_at k.clauses n) e.lit) (slice_get k.trail q)) → reasons_at k.trail places ++ n ∷ [] ≡ (unit_line k.clauses (take place k.trail) e.lit n).hints
hints-gathered k place e n places lawful at reason up are =
    ap (λ (ns : List ℕ). ns ++ n ∷ []) (reasons-gathered T c places up are ∙ reasons-before T c place (λ q low. behind q low (slice_get T q) refl))
  where
    K : List Clause
    K = k.clauses

    T : Trail
    T = k.trail

    c : Clause
    c = without (clause_at K n) e.lit

    behind : (q : ℕ) → place ≤ q → (o : Option Entry) → slice_get T q ≡ o → is_against c o ≡ false
    behind q low None is = refl
    behind q low (Some f) is = false_unless (has c (negated f.lit)) (λ t. earlier (placed T place f.lit (before t)))
      where
        before : has c (negated f.lit) ≡ true → has (literals (take place T)) f.lit ≡ true
        before t = subst (λ (x : Literal). has (literals (take place T)) x ≡ true) (negated-negated f.lit)
            (Refutes-from_is_false (literals (take place T)) c (entry-reason k place e n lawful at reason).others (negated f.lit) t)

        earlier : Placed T place f.lit → ⊥
        earlier p =
            let one = places-distinct K T p.place q p.entry f lawful p.at is (ap (λ (x : Literal). x.var) p.is) in
            let less = p.below in
            omega (arith, one, less, low)

-- the places that a loop over the clause's literals puts
pub places-first : (b : Bool) (c : Clause) (l : Literal) (T : Trail) (p : ℕ) → b ≡ b || is_against (without (take 0 c) l) (slice_get T p)
places-first b c l T p = go b (slice_get T p)
  where
    go : (b : Bool) (o : Option Entry) → b ≡ b || is_against [] o
    go true o = refl
    go false o = sym (against-none o)

-- in order, and for the clause as it was given
pub places-arranged : (c d : Clause) (l : Literal) (T : Trail) (xs ys zs : List ℕ) (p : ℕ) → IsPermutation c d → ((q : ℕ) → is_one_of xs q ≡ is_against (without d l) (slice_get T q)) → IsPermutation xs ys → zs ≡ dedup nat_eq ys
    → is_one_of zs p ≡ is_against (without c l) (slice_get T p)
places-arranged c d l T xs ys zs p arranged are sorted once =
    sorted-once xs ys zs p sorted once
    ∙ (are p ∙ against-covers (without d l) (without c l) (slice_get T p) (without-covers d c l (covered c d arranged)) (without-covers c d l (covers c d arranged)))

-- such a place is on the trail
pub against-inside : (c : Clause) (T : Trail) (p : ℕ) → is_against c (slice_get T p) ≡ true → p < length T
against-inside c T p h = go (slice_get T p) refl h
  where
    go : (o : Option Entry) → slice_get T p ≡ o → is_against c o ≡ true → p < length T
    go None is h = absurd (cc)
    go (Some e) is h = placed-inside T p e is

module _ (k : State) (place : ℕ) (e : Entry) (n : ℕ) (places : List ℕ) (lawful : IsLawful k.clauses k.trail) (at : slice_get k.trail place ≡ Some e) (reason : e.reason ≡ Some n)
    (are : (q : ℕ) → is_one_of places q ≡ is_against (without (clause_at k.clauses n) e.lit) (slice_get k.trail q)) where
  whole : IsReason k.clauses (literals k.trail) e.lit n
  whole = reason-whole k.clauses k.trail place e.lit n (entry-reason k place e n lawful at reason)

  -- a reason without other literals
  pub empty-narrow : places ≡ [] → wide_reason k.clauses e.reason ≡ None
  empty-narrow none =
      ap (wide_reason k.clauses) reason
      ∙ ap (λ b. if b then Some n else None) (none-narrow k.clauses k.trail e.lit n whole (λ q. sym (are q) ∙ ap (λ (ns : List ℕ). is_one_of ns q) none))

  -- and one with others
  pub filled-wide : (places ≡ [] → ⊥) → wide_reason k.clauses e.reason ≡ Some n
  filled-wide some = ap (wide_reason k.clauses) reason ∙ ap (λ b. if b then Some n else None) (go places refl)
    where
      go : (ps : List ℕ) → places ≡ ps → has_two (clause_at k.clauses n) ≡ true
      go [] is = absurd (some is)
      go (p ∷ ps) is = met-wide k.clauses k.trail e.lit n p whole (sym (are p) ∙ (ap (λ (ns : List ℕ). is_one_of ns p) is ∙ or-left (nat_eq p p) (is_one_of ps p) (eq-eqb p p refl)))

pub no-places : (places : List ℕ) → length places ≡ 0 → places ≡ []
no-places [] h = refl
no-places (p ∷ places) h = absurd (omega (arith, h))

-- the reason that is read at one place more
pub reasons-read : (T A : Trail) (places : List ℕ) (i d : ℕ) (r : Entry) (o : Option ℕ) → A ≡ T → i < length places → All (λ p. p < length T) places → r ≡ get_or A (get_or places i d) r → r.reason ≡ o
    → reasons_at T (take (i + 1) places) ≡ reasons_at T (take i places) ++ with_number o []
reasons-read T A places i d r o lent inside all is reason =
    let p = get_or places i d in
    let there = placed-there T p (all i d inside) in
    let one = entry-read T A p r there.0 lent is there.1 in
    reasons-next T places i p inside (get_or_default places i d p inside)
    ∙ ap (λ n. reasons_at T (take i places) ++ with_number n []) (ap reason_at there.1 ∙ (sym (ap (λ (e : Entry). e.reason) one) ∙ reason))
