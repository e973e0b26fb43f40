-- The variables of a set, looked at in rising order among those that were seen.
use Rattle.std.proofs.Common.{◌≡◌, ℕ, zero, suc, ◌+◌, ◌-◌, ◌<◌, ◌≤◌, Bool, true, false, ◌||◌, add-one, List, [], ◌∷◌, ◌++◌, length, filter, get_or, slice_set, slice_index_or, refl, ap, sym, subst, ◌∙◌, nat_eq, eqb-true, eq-eqb, nat_lt, ltb-true, ltb-false, inl, inr, arith}
use Rattle.std.specs.List.{list_any}
use Rattle.std.specs.List.Sorted.{IsNonDecreasing}
use Rattle.std.proofs.lemmas.List.{get_or-drop}
use Rattle.std.proofs.lemmas.List.Elements.{All-filter}
use Rattle.std.proofs.lemmas.List.Filters.{FiltersInPlace}
use Rattle.std.proofs.lemmas.Map.Views.{any-filter_same}
use Rattle.theory.specs.Literals.{Clause, has_var}
use Rattle.theory.specs.Trails.{entry_of}
use Rattle.theory.specs.Lawful.{IsLawful}
use Rattle.theory.proofs.literals.LiteralLemmas.{true_or_false}
use Rattle.theory.proofs.literals.LiteralSets.{true_false, false_unless}
use Rattle.kernel.specs.State.{State}
use Rattle.cdcl.specs.Marks.{IsMarked, AreSeen, negation_of}
use Rattle.cdcl.proofs.TakenClauses.{IsTaken, IsTaken-more, IsTaken-skip}

-- the variable before the place i, or 0 at the first
abbrev pub last_of : List ℕ → ℕ → ℕ
last_of seen i = get_or (0 ∷ seen) i 0

pub last-next : (seen : List ℕ) (i : ℕ) → last_of seen (i + 1) ≡ get_or seen i 0
last-next seen i = rw add-one refl

-- a variable that is among them has a place
place-of : (v : ℕ) (seen : List ℕ) → list_any (λ w. nat_eq w v) seen ≡ true → (i : ℕ) × (i < length seen) × (get_or seen i 0 ≡ v)
place-of v [] h = absurd (cc)
place-of v (w ∷ seen) h = go (nat_eq w v) refl h (place-of v seen)
  where
    go : (b : Bool) → nat_eq w v ≡ b → b || list_any (λ w. nat_eq w v) seen ≡ true
        → (list_any (λ w. nat_eq w v) seen ≡ true → (i : ℕ) × (i < length seen) × (get_or seen i 0 ≡ v)) → (i : ℕ) × (i < length (w ∷ seen)) × (get_or (w ∷ seen) i 0 ≡ v)
    go true e k more = (0, (let less : 0 < length (w ∷ seen) = omega arith in less), eqb-true w v e)
    go false e k more = let m = more k in (suc m.0, (let inside = m.1 in let less : suc m.0 < length (w ∷ seen) = omega arith in less), m.2)

-- no variable of the set is between two that follow one another, or behind the last
pub none-between : (vars : ℕ) (S : Clause) (seen : List ℕ) (i v : ℕ) → AreSeen vars S seen → IsNonDecreasing seen → i ≤ length seen → last_of seen i < v
    → (i < length seen → v < get_or seen i 0) → has_var S v ≡ false
none-between vars S seen i v h sorted within low high = false_unless (has_var S v) (λ a. clash (place-of v seen (h.all v a)))
  where
    before : (i b : ℕ) → last_of seen i < v → b < i → i ≤ length seen → get_or seen b 0 ≡ v → ⊥
    before zero b l less inside is = absurd (omega (arith, less))
    before (suc i) b l less inside is =
        let up = sorted b i 0 (omega (arith, less)) (omega (arith, inside)) in
        absurd (omega (arith, up, l, is))

    beyond : (b : ℕ) → i ≤ b → b < length seen → get_or seen b 0 ≡ v → ⊥
    beyond b most inside is =
        let more = sorted i b 0 most inside in
        let above = high (omega (arith, most, inside)) in
        absurd (omega (arith, more, above, is))

    clash : (b : ℕ) × (b < length seen) × (get_or seen b 0 ≡ v) → ⊥
    clash (b, inside, is) = elim (true_or_false (nat_lt b i)) [
      | inl e ↦ before i b low (ltb-true b i e) within is
      | inr e ↦ beyond b (ltb-false b i e) inside is
    ]

-- the next variable is no less than the one before
next-up : (seen : List ℕ) (i : ℕ) → IsNonDecreasing seen → i < length seen → last_of seen i ≤ get_or seen i 0
next-up seen zero sorted inside = omega arith
next-up seen (suc i) sorted inside = sorted i (suc i) 0 (omega arith) inside

-- a variable that is still marked is taken
pub IsTaken-found : (k : State) (S : Clause) (marked now after : List Bool) (n i var : ℕ) (seen : List ℕ) (clause more : Clause) → IsLawful k.clauses k.trail → IsMarked k S marked n
    → AreSeen k.vars S seen → IsNonDecreasing seen → i < length seen → var ≡ get_or seen i 0 → IsTaken k S (last_of seen i) now clause
    → slice_index_or now var false ≡ true → var < length now → after ≡ slice_set now var false → more ≡ clause ++ negation_of (entry_of k.trail var)
    → IsTaken k S (last_of seen (i + 1)) after more
IsTaken-found k S marked now after n i var seen clause more lawful h all sorted inside is t mark there set push =
    let up : last_of seen i < var = elim (true_or_false (nat_lt (last_of seen i) var)) [
      | inl e ↦ ltb-true (last_of seen i) var e
      | inr e ↦ true_false (slice_index_or now var false) mark (t.before var (ltb-false (last_of seen i) var e))
    ] in
    let one : (var - 1) + 1 ≡ var = omega arith in
    let gap : var - 1 ≡ (var - 1 - last_of seen i) + last_of seen i = omega arith in
    let near = IsTaken-skip k S now (var - 1 - last_of seen i) (last_of seen i) (var - 1) clause gap t
    (λ v low high. none-between k.vars S seen i v all sorted (omega (arith, inside)) low (λ _. omega (arith, high, is, up))) in
    let here = IsTaken-more k S marked now after n (var - 1) clause more lawful h near (rw one mark) (rw one there) (rw one set) (rw one push) in
    rw last-next (subst (λ j. IsTaken k S j after more) (one ∙ is) here)

-- a variable that isn't is passed over
pub IsTaken-gone : (k : State) (S : Clause) (now : List Bool) (i var : ℕ) (seen : List ℕ) (clause : Clause) → AreSeen k.vars S seen → IsNonDecreasing seen → i < length seen
    → var ≡ get_or seen i 0 → IsTaken k S (last_of seen i) now clause → slice_index_or now var false ≡ false → IsTaken k S (last_of seen (i + 1)) now clause
IsTaken-gone k S now i var seen clause all sorted inside is t mark =
    let up = next-up seen i sorted inside in
    let gap : var ≡ (var - last_of seen i) + last_of seen i = omega arith in
    rw last-next (subst (λ j. IsTaken k S j now clause) is
    (IsTaken-skip k S now (var - last_of seen i) (last_of seen i) var clause gap t (λ v low high. none v low high (nat_eq v var) refl)))
  where
    none : (v : ℕ) → last_of seen i < v → v ≤ var → (b : Bool) → nat_eq v var ≡ b → has_var S v ≡ false
    none v low high true e =
        let same = eqb-true v var e in
        sym (t.left v low) ∙ (ap (λ w. slice_index_or now w false) same ∙ mark)
    none v low high false e =
        let other : ¬ (v ≡ var) = λ same. true_false (nat_eq v var) (eq-eqb v var same) e in
        none-between k.vars S seen i v all sorted (omega (arith, inside)) low (λ _. omega (arith, high, is, other))

-- behind the last one there is none
pub none-beyond : (vars : ℕ) (S : Clause) (seen : List ℕ) (i : ℕ) → AreSeen vars S seen → IsNonDecreasing seen → i ≡ length seen → (v : ℕ) → last_of seen i < v → has_var S v ≡ false
none-beyond vars S seen i h sorted end v low = none-between vars S seen i v h sorted (omega arith) low (λ inside. absurd (omega (arith, inside, end)))

-- what isn't filtered yet is as it was
pub unfiltered : (p : ℕ → Bool) (xs ys : List ℕ) (k i d : ℕ) → FiltersInPlace p xs ys k i → get_or ys i d ≡ get_or xs i d
unfiltered p xs ys k i d h =
    let same : i + 0 ≡ i = omega arith in
    ap (λ j. get_or ys j d) (sym same) ∙ (sym (get_or-drop i ys 0 d) ∙ (ap (λ (l : List ℕ). get_or l 0 d) h.rest ∙ (get_or-drop i xs 0 d ∙ ap (λ j. get_or xs j d) same)))

-- those that are marked are enough
pub AreSeen-marked : (k : State) (S : Clause) (marked : List Bool) (n : ℕ) (seen kept : List ℕ) → IsMarked k S marked n → kept ≡ filter (λ v. slice_index_or marked v false) seen
    → AreSeen k.vars S seen → AreSeen k.vars S kept
AreSeen-marked k S marked n seen kept m is h = record {
  within = rw is (All-filter (λ v. slice_index_or marked v false) (λ v. v ≤ k.vars) seen h.within);
  all = λ v a. rw is (there v a);
}
  where
    there : (v : ℕ) → has_var S v ≡ true → list_any (λ w. nat_eq w v) (filter (λ w. slice_index_or marked w false) seen) ≡ true
    there v a =
        any-filter_same (λ w. nat_eq w v) (λ w. slice_index_or marked w false) true (λ w e. ap (λ x. slice_index_or marked x false) (eqb-true w v e) ∙ (m.marks v ∙ a)) seen ∙ h.all v a
