-- The places of removable literals wait, beside those of level 0.
use Rattle.std.proofs.Common.{◌≡◌, ℕ, suc, ◌+◌, ◌<◌, ◌≤◌, Bool, true, false, ◌&&◌, ◌||◌, List, [], ◌∷◌, ◌++◌, length, take, drop, slice_get, slice_index_or, get_or, Option, Some, None, refl, ap, sym, ◌∙◌, cond, nat_eq, nat_lt, eqb-true, eq-eqb, inl, inr, arith, count_by, IsPermutation}
use Rattle.std.proofs.Math.Seq.{split_at}
use Rattle.std.proofs.lemmas.List.Folds.{list_any-append}
use Rattle.std.proofs.lemmas.List.Sums.{sum_by-append}
use Rattle.cdcl.proofs.NumberSets.{one-counted, count-cons}
use Rattle.theory.specs.Literals.{Clause, negated, has, has_var}
use Rattle.theory.specs.Trails.{Trail, Entry, literals, entry_of, current_level}
use Rattle.theory.specs.Lawful.{IsLawful}
use Rattle.theory.specs.Truth.{IsOver}
use Rattle.theory.proofs.literals.OverVariables.{AreOver-from_IsOver}
use Rattle.theory.proofs.literals.LiteralLemmas.{and-right, or-cases, or-left}
use Rattle.theory.proofs.literals.LiteralSets.{true_false, false_unless, and-true, literal_of_var, has_var-has}
use Rattle.kernel.specs.State.{State}
use Rattle.cdcl.specs.declared.analysis.marks.Marks.{Marks}
use Rattle.cdcl.specs.declared.analysis.minimize.Minimizer.{Minimizer}
use Rattle.cdcl.specs.Marks.{IsSet, IsMarked, is_open, latest_from}
use Rattle.cdcl.specs.Numbers.{is_one_of, StandOnce}
use Rattle.cdcl.specs.Removing.{removable_of, IsBetween, IsKnown, KnowsAll, is_awaited, WaitsFor}
use Rattle.cdcl.proofs.PlaceLemmas.{placed-there, places-distinct, entry_of-placed}
use Rattle.cdcl.proofs.TrailValues.{entry_of-there}
use Rattle.cdcl.proofs.Pending.{times, times-pushed, lt-true}
use Rattle.cdcl.proofs.CurrentWalks.{low-place}
use Rattle.cdcl.proofs.RemovableLiterals.{removable-from, var-removable}
use Rattle.cdcl.proofs.QuestionLemmas.{removable-between}

-- an entry that is awaited is the variable's
awaited-var : (marked : List Bool) (v : ℕ) (d : Entry) → is_awaited marked (v ∷ []) (Some d) ≡ true → d.lit.var ≡ v
awaited-var marked v d h = elim (or-cases (nat_eq d.lit.var v) false (and-right (slice_index_or marked d.lit.var false) (nat_eq d.lit.var v || false) h)) [ inl e ↦ eqb-true d.lit.var v e | inr z ↦ absurd (cc) ]

pub awaited-found : (K : List Clause) (T : Trail) (marked : List Bool) (v place q : ℕ) → IsLawful K T → slice_get T place ≡ entry_of T v → place < length T → slice_index_or marked v false ≡ true
    → is_awaited marked (v ∷ []) (slice_get T q) ≡ nat_eq place q
awaited-found K T marked v place q lawful found inside m = go (nat_eq place q) refl (slice_get T q) refl
  where
    at : (e : Entry) × (slice_get T place ≡ Some e)
    at = placed-there T place inside

    is_var : at.0.lit.var ≡ v
    is_var = (entry_of-there T v at.0 (sym found ∙ at.1)).0

    go : (b : Bool) → nat_eq place q ≡ b → (o : Option Entry) → slice_get T q ≡ o → is_awaited marked (v ∷ []) o ≡ b
    go true i None h = (let same : None ≡ Some at.0 = sym h ∙ (ap (slice_get T) (sym (eqb-true place q i)) ∙ at.1) in absurd (cc))
    go true i (Some d) h =
        let same : Some d ≡ Some at.0 = sym h ∙ (ap (slice_get T) (sym (eqb-true place q i)) ∙ at.1) in
        let one : d.lit.var ≡ v = (let e : d ≡ at.0 = cc in ap (λ (x : Entry). x.lit.var) e) ∙ is_var in
        and-true (slice_index_or marked d.lit.var false) (nat_eq d.lit.var v || false) (ap (λ x. slice_index_or marked x false) one ∙ m) (or-left (nat_eq d.lit.var v) false (eq-eqb d.lit.var v one))
    go false i None h = refl
    go false i (Some d) h = false_unless (is_awaited marked (v ∷ []) (Some d)) (λ t. (
        let var : at.0.lit.var ≡ d.lit.var = is_var ∙ sym (awaited-var marked v d t) in
        let same = places-distinct K T place q at.0 d lawful at.1 h var in
        true_false (nat_eq place q) (eq-eqb place q same) i))

pub awaited-free : (K : List Clause) (T : Trail) (marked : List Bool) (v q : ℕ) → IsLawful K T → entry_of T v ≡ None → is_awaited marked (v ∷ []) (slice_get T q) ≡ false
awaited-free K T marked v q lawful free = go (slice_get T q) refl
  where
    go : (o : Option Entry) → slice_get T q ≡ o → is_awaited marked (v ∷ []) o ≡ false
    go None h = refl
    go (Some d) h = false_unless (is_awaited marked (v ∷ []) (Some d)) (λ t. (
        let there = entry_of-placed K T q d lawful h in
        let clash : None ≡ Some d = sym free ∙ (ap (entry_of T) (sym (awaited-var marked v d t)) ∙ there) in
        absurd (cc)))

pub WaitsFor-found : (K : List Clause) (T : Trail) (marked : List Bool) (v place : ℕ) (old new : List ℕ) → IsLawful K T → slice_get T place ≡ entry_of T v → place < length T → slice_index_or marked v false ≡ true
    → IsPermutation (place ∷ old) new → WaitsFor T marked v old new
WaitsFor-found K T marked v place old new lawful found inside m moved q = times-pushed q place old new moved ∙ ap (λ b. cond b 1 0 + times q old) (sym (awaited-found K T marked v place q lawful found inside m))

pub WaitsFor-free : (K : List Clause) (T : Trail) (marked : List Bool) (v : ℕ) (places : List ℕ) → IsLawful K T → entry_of T v ≡ None → WaitsFor T marked v places places
WaitsFor-free K T marked v places lawful free q = rw (awaited-free K T marked v q lawful free) (omega arith)

-- the places of the variables so far wait
abbrev pub WaitFor : Trail → List Bool → List ℕ → List ℕ → List ℕ → Type 0
WaitFor T marked vars old new = (q : ℕ) → times q new ≡ cond (is_awaited marked vars (slice_get T q)) 1 0 + times q old

-- one variable more, which isn't among those before
pub WaitFor-more : (T : Trail) (marked : List Bool) (vars : List ℕ) (v : ℕ) (old between new : List ℕ) → is_one_of vars v ≡ false → WaitFor T marked vars old between → WaitsFor T marked v between new
    → WaitFor T marked (vars ++ v ∷ []) old new
WaitFor-more T marked vars v old between new fresh h g q = g q ∙ (ap (λ n. cond (is_awaited marked (v ∷ []) (slice_get T q)) 1 0 + n) (h q) ∙ go (slice_get T q))
  where
    go : (o : Option Entry) → cond (is_awaited marked (v ∷ []) o) 1 0 + (cond (is_awaited marked vars o) 1 0 + times q old) ≡ cond (is_awaited marked (vars ++ v ∷ []) o) 1 0 + times q old
    go None = omega arith
    go (Some d) = rw (list_any-append (nat_eq d.lit.var) vars (v ∷ [])) (each (slice_index_or marked d.lit.var false) (nat_eq d.lit.var v) (is_one_of vars d.lit.var) (λ e. ap (is_one_of vars) (eqb-true d.lit.var v e) ∙ fresh))
      where
        each : (m e i : Bool) → (e ≡ true → i ≡ false) → cond (m && (e || false)) 1 0 + (cond (m && i) 1 0 + times q old) ≡ cond (m && (i || (e || false))) 1 0 + times q old
        each false e i none = omega arith
        each true true true none = absurd (let clash : true ≡ false = none refl in cc)
        each true true false none = omega arith
        each true false true none = omega arith
        each true false false none = omega arith

-- a number of a list whose numbers stand once isn't among those before it
pub once-fresh : (xs : List ℕ) (i d : ℕ) → StandOnce xs → i < length xs → is_one_of (take i xs) (get_or xs i d) ≡ false
once-fresh xs i d once less = false_unless (is_one_of (take i xs) (get_or xs i d)) (λ t. (
    let v = get_or xs i d in
    let one = once v in
    let parts = ap (count_by (nat_eq v)) (split_at xs i d less) ∙ sum_by-append (λ x. cond (nat_eq v x) 1 0) (take i xs) (v ∷ drop (suc i) xs) in
    let first = one-counted v (take i xs) t in
    let more = count-cons (nat_eq v) v (drop (suc i) xs) in
    let here : ◌≡◌ {A = ℕ} (cond (nat_eq v v) 1 0) 1 = ap (λ b. cond b 1 0) (eq-eqb v v refl) in
    omega (arith, one, parts, first, more, here)))

-- a variable of the set is removable where it is known to be
knows-removable : (k : State) (S : Clause) (marked : List Bool) (n : ℕ) (a : Minimizer) (d : Entry) → IsLawful k.clauses k.trail → IsMarked k S marked n → IsKnown k S a → KnowsAll k S a
    → entry_of k.trail d.lit.var ≡ Some d → has_var S d.lit.var ≡ true → has_var (removable_of k S) d.lit.var ≡ is_one_of a.removable.numbers d.lit.var
knows-removable k S marked n a d lawful m known all there is_in = go (is_one_of a.removable.numbers d.lit.var) refl
  where
    go : (b : Bool) → is_one_of a.removable.numbers d.lit.var ≡ b → has_var (removable_of k S) d.lit.var ≡ b
    go true e = known.removable d.lit.var e
    go false e = false_unless (has_var (removable_of k S) d.lit.var) (λ t. (
        let r = removable-between k S d.lit.var d lawful there t in
        let between : IsBetween k d.lit.var = record { entry = d; there = there; above = r.above; lower = r.lower; number = r.number; reason = r.reason } in
        elim (or-cases (is_one_of a.removable.numbers d.lit.var) (is_one_of a.kept.numbers d.lit.var) (all d.lit.var is_in between)) [
          | inl x ↦ true_false (is_one_of a.removable.numbers d.lit.var) x e
          | inr x ↦ true_false (has_var (removable_of k S) d.lit.var) t (known.kept d.lit.var x)
        ]))

-- so all places wait where the set is resolved below the current level
pub IsSet-awaited : (k : State) (S : Clause) (a : Minimizer) (old new : Marks) → IsLawful k.clauses k.trail → 1 ≤ current_level k.trail → IsSet k [] S (latest_from k.trail) old → IsKnown k S a → KnowsAll k S a
    → new.marked ≡ old.marked → new.current ≡ old.current → new.seen ≡ old.seen → WaitFor k.trail old.marked.items a.removable.numbers old.pending new.pending → IsSet k (removable_of k S) S (latest_from k.trail) new
IsSet-awaited k S a old new lawful above h known all marked current seen waits = record {
  is = rw (marked, current) h.is;
  seen = rw seen h.seen;
  pending = λ q. waits q ∙ (ap (λ n. cond (is_awaited old.marked.items a.removable.numbers (slice_get k.trail q)) 1 0 + n) (h.pending q) ∙ entry q (slice_get k.trail q) refl);
}
  where
    entry : (q : ℕ) (o : Option Entry) → slice_get k.trail q ≡ o
        → cond (is_awaited old.marked.items a.removable.numbers o) 1 0 + cond (nat_lt q (latest_from k.trail) && is_open k.trail [] S o) 1 0
        ≡ cond (nat_lt q (latest_from k.trail) && is_open k.trail (removable_of k S) S o) 1 0
    entry q None e = omega arith
    entry q (Some d) e = cases (has_var S d.lit.var) refl
      where
        there : entry_of k.trail d.lit.var ≡ Some d
        there = entry_of-placed k.clauses k.trail q d lawful e

        low : Bool
        low = nat_lt q (latest_from k.trail)

        level : Bool
        level = nat_eq d.level 0

        last : Bool
        last = nat_eq d.level (current_level k.trail)

        removed : has_var S d.lit.var ≡ true → (b : Bool) → is_one_of a.removable.numbers d.lit.var ≡ b
            → cond b 1 0 + cond (low && (level || last)) 1 0 ≡ cond (low && (level || ((has (removable_of k S) (negated d.lit) && nat_lt d.level (current_level k.trail)) || last))) 1 0
        removed s true i =
            let r = known.removable d.lit.var i in
            let by = removable-between k S d.lit.var d lawful there r in
            let positive = by.above in
            let lower = by.lower in
            let zeroth : nat_eq d.level 0 ≡ false = false_unless (nat_eq d.level 0) (λ t. (let z = eqb-true d.level 0 t in omega (arith, z, positive))) in
            let latest : nat_eq d.level (current_level k.trail) ≡ false = false_unless (nat_eq d.level (current_level k.trail)) (λ t. (let z = eqb-true d.level (current_level k.trail) t in omega (arith, z, lower))) in
            let it = var-removable k.clauses k.trail S d lawful (entry_of-there k.trail d.lit.var d there).1 r in
            rw (zeroth, latest, it, lt-true d.level (current_level k.trail) lower, lt-true q (latest_from k.trail) (low-place k q d lawful above e lower)) (omega arith)
        removed s false i =
            let not_var = knows-removable k S old.marked.items old.current a d lawful h.is known all there s ∙ i in
            let not_it : has (removable_of k S) (negated d.lit) ≡ false = false_unless (has (removable_of k S) (negated d.lit)) (λ t. true_false (has_var (removable_of k S) d.lit.var) (has_var-has (removable_of k S) (negated d.lit) t) not_var) in
            rw not_it (omega arith)

        cases : (b : Bool) → has_var S d.lit.var ≡ b
            → cond (slice_index_or old.marked.items d.lit.var false && is_one_of a.removable.numbers d.lit.var) 1 0 + cond (low && (b && (level || last))) 1 0
            ≡ cond (low && (b && (level || ((has (removable_of k S) (negated d.lit) && nat_lt d.level (current_level k.trail)) || last)))) 1 0
        cases false s = rw (h.is.marks d.lit.var ∙ s) (none low)
          where
            none : (b : Bool) → 0 + cond (b && false) 1 0 ≡ cond (b && false) 1 0
            none true = omega arith
            none false = omega arith
        cases true s = rw (h.is.marks d.lit.var ∙ s) (removed s (is_one_of a.removable.numbers d.lit.var) refl)

-- what is known to be removable is one of the variables
pub known-variable : (k : State) (S : Clause) (a : Minimizer) (v : ℕ) → IsOver k.vars (literals k.trail) → IsKnown k S a → is_one_of a.removable.numbers v ≡ true → v ≤ k.vars
known-variable k S a v over known t =
    let m = literal_of_var (removable_of k S) v (known.removable v t) in
    elim (removable-from k.clauses k.trail S k.trail [] m.0 m.1) [
      | inl z ↦ absurd (cc)
      | inr there ↦ (let most = (AreOver-from_IsOver k.vars (literals k.trail) over (negated m.0) there).1 in let is = m.2 in omega (arith, most, is))
    ]
