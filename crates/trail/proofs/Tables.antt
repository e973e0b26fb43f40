-- The tables by literal and by variable: one entry more, and the entries behind a place taken off.
use Rattle.std.proofs.Common.{◌≡◌, ◌≢◌, ℕ, zero, suc, ◌+◌, ◌-◌, ◌*◌, ◌<◌, ◌≤◌, Bool, true, false, not, ◌||◌, List, [], ◌∷◌, ◌++◌, length, take, get_or, Option, Some, None, option_map, is_some, cond, nat_eq, eqb-true, eq-eqb, refl, ap, sym, subst, ◌∙◌, inl, inr, arith, slice_get, slice_set}
use Rattle.std.proofs.lemmas.List.{get_or_default, get_or-set_same, get_or-set_other, length-set, map-append, take_more}
use Rattle.std.proofs.lemmas.Grind.{get_or_default_zero}
use Rattle.std.proofs.lemmas.Option.{slice_get-get_or}
use Rattle.theory.specs.Literals.{Literal, same_sign, has_var, negated, IsVariable, are_distinct}
use Rattle.theory.specs.Trails.{Entry, Trail, literals, entry_of}
use Rattle.theory.proofs.literals.LiteralLemmas.{and-left, and-right, not_true, or-right, true_or_false}
use Rattle.theory.proofs.literals.LiteralSets.{true_false, false_unless, or-false_left, or-false_right, or-none, has_var-append_right}
use Rattle.cnf.specs.Lits.{code}
use Rattle.trail.specs.declared.truth.Truth.{Truth}
use Rattle.trail.specs.declared.truth.Truth.TheVariants.{Unassigned, Satisfied, Falsified}
use Rattle.trail.specs.Tables.{value_in, one_more, place_in, truth_of, with_truths, AreTables}

nat_eq-swap : (a b : ℕ) → nat_eq a b ≡ nat_eq b a
nat_eq-swap a b = elim (true_or_false (nat_eq a b)) [
  | inl e ↦ e ∙ sym (eq-eqb b a (sym (eqb-true a b e)))
  | inr n ↦ n ∙ sym (false_unless (nat_eq b a) (λ t. true_false (nat_eq a b) (eq-eqb a b (sym (eqb-true b a t))) n))
]

-- what a variable has is what its entry has
pub is_some-entry_of : (T : Trail) (v : ℕ) → is_some (entry_of T v) ≡ has_var (literals T) v
is_some-entry_of [] v = refl
is_some-entry_of (e ∷ T) v = rw (nat_eq-swap v e.lit.var) (go (nat_eq e.lit.var v) (is_some-entry_of T v))
  where
    go : (b : Bool) → is_some (entry_of T v) ≡ has_var (literals T) v → is_some (cond b (Some e) (entry_of T v)) ≡ b || has_var (literals T) v
    go true more = refl
    go false more = more

pub entry_of-none : (T : Trail) (v : ℕ) → has_var (literals T) v ≡ false → entry_of T v ≡ None
entry_of-none T v h = go (entry_of T v) (is_some-entry_of T v ∙ h)
  where
    go : (o : Option Entry) → is_some o ≡ false → o ≡ None
    go None e = refl
    go (Some x) e = absurd (cc)

pub place_in-none : (T : Trail) (v : ℕ) → has_var (literals T) v ≡ false → place_in T v ≡ 0
place_in-none [] v h = refl
place_in-none (e ∷ T) v h =
    let here : nat_eq e.lit.var v ≡ false = nat_eq-swap e.lit.var v ∙ or-false_left (nat_eq v e.lit.var) (has_var (literals T) v) h in
    rw (here, place_in) (ap one_more (place_in-none T v (or-false_right (nat_eq v e.lit.var) (has_var (literals T) v) h)))

-- entries of other variables behind change nothing
entry_of-front : (A B : Trail) (v : ℕ) → has_var (literals B) v ≡ false → entry_of (A ++ B) v ≡ entry_of A v
entry_of-front [] B v h = entry_of-none B v h
entry_of-front (e ∷ A) B v h = go (nat_eq e.lit.var v) (entry_of-front A B v h)
  where
    go : (b : Bool) → entry_of (A ++ B) v ≡ entry_of A v → cond b (Some e) (entry_of (A ++ B) v) ≡ cond b (Some e) (entry_of A v)
    go true more = refl
    go false more = more

place_in-front : (A B : Trail) (v : ℕ) → has_var (literals B) v ≡ false → place_in (A ++ B) v ≡ place_in A v
place_in-front [] B v h = place_in-none B v h
place_in-front (e ∷ A) B v h = go (nat_eq e.lit.var v) (place_in-front A B v h)
  where
    go : (b : Bool) → place_in (A ++ B) v ≡ place_in A v
        → ◌≡◌ {A = ℕ} (elim b [ true ↦ 1 | false ↦ one_more (place_in (A ++ B) v) ]) (elim b [ true ↦ 1 | false ↦ one_more (place_in A v) ])
    go true more = refl
    go false more = ap one_more more

-- the entry at the end
entry_of-last : (T : Trail) (e : Entry) → has_var (literals T) e.lit.var ≡ false → entry_of (T ++ e ∷ []) e.lit.var ≡ Some e
entry_of-last [] e h = let here : nat_eq e.lit.var e.lit.var ≡ true = eq-eqb e.lit.var e.lit.var refl in rw here refl
entry_of-last (f ∷ T) e h =
    let other : nat_eq f.lit.var e.lit.var ≡ false = nat_eq-swap f.lit.var e.lit.var ∙ or-false_left (nat_eq e.lit.var f.lit.var) (has_var (literals T) e.lit.var) h in
    rw other (entry_of-last T e (or-false_right (nat_eq e.lit.var f.lit.var) (has_var (literals T) e.lit.var) h))

place_in-last : (T : Trail) (e : Entry) → has_var (literals T) e.lit.var ≡ false → place_in (T ++ e ∷ []) e.lit.var ≡ length T + 1
place_in-last [] e h = let here : nat_eq e.lit.var e.lit.var ≡ true = eq-eqb e.lit.var e.lit.var refl in rw (here, place_in) (omega arith)
place_in-last (f ∷ T) e h =
    let other : nat_eq f.lit.var e.lit.var ≡ false = nat_eq-swap f.lit.var e.lit.var ∙ or-false_left (nat_eq e.lit.var f.lit.var) (has_var (literals T) e.lit.var) h in
    let rest : place_in (T ++ e ∷ []) e.lit.var ≡ length T + 1 = place_in-last T e (or-false_right (nat_eq e.lit.var f.lit.var) (has_var (literals T) e.lit.var) h) in
    let up : length T + 1 ≡ suc (length T) = omega arith in
    let down : suc (suc (length T)) ≡ suc (length T) + 1 = omega arith in
    rw (other, place_in) (ap one_more (rest ∙ up) ∙ down)

-- the entry of a place
pub place_in-entry : (T : Trail) (v n : ℕ) (d : Entry) → place_in T v ≡ n → 0 < n → (n ≤ length T) × (entry_of T v ≡ Some (get_or T (n - 1) d))
place_in-entry [] v n d h some = absurd (omega arith)
place_in-entry (e ∷ T) v n d h some = go (nat_eq e.lit.var v) (place_in T v) refl h (place_in-entry T v (place_in T v) d refl)
  where
    go : (b : Bool) (p : ℕ) → place_in T v ≡ p → ◌≡◌ {A = ℕ} (elim b [ true ↦ 1 | false ↦ one_more p ]) n → (0 < p → (p ≤ length T) × (entry_of T v ≡ Some (get_or T (p - 1) d)))
        → (n ≤ length (e ∷ T)) × (cond b (Some e) (entry_of T v) ≡ Some (get_or (e ∷ T) (n - 1) d))
    go true p q k more =
        let first : n - 1 ≡ 0 = omega arith in
        (omega arith, ap (λ i. Some (get_or (e ∷ T) i d)) (sym first))
    go false zero q k more = absurd (omega arith)
    go false (suc p) q k more =
        let rest = more (omega arith) in
        let long = rest.0 in
        let down : suc p - 1 ≡ p = omega arith in
        let place : n - 1 ≡ suc p = omega arith in
        (omega arith, rest.1 ∙ (ap (λ i. Some (get_or T i d)) down ∙ ap (λ i. Some (get_or (e ∷ T) i d)) (sym place)))

pub place_in-le : (T : Trail) (v : ℕ) → place_in T v ≤ length T
place_in-le [] v = omega arith
place_in-le (e ∷ T) v = go (nat_eq e.lit.var v) (place_in T v) (place_in-le T v)
  where
    go : (b : Bool) (p : ℕ) → p ≤ length T → elim b [ true ↦ 1 | false ↦ one_more p ] ≤ length (e ∷ T)
    go true p h = omega arith
    go false zero h = omega arith
    go false (suc p) h = omega arith

-- the place of a variable holds its entry
pub place_in-found : (T : Trail) (v n : ℕ) → place_in T v ≡ n → 0 < n → slice_get T (n - 1) ≡ entry_of T v
place_in-found [] v n h some = absurd (omega arith)
place_in-found (e ∷ T) v n h some =
    let found = place_in-entry (e ∷ T) v n e h some in
    let most = found.0 in
    slice_get-get_or (e ∷ T) (n - 1) e (omega arith) ∙ sym found.1

pub place_in-zero : (T : Trail) (v : ℕ) → place_in T v ≡ 0 → entry_of T v ≡ None
place_in-zero [] v h = refl
place_in-zero (e ∷ T) v h = go (nat_eq e.lit.var v) (place_in T v) refl h (place_in-zero T v)
  where
    go : (b : Bool) (p : ℕ) → place_in T v ≡ p → ◌≡◌ {A = ℕ} (elim b [ true ↦ 1 | false ↦ one_more p ]) 0 → (place_in T v ≡ 0 → entry_of T v ≡ None) → cond b (Some e) (entry_of T v) ≡ None
    go true p q k more = absurd (omega arith)
    go false zero q k more = more q
    go false (suc p) q k more = absurd (omega arith)

-- what the table says, at any default
pub AreTables-place : (V : ℕ) (T : Trail) (truths : List Truth) (places : List ℕ) (v p : ℕ) → AreTables V T truths places → v ≤ V → p ≡ get_or places v p → place_in T v ≡ p
AreTables-place V T truths places v p h most read =
    let long = h.places_long in
    sym (h.place_at v most) ∙ sym (read ∙ get_or_default_zero places v p (omega arith))

-- literals have places of their own in the table
pub code-below : (V n : ℕ) (l : Literal) → l.var ≤ V → n ≡ 2 * V + 2 → code l < n
code-below V n l most long = go l.positive
  where
    go : (b : Bool) → 2 * l.var + cond b 1 0 < n
    go true = omega arith
    go false = omega arith

pub code-within : (n : ℕ) (l : Literal) → 2 * l.var + 1 < n → code l < n
code-within n l most = go l.positive
  where
    go : (b : Bool) → 2 * l.var + cond b 1 0 < n
    go true = omega arith
    go false = omega arith

pub code-one : (k l : Literal) → code k ≡ code l → k ≡ l
code-one k l h = go k.positive l.positive refl refl h
  where
    go : (a b : Bool) → k.positive ≡ a → l.positive ≡ b → 2 * k.var + cond a 1 0 ≡ 2 * l.var + cond b 1 0 → k ≡ l
    go true true e f is = let v : k.var ≡ l.var = omega arith in let s : k.positive ≡ l.positive = e ∙ sym f in λ i. record { var = v i; positive = s i }
    go false false e f is = let v : k.var ≡ l.var = omega arith in let s : k.positive ≡ l.positive = e ∙ sym f in λ i. record { var = v i; positive = s i }
    go true false e f is = absurd (omega arith)
    go false true e f is = absurd (omega arith)

pub AreTables-truth : (V : ℕ) (T : Trail) (truths : List Truth) (places : List ℕ) (l : Literal) (at : ℕ) (t : Truth) → AreTables V T truths places → l.var ≤ V → at ≡ code l
    → t ≡ get_or truths at t → t ≡ truth_of (value_in T l.var) l.positive
AreTables-truth V T truths places l at t h most here read =
    read ∙ ap (λ n. get_or truths n t) here ∙ get_or_default truths (code l) t Unassigned (code-below V (length truths) l most h.truths_long) ∙ h.truth_at l most

-- both literals of a variable written
pub truths-here : (truths : List Truth) (l k : Literal) (a b : Truth) → 2 * l.var + 1 < length truths → k.var ≡ l.var
    → get_or (with_truths truths l a b) (code k) Unassigned ≡ cond (same_sign k.positive l.positive) a b
truths-here truths l k a b within one = go (same_sign k.positive l.positive) refl
  where
    signs-same : (x y : Bool) → same_sign x y ≡ true → x ≡ y
    signs-same true true s = refl
    signs-same true false s = sym s
    signs-same false true s = s
    signs-same false false s = refl

    signs-other : (x y : Bool) → same_sign x y ≡ false → x ≡ not y
    signs-other true true s = s
    signs-other true false s = refl
    signs-other false true s = refl
    signs-other false false s = sym s

    signs-apart : (x : Bool) → x ≡ not x → ⊥
    signs-apart true s = absurd (cc)
    signs-apart false s = absurd (cc)

    go : (s : Bool) → same_sign k.positive l.positive ≡ s → get_or (with_truths truths l a b) (code k) Unassigned ≡ cond s a b
    go true s =
        let is : k ≡ l = λ i. record { var = one i; positive = signs-same k.positive l.positive s i } in
        let apart : code k ≢ code (negated l) = λ h. signs-apart l.positive (ap (λ (x : Literal). x.positive) (sym is ∙ code-one k (negated l) h)) in
        get_or-set_other (slice_set truths (code l) a) (code (negated l)) (code k) b Unassigned apart
        ∙ (ap (λ (x : Literal). get_or (slice_set truths (code l) a) (code x) Unassigned) is ∙ get_or-set_same truths (code l) a Unassigned (code-within (length truths) l within))
    go false s =
        let is : k ≡ negated l = λ i. record { var = one i; positive = signs-other k.positive l.positive s i } in
        let set_long : length (slice_set truths (code l) a) ≡ length truths = length-set truths (code l) a in
        ap (λ (x : Literal). get_or (with_truths truths l a b) (code x) Unassigned) is
        ∙ get_or-set_same (slice_set truths (code l) a) (code (negated l)) b Unassigned (code-within (length (slice_set truths (code l) a)) (negated l) (omega (arith, set_long, within)))

pub truths-other : (truths : List Truth) (l k : Literal) (a b : Truth) → k.var ≢ l.var
    → get_or (with_truths truths l a b) (code k) Unassigned ≡ get_or truths (code k) Unassigned
truths-other truths l k a b other =
    get_or-set_other (slice_set truths (code l) a) (code (negated l)) (code k) b Unassigned (λ h. other (ap (λ (x : Literal). x.var) (code-one k (negated l) h)))
    ∙ get_or-set_other truths (code l) (code k) a Unassigned (λ h. other (ap (λ (x : Literal). x.var) (code-one k l h)))

-- one entry more
pub AreTables-push : (V : ℕ) (T : Trail) (e : Entry) (truths : List Truth) (places : List ℕ) (n : ℕ) → AreTables V T truths places → IsVariable V e.lit.var
    → has_var (literals T) e.lit.var ≡ false → n ≡ length T + 1 → AreTables V (T ++ e ∷ []) (with_truths truths e.lit Satisfied Falsified) (slice_set places e.lit.var n)
AreTables-push V T e truths places n h within free last = record {
  truths_long = length-set (slice_set truths (code e.lit) Satisfied) (code (negated e.lit)) Falsified ∙ (length-set truths (code e.lit) Satisfied ∙ h.truths_long);
  places_long = length-set places e.lit.var n ∙ h.places_long;
  truth_at = λ l most. elim (true_or_false (nat_eq l.var e.lit.var)) [
    | inl same ↦
        let one : l.var ≡ e.lit.var = eqb-true l.var e.lit.var same in
        truths-here truths e.lit l Satisfied Falsified truths_within one
        ∙ sym (ap (λ u. truth_of (value_in (T ++ e ∷ []) u) l.positive) one ∙ ap (λ o. truth_of (option_map (λ (x : Entry). x.lit.positive) o) l.positive) (entry_of-last T e free))
    | inr other ↦ truths-other truths e.lit l Satisfied Falsified (apart l.var other)
        ∙ (h.truth_at l most ∙ sym (ap (λ o. truth_of (option_map (λ (x : Entry). x.lit.positive) o) l.positive) (entry_of-front T (e ∷ []) l.var (alone l.var other))))
  ];
  place_at = λ v most. elim (true_or_false (nat_eq v e.lit.var)) [
    | inl same ↦
        let one : v ≡ e.lit.var = eqb-true v e.lit.var same in
        subst (λ u. get_or (slice_set places e.lit.var n) u 0 ≡ place_in (T ++ e ∷ []) u) (sym one) (get_or-set_same places e.lit.var n 0 places_within ∙ (last ∙ sym (place_in-last T e free)))
    | inr other ↦ get_or-set_other places e.lit.var v n 0 (apart v other) ∙ (h.place_at v most ∙ sym (place_in-front T (e ∷ []) v (alone v other)))
  ];
}
  where
    truths_within : 2 * e.lit.var + 1 < length truths
    truths_within = let long = h.truths_long in let most = within.1 in omega arith

    places_within : e.lit.var < length places
    places_within = let long = h.places_long in let most = within.1 in omega arith

    apart : (v : ℕ) → nat_eq v e.lit.var ≡ false → v ≢ e.lit.var
    apart v other same = true_false (nat_eq v e.lit.var) (eq-eqb v e.lit.var same) other

    alone : (v : ℕ) → nat_eq v e.lit.var ≡ false → has_var (literals (e ∷ [])) v ≡ false
    alone v other = or-none (nat_eq v e.lit.var) false other refl

-- the same, each part as a call has told it
pub AreTables-put : (V : ℕ) (T new : Trail) (e : Entry) (l : Literal) (truths new_truths : List Truth) (places : List ℕ) (v n : ℕ) → AreTables V T truths places → IsVariable V e.lit.var
    → has_var (literals T) e.lit.var ≡ false → l ≡ e.lit → v ≡ e.lit.var → n ≡ length T + 1 → new ≡ T ++ e ∷ [] → new_truths ≡ with_truths truths l Satisfied Falsified
    → AreTables V new new_truths (slice_set places v n)
AreTables-put V T new e l truths new_truths places v n h within free lit var last pushed written = rw (written, lit, var, pushed) (AreTables-push V T e truths places n h within free last)

-- the literals of the variables in D are unassigned, and what is said of the others is as it was
abbrev pub AreUnassigned : List Truth → Trail → List Truth → Type 0
AreUnassigned old D new = (l : Literal) → get_or new (code l) Unassigned ≡ cond (has_var (literals D) l.var) Unassigned (get_or old (code l) Unassigned)

-- the places of the variables in D have the value d, and the others the old one
abbrev pub AreFreed : {X : Type 0} → X → List X → Trail → List X → Type 0
AreFreed d old D new = (v : ℕ) → get_or new v d ≡ cond (has_var (literals D) v) d (get_or old v d)

pub has_var-push : (D : Trail) (e : Entry) (v : ℕ) → has_var (literals (D ++ e ∷ [])) v ≡ has_var (literals D) v || nat_eq v e.lit.var
has_var-push [] e v = go (nat_eq v e.lit.var)
  where
    go : (b : Bool) → b || false ≡ b
    go true = refl
    go false = refl
has_var-push (f ∷ D) e v = ap (λ b. nat_eq v f.lit.var || b) (has_var-push D e v) ∙ go (nat_eq v f.lit.var) (has_var (literals D) v) (nat_eq v e.lit.var)
  where
    go : (a b c : Bool) → a || (b || c) ≡ (a || b) || c
    go true b c = refl
    go false b c = refl

pub has_var-take : (D : Trail) (i : ℕ) (e : Entry) (v : ℕ) → i < length D → has_var (literals (take (i + 1) D)) v ≡ has_var (literals (take i D)) v || nat_eq v (get_or D i e).lit.var
has_var-take D i e v less = ap (λ (U : Trail). has_var (literals U) v) (take_more D i e less) ∙ has_var-push (take i D) (get_or D i e) v

pub AreFreed-more : {X : Type 0} (d : X) (old : List X) (D : Trail) (i : ℕ) (e : Entry) (new : List X) → i < length D → (get_or D i e).lit.var < length new
    → AreFreed d old (take i D) new → AreFreed d old (take (i + 1) D) (slice_set new (get_or D i e).lit.var d)
AreFreed-more d old D i e new less within h v = rw (has_var-take D i e v less) (elim (true_or_false (nat_eq v w)) [
  | inl same ↦
      let one : v ≡ w = eqb-true v w same in
      ap (λ u. get_or (slice_set new w d) u d) one ∙ (get_or-set_same new w d d within ∙ sym (freed (has_var (literals (take i D)) v) same))
  | inr other ↦ get_or-set_other new w v d d (λ one. true_false (nat_eq v w) (eq-eqb v w one) other) ∙ (h v ∙ sym (kept (has_var (literals (take i D)) v) other))
])
  where
    w : ℕ
    w = (get_or D i e).lit.var

    freed : (b : Bool) → nat_eq v w ≡ true → cond (b || nat_eq v w) d (get_or old v d) ≡ d
    freed true same = refl
    freed false same = rw same refl

    kept : (b : Bool) → nat_eq v w ≡ false → cond (b || nat_eq v w) d (get_or old v d) ≡ cond b d (get_or old v d)
    kept true other = refl
    kept false other = rw other refl

pub AreUnassigned-more : (old : List Truth) (D : Trail) (i : ℕ) (e : Entry) (new : List Truth) → i < length D → 2 * (get_or D i e).lit.var + 1 < length new
    → AreUnassigned old (take i D) new → AreUnassigned old (take (i + 1) D) (with_truths new (get_or D i e).lit Unassigned Unassigned)
AreUnassigned-more old D i e new less within h l = rw (has_var-take D i e l.var less) (elim (true_or_false (nat_eq l.var w.var)) [
  | inl same ↦ truths-here new w l Unassigned Unassigned within (eqb-true l.var w.var same) ∙ (both (same_sign l.positive w.positive) ∙ sym (freed (has_var (literals (take i D)) l.var) same))
  | inr other ↦ truths-other new w l Unassigned Unassigned (λ one. true_false (nat_eq l.var w.var) (eq-eqb l.var w.var one) other) ∙ (h l ∙ sym (kept (has_var (literals (take i D)) l.var) other))
])
  where
    w : Literal
    w = (get_or D i e).lit

    both : (s : Bool) → cond s Unassigned Unassigned ≡ Unassigned
    both true = refl
    both false = refl

    freed : (b : Bool) → nat_eq l.var w.var ≡ true → cond (b || nat_eq l.var w.var) Unassigned (get_or old (code l) Unassigned) ≡ Unassigned
    freed true same = refl
    freed false same = rw same refl

    kept : (b : Bool) → nat_eq l.var w.var ≡ false → cond (b || nat_eq l.var w.var) Unassigned (get_or old (code l) Unassigned) ≡ cond b Unassigned (get_or old (code l) Unassigned)
    kept true other = refl
    kept false other = rw other refl

-- an entry's variable is among those of the entries
pub has_var-at : (D : Trail) (i : ℕ) (e : Entry) → i < length D → has_var (literals D) (get_or D i e).lit.var ≡ true
has_var-at [] i e less = absurd (omega arith)
has_var-at (f ∷ D) zero e less = let here : nat_eq f.lit.var f.lit.var ≡ true = eq-eqb f.lit.var f.lit.var refl in rw here refl
has_var-at (f ∷ D) (suc i) e less = or-right (nat_eq (get_or D i e).lit.var f.lit.var) (has_var (literals D) (get_or D i e).lit.var) (has_var-at D i e (omega arith))

-- the entries behind taken off
pub distinct-behind : (P Q : List Literal) (v : ℕ) → are_distinct (P ++ Q) ≡ true → has_var Q v ≡ true → has_var P v ≡ false
distinct-behind [] Q v h there = refl
distinct-behind (l ∷ P) Q v h there =
    let alone : has_var (P ++ Q) l.var ≡ false = not_true (has_var (P ++ Q) l.var) (and-left (not (has_var (P ++ Q) l.var)) (are_distinct (P ++ Q)) h) in
    or-none (nat_eq v l.var) (has_var P v)
    (false_unless (nat_eq v l.var) (λ same. true_false (has_var Q l.var) (subst (λ u. has_var Q u ≡ true) (eqb-true v l.var same) there) (has_var-append_right P Q l.var alone)))
    (distinct-behind P Q v (and-right (not (has_var (P ++ Q) l.var)) (are_distinct (P ++ Q)) h) there)

pub AreTables-front : (V : ℕ) (A B : Trail) (truths new_truths : List Truth) (places new_places : List ℕ) → are_distinct (literals (A ++ B)) ≡ true → AreTables V (A ++ B) truths places
    → length new_truths ≡ length truths → length new_places ≡ length places → AreUnassigned truths B new_truths → AreFreed 0 places B new_places → AreTables V A new_truths new_places
AreTables-front V A B truths new_truths places new_places distinct h truths_long places_long freed_truths freed_places = record {
  truths_long = truths_long ∙ h.truths_long;
  places_long = places_long ∙ h.places_long;
  truth_at = λ l most. freed_truths l ∙ elim (true_or_false (has_var (literals B) l.var)) [
    | inl there ↦ rw (there, entry_of-none A l.var (gone l.var there)) refl
    | inr none ↦ rw none (h.truth_at l most ∙ ap (λ o. truth_of (option_map (λ (x : Entry). x.lit.positive) o) l.positive) (entry_of-front A B l.var none))
  ];
  place_at = λ v most. freed_places v ∙ elim (true_or_false (has_var (literals B) v)) [
    | inl there ↦ rw there (sym (place_in-none A v (gone v there)))
    | inr none ↦ rw none (h.place_at v most ∙ place_in-front A B v none)
  ];
}
  where
    gone : (v : ℕ) → has_var (literals B) v ≡ true → has_var (literals A) v ≡ false
    gone v there = distinct-behind (literals A) (literals B) v (rw (map-append (λ (x : Entry). x.lit) A B) at distinct) there
