-- Forgetting clauses by their numbers: no clause becomes false, and a trail on which none of them
-- is a reason stays lawful.
use Rattle.std.proofs.Common.{◌≡◌, ℕ, zero, suc, ◌+◌, ◌-◌, ◌<◌, ◌≤◌, Bool, true, false, not, ◌&&◌, List, [], ◌∷◌, ◌++◌, map, filter, drop, length, refl, ap, sym, subst, ◌∙◌, nat_eq, nat_lt, eqb-true, eq-eqb, cond, ◌⊎◌, inl, inr, Option, Some, None, slice_get, option_map, arith, unwrap_or, All, if◌then◌else◌}
use Rattle.std.specs.List.{list_any}
use Rattle.std.proofs.lemmas.List.{length-drop}
use Rattle.std.proofs.lemmas.List.Elements.{All-nil, All-cons, All-head, All-tail}
use Rattle.theory.specs.Literals.{Literal, Clause, has, positive, negative, has_both_signs}
use Rattle.theory.specs.Truth.{IsOver}
use Rattle.theory.specs.Status.{is_false}
use Rattle.theory.specs.Trails.{Entry, Trail, literals, up_to}
use Rattle.theory.specs.Propagation.{clause_at, least_false}
use Rattle.theory.specs.Lawful.{IsReason, IsGrounded, IsLawfulAfter, IsLawful}
use Rattle.theory.specs.Learnable.{IsOpenBelow}
use Rattle.theory.specs.Plans.{Constants}
use Rattle.theory.specs.Units.{has_two, IsUnit, AreUnits}
use Rattle.theory.specs.Forgetting.{forgotten, forget, is_reason, is_number, Mark, Candidate, candidates, may_go, late_ones, is_late}
use Rattle.theory.specs.Deletions.{is_among, are_different}
use Rattle.theory.specs.Kept.{AreLeft}
use Rattle.theory.proofs.literals.LiteralLemmas.{and-left, and-right, or-cases, or-right, not_true}
use Rattle.theory.proofs.literals.LiteralSets.{true_false, false_unless, and-true, or-false_left, or-false_right}
use Rattle.theory.proofs.trails.LawfulTrails.{IsLawful-up_to}
use Rattle.theory.proofs.searching.ForgottenClauses.{is_false-forgotten}

-- forgetting clauses of these numbers
pub length-forget : (ns : List ℕ) (n : ℕ) (K : List Clause) → length (forget ns n K) ≡ length K
length-forget ns n [] = refl
length-forget ns n (c ∷ K) = ap suc (length-forget ns (n + 1) K)

pub AreLeft-forget : (ns : List ℕ) (n : ℕ) (A L : List Clause) → AreLeft A L → AreLeft A (forget ns n L)
AreLeft-forget ns n [] [] h = tt
AreLeft-forget ns n [] (d ∷ L) h = absurd h
AreLeft-forget ns n (c ∷ A) [] h = absurd h
AreLeft-forget ns n (c ∷ A) (d ∷ L) h = (go (list_any (nat_eq n) ns) h.0, AreLeft-forget ns (n + 1) A L h.1)
  where
    go : (b : Bool) → (d ≡ c) ⊎ (d ≡ forgotten) → ((if b then forgotten else d) ≡ c) ⊎ ((if b then forgotten else d) ≡ forgotten)
    go true e = inr refl
    go false e = e

pub forget-append : (ns : List ℕ) (n : ℕ) (A B : List Clause) → forget ns n (A ++ B) ≡ forget ns n A ++ forget ns (n + length A) B
forget-append ns n [] B = let e : n + 0 ≡ n = omega arith in rw e refl
forget-append ns n (c ∷ A) B =
    let e : n + 1 + length A ≡ n + suc (length A) = omega arith in
    ap (λ (K : List Clause). (if list_any (nat_eq n) ns then forgotten else c) ∷ K) (forget-append ns (n + 1) A B ∙ ap (λ k. forget ns (n + 1) A ++ forget ns k B) e)

-- none of these numbers is one of the clauses'
pub forget-none : (ns : List ℕ) (n : ℕ) (K : List Clause) → ((k : ℕ) → n ≤ k → k < n + length K → list_any (nat_eq k) ns ≡ false) → forget ns n K ≡ K
forget-none ns n [] h = refl
forget-none ns n (c ∷ K) h =
    let here : list_any (nat_eq n) ns ≡ false = h n (omega arith) (omega arith) in
    let rest : forget ns (n + 1) K ≡ K = forget-none ns (n + 1) K (λ k l u. h k (omega arith) (omega arith)) in
    rw (here, rest) refl

forget-at : (ns : List ℕ) (n i : ℕ) (K : List Clause) → list_any (nat_eq (n + i)) ns ≡ false → unwrap_or (slice_get (forget ns n K) i) [] ≡ unwrap_or (slice_get K i) []
forget-at ns n i [] h = refl
forget-at ns n zero (c ∷ K) h = let e : n + 0 ≡ n = omega arith in let f : list_any (nat_eq n) ns ≡ false = rw e at h in rw f refl
forget-at ns n (suc i) (c ∷ K) h = let e : n + 1 + i ≡ n + suc i = omega arith in forget-at ns (n + 1) i K (rw e h)

pub clause_at-forget : (ns : List ℕ) (K : List Clause) (n : ℕ) → 1 ≤ n → list_any (nat_eq n) ns ≡ false → clause_at (forget ns 1 K) n ≡ clause_at K n
clause_at-forget ns K n one h = let e : 1 + (n - 1) ≡ n = omega arith in forget-at ns 1 (n - 1) K (rw e h)

-- a lawful trail stays so where no reason is forgotten
abbrev pub AreNoReasons : List ℕ → Trail → Type 0
AreNoReasons ns T = (n : ℕ) → list_any (nat_eq n) ns ≡ true → is_reason T n ≡ false

IsReason-forget : (ns : List ℕ) (K : List Clause) (P : List Literal) (l : Literal) (n : ℕ) → list_any (nat_eq n) ns ≡ false → IsReason K P l n → IsReason (forget ns 1 K) P l n
IsReason-forget ns K P l n out r =
    let c : clause_at (forget ns 1 K) n ≡ clause_at K n = clause_at-forget ns K n r.numbered.0 out in
    record {
      numbered = (r.numbered.0, subst (λ k. n ≤ k) (sym (length-forget ns 1 K)) r.numbered.1);
      holds = rw c r.holds;
      others = rw c r.others;
    }

IsGrounded-forget : (ns : List ℕ) (K : List Clause) (before : Trail) (e : Entry) (r : Option ℕ) → ((n : ℕ) → list_any (nat_eq n) ns ≡ true → is_number n r ≡ false)
    → IsGrounded K before e r → IsGrounded (forget ns 1 K) before e r
IsGrounded-forget ns K before e None unused g = g
IsGrounded-forget ns K before e (Some n) unused g =
    (g.0, IsReason-forget ns K (literals before) e.lit n (false_unless (list_any (nat_eq n) ns) (λ t. true_false (nat_eq n n) (eq-eqb n n refl) (unused n t))) g.1)

IsLawfulAfter-forget : (ns : List ℕ) (K : List Clause) (before T : Trail) → ((n : ℕ) → list_any (nat_eq n) ns ≡ true → is_reason T n ≡ false)
    → IsLawfulAfter K before T → IsLawfulAfter (forget ns 1 K) before T
IsLawfulAfter-forget ns K before [] unused h = tt
IsLawfulAfter-forget ns K before (e ∷ T) unused h = (
  record {
    is_new = h.0.is_new;
    grounded = IsGrounded-forget ns K before e e.reason (λ n t. or-false_left (is_number n e.reason) (is_reason T n) (unused n t)) h.0.grounded;
  },
  IsLawfulAfter-forget ns K (before ++ e ∷ []) T (λ n t. or-false_right (is_number n e.reason) (is_reason T n) (unused n t)) h.1,
)

pub IsLawful-forget : (ns : List ℕ) (K : List Clause) (T : Trail) → AreNoReasons ns T → IsLawful K T → IsLawful (forget ns 1 K) T
IsLawful-forget ns K T unused h = IsLawfulAfter-forget ns K [] T unused h

-- no clause becomes false
least_false-forget : (ns : List ℕ) (n : ℕ) (P : List Literal) (K : List Clause) → is_false P forgotten ≡ false → least_false P K ≡ None → least_false P (forget ns n K) ≡ None
least_false-forget ns n P [] f h = refl
least_false-forget ns n P (c ∷ K) f h = first (is_false P c) refl h (least_false-forget ns (n + 1) P K f)
  where
    none : (r : Option ℕ) → option_map (λ k. k + 1) r ≡ None → r ≡ None
    none None e = refl
    none (Some k) e = absurd (cc)

    here : (b : Bool) → is_false P c ≡ false → is_false P (if b then forgotten else c) ≡ false
    here true e = f
    here false e = e

    with_head : (d : Clause) → is_false P d ≡ false → least_false P (forget ns (n + 1) K) ≡ None → least_false P (d ∷ forget ns (n + 1) K) ≡ None
    with_head d e more = rw (e, least_false) (ap (option_map (λ k. k + 1)) more)

    first : (r : Bool) → is_false P c ≡ r → ◌≡◌ {A = Option ℕ} (elim r [ true ↦ Some 1 | false ↦ option_map (λ k. k + 1) (least_false P K) ]) None
        → (least_false P K ≡ None → least_false P (forget ns (n + 1) K) ≡ None) → least_false P (forget ns n (c ∷ K)) ≡ None
    first true p e more = absurd (cc)
    first false p e more = with_head (if list_any (nat_eq n) ns then forgotten else c) (here (list_any (nat_eq n) ns) p) (more (none (least_false P K) e))

pub IsOpenBelow-forget : (ns : List ℕ) (K : List Clause) (T : Trail) → IsLawful K T → IsOpenBelow K T → IsOpenBelow (forget ns 1 K) T
IsOpenBelow-forget ns K T lawful open_below level less =
    least_false-forget ns 1 (literals (up_to T level)) K (is_false-forgotten K (up_to T level) (IsLawful-up_to K T level lawful)) (open_below level less)

-- a forgotten clause is over the variables too, where there is one
pub All-forget : (V : ℕ) (ns : List ℕ) (n : ℕ) (K : List Clause) → 1 ≤ V → All (IsOver V) K → All (IsOver V) (forget ns n K)
All-forget V ns n [] some h = h
All-forget V ns n (c ∷ K) some h =
    All-cons (IsOver V) (if list_any (nat_eq n) ns then forgotten else c) (forget ns (n + 1) K) (go (list_any (nat_eq n) ns)) (All-forget V ns (n + 1) K some (All-tail (IsOver V) c K h))
  where
    both : IsOver V forgotten
    both = All-cons (λ l. (1 ≤ l.var) × (l.var ≤ V)) (positive 1) (negative 1 ∷ []) (omega arith, some) (All-cons (λ l. (1 ≤ l.var) × (l.var ≤ V)) (negative 1) [] (omega arith, some) (All-nil (λ l. (1 ≤ l.var) × (l.var ≤ V))))

    go : (b : Bool) → IsOver V (if b then forgotten else c)
    go true = both
    go false = All-head (IsOver V) c K h

-- the numbers of candidates
of_number : ℕ → Candidate → Bool
of_number k a = nat_eq k a.number

numbers-filter : (k : ℕ) (p : Candidate → Bool) (all : List Candidate) → list_any (nat_eq k) (map (λ (a : Candidate). a.number) (filter p all)) ≡ true → list_any (of_number k) all ≡ true
unfolding of_number
numbers-filter k p [] h = h
numbers-filter k p (a ∷ all) h = go (p a) h (numbers-filter k p all)
  where
    go : (b : Bool) → list_any (nat_eq k) (map (λ (a : Candidate). a.number) (cond b (a ∷ filter p all) (filter p all))) ≡ true
        → (list_any (nat_eq k) (map (λ (a : Candidate). a.number) (filter p all)) ≡ true → list_any (of_number k) all ≡ true) → list_any (of_number k) (a ∷ all) ≡ true
    go true q more = elim (or-cases (nat_eq k a.number) (list_any (nat_eq k) (map (λ (a : Candidate). a.number) (filter p all))) q) [
      | inl i ↦ cc
      | inr i ↦ or-right (nat_eq k a.number) (list_any (of_number k) all) (more i)
    ]
    go false q more = or-right (nat_eq k a.number) (list_any (of_number k) all) (more q)

-- each number is that of a learnt clause that isn't forgotten, and no reason
IsCandidate : Trail → ℕ → List Clause → ℕ → Type 0
IsCandidate T n learnt k = (n ≤ k) × (k < n + length learnt) × (is_reason T k ≡ false) × (has_both_signs (unwrap_or (slice_get learnt (k - n)) []) ≡ false)

candidate-number : (c : Constants) (T : Trail) (n : ℕ) (learnt : List Clause) (marks : List Mark) (k : ℕ) → list_any (of_number k) (candidates c T n learnt marks) ≡ true → IsCandidate T n learnt k
unfolding of_number IsCandidate
candidate-number c T n [] marks k h = absurd (cc)
candidate-number c T n (d ∷ learnt) [] k h = absurd (cc)
candidate-number c T n (d ∷ learnt) (m ∷ marks) k h = go (may_go c T n d m) refl h (candidate-number c T (n + 1) learnt marks k)
  where
    rest : List Candidate
    rest = candidates c T (n + 1) learnt marks

    More : Type 0
    More = list_any (of_number k) rest ≡ true → IsCandidate T (n + 1) learnt k

    later : IsCandidate T (n + 1) learnt k → IsCandidate T n (d ∷ learnt) k
    later i =
        let low = i.0 in
        let high = i.1 in
        let next : k - n ≡ suc (k - (n + 1)) = omega (arith, low) in
        (omega arith, omega arith, i.2, subst (λ j. has_both_signs (unwrap_or (slice_get (d ∷ learnt) j) []) ≡ false) (sym next) i.3)

    stays : may_go c T n d m ≡ true → not (has_both_signs d) && not (is_reason T n) ≡ true
    stays e = and-right (not m.used) (not (has_both_signs d) && not (is_reason T n)) (and-right (nat_lt c.kept_glue m.glue) (not m.used && (not (has_both_signs d) && not (is_reason T n))) e)

    no_reason : may_go c T n d m ≡ true → is_reason T n ≡ false
    no_reason e = not_true (is_reason T n) (and-right (not (has_both_signs d)) (not (is_reason T n)) (stays e))

    whole : may_go c T n d m ≡ true → has_both_signs d ≡ false
    whole e = not_true (has_both_signs d) (and-left (not (has_both_signs d)) (not (is_reason T n)) (stays e))

    here : may_go c T n d m ≡ true → k ≡ n → IsCandidate T n (d ∷ learnt) k
    here e i =
        let none : k - n ≡ 0 = omega (arith, i) in
        (omega arith, omega arith, ap (is_reason T) i ∙ no_reason e, subst (λ j. has_both_signs (unwrap_or (slice_get (d ∷ learnt) j) []) ≡ false) (sym none) (whole e))

    go : (b : Bool) → may_go c T n d m ≡ b → list_any (of_number k) (if b then record { number = n; glue = m.glue; size = length d } ∷ rest else rest) ≡ true → More
        → IsCandidate T n (d ∷ learnt) k
    go true e q more = elim (or-cases (nat_eq k n) (list_any (of_number k) rest) q) [
      | inl i ↦ here e (eqb-true k n i)
      | inr i ↦ later (more i)
    ]
    go false e q more = later (more q)

-- a list from a place on
slice_get-drop : {X : Type 0} (i j : ℕ) (xs : List X) → slice_get (drop i xs) j ≡ slice_get xs (i + j)
slice_get-drop zero j xs = let e : 0 + j ≡ j = omega arith in rw e refl
slice_get-drop (suc i) j [] = refl
slice_get-drop (suc i) j (x ∷ xs) = let e : suc i + j ≡ suc (i + j) = omega arith in slice_get-drop i j xs ∙ ap (slice_get (x ∷ xs)) (sym e)

-- the numbers that a round's end forgets
pub late-number : (c : Constants) (T : Trail) (K : List Clause) (marks : List Mark) (k : ℕ)
    → list_any (nat_eq k) (late_ones (candidates c T (length K - length marks + 1) (drop (length K - length marks) K) marks)) ≡ true
    → (length K - length marks < k) × (k ≤ length K) × (is_reason T k ≡ false) × (has_both_signs (clause_at K k) ≡ false)
unfolding IsCandidate
late-number c T K marks k h =
    let first = length K - length marks in
    let all = candidates c T (first + 1) (drop first K) marks in
    let n : IsCandidate T (first + 1) (drop first K) k = candidate-number c T (first + 1) (drop first K) marks k (numbers-filter k (is_late all) all h) in
    let count : length (drop first K) ≡ length K - first = length-drop first K in
    let low = n.0 in
    let high = n.1 in
    let place : first + (k - (first + 1)) ≡ k - 1 = omega (arith, low) in
    (omega arith, omega (arith, high, count), n.2, subst (λ (o : Option Clause). has_both_signs (unwrap_or o []) ≡ false) (slice_get-drop first (k - (first + 1)) K ∙ ap (slice_get K) place) n.3)

-- each stands once among them
candidates-differ : (c : Constants) (T : Trail) (p : Candidate → Bool) (n : ℕ) (learnt : List Clause) (marks : List Mark)
    → are_different (map (λ (a : Candidate). a.number) (filter p (candidates c T n learnt marks))) ≡ true
unfolding IsCandidate
candidates-differ c T p n [] marks = refl
candidates-differ c T p n (d ∷ learnt) [] = refl
candidates-differ c T p n (d ∷ learnt) (m ∷ marks) = marked (may_go c T n d m) (candidates-differ c T p (n + 1) learnt marks)
  where
    rest : List Candidate
    rest = candidates c T (n + 1) learnt marks

    this : Candidate
    this = record { number = n; glue = m.glue; size = length d }

    numbers : List ℕ
    numbers = map (λ (a : Candidate). a.number) (filter p rest)

    alone : is_among n numbers ≡ false
    alone = false_unless (is_among n numbers) (λ t. let low = (candidate-number c T (n + 1) learnt marks n (numbers-filter n p rest t)).0 in omega (arith, low))

    chosen : (b : Bool) → are_different numbers ≡ true → are_different (map (λ (a : Candidate). a.number) (cond b (this ∷ filter p rest) (filter p rest))) ≡ true
    chosen true more = and-true (not (is_among n numbers)) (are_different numbers) (ap not alone) more
    chosen false more = more

    marked : (b : Bool) → are_different numbers ≡ true → are_different (map (λ (a : Candidate). a.number) (filter p (if b then this ∷ rest else rest))) ≡ true
    marked true more = chosen (p this) more
    marked false more = more

pub late-differ : (c : Constants) (T : Trail) (K : List Clause) (marks : List Mark) → are_different (late_ones (candidates c T (length K - length marks + 1) (drop (length K - length marks) K) marks)) ≡ true
late-differ c T K marks =
    let all = candidates c T (length K - length marks + 1) (drop (length K - length marks) K) marks in
    candidates-differ c T (is_late all) (length K - length marks + 1) (drop (length K - length marks) K) marks

-- units stay units where no reason is forgotten
pub AreUnits-forget : (ns : List ℕ) (K : List Clause) (T : Trail) → AreNoReasons ns T → AreUnits K T → AreUnits (forget ns 1 K) T
AreUnits-forget ns K [] none u = tt
AreUnits-forget ns K (e ∷ T) none u =
    (go e.reason (λ k t. or-false_left (is_number k e.reason) (is_reason T k) (none k t)) u.0, AreUnits-forget ns K T (λ k t. or-false_right (is_number k e.reason) (is_reason T k) (none k t)) u.1)
  where
    go : (r : Option ℕ) → ((k : ℕ) → list_any (nat_eq k) ns ≡ true → is_number k r ≡ false) → IsUnit K e.lit r → IsUnit (forget ns 1 K) e.lit r
    go None free v = tt
    go (Some m) free v =
        let out : list_any (nat_eq m) ns ≡ false = false_unless (list_any (nat_eq m) ns) (λ t. true_false (nat_eq m m) (eq-eqb m m refl) (free m t)) in
        let stays : clause_at (forget ns 1 K) m ≡ clause_at K m = clause_at-forget ns K m v.0 out in
        (v.0, subst (λ k. m ≤ k) (sym (length-forget ns 1 K)) v.1, subst (λ (d : Clause). has d e.lit ≡ true) (sym stays) v.2, subst (λ (d : Clause). has_two d ≡ false) (sym stays) v.3)

-- forgetting none, and one more clause behind those that are forgotten
pub forget-nothing : (n : ℕ) (K : List Clause) → forget [] n K ≡ K
forget-nothing n K = forget-none [] n K (λ k l u. refl)

pub forget-push : (ns : List ℕ) (K : List Clause) (c : Clause) → ((k : ℕ) → list_any (nat_eq k) ns ≡ true → k ≤ length K) → forget ns 1 (K ++ c ∷ []) ≡ forget ns 1 K ++ c ∷ []
forget-push ns K c most =
    forget-append ns 1 K (c ∷ []) ∙ ap (λ (D : List Clause). forget ns 1 K ++ D)
    (forget-none ns (1 + length K) (c ∷ []) (λ k l u. false_unless (list_any (nat_eq k) ns) (λ t. let high = most k t in absurd (omega (arith, high, l)))))
