-- Candidates to be forgotten, and what is left when all but the first quarter of them were.
use Rattle.std.proofs.Common.{◌≡◌, ℕ, suc, zero, ◌+◌, ◌-◌, ◌<◌, ◌≤◌, true, false, List, [], ◌∷◌, ◌++◌, length, drop, get_or, slice_get, refl, ap, sym, ◌∙◌, inl, inr, All, arith, length-append, if◌then◌else◌, unwrap_or}
use Rattle.std.proofs.lemmas.List.{length-drop}
use Rattle.theory.specs.Literals.{Clause, has_both_signs}
use Rattle.theory.specs.Plans.{Constants}
use Rattle.std.proofs.lemmas.List.Elements.{All-head, All-drop}
use Rattle.theory.specs.Trails.{Trail}
use Rattle.theory.specs.Propagation.{clause_at}
use Rattle.cdcl.specs.Forgetful.{IsPlain, late_numbers}
use Rattle.theory.specs.Forgetting.{Mark, Candidate, candidates, may_go, late_ones, forget, is_reason}
use Rattle.theory.proofs.searching.ForgettingNumbers.{forget-push, late-number}
use Rattle.cdcl.proofs.SeenLemmas.{All-one_of}

-- clauses without a mark are none
pub candidates-append : (c : Constants) (T : Trail) (n : ℕ) (A B : List Clause) (marks : List Mark) → length marks ≤ length A → candidates c T n (A ++ B) marks ≡ candidates c T n A marks
candidates-append c T n [] B [] h = go B
  where
    go : (B : List Clause) → candidates c T n B [] ≡ []
    go [] = refl
    go (d ∷ B) = refl
candidates-append c T n [] B (m ∷ marks) h = absurd (omega arith)
candidates-append c T n (d ∷ A) B [] h = refl
candidates-append c T n (d ∷ A) B (m ∷ marks) h =
    ap (λ (more : List Candidate). if may_go c T n d m then record { number = n; glue = m.glue; size = length d } ∷ more else more) (candidates-append c T (n + 1) A B marks (omega arith))

-- the late ones of those learnt before the last one
late-before : (c : Constants) (T : Trail) (K : List Clause) (clause : Clause) (marks : List Mark) (from : ℕ) → length marks ≤ length K → from ≡ length K - length marks + 1
    → late_ones (candidates c T from (drop (from - 1) (K ++ clause ∷ [])) marks) ≡ late_numbers c T marks K
late-before c T K clause marks from many start = ap late_ones (begun ∙ candidates-append c T (length K - length marks + 1) (drop (length K - length marks) K) (clause ∷ []) marks enough)
  where
    low : from - 1 ≡ length K - length marks
    low = omega (arith, start)

    enough : length marks ≤ length (drop (length K - length marks) K)
    enough = let left = length-drop (length K - length marks) K in omega (arith, left, many)

    begun : candidates c T from (drop (from - 1) (K ++ clause ∷ [])) marks ≡ candidates c T (length K - length marks + 1) (drop (length K - length marks) K ++ clause ∷ []) marks
    begun = rw (low, start) (ap (λ (L : List Clause). candidates c T (length K - length marks + 1) L marks) (dropped (length K - length marks) K (omega arith)))
      where
        dropped : (i : ℕ) (L : List Clause) → i ≤ length L → drop i (L ++ clause ∷ []) ≡ drop i L ++ clause ∷ []
        dropped zero L h = refl
        dropped (suc i) [] h = absurd (omega arith)
        dropped (suc i) (d ∷ L) h = dropped i L (omega arith)

module _ (c : Constants) (T : Trail) (K : List Clause) (marks : List Mark) where
  pub forgotten-late : (clause : Clause) → forget (late_numbers c T marks K) 1 (K ++ clause ∷ []) ≡ forget (late_numbers c T marks K) 1 K ++ clause ∷ []
  forgotten-late clause = forget-push (late_numbers c T marks K) K clause (λ k t. (late-number c T K marks k t).1)

  -- which numbers these are
  pub late-learnt : (clause : Clause) (first : ℕ) → length K ≡ first + length marks → All (λ n. (first < n) × (n ≤ length (K ++ clause ∷ []))) (late_numbers c T marks K)
  late-learnt clause first many =
      All-one_of (λ n. (first < n) × (n ≤ length (K ++ clause ∷ []))) (late_numbers c T marks K)
      (λ n t. (let h = late-number c T K marks n t in let low = h.0 in let high = h.1 in let long = length-append K (clause ∷ []) in (omega (arith, low, many), omega (arith, high, long))))

  pub late-no_reasons : All (λ n. is_reason T n ≡ false) (late_numbers c T marks K)
  late-no_reasons = All-one_of (λ n. is_reason T n ≡ false) (late_numbers c T marks K) (λ n t. (late-number c T K marks n t).2)

-- the candidates of one clause more
drop-clause : (i : ℕ) (K : List Clause) → i < length K → drop i K ≡ unwrap_or (slice_get K i) [] ∷ drop (i + 1) K
drop-clause i [] h = absurd (omega arith)
drop-clause zero (c ∷ K) h = refl
drop-clause (suc i) (c ∷ K) h = let up : suc i + 1 ≡ suc (i + 1) = omega arith in rw up (drop-clause i K (omega arith))

drop-mark : (i : ℕ) (marks : List Mark) (m : Mark) → i < length marks → drop i marks ≡ get_or marks i m ∷ drop (i + 1) marks
drop-mark i [] m h = absurd (omega arith)
drop-mark zero (x ∷ marks) m h = refl
drop-mark (suc i) (x ∷ marks) m h = let up : suc i + 1 ≡ suc (i + 1) = omega arith in rw up (drop-mark i marks m (omega arith))

pub candidates-next : (c : Constants) (T : Trail) (K : List Clause) (marks : List Mark) (from at : ℕ) (m : Mark) (clause : Clause) → 1 ≤ from → from - 1 + at < length K → at < length marks
    → clause ≡ clause_at K (from + at) → m ≡ get_or marks at m
    → candidates c T (from + at) (drop (from - 1 + at) K) (drop at marks)
    ≡ (if may_go c T (from + at) clause m then record { number = from + at; glue = m.glue; size = length clause } ∷ candidates c T (from + (at + 1)) (drop (from - 1 + (at + 1)) K) (drop (at + 1) marks)
    else candidates c T (from + (at + 1)) (drop (from - 1 + (at + 1)) K) (drop (at + 1) marks))
candidates-next c T K marks from at m clause some inside within is read =
    let place : from + at - 1 ≡ from - 1 + at = omega arith in
    let number : from + at + 1 ≡ from + (at + 1) = omega arith in
    let next : from - 1 + at + 1 ≡ from - 1 + (at + 1) = omega arith in
    let same : clause ≡ unwrap_or (slice_get K (from - 1 + at)) [] = is ∙ ap (λ i. unwrap_or (slice_get K i) []) place in
    let first : drop (from - 1 + at) K ≡ clause ∷ drop (from - 1 + (at + 1)) K =
    drop-clause (from - 1 + at) K inside ∙ (ap (λ (d : Clause). d ∷ drop (from - 1 + at + 1) K) (sym same) ∙ ap (λ i. clause ∷ drop i K) next) in
    let second : drop at marks ≡ m ∷ drop (at + 1) marks = drop-mark at marks m within ∙ ap (λ (x : Mark). x ∷ drop (at + 1) marks) (sym read) in
    rw (first, second) (ap (λ n. if may_go c T (from + at) clause m then record { number = from + at; glue = m.glue; size = length clause } ∷ candidates c T n (drop (from - 1 + (at + 1)) K) (drop (at + 1) marks)
    else candidates c T n (drop (from - 1 + (at + 1)) K) (drop (at + 1) marks)) number)

-- a learnt clause
pub plain-at : (V : ℕ) (K : List Clause) (from at : ℕ) (clause : Clause) → 1 ≤ from → from - 1 + at < length K → clause ≡ clause_at K (from + at) → All (IsPlain V) (drop (from - 1) K) → IsPlain V clause
plain-at V K from at clause some inside is all =
    let place : from + at - 1 ≡ from - 1 + at = omega arith in
    let same : clause ≡ unwrap_or (slice_get K (from - 1 + at)) [] = is ∙ ap (λ i. unwrap_or (slice_get K i) []) place in
    let later : drop at (drop (from - 1) K) ≡ drop (from - 1 + at) K = drop-twice (from - 1) at K in
    let rest : All (IsPlain V) (unwrap_or (slice_get K (from - 1 + at)) [] ∷ drop (from - 1 + at + 1) K) = rw (later, drop-clause (from - 1 + at) K inside) at (All-drop (IsPlain V) at (drop (from - 1) K) all) in
    rw same (All-head (IsPlain V) (unwrap_or (slice_get K (from - 1 + at)) []) (drop (from - 1 + at + 1) K) rest)
  where
    none : (j : ℕ) → ◌≡◌ {A = List Clause} (drop j []) []
    none zero = refl
    none (suc j) = refl

    drop-twice : (i j : ℕ) (L : List Clause) → drop j (drop i L) ≡ drop (i + j) L
    drop-twice zero j L = let e : 0 + j ≡ j = omega arith in rw e refl
    drop-twice (suc i) j [] = let e : suc i + j ≡ suc (i + j) = omega arith in rw e (none j)
    drop-twice (suc i) j (c ∷ L) = let e : suc i + j ≡ suc (i + j) = omega arith in rw e (drop-twice i j L)

pub length-plain : (V : ℕ) (c : Clause) → IsPlain V c → has_both_signs c ≡ false → length c ≤ V
length-plain V c (inl h) none = h.1
length-plain V c (inr e) none = absurd (let both : has_both_signs c ≡ true = ap has_both_signs e in let clash : true ≡ false = sym both ∙ none in cc)

-- no mark is left
pub candidates-end : (c : Constants) (T : Trail) (n at : ℕ) (K : List Clause) (marks : List Mark) → length marks ≤ at → candidates c T n K (drop at marks) ≡ []
candidates-end c T n at K marks h = ap (candidates c T n K) (past at marks h) ∙ none K
  where
    past : (at : ℕ) (marks : List Mark) → length marks ≤ at → drop at marks ≡ []
    past zero [] h = refl
    past (suc at) [] h = refl
    past zero (m ∷ marks) h = absurd (omega arith)
    past (suc at) (m ∷ marks) h = past at marks (omega arith)

    none : (L : List Clause) → candidates c T n L [] ≡ []
    none [] = refl
    none (d ∷ L) = refl

-- the last clause set apart
pub record Snoc (L : List Clause) : Type 0 where
  pub front : List Clause
  pub last : Clause
  pub parts : L ≡ front ++ last ∷ []

pub snoc : (L : List Clause) → 1 ≤ length L → Snoc L
snoc [] h = absurd (omega arith)
snoc (c ∷ []) h = record { front = []; last = c; parts = refl }
snoc (c ∷ d ∷ L) h = let s = snoc (d ∷ L) (omega arith) in record { front = c ∷ s.front; last = s.last; parts = ap (λ (M : List Clause). c ∷ M) s.parts }

-- the numbers of the late ones among all candidates, where the last clause is set apart
pub late-found : (d : Constants) (T : Trail) (L K : List Clause) (clause : Clause) (marks : List Mark) (ns : List ℕ) (first number from : ℕ) (all : List Candidate) → L ≡ K ++ clause ∷ [] → length L ≡ first + length marks + 1
    → number ≡ length L → from ≡ number - length marks → all ≡ candidates d T from (drop (from - 1) L) marks → ns ≡ late_ones all → ns ≡ late_numbers d T marks K
late-found d T L K clause marks ns first number from all parts learnt last begin is found =
    let one = length-append K (clause ∷ []) in
    let whole = ap length parts in
    found ∙ (ap late_ones (is ∙ ap (λ (M : List Clause). candidates d T from (drop (from - 1) M) marks) parts) ∙ late-before d T K clause marks from (omega arith) (omega arith))
