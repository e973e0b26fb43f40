-- How many clauses have a literal, and that so many named candidates are all.
use Rattle.std.proofs.Common.{◌≡◌, ℕ, zero, suc, ◌+◌, ◌<◌, ◌≤◌, Bool, true, false, not, ◌||◌, List, [], ◌∷◌, ◌++◌, length, take, Option, Some, None, cond, nat_eq, eqb-true, eq-eqb, refl, ap, sym, subst, ◌∙◌, slice_get, arith}
use Rattle.std.specs.List.{list_any, list_all}
use Rattle.theory.specs.Literals.{Literal, Clause, has, negations, without}
use Rattle.theory.specs.Checking.{Numbered, clause_of, take_hints, is_closed, closed_fault, fault_of, group_fault, bad_candidate, are_dealt_with}
use Rattle.theory.specs.Steps.{Group}
use Rattle.theory.proofs.literals.LiteralLemmas.{or-left, or-right}
use Rattle.theory.proofs.literals.LiteralSets.{and-true}
use Rattle.lrat.specs.Named.{IsNamed, IsCandidate, AreCandidates}
use Rattle.cnf.specs.Lits.{code}
use Rattle.lrat.specs.Occurrences.{count_at, slots_with, StayThere}
use Rattle.lrat.specs.Slots.{Slot, put, there_before}

-- a number that is taken out once
abbrev without_one : ℕ → List ℕ → List ℕ
without_one n [] = []
without_one n (m ∷ M) = cond (nat_eq n m) M (m ∷ without_one n M)

without-length : (n : ℕ) (M : List ℕ) → list_any (nat_eq n) M ≡ true → suc (length (without_one n M)) ≡ length M
without-length n [] e = absurd (cc)
without-length n (m ∷ M) e = go (nat_eq n m) refl (λ rest. without-length n M rest)
  where
    go : (b : Bool) → nat_eq n m ≡ b → (list_any (nat_eq n) M ≡ true → suc (length (without_one n M)) ≡ length M) → suc (length (without_one n (m ∷ M))) ≡ length (m ∷ M)
    go true t h = ap (λ b. suc (length (cond b M (m ∷ without_one n M)))) t
    go false t h = ap (λ b. suc (length (cond b M (m ∷ without_one n M)))) t ∙ ap suc (h (sym (ap (λ b. b || list_any (nat_eq n) M) t) ∙ e))

without-keeps : (n k : ℕ) (M : List ℕ) → list_any (nat_eq k) M ≡ true → nat_eq k n ≡ false → list_any (nat_eq k) (without_one n M) ≡ true
without-keeps n k [] e apart = e
without-keeps n k (m ∷ M) e apart = go (nat_eq n m) refl (nat_eq k m) refl (λ rest. without-keeps n k M rest apart)
  where
    go : (b : Bool) → nat_eq n m ≡ b → (a : Bool) → nat_eq k m ≡ a → (list_any (nat_eq k) M ≡ true → list_any (nat_eq k) (without_one n M) ≡ true) → list_any (nat_eq k) (without_one n (m ∷ M)) ≡ true
    go true t true s h = absurd (let same : k ≡ n = eqb-true k m s ∙ sym (eqb-true n m t) in let x : true ≡ false = sym (eq-eqb k n same) ∙ apart in cc)
    go true t false s h = ap (λ b. list_any (nat_eq k) (cond b M (m ∷ without_one n M))) t ∙ (sym (ap (λ b. b || list_any (nat_eq k) M) s) ∙ e)
    go false t true s h = ap (λ b. list_any (nat_eq k) (cond b M (m ∷ without_one n M))) t ∙ ap (λ b. b || list_any (nat_eq k) (without_one n M)) s
    go false t false s h = ap (λ b. list_any (nat_eq k) (cond b M (m ∷ without_one n M))) t
        ∙ (ap (λ b. b || list_any (nat_eq k) (without_one n M)) s ∙ h (sym (ap (λ b. b || list_any (nat_eq k) M) s) ∙ e))

-- the numbers of the clauses with a literal
abbrev numbers_with : Literal → Numbered → List ℕ
numbers_with q [] = []
numbers_with q (e ∷ K) = cond (has e.1 q) (e.0 ∷ numbers_with q K) (numbers_with q K)

-- distinct numbers among others are no more than these
abbrev AreNew : List ℕ → Type 0
AreNew [] = Unit {0}
AreNew (n ∷ L) = (list_any (nat_eq n) L ≡ false) × AreNew L

pigeons : (L M : List ℕ) → AreNew L → ((k : ℕ) → list_any (nat_eq k) L ≡ true → list_any (nat_eq k) M ≡ true) → length L ≤ length M
pigeons [] M new within = omega arith
pigeons (n ∷ L) M new within =
    let here : list_any (nat_eq n) M ≡ true = within n (ap (λ b. b || list_any (nat_eq n) L) (eq-eqb n n refl)) in
    let one = without-length n M here in
    let rest = pigeons L (without_one n M) new.1 (λ k e. without-keeps n k M (within k (after k e)) (apart k e)) in
    omega arith
  where
    after : (k : ℕ) → list_any (nat_eq k) L ≡ true → list_any (nat_eq k) (n ∷ L) ≡ true
    after k e = go (nat_eq k n)
      where
        go : (b : Bool) → b || list_any (nat_eq k) L ≡ true
        go true = refl
        go false = e

    apart : (k : ℕ) → list_any (nat_eq k) L ≡ true → nat_eq k n ≡ false
    apart k e = go (nat_eq k n) refl
      where
        go : (b : Bool) → nat_eq k n ≡ b → b ≡ false
        go true t = absurd (let x : true ≡ false = sym e ∙ (ap (λ j. list_any (nat_eq j) L) (eqb-true k n t) ∙ new.0) in cc)
        go false t = refl

-- a candidate's number is among them
numbered : (K : Numbered) (q : Literal) (n : ℕ) → IsCandidate q (clause_of K n) → list_any (nat_eq n) (numbers_with q K) ≡ true
numbered [] q n c = absurd c
numbered (e ∷ K) q n c = go (nat_eq e.0 n) refl (has e.1 q) refl (numbered K q n)
  where
    M : List ℕ
    M = numbers_with q K

    go : (b : Bool) → nat_eq e.0 n ≡ b → (h : Bool) → has e.1 q ≡ h → (IsCandidate q (clause_of K n) → list_any (nat_eq n) (numbers_with q K) ≡ true)
        → list_any (nat_eq n) (cond (has e.1 q) (e.0 ∷ numbers_with q K) (numbers_with q K)) ≡ true
    go true t true h rest = ap (λ x. list_any (nat_eq n) (cond x (e.0 ∷ M) M)) h ∙ ap (λ b. b || list_any (nat_eq n) M) (eq-eqb n e.0 (sym (eqb-true e.0 n t)))
    go true t false h rest = absurd (let one : has e.1 q ≡ true = subst (λ b. IsCandidate q (cond b (Some e.1) (clause_of K n))) t c in let x : true ≡ false = sym one ∙ h in cc)
    go false t true h rest = ap (λ x. list_any (nat_eq n) (cond x (e.0 ∷ M) M)) h ∙ or-right (nat_eq n e.0) (list_any (nat_eq n) M) (rest (subst (λ b. IsCandidate q (cond b (Some e.1) (clause_of K n))) t c))
    go false t false h rest = ap (λ x. list_any (nat_eq n) (cond x (e.0 ∷ M) M)) h ∙ rest (subst (λ b. IsCandidate q (cond b (Some e.1) (clause_of K n))) t c)

in-numbers : (K : Numbered) (q : Literal) (i : ℕ) (e : ℕ × Clause) → slice_get K i ≡ Some e → has e.1 q ≡ true → list_any (nat_eq e.0) (numbers_with q K) ≡ true
in-numbers [] q i e g a = absurd (cc)
in-numbers (d ∷ K) q zero e g a =
    let same : d ≡ e = cc in
    subst (λ (x : ℕ × Clause). list_any (nat_eq e.0) (cond (has x.1 q) (x.0 ∷ numbers_with q K) (numbers_with q K)) ≡ true) (sym same)
    (ap (λ b. list_any (nat_eq e.0) (cond b (e.0 ∷ numbers_with q K) (numbers_with q K))) a ∙ ap (λ b. b || list_any (nat_eq e.0) (numbers_with q K)) (eq-eqb e.0 e.0 refl))
in-numbers (d ∷ K) q (suc i) e g a = go (has d.1 q) (in-numbers K q i e g a)
  where
    go : (b : Bool) → list_any (nat_eq e.0) (numbers_with q K) ≡ true → list_any (nat_eq e.0) (cond b (d.0 ∷ numbers_with q K) (numbers_with q K)) ≡ true
    go true h = or-right (nat_eq e.0 d.0) (list_any (nat_eq e.0) (numbers_with q K)) h
    go false h = h

candidates-new : (K : Numbered) (q : Literal) (L : List ℕ) → AreCandidates K q L → AreNew L
candidates-new K q [] c = tt
candidates-new K q (n ∷ L) c = (c.0, candidates-new K q L c.2)

candidates-within : (K : Numbered) (q : Literal) (L : List ℕ) → AreCandidates K q L → (k : ℕ) → list_any (nat_eq k) L ≡ true → list_any (nat_eq k) (numbers_with q K) ≡ true
candidates-within K q [] c k e = absurd (cc)
candidates-within K q (n ∷ L) c k e = go (nat_eq k n) refl (candidates-within K q L c.2 k)
  where
    go : (b : Bool) → nat_eq k n ≡ b → (list_any (nat_eq k) L ≡ true → list_any (nat_eq k) (numbers_with q K) ≡ true) → list_any (nat_eq k) (numbers_with q K) ≡ true
    go true t rest = ap (λ j. list_any (nat_eq j) (numbers_with q K)) (eqb-true k n t) ∙ numbered K q n c.1
    go false t rest = rest (sym (ap (λ b. b || list_any (nat_eq k) L) t) ∙ e)

-- the clauses there and the slots have the same count
one-put : (q : Literal) (s : Slot) (K : Numbered) → length (numbers_with q (put s K)) ≡ cond s.is_there (cond (has s.clause q) 1 0) 0 + length (numbers_with q K)
one-put q s K = go s.is_there (has s.clause q) refl
  where
    go : (b h : Bool) → has s.clause q ≡ h → length (numbers_with q (cond b ((s.id, s.clause) ∷ K) K)) ≡ cond b (cond (has s.clause q) 1 0) 0 + length (numbers_with q K)
    go true true e = rw e (omega arith)
    go true false e = rw e (omega arith)
    go false h e = omega arith

there-with : (q : Literal) (ss : List Slot) (K : Numbered) → length (numbers_with q (there_before K ss)) ≡ slots_with q ss + length (numbers_with q K)
there-with q [] K = omega arith
there-with q (s ∷ ss) K = let rest = there-with q ss (put s K) in let one = one-put q s K in omega arith

all-entries : (p : ℕ × Clause → Bool) (K : Numbered) → ((i : ℕ) (e : ℕ × Clause) → slice_get K i ≡ Some e → p e ≡ true) → list_all p K ≡ true
all-entries p [] h = refl
all-entries p (e ∷ K) h = and-true (p e) (list_all p K) (h 0 e refl) (all-entries p K (λ i d g. h (suc i) d g))

-- no candidate is left, where as many are named as clauses have the literal at most
pub all-named : (ss : List Slot) (P : List Literal) (q : Literal) (has_number : ℕ → Bool) (L N : List ℕ) (count : ℕ) → IsNamed has_number L → IsNamed has_number N → AreCandidates (there_before [] ss) q N
    → slots_with q ss ≤ count → count ≤ length N → true ≡ are_dealt_with (there_before [] ss) P q L
all-named ss P q has_number L N count named known candidates most enough = sym (all-entries _ (there_before [] ss) each)
  where
    K : Numbered
    K = there_before [] ss

    left : (i : ℕ) (e : ℕ × Clause) → slice_get (there_before [] ss) i ≡ Some e → has e.1 q ≡ true → list_any (nat_eq e.0) N ≡ false → ⊥
    left i e g a new =
        let M = numbers_with q (there_before [] ss) in
        let more : length (e.0 ∷ N) ≤ length M = pigeons (e.0 ∷ N) M (new, candidates-new (there_before [] ss) q N candidates) within in
        let few = there-with q ss [] in
        absurd (omega arith)
      where
        within : (k : ℕ) → list_any (nat_eq k) (e.0 ∷ N) ≡ true → list_any (nat_eq k) (numbers_with q (there_before [] ss)) ≡ true
        within k h = go (nat_eq k e.0) refl
          where
            go : (b : Bool) → nat_eq k e.0 ≡ b → list_any (nat_eq k) (numbers_with q (there_before [] ss)) ≡ true
            go true t = ap (λ j. list_any (nat_eq j) (numbers_with q (there_before [] ss))) (eqb-true k e.0 t) ∙ in-numbers (there_before [] ss) q i e g a
            go false t = candidates-within (there_before [] ss) q N candidates k (sym (ap (λ b. b || list_any (nat_eq k) N) t) ∙ h)

    each : (i : ℕ) (e : ℕ × Clause) → slice_get (there_before [] ss) i ≡ Some e → not (has e.1 q) || (is_closed P q e.1 || list_any (nat_eq e.0) L) ≡ true
    each i e g = go (has e.1 q) refl (list_any (nat_eq e.0) N) refl
      where
        go : (b : Bool) → has e.1 q ≡ b → (m : Bool) → list_any (nat_eq e.0) N ≡ m → not (has e.1 q) || (is_closed P q e.1 || list_any (nat_eq e.0) L) ≡ true
        go false h m n = or-left (not (has e.1 q)) _ (ap not h)
        go true h true n = or-right (not (has e.1 q)) _ (or-right (is_closed P q e.1) _ (sym (named e.0) ∙ (known e.0 ∙ n)))
        go true h false n = absurd (left i e g h n)

-- slots that come or go
one-stays : (l : Literal) (s t : Slot) → (t.is_there ≡ true → s ≡ t) → cond t.is_there (cond (has t.clause l) 1 0) 0 ≤ cond s.is_there (cond (has s.clause l) 1 0) 0
one-stays l s t same = go t.is_there refl
  where
    go : (b : Bool) → t.is_there ≡ b → cond t.is_there (cond (has t.clause l) 1 0) 0 ≤ cond s.is_there (cond (has s.clause l) 1 0) 0
    go true e = subst (λ (x : Slot). cond t.is_there (cond (has t.clause l) 1 0) 0 ≤ cond x.is_there (cond (has x.clause l) 1 0) 0) (sym (same e)) (omega arith)
    go false e = rw e (omega arith)

pub slots-stay : (l : Literal) (n : ℕ) (old new : List Slot) → StayThere old new → n ≤ length old → slots_with l (take n new) ≤ slots_with l (take n old)
slots-stay l zero old new stay less = omega arith
slots-stay l (suc n) [] new stay less = absurd (omega arith)
slots-stay l (suc n) (s ∷ old) [] stay less = omega arith
slots-stay l (suc n) (s ∷ old) (t ∷ new) stay less =
    let rest = slots-stay l n old new (record { there = λ i u low g a. stay.there (suc i) u (omega arith) g a; longer = let n = stay.longer in omega arith }) (omega arith) in
    let one = one-stays l s t (λ a. let g = stay.there 0 t (omega arith) refl a in let e : s ≡ t = cc in e) in
    omega arith

pub slots-more : (l : Literal) (ss : List Slot) (n : ℕ) (s : Slot) → slice_get ss n ≡ Some s → slots_with l (take (suc n) ss) ≡ slots_with l (take n ss) + cond s.is_there (cond (has s.clause l) 1 0) 0
slots-more l [] n s g = absurd (cc)
slots-more l (t ∷ ss) zero s g = let e : t ≡ s = cc in rw e (omega arith)
slots-more l (t ∷ ss) (suc n) s g = let rest = slots-more l ss n s g in omega arith

-- the candidate of a group without a fault
passed : (K : Numbered) (P : List Literal) (q : Literal) (L : List ℕ) (g : Group) (o : Option Clause) → None ≡ group_fault K P q L g o → (list_any (nat_eq g.candidate) L ≡ false) × IsCandidate q o
passed K P q L g None e = absurd (cc)
passed K P q L g (Some d) e = go (has d q) refl (list_any (nat_eq g.candidate) L) refl
  where
    bad : not (has d q) || list_any (nat_eq g.candidate) L ≡ true → ⊥
    bad t = let x : None ≡ Some bad_candidate = e ∙ ap (λ b. cond b (Some bad_candidate) (cond (is_closed P q d) (closed_fault g.hints) (fault_of (take_hints K (negations (without d q) ++ P) g.hints)))) t in cc

    go : (b : Bool) → has d q ≡ b → (m : Bool) → list_any (nat_eq g.candidate) L ≡ m → (list_any (nat_eq g.candidate) L ≡ false) × IsCandidate q (Some d)
    go true h false n = (n, h)
    go false h m n = absurd (bad (or-left (not (has d q)) _ (ap not h)))
    go true h true n = absurd (bad (or-right (not (has d q)) _ n))

pub candidates-more : (K : Numbered) (P : List Literal) (q : Literal) (L : List ℕ) (g : Group) → None ≡ group_fault K P q L g (clause_of K g.candidate) → AreCandidates K q L → AreCandidates K q (g.candidate ∷ L)
candidates-more K P q L g e c = let p = passed K P q L g (clause_of K g.candidate) e in (p.0, p.1, c)

-- slots that are counted
pub counted-more : (ss : List Slot) (cs ds : List ℕ) (n : ℕ) (s : Slot) → slice_get ss n ≡ Some s → ((k : ℕ) → count_at cs k ≤ count_at ds k)
    → (s.is_there ≡ true → (l : Literal) → has s.clause l ≡ true → count_at cs (code l) < count_at ds (code l)) → ((l : Literal) → slots_with l (take n ss) ≤ count_at cs (code l))
    → (l : Literal) → slots_with l (take (n + 1) ss) ≤ count_at ds (code l)
counted-more ss cs ds n s g keeps here before l =
    let more : slots_with l (take (n + 1) ss) ≡ slots_with l (take n ss) + cond s.is_there (cond (has s.clause l) 1 0) 0 = ap (λ k. slots_with l (take k ss)) (let x : n + 1 ≡ suc n = omega arith in x) ∙ slots-more l ss n s g in
    go s.is_there refl (has s.clause l) refl more
  where
    go : (b : Bool) → s.is_there ≡ b → (h : Bool) → has s.clause l ≡ h → slots_with l (take (n + 1) ss) ≡ slots_with l (take n ss) + cond s.is_there (cond (has s.clause l) 1 0) 0 → slots_with l (take (n + 1) ss) ≤ count_at ds (code l)
    go true e true a more = let high = here e l a in let low = before l in let m = rw (e, a) at more in omega arith
    go true e false a more = let m = rw (e, a) at more in let low = before l in let high = keeps (code l) in omega arith
    go false e h a more = let m = rw e at more in let low = before l in let high = keeps (code l) in omega arith
