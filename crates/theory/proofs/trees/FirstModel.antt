-- The model of a cube satisfies the formula, and none that satisfies the formula and the cube comes
-- before it.
use Rattle.std.proofs.Common.{◌≡◌, ℕ, zero, suc, ◌+◌, ◌-◌, ◌<◌, ◌≤◌, Bool, true, false, not, List, [], ◌∷◌, ◌++◌, length, nat_eq, nat_lt, ltb-true, ltb-false, refl, sym, ap, subst, ◌∙◌, ◌≢◌, ◌⊎◌, inl, inr, arith, cond, Option, Some, None, find, get_or, append_assoc, append-nil, eqb-true, eq-eqb, IsTrue, option_map, if◌then◌else◌, unwrap_or}
use Rattle.theory.specs.Literals.{Literal, Clause, positive, negative, same, has, has_var, IsVariable, IsCube}
use Rattle.theory.specs.Truth.{Formula, Assignment, AreTrue, Satisfies, value, is_true, are_true, IsFormula}
use Rattle.theory.specs.FirstModel.{comes_before}
use Rattle.theory.specs.Status.{is_false}
use Rattle.theory.specs.Trails.{Trail, literals, current_level, least_free, variables, decide}
use Rattle.theory.specs.Propagation.{Closed, quiet, conflict, Propagates, clause_at, least_false, by_number}
use Rattle.theory.specs.Learning.{Line, learn}
use Rattle.theory.specs.Search.{model, refuted, exhausted, Next, ends, goes_on, RunsFrom, budget_of, values}
use Rattle.theory.specs.Ordered.{OrderedState, after, on_quiet, RunsOrdered, begin, learnt_next, IsOrderedStep}
use Rattle.theory.proofs.searching.RunLemmas.{RunsFrom-says}
use Rattle.theory.proofs.literals.LiteralLemmas.{and-left, or-cases, same-eq, or-left, or-right}
use Rattle.theory.proofs.searching.SearchSoundness.{StateOk, Why, TrailOk, NextSays, Says, Propagates-says, closed-ok, after-says, begin-ok, fresh-all, last-differs}
use Rattle.theory.proofs.literals.ClauseLemmas.{clause_at-true}
use Rattle.theory.proofs.searching.ModelLemmas.{value-values, quiet-true, length-values, none-passes}
use Rattle.theory.proofs.trails.TrailLists.{literals-append}
use Rattle.theory.proofs.literals.TrueClauses.{AreTrue-append, others_false-true}

-- a search that ended with a model: its last state, of which P holds
pub record Ended (V : ℕ) (F : List Clause) (P : OrderedState → Type 0) (M : Assignment) : Type 0 where
  pub state : OrderedState
  pub keeps : P state
  pub no_free : least_free V state.trail ≡ None
  pub none_false : least_false (literals state.trail) F ≡ None
  pub is_values : M ≡ values V state.trail

-- P is kept by propagation, and by what follows it
pub record IsKept (V budget : ℕ) (P : OrderedState → Type 0) : Type 0 where
  pub closes : (s : OrderedState) (a : Closed) (T : Trail) → P s → Propagates by_number s.clauses s.trail a T → P (record s { trail = T })
  pub goes : (s t : OrderedState) (a : Closed) → P s → Says s.clauses s.trail a → after V budget s a ≡ goes_on t → P t

-- the clauses of a search begin with the formula's
abbrev pub Front : List Clause → OrderedState → Type 0
Front F s = (C : List Clause) × (s.clauses ≡ F ++ C)

pub front-none : (P : List Literal) (F C : List Clause) → least_false P (F ++ C) ≡ None → least_false P F ≡ None
front-none P [] C h = refl
front-none P (c ∷ F) C h = go (is_false P c) h (front-none P F C)
  where
    none : (x : Option ℕ) → option_map (λ n. n + 1) x ≡ None → x ≡ None
    none None q = refl
    none (Some n) q = absurd (cc)

    go : (b : Bool) → ◌≡◌ {A = Option ℕ} (elim b [ true ↦ Some 1 | false ↦ option_map (λ n. n + 1) (least_false P (F ++ C)) ]) None
        → (least_false P (F ++ C) ≡ None → least_false P F ≡ None) → ◌≡◌ {A = Option ℕ} (elim b [ true ↦ Some 1 | false ↦ option_map (λ n. n + 1) (least_false P F) ]) None
    go true q more = absurd (cc)
    go false q more = ap (option_map (λ n. n + 1)) (more (none (least_false P (F ++ C)) q))

-- what a state goes on to keeps the front
goes-front : (V budget : ℕ) (F : List Clause) (s t : OrderedState) (a : Closed) → Front F s → after V budget s a ≡ goes_on t → Front F t
goes-front V budget F s t quiet f e = go (least_free V s.trail) e
  where
    go : (o : Option ℕ) → on_quiet V s o ≡ goes_on t → Front F t
    go None q = absurd (cc)
    go (Some x) q =
        let state : record s { trail = decide s.trail (negative x); decided = Some (unwrap_or s.decided x) } ≡ t = cc in
        subst (Front F) state f
goes-front V budget F s t (conflict n) f e = go (nat_eq (current_level s.trail) 0) (nat_eq (s.conflicts + 1) budget) e
  where
    line : Line
    line = learn s.clauses s.trail n

    next : OrderedState
    next = learnt_next s line

    go : (b d : Bool) → (if b then ends (refuted (s.lines ++ line ∷ [])) else (if d then ends (exhausted (unwrap_or s.decided 0)) else goes_on next)) ≡ goes_on t → Front F t
    go true d q = absurd (cc)
    go false true q = absurd (cc)
    go false false q =
        let state : next ≡ t = cc in
        subst (Front F) state (f.0 ++ line.clause ∷ [], ap (λ (K : List Clause). K ++ line.clause ∷ []) f.1 ∙ append_assoc F f.0 (line.clause ∷ []))

model-ended : (V budget : ℕ) (F : List Clause) (P : OrderedState → Type 0) (s : OrderedState) (M : Assignment) (a : Closed) → P s → Front F s → Says s.clauses s.trail a
    → after V budget s a ≡ ends (model M) → Ended V F P M
model-ended V budget F P s M quiet h f k e = go (least_free V s.trail) refl e
  where
    go : (o : Option ℕ) → least_free V s.trail ≡ o → on_quiet V s o ≡ ends (model M) → Ended V F P M
    go (Some x) r q = absurd (cc)
    go None r q = record {
      state = s;
      keeps = h;
      no_free = r;
      none_false = front-none (literals s.trail) F f.0 (rw f.1 at k);
      is_values = cc;
    }
model-ended V budget F P s M (conflict n) h f k e = absurd (go (nat_eq (current_level s.trail) 0) (nat_eq (s.conflicts + 1) budget) e)
  where
    line : Line
    line = learn s.clauses s.trail n

    go : (b d : Bool) → (if b then ends (refuted (s.lines ++ line ∷ [])) else (if d then ends (exhausted (unwrap_or s.decided 0)) else goes_on (learnt_next s line))) ≡ ends (model M) → ⊥
    go true d q = cc
    go false true q = cc
    go false false q = cc

-- what a step comes to: a state of which P holds, or a last one, where the outcome is the model M
EndsSo : ℕ → List Clause → (OrderedState → Type 0) → Assignment → Next OrderedState → Type 0
EndsSo V F P M (goes_on t) = P t × Front F t
EndsSo V F P M (ends o) = o ≡ model M → Ended V F P M

step-ended : (V budget : ℕ) (F : List Clause) (P : OrderedState → Type 0) (M : Assignment) → IsKept V budget P → (s : OrderedState) (n : Next OrderedState) → EndsSo V F P M (goes_on s)
    → IsOrderedStep V budget s n → EndsSo V F P M n
unfolding EndsSo
step-ended V budget F P M k s (ends o) h w = λ q.
    model-ended V budget F P (record s { trail = w.trail }) M w.answer (k.closes s w.answer w.trail h.0 w.propagates) h.1 (Propagates-says by_number s.clauses s.trail w.trail w.answer w.propagates)
    (w.follows ∙ ap ends q)
step-ended V budget F P M k s (goes_on t) h w = (
  k.goes (record s { trail = w.trail }) t w.answer (k.closes s w.answer w.trail h.0 w.propagates) (Propagates-says by_number s.clauses s.trail w.trail w.answer w.propagates) w.follows,
  goes-front V budget F (record s { trail = w.trail }) t w.answer h.1 w.follows,
)

pub run-ended : (V budget : ℕ) (F : List Clause) (P : OrderedState → Type 0) (s : OrderedState) (M : Assignment) → IsKept V budget P → RunsFrom (IsOrderedStep V budget) s (model M) → P s → Front F s
    → Ended V F P M
unfolding EndsSo
run-ended V budget F P s M k r h f = RunsFrom-says (IsOrderedStep V budget) (EndsSo V F P M) (step-ended V budget F P M k) s (model M) r (h, f) refl

ok-kept : (V budget : ℕ) (m : ℕ → Bool) → IsKept V budget (StateOk V m)
ok-kept V budget m = record {
  closes = λ s a T h c. closed-ok V m s a T h c;
  goes = λ s t a h k e. (let says : NextSays V m (after V budget s a) = after-says V m budget s a h k in rw e at says);
}

-- the least free variable: those below it aren't free
find-append : (p : ℕ → Bool) (xs ys : List ℕ) (d : ℕ) → find p (xs ++ ys) ≡ Some d → (find p xs ≡ Some d) ⊎ ((find p xs ≡ None) × (find p ys ≡ Some d))
find-append p [] ys d h = inr (refl, h)
find-append p (x ∷ xs) ys d h = go (p x) h (find-append p xs ys d)
  where
    go : (b : Bool) → cond b (Some x) (find p (xs ++ ys)) ≡ Some d → (find p (xs ++ ys) ≡ Some d → (find p xs ≡ Some d) ⊎ ((find p xs ≡ None) × (find p ys ≡ Some d)))
        → (cond b (Some x) (find p xs) ≡ Some d) ⊎ ((cond b (Some x) (find p xs) ≡ None) × (find p ys ≡ Some d))
    go true e more = inl e
    go false e more = more e

find-one : (p : ℕ → Bool) (x d : ℕ) → find p (x ∷ []) ≡ Some d → x ≡ d
find-one p x d h = go (p x) h
  where
    go : (b : Bool) → ◌≡◌ {A = Option ℕ} (cond b (Some x) None) (Some d) → x ≡ d
    go true e = cc
    go false e = absurd (cc)

pub found-le : (p : ℕ → Bool) (V d : ℕ) → find p (variables V) ≡ Some d → d ≤ V
found-le p zero d h = absurd (cc)
found-le p (suc V) d h = elim (find-append p (variables V) (suc V ∷ []) d h) [
  | inl f ↦ (let l = found-le p V d f in omega arith)
  | inr f ↦ (let l = find-one p (suc V) d f.1 in omega arith)
]

pub found-from : (p : ℕ → Bool) (V d : ℕ) → find p (variables V) ≡ Some d → 1 ≤ d
found-from p zero d h = absurd (cc)
found-from p (suc V) d h = elim (find-append p (variables V) (suc V ∷ []) d h) [
  | inl f ↦ found-from p V d f
  | inr f ↦ (let l = find-one p (suc V) d f.1 in omega arith)
]

found-below : (p : ℕ → Bool) (V d v : ℕ) → find p (variables V) ≡ Some d → 1 ≤ v → v < d → p v ≡ false
found-below p zero d v h a b = absurd (cc)
found-below p (suc V) d v h a b = elim (find-append p (variables V) (suc V ∷ []) d h) [
  | inl f ↦ found-below p V d v f a b
  | inr f ↦ (let l = find-one p (suc V) d f.1 in none-passes p V v f.0 (a, omega arith))
]

pub assigned-below : (V d v : ℕ) (T : Trail) → least_free V T ≡ Some d → 1 ≤ v → v < d → has_var (literals T) v ≡ true
assigned-below V d v T h a b = go (has_var (literals T) v) (found-below (λ x. not (has_var (literals T) x)) V d v h a b)
  where
    go : (c : Bool) → not c ≡ false → c ≡ true
    go true q = refl
    go false q = sym q

pub has-has_var : (P : List Literal) (l : Literal) → has P l ≡ true → has_var P l.var ≡ true
has-has_var [] l h = h
has-has_var (k ∷ P) l h = elim (or-cases (same l k) (has P l) h) [
  | inl a ↦ or-left (nat_eq l.var k.var) (has_var P l.var) (and-left (nat_eq l.var k.var) _ a)
  | inr b ↦ or-right (nat_eq l.var k.var) (has_var P l.var) (has-has_var P l b)
]

pub has-append : (P R : List Literal) (l : Literal) → has (P ++ R) l ≡ true → (has P l ≡ true) ⊎ (has R l ≡ true)
has-append [] R l h = inr h
has-append (k ∷ P) R l h = elim (or-cases (same l k) (has (P ++ R) l) h) [
  | inl a ↦ inl (or-left (same l k) (has P l) a)
  | inr b ↦ elim (has-append P R l b) [ inl c ↦ inl (or-right (same l k) (has P l) c) | inr d ↦ inr d ]
]

-- where they first differ
pub record Differ (N M : Assignment) : Type 0 where
  pub at : ℕ
  pub within : at < length M
  pub agree : (j : ℕ) → j < at → get_or N j false ≡ get_or M j false
  pub false_there : get_or N at false ≡ false
  pub true_here : get_or M at false ≡ true

-- one value more, the same in both
shifted : (b : Bool) (N M : Assignment) → Differ N M → Differ (b ∷ N) (b ∷ M)
shifted b N M d = record { at = suc d.at; within = (let w = d.within in omega arith); agree = same_at; false_there = d.false_there; true_here = d.true_here }
  where
    same_at : (j : ℕ) → j < suc d.at → get_or (b ∷ N) j false ≡ get_or (b ∷ M) j false
    same_at zero l = refl
    same_at (suc j) l = d.agree j (omega arith)

pub differ : (N M : Assignment) → comes_before N M ≡ true → Differ N M
differ [] M h = absurd (cc)
differ (false ∷ N) [] h = absurd (cc)
differ (true ∷ N) [] h = absurd (cc)
differ (true ∷ N) (false ∷ M) h = absurd (cc)
differ (false ∷ N) (true ∷ M) h = record { at = 0; within = omega arith; agree = λ j l. absurd (omega arith); false_there = refl; true_here = refl }
differ (false ∷ N) (false ∷ M) h = shifted false N M (differ N M h)
differ (true ∷ N) (true ∷ M) h = shifted true N M (differ N M h)

-- No assignment in which v is false, and which agrees with the trail below v, has v decided or
-- implied true: the first entry that it makes false would be a decision, on a variable that is
-- neither below v, nor v, nor above it.
never_before : (V : ℕ) (m : ℕ → Bool) (K : List Clause) (b T : Trail) (v : ℕ) → are_true m K ≡ true → TrailOk V K m b T → AreTrue m (literals b) → 1 ≤ v → m v ≡ false
    → ((u : ℕ) → 1 ≤ u → u < v → m u ≡ has (literals (b ++ T)) (positive u)) → has (literals T) (positive v) ≡ true → ⊥
never_before V m K b [] v a t h p f agree there = cc
never_before V m K b (e ∷ T) v a t h p f agree there = go (is_true m e.lit) refl
    (λ y r. never_before V m K (b ++ e ∷ []) T v a t.1 (rw literals-append (AreTrue-append m (literals b) (e.lit ∷ []) h (y, tt))) p f
    (λ u i j. agree u i j ∙ ap (λ (x : Trail). has (literals x) (positive u)) (sym (append_assoc b (e ∷ []) T))) r)
  where
    below : (d : ℕ) → e.lit ≡ negative d → m d ≡ true → 1 ≤ d → d < v → ⊥
    below d n y i j = elim (has-append (literals b) (literals (e ∷ T)) (positive d) (rw literals-append at (sym (agree d i j) ∙ y))) [
      | inl in_b ↦ (let x = has-has_var (literals b) (positive d) in_b in let fresh = t.0.fresh in let g : has_var (literals b) d ≡ false = rw n at fresh in cc)
      | inr in_t ↦ elim (or-cases (same (positive d) e.lit) (has (literals T) (positive d)) in_t) [
        | inl s ↦ (let x = same-eq (positive d) e.lit s in let w : positive d ≡ negative d = x ∙ n in let bad : true ≡ false = ap (λ (l : Literal). l.positive) w in cc)
        | inr s ↦ (let x = last-differs V m K b T e (positive d) t.1 s in let y : nat_eq e.lit.var d ≡ true = eq-eqb e.lit.var d (ap (λ (l : Literal). l.var) n) in cc)
      ]
    ]

    above : (d : ℕ) → least_free V b ≡ Some d → v < d → ⊥
    above d l j = let x = assigned-below V d v b l p j in let y = fresh-all V m K b (e ∷ T) (positive v) t there in cc

    decided : (d : ℕ) → least_free V b ≡ Some d → e.lit ≡ negative d → m d ≡ true → 1 ≤ d → ⊥
    decided d l n y i = go2 (nat_eq d v) refl
      where
        go2 : (c : Bool) → nat_eq d v ≡ c → ⊥
        go2 true q = let s = eqb-true d v q in let z : m d ≡ false = ap m s ∙ f in cc
        go2 false q = go3 (nat_lt d v) refl
          where
            ne : d ≢ v
            ne s = let z = eq-eqb d v s in cc q

            go3 : (c : Bool) → nat_lt d v ≡ c → ⊥
            go3 true r = below d n y i (ltb-true d v r)
            go3 false r = above d l (let z = ltb-false d v r in let w = ne in omega arith)

    go : (c : Bool) → is_true m e.lit ≡ c
        → (is_true m e.lit ≡ true → has (literals T) (positive v) ≡ true → ⊥) → ⊥
    go true y more = elim (or-cases (same (positive v) e.lit) (has (literals T) (positive v)) there) [
      | inl s ↦ (let x = ap (is_true m) (same-eq (positive v) e.lit s) in let z : m v ≡ true = x ∙ y in cc)
      | inr r ↦ more y r
    ]
    go false y more = because e.reason t.0.why
      where
        flip : (c : Bool) → not c ≡ false → c ≡ true
        flip true q = refl
        flip false q = sym q

        because : (r : Option ℕ) → Why V K m b e r → ⊥
        because None (inl w) = let z = w.1 in cc
        because None (inr w) = decided e.lit.var w.2 w.1 (flip (m e.lit.var) (ap (is_true m) (sym w.1) ∙ y)) (found-from (λ x. not (has_var (literals b) x)) V e.lit.var w.2)
        because (Some n) w = let z = others_false-true m (literals b) e.lit (clause_at K n) h w.2 (clause_at-true m K n a w.0 w.1) in cc

-- no satisfying assignment comes before the model
ended-first : (V : ℕ) (F : List Clause) (N M : Assignment) → length N ≡ V → Ended V F (StateOk V (value N)) M → comes_before N M ≡ true → ⊥
ended-first V F N M len g h =
    never_before V (value N) g.state.clauses [] g.state.trail (suc d.at) g.keeps.clauses g.keeps.trail tt (omega arith) v_false agree v_true
  where
    d : Differ N M
    d = differ N M h

    short : suc d.at ≤ V
    short = let w = d.within in let l = ap length g.is_values ∙ length-values V g.state.trail in omega arith

    v_false : value N (suc d.at) ≡ false
    v_false = (let i : suc d.at - 1 ≡ d.at = omega arith in rw i d.false_there)

    at_value : (u : ℕ) → IsVariable V u → value M u ≡ has (literals g.state.trail) (positive u)
    at_value u r = ap (λ (x : Assignment). value x u) g.is_values ∙ value-values V g.state.trail u r

    v_true : has (literals g.state.trail) (positive (suc d.at)) ≡ true
    v_true = sym (at_value (suc d.at) (omega arith, short)) ∙ (let i : suc d.at - 1 ≡ d.at = omega arith in rw i d.true_here)

    agree : (u : ℕ) → 1 ≤ u → u < suc d.at → value N u ≡ has (literals g.state.trail) (positive u)
    agree u i j = d.agree (u - 1) (omega arith) ∙ at_value u (i, (let s = short in omega arith))

-- A model satisfies the formula, and the clauses of the pure variables.
pub model-satisfies : (F : Formula) (B : ℕ) (Q : List Literal) (M : Assignment) → IsFormula F → RunsOrdered F B Q (model M) → Satisfies F M
model-satisfies F B Q M o r =
    let kept : IsKept F.vars (budget_of B Q) (λ s. Unit {0}) = record { closes = λ s a T h c. tt; goes = λ s t a h k e. tt } in
    let g = run-ended F.vars (budget_of B Q) F.clauses (λ s. Unit {0}) (begin F Q) M kept r tt ([], sym (append-nil F.clauses)) in
    record {
      values = ap length g.is_values ∙ length-values F.vars g.state.trail;
      clauses = ap (λ (x : Assignment). are_true (value x) F.clauses) g.is_values
          ∙ quiet-true F.vars g.state.trail F.clauses g.no_free o g.none_false;
    }

-- No assignment that satisfies the formula and the cube comes before the cube's model.
pub model-first : (F : Formula) (B : ℕ) (Q : List Literal) (M N : Assignment) → IsCube Q → RunsOrdered F B Q (model M) → Satisfies F N → AreTrue (value N) Q → ¬ (IsTrue (comes_before N M))
model-first F B Q M N c r n q h =
    let g = run-ended F.vars (budget_of B Q) F.clauses (StateOk F.vars (value N)) (begin F Q) M (ok-kept F.vars (budget_of B Q) (value N)) r (begin-ok F.vars (value N) F Q n.clauses c q)
    ([], sym (append-nil F.clauses)) in
    ended-first F.vars F.clauses N M n.values g h
