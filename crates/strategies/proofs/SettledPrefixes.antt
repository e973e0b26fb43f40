-- Prefixes: the one without literals, and one with one literal more; what an answer to the question
-- about the next variable says.
use Rattle.std.proofs.Common.{◌≡◌, ◌⊎◌, ℕ, ◌+◌, ◌<◌, ◌≤◌, Bool, true, false, not, List, [], ◌∷◌, ◌++◌, refl, sym, ap, subst, ◌∙◌, inl, inr, arith, All, nat_eq, eqb-true, eq-eqb, ◌||◌, ◌-◌, get_or, cond, Some, None, is_some, option_map, if◌then◌else◌}
use Rattle.std.proofs.lemmas.Bool.{cases_eq}
use Rattle.std.proofs.lemmas.List.{get_or_default}
use Rattle.std.proofs.lemmas.List.Elements.{All-nil, All-push, All-weaker, All-head, All-tail}
use Rattle.theory.specs.Literals.{Literal, has_var, IsVariable, negative}
use Rattle.theory.specs.Truth.{Formula, Assignment, AreTrue, Satisfies, value, is_true}
use Rattle.theory.specs.Trails.{Entry, Trail, literals, entry_of, current_level, decide}
use Rattle.theory.specs.Propagation.{quiet, by_place, Propagates}
use Rattle.theory.specs.FirstModel.{IsModelIn}
use Rattle.theory.specs.Pure.{first_clauses, searched}
use Rattle.theory.proofs.literals.LiteralSets.{has_var-head, or-none, false_unless, true_false}
use Rattle.theory.proofs.literals.LiteralLemmas.{not_true}
use Rattle.theory.proofs.literals.TrueClauses.{AreTrue-append}
use Rattle.theory.proofs.searching.PropagationLemmas.{Propagates-rests}
use Rattle.theory.proofs.searching.Rules.{IsRule-by_place}
use Rattle.theory.proofs.trails.TrailLists.{literals-append}
use Rattle.kernel.specs.State.{State}
use Rattle.kernel.specs.Rules.{rule_of}
use Rattle.kernel.specs.Answer.{closed_of}
use Rattle.kernel.specs.declared.closed.Closed.{Closed as Answer}
use Rattle.kernel.specs.declared.closed.Closed.TheVariants.{Quiet, Conflict}
use Rattle.kernel.specs.declared.order.Order.TheVariants.{ByPlace}
use Rattle.strategies.specs.declared.lowering.prefix.Prefix.{Prefix}
use Rattle.strategies.specs.Lowering.{HasNoModelIn, IsPrefix, IsFirstBelow}
use Rattle.strategies.proofs.FirstBelow.{AreTrue-agrees, IsFirstBelow-more, IsFirstBelow-true, IsFirstBelow-lower}
use Rattle.strategies.proofs.TrueTrails.{AreTrue-front, AreTrue-back, agree-on, Propagates-true, no-conflict, has_var-front, has_var-back, Propagates-has_var}

-- a variable has a value if it is on the trail
pub value-there : (T : Trail) (v : ℕ) → is_some (option_map (λ (e : Entry). e.lit.positive) (entry_of T v)) ≡ has_var (literals T) v
value-there [] v = refl
value-there (e ∷ T) v = go (nat_eq e.lit.var v) (nat_eq v e.lit.var) refl refl (value-there T v)
  where
    go : (a b : Bool) → nat_eq e.lit.var v ≡ a → nat_eq v e.lit.var ≡ b → is_some (option_map (λ (e : Entry). e.lit.positive) (entry_of T v)) ≡ has_var (literals T) v
        → is_some (option_map (λ (e : Entry). e.lit.positive) (cond a (Some e) (entry_of T v))) ≡ b || has_var (literals T) v
    go true true p q more = refl
    go false false p q more = more
    go true false p q more = true_false (nat_eq v e.lit.var) (eq-eqb v e.lit.var (sym (eqb-true e.lit.var v p))) q
    go false true p q more = true_false (nat_eq e.lit.var v) (eq-eqb e.lit.var v (sym (eqb-true v e.lit.var q))) p

-- none of the literals is of x if all are of variables below it
pub has_var-below : (x : ℕ) (P : List Literal) → All (λ l. l.var < x) P → has_var P x ≡ false
has_var-below x [] below = refl
has_var-below x (l ∷ P) below = or-none (nat_eq x l.var) (has_var P x)
    (false_unless (nat_eq x l.var) (λ e. (let less = All-head (λ k. k.var < x) l P below in let same = eqb-true x l.var e in omega arith)))
    (has_var-below x P (All-tail (λ k. k.var < x) l P below))

-- propagation by place over the first clauses, as the kernel says it
by-place : (F : Formula) (d : State) (a b : Answer) (U : Trail) → d.order ≡ ByPlace → d.clauses ≡ first_clauses F → a ≡ b → Propagates (rule_of d.order) d.clauses d.trail (closed_of a) U
    → Propagates by_place (first_clauses F) d.trail (closed_of b) U
by-place F d a b U o k e r =
    subst (λ c. Propagates by_place (first_clauses F) d.trail (closed_of c) U) e
    (subst (λ K. Propagates by_place K d.trail (closed_of a) U) k (subst (λ q. Propagates (rule_of q) d.clauses d.trail (closed_of a) U) o r))

-- a kernel of the formula and of the cube without literals
abbrev pub opened : Formula → ℕ → State
opened F n = record { vars = F.vars; order = ByPlace; first = n; clauses = first_clauses F; trail = []; out_of_memory = false }

from-nothing : (F : Formula) (n : ℕ) (d : State) (a b : Answer) (U : Trail) → d ≡ opened F n → a ≡ b → Propagates (rule_of d.order) d.clauses d.trail (closed_of a) U
    → Propagates by_place (first_clauses F) [] (closed_of b) U
from-nothing F n d a b U is e r =
    subst (λ (s : State). Propagates by_place (first_clauses F) s.trail (closed_of b) U) is
    (by-place F d a b U (ap (λ (s : State). s.order) is) (ap (λ (s : State). s.clauses) is) e r)

-- what propagation leaves of it
pub IsPrefix-open : (F : Formula) (M : Assignment) (n : ℕ) (q : List Literal) (d k : State) (a : Answer) → q ≡ [] → d ≡ opened F n → k.vars ≡ d.vars → k.clauses ≡ d.clauses → k.order ≡ d.order
    → k.out_of_memory ≡ false → a ≡ Quiet → Propagates (rule_of d.order) d.clauses d.trail (closed_of a) k.trail → IsPrefix F 1 M (record { cube = q; kernel = k })
IsPrefix-open F M n q d k a none is vars clauses order memory e r = subst (λ c. IsPrefix F 1 M (record { cube = c; kernel = k })) (sym none) (record {
  over = All-nil (λ l. IsVariable F.vars l.var);
  below = All-nil (λ l. l.var < 1);
  holds = tt;
  vars = vars ∙ ap (λ (s : State). s.vars) is;
  clauses = clauses ∙ ap (λ (s : State). s.clauses) is;
  in_order = order ∙ ap (λ (s : State). s.order) is;
  has_memory = memory;
  rests = Propagates-rests by_place (first_clauses F) [] k.trail (from-nothing F n d a Quiet k.trail is e r);
  follows = λ N m t. Propagates-true by_place IsRule-by_place (value N) (first_clauses F) [] k.trail quiet m.clauses (from-nothing F n d a Quiet k.trail is e r) tt;
  settled = λ u one less. absurd (omega arith);
})

-- there is no conflict in it
pub open-quiet : (F : Formula) (M : Assignment) (n : ℕ) (d : State) (U : Trail) (a : Answer) (i : ℕ) → Satisfies (searched F) M → d ≡ opened F n → a ≡ Conflict i
    → Propagates (rule_of d.order) d.clauses d.trail (closed_of a) U → ⊥
open-quiet F M n d U a i s is e r = no-conflict by_place IsRule-by_place (value M) (first_clauses F) [] U i s.clauses (from-nothing F n d a (Conflict i) U is e r) tt

-- a kernel with memory in which the literal is decided
abbrev pub decided : State → Literal → State
decided s l = if s.out_of_memory then s else record s { trail = decide s.trail l }

module _ (F : Formula) (M : Assignment) (p : Prefix) (l : Literal) (d : State) (h : IsPrefix F l.var M p) (is : d ≡ decided p.kernel l) where
  with-memory : d ≡ record p.kernel { trail = decide p.kernel.trail l }
  with-memory = is ∙ ap (λ b. if b then p.kernel else record p.kernel { trail = decide p.kernel.trail l }) h.has_memory

  on_trail : literals d.trail ≡ literals p.kernel.trail ++ l ∷ []
  on_trail = ap (λ (s : State). literals s.trail) with-memory ∙ literals-append p.kernel.trail (record { lit = l; reason = None; level = current_level p.kernel.trail + 1 } ∷ [])

  from-prefix : (a b : Answer) (U : Trail) → a ≡ b → Propagates (rule_of d.order) d.clauses d.trail (closed_of a) U → Propagates by_place (first_clauses F) d.trail (closed_of b) U
  from-prefix a b U e r = by-place F d a b U (ap (λ (s : State). s.order) with-memory ∙ h.in_order) (ap (λ (s : State). s.clauses) with-memory ∙ h.clauses) e r

  true-there : (N : Assignment) → Satisfies (searched F) N → AreTrue (value N) p.cube → is_true (value N) l ≡ true → AreTrue (value N) (literals d.trail)
  true-there N n t i = subst (AreTrue (value N)) (sym on_trail) (AreTrue-append (value N) (literals p.kernel.trail) (l ∷ []) (h.follows N n t) (i, tt))

  settled-there : (u : ℕ) → 1 ≤ u → u < l.var + 1 → has_var (literals d.trail) u ≡ true
  settled-there u one less = subst (λ P. has_var P u ≡ true) (sym on_trail) (go (cases_eq u l.var))
    where
      go : (u ≡ l.var) ⊎ (u ≡ l.var → ⊥) → has_var (literals p.kernel.trail ++ l ∷ []) u ≡ true
      go (inl e) = has_var-back (literals p.kernel.trail) (l ∷ []) u (subst (λ w. has_var (l ∷ []) w ≡ true) (sym e) (has_var-head l []))
      go (inr other) = has_var-front (literals p.kernel.trail) (l ∷ []) u (h.settled u one (omega arith))

  -- with one literal more, which is true in M
  pub IsPrefix-join : (q : List Literal) (k : State) (a : Answer) → IsVariable F.vars l.var → is_true (value M) l ≡ true → q ≡ p.cube ++ l ∷ [] → k.vars ≡ d.vars → k.clauses ≡ d.clauses → k.order ≡ d.order
      → k.out_of_memory ≡ false → a ≡ Quiet → Propagates (rule_of d.order) d.clauses d.trail (closed_of a) k.trail → IsPrefix F (l.var + 1) M (record { cube = q; kernel = k })
  IsPrefix-join q k a v t longer vars clauses order memory e r = subst (λ c. IsPrefix F (l.var + 1) M (record { cube = c; kernel = k })) (sym longer) (record {
    over = All-push (λ j. IsVariable F.vars j.var) p.cube l h.over v;
    below = All-push (λ j. j.var < l.var + 1) p.cube l (All-weaker (λ j. j.var < l.var) (λ j. j.var < l.var + 1) (λ j less. omega arith) p.cube h.below) (omega arith);
    holds = AreTrue-append (value M) p.cube (l ∷ []) h.holds (t, tt);
    vars = vars ∙ ap (λ (s : State). s.vars) with-memory ∙ h.vars;
    clauses = clauses ∙ ap (λ (s : State). s.clauses) with-memory ∙ h.clauses;
    in_order = order ∙ ap (λ (s : State). s.order) with-memory ∙ h.in_order;
    has_memory = memory;
    rests = Propagates-rests by_place (first_clauses F) d.trail k.trail (from-prefix a Quiet k.trail e r);
    follows = λ N n j. Propagates-true by_place IsRule-by_place (value N) (first_clauses F) d.trail k.trail quiet n.clauses (from-prefix a Quiet k.trail e r)
        (true-there N n (AreTrue-front (value N) p.cube (l ∷ []) j) (AreTrue-back (value N) p.cube (l ∷ []) j).0);
    settled = λ u one less. Propagates-has_var by_place (first_clauses F) d.trail k.trail quiet u (from-prefix a Quiet k.trail e r) (settled-there u one less);
  })

  -- there is no conflict in it
  pub join-quiet : (U : Trail) (a : Answer) (i : ℕ) → Satisfies (searched F) M → is_true (value M) l ≡ true → a ≡ Conflict i → Propagates (rule_of d.order) d.clauses d.trail (closed_of a) U → ⊥
  join-quiet U a i s t e r = no-conflict by_place IsRule-by_place (value M) (first_clauses F) d.trail U i s.clauses (from-prefix a (Conflict i) U e r) (true-there M s h.holds t)

-- a variable that is on the trail is settled
pub IsPrefix-there : (F : Formula) (x : ℕ) (M : Assignment) (p : Prefix) → IsPrefix F x M p → has_var (literals p.kernel.trail) x ≡ true → IsPrefix F (x + 1) M p
IsPrefix-there F x M p h there = record {
  over = h.over;
  below = All-weaker (λ l. l.var < x) (λ l. l.var < x + 1) (λ l less. omega arith) p.cube h.below;
  holds = h.holds;
  vars = h.vars;
  clauses = h.clauses;
  in_order = h.in_order;
  has_memory = h.has_memory;
  rests = h.rests;
  follows = h.follows;
  settled = λ u one less. elim (cases_eq u x) [ inl e ↦ subst (λ w. has_var (literals p.kernel.trail) w ≡ true) (sym e) there | inr other ↦ h.settled u one (omega arith) ];
}

pub IsFirstBelow-there : (F : Formula) (x : ℕ) (M : Assignment) (p : Prefix) → IsFirstBelow (searched F) x M → IsPrefix F x M p → has_var (literals p.kernel.trail) x ≡ true → IsFirstBelow (searched F) (x + 1) M
IsFirstBelow-there F x M p first h there = IsFirstBelow-more (searched F) x M first (λ N n a. agree-on (value N) (value M) (literals p.kernel.trail) x
    (h.follows N n (AreTrue-agrees F.vars x M N p.cube h.over h.below a h.holds)) (h.follows M first.satisfies h.holds) there)

-- one that isn't, and is true in M: no model has it false after the same values, or K does
pub IsFirstBelow-refuted : (F : Formula) (x : ℕ) (M : Assignment) (p : Prefix) → IsFirstBelow (searched F) x M → IsPrefix F x M p → value M x ≡ true
    → HasNoModelIn (searched F) (p.cube ++ negative x ∷ []) → IsFirstBelow (searched F) (x + 1) M
IsFirstBelow-refuted F x M p first h high none = IsFirstBelow-true (searched F) x M first high (λ N n a low. none N n
    (AreTrue-append (value N) p.cube (negative x ∷ []) (AreTrue-agrees F.vars x M N p.cube h.over h.below a h.holds) (ap not low, tt)))

pub IsFirstBelow-model : (F : Formula) (x : ℕ) (M K : Assignment) (p : Prefix) → 1 ≤ x → IsFirstBelow (searched F) x M → IsPrefix F x M p
    → IsModelIn (searched F) (p.cube ++ negative x ∷ []) K → IsFirstBelow (searched F) (x + 1) K
IsFirstBelow-model F x M K p one first h m = IsFirstBelow-lower (searched F) x M K one first m.satisfies
    (λ u from less. agree-on (value K) (value M) (literals p.kernel.trail) u
    (h.follows K m.satisfies (AreTrue-front (value K) p.cube (negative x ∷ []) m.cube)) (h.follows M first.satisfies h.holds) (h.settled u from less))
    (not_true (value K x) (AreTrue-back (value K) p.cube (negative x ∷ []) m.cube).0)

-- the prefix is that of K too
pub IsPrefix-model : (F : Formula) (x : ℕ) (M K : Assignment) (p : Prefix) (R : List Literal) → IsPrefix F x M p → AreTrue (value K) (p.cube ++ R) → IsPrefix F x K p
IsPrefix-model F x M K p R h t = record {
  over = h.over;
  below = h.below;
  holds = AreTrue-front (value K) p.cube R t;
  vars = h.vars;
  clauses = h.clauses;
  in_order = h.in_order;
  has_memory = h.has_memory;
  rests = h.rests;
  follows = h.follows;
  settled = h.settled;
}

-- the value that stands at a variable's place
pub value-at : (F : Formula) (M : Assignment) (x : ℕ) (b : Bool) → Satisfies F M → IsVariable F.vars x → b ≡ get_or M (x - 1) b → value M x ≡ b
value-at F M x b s v is = let long = s.values in let low = v.0 in let high = v.1 in get_or_default M (x - 1) false b (omega arith) ∙ sym is

-- in a model of the settled literals and the variable's negation, it is false
pub false-question : (F : Formula) (x : ℕ) (p : Prefix) (l : Literal) → l ≡ negative x → (K : Assignment) → IsModelIn (searched F) (p.cube ++ negative x ∷ []) K → is_true (value K) l ≡ true
false-question F x p l of K m = subst (λ k. is_true (value K) k ≡ true) (sym of) (AreTrue-back (value K) p.cube (negative x ∷ []) m.cube).0
