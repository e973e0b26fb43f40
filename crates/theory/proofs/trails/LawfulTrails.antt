-- The lawful form of a trail: what it says of the entries, and that propagation, decisions and
-- going back keep it.
use Rattle.std.proofs.Common.{◌≡◌, ℕ, zero, suc, ◌+◌, ◌-◌, ◌<◌, ◌≤◌, Bool, true, false, not, ◌&&◌, ◌||◌, List, [], ◌∷◌, ◌++◌, length, refl, ap, sym, subst, ◌∙◌, nat_le, inl, inr, find, cond, Option, Some, None, append_assoc, append-nil, length-append, arith, option_map, leb-true, leb-false, le_of_eq}
use Rattle.std.proofs.lemmas.List.{get_or_append_left}
use Rattle.std.proofs.lemmas.Option.{unwrap_or-slice_get}
use Rattle.theory.specs.Literals.{Literal, Clause, negated, same, has, has_var, without}
use Rattle.theory.specs.Status.{is_false, is_unit_in, others_false, unit_literal}
use Rattle.theory.specs.Trails.{Entry, Trail, literals, current_level, decide, up_to}
use Rattle.theory.specs.Propagation.{clause_at, least_false, Closed, conflict, unit_entry, Propagates, clashes, grows, rests, Rule, IsRule}
use Rattle.theory.specs.Lawful.{IsReason, IsGrounded, IsLawfulEntry, IsLawfulAfter, IsLawful}
use Rattle.theory.proofs.literals.LiteralLemmas.{and-left, and-right, or-cases, not_true}
use Rattle.theory.proofs.literals.LiteralSets.{true_false, false_unless, has-tail, has-equal, is_false-from_Refutes, has-from_without, list_all-has}
use Rattle.theory.proofs.trails.TrailLists.{current_level-push}
use Rattle.theory.proofs.literals.ClauseLemmas.{clause_at-next}

-- levels
pub level-rises : (K : List Clause) (before : Trail) (e : Entry) (r : Option ℕ) → IsGrounded K before e r → current_level before ≤ e.level
level-rises K before e (Some n) g = le_of_eq (sym g.0)
level-rises K before e None (inl h) = let a = h.0 in let b = h.1 in omega arith
level-rises K before e None (inr h) = omega arith

-- the levels never fall
pub current_level-rises : (K : List Clause) (before T : Trail) → IsLawfulAfter K before T → current_level before ≤ current_level (before ++ T)
current_level-rises K before [] h = le_of_eq (ap current_level (sym (append-nil before)))
current_level-rises K before (e ∷ T) h =
    let here : current_level before ≤ e.level = level-rises K before e e.reason h.0.grounded in
    let level : current_level (before ++ e ∷ []) ≡ e.level = current_level-push before e in
    let more : current_level (before ++ e ∷ []) ≤ current_level ((before ++ e ∷ []) ++ T) = current_level-rises K (before ++ e ∷ []) T h.1 in
    let same_end : current_level ((before ++ e ∷ []) ++ T) ≡ current_level (before ++ e ∷ T) = ap current_level (append_assoc before (e ∷ []) T) in
    omega arith

-- an entry of a lawful trail, and what follows it
pub IsLawfulAfter-at : (K : List Clause) (before A : Trail) (e : Entry) (B : Trail) → IsLawfulAfter K before (A ++ e ∷ B)
    → IsLawfulEntry K (before ++ A) e × IsLawfulAfter K ((before ++ A) ++ e ∷ []) B
IsLawfulAfter-at K before [] e B h = rw (append-nil before) h
IsLawfulAfter-at K before (a ∷ A) e B h = rw (append_assoc before (a ∷ []) A) at (IsLawfulAfter-at K (before ++ a ∷ []) A e B h.1)

pub IsLawfulAfter-push : (K : List Clause) (before T : Trail) (e : Entry) → IsLawfulAfter K before T → IsLawfulEntry K (before ++ T) e → IsLawfulAfter K before (T ++ e ∷ [])
IsLawfulAfter-push K before [] e h k = (rw (append-nil before) at k, tt)
IsLawfulAfter-push K before (a ∷ T) e h k = (h.0, IsLawfulAfter-push K (before ++ a ∷ []) T e h.1 (rw (append_assoc before (a ∷ []) T) k))

pub IsLawful-push : (K : List Clause) (T : Trail) (e : Entry) → IsLawful K T → IsLawfulEntry K T e → IsLawful K (T ++ e ∷ [])
IsLawful-push K T e h k = IsLawfulAfter-push K [] T e h k

-- more clauses
pub clause_at-append : (K D : List Clause) (n : ℕ) → 1 ≤ n → n ≤ length K → clause_at (K ++ D) n ≡ clause_at K n
clause_at-append K D n l h =
    let within : n - 1 < length K = omega arith in
    unwrap_or-slice_get (K ++ D) (n - 1) [] ∙ (get_or_append_left K D [] (n - 1) within ∙ sym (unwrap_or-slice_get K (n - 1) []))

IsReason-append : (K D : List Clause) (P : List Literal) (l : Literal) (n : ℕ) → IsReason K P l n → IsReason (K ++ D) P l n
IsReason-append K D P l n h =
    let c : clause_at (K ++ D) n ≡ clause_at K n = clause_at-append K D n h.numbered.0 h.numbered.1 in
    let longer : n ≤ length (K ++ D) = let k = h.numbered.1 in let e = length-append K D in omega arith in
    record { numbered = (h.numbered.0, longer); holds = rw c h.holds; others = rw c h.others }

IsGrounded-append : (K D : List Clause) (before : Trail) (e : Entry) (r : Option ℕ) → IsGrounded K before e r → IsGrounded (K ++ D) before e r
IsGrounded-append K D before e (Some n) h = (h.0, IsReason-append K D (literals before) e.lit n h.1)
IsGrounded-append K D before e None h = h

pub IsLawfulAfter-append : (K D : List Clause) (before T : Trail) → IsLawfulAfter K before T → IsLawfulAfter (K ++ D) before T
IsLawfulAfter-append K D before [] h = tt
IsLawfulAfter-append K D before (e ∷ T) h =
    (record { is_new = h.0.is_new; grounded = IsGrounded-append K D before e e.reason h.0.grounded }, IsLawfulAfter-append K D (before ++ e ∷ []) T h.1)

pub IsLawful-append : (K D : List Clause) (T : Trail) → IsLawful K T → IsLawful (K ++ D) T
IsLawful-append K D T h = IsLawfulAfter-append K D [] T h

-- going back
up_to-above : (K : List Clause) (before T : Trail) (b : ℕ) → IsLawfulAfter K before T → b < current_level before → up_to T b ≡ []
up_to-above K before [] b h above = refl
up_to-above K before (e ∷ T) b h above =
    let here : current_level before ≤ e.level = level-rises K before e e.reason h.0.grounded in
    let level : current_level (before ++ e ∷ []) ≡ e.level = current_level-push before e in
    let out : nat_le e.level b ≡ false = false_unless (nat_le e.level b) (λ t. let l : e.level ≤ b = leb-true e.level b t in omega arith) in
    let rest : up_to T b ≡ [] = up_to-above K (before ++ e ∷ []) T b h.1 (omega arith) in
    rw out rest

pub IsLawfulAfter-up_to : (K : List Clause) (before T : Trail) (b : ℕ) → IsLawfulAfter K before T → IsLawfulAfter K before (up_to T b)
IsLawfulAfter-up_to K before [] b h = tt
IsLawfulAfter-up_to K before (e ∷ T) b h = go (nat_le e.level b) refl (IsLawfulAfter-up_to K (before ++ e ∷ []) T b h.1)
  where
    go : (t : Bool) → nat_le e.level b ≡ t → IsLawfulAfter K (before ++ e ∷ []) (up_to T b) → IsLawfulAfter K before (cond t (e ∷ up_to T b) (up_to T b))
    go true t more = (h.0, more)
    go false t more =
        let above : b < e.level = leb-false e.level b t in
        let level : current_level (before ++ e ∷ []) ≡ e.level = current_level-push before e in
        let none : up_to T b ≡ [] = up_to-above K (before ++ e ∷ []) T b h.1 (omega arith) in
        rw none tt

pub IsLawful-up_to : (K : List Clause) (T : Trail) (b : ℕ) → IsLawful K T → IsLawful K (up_to T b)
IsLawful-up_to K T b h = IsLawfulAfter-up_to K [] T b h

-- decisions
pub IsLawful-decide : (K : List Clause) (T : Trail) (l : Literal) → IsLawful K T → has_var (literals T) l.var ≡ false → IsLawful K (decide T l)
IsLawful-decide K T l h free =
    IsLawful-push K T (record { lit = l; reason = None; level = current_level T + 1 }) h (record { is_new = free; grounded = inr refl })

-- what is found passes, and is there
find-passes : (p : Literal → Bool) (c : Clause) (l : Literal) → find p c ≡ Some l → (has c l ≡ true) × (p l ≡ true)
find-passes p [] l h = absurd (cc)
find-passes p (k ∷ c) l h = go (p k) refl h (find-passes p c l)
  where
    go : (b : Bool) → p k ≡ b → cond b (Some k) (find p c) ≡ Some l → (find p c ≡ Some l → (has c l ≡ true) × (p l ≡ true)) → (has (k ∷ c) l ≡ true) × (p l ≡ true)
    go true e t more = let one : k ≡ l = cc in (has-equal k l c (sym one), ap p (sym one) ∙ e)
    go false e t more = let later = more t in (has-tail k l c later.0, later.1)

pub least_false-at : (P : List Literal) (K : List Clause) (n : ℕ) → least_false P K ≡ Some n → (1 ≤ n) × (n ≤ length K) × (is_false P (clause_at K n) ≡ true)
least_false-at P [] n h = absurd (cc)
least_false-at P (c ∷ K) n h = first (is_false P c) refl h (least_false-at P K)
  where
    Claim : ℕ → Type 0
    Claim k = (1 ≤ k) × (k ≤ length (c ∷ K)) × (is_false P (clause_at (c ∷ K) k) ≡ true)

    later : (r : Option ℕ) → ((k : ℕ) → r ≡ Some k → (1 ≤ k) × (k ≤ length K) × (is_false P (clause_at K k) ≡ true)) → option_map (λ k. k + 1) r ≡ Some n → Claim n
    later None more e = absurd (cc)
    later (Some k) more e =
        let facts = more k refl in
        let one = facts.0 in
        let end = facts.1 in
        let number : k + 1 ≡ n = cc in
        let here : Claim (k + 1) = (omega arith, omega arith, rw (clause_at-next c K k one) facts.2) in
        subst Claim number here

    first : (r : Bool) → is_false P c ≡ r → elim r [ true ↦ Some 1 | false ↦ option_map (λ k. k + 1) (least_false P K) ] ≡ Some n
        → ((k : ℕ) → least_false P K ≡ Some k → (1 ≤ k) × (k ≤ length K) × (is_false P (clause_at K k) ≡ true)) → Claim n
    first true p e more =
        let number : 1 ≡ n = cc in
        let here : Claim 1 = (omega arith, omega arith, p) in
        subst Claim number here
    first false p e more = later (least_false P K) more e

-- where none is false, the clause of a number isn't
pub least_false-none : (P : List Literal) (K : List Clause) (n : ℕ) → least_false P K ≡ None → 1 ≤ n → n ≤ length K → is_false P (clause_at K n) ≡ false
least_false-none P [] n h one end = absurd (omega arith)
least_false-none P (c ∷ K) n h one end = first (is_false P c) refl h n one end (least_false-none P K)
  where
    none : (r : Option ℕ) → option_map (λ k. k + 1) r ≡ None → r ≡ None
    none None e = refl
    none (Some k) e = absurd (cc)

    first : (r : Bool) → is_false P c ≡ r → ◌≡◌ {A = Option ℕ} (elim r [ true ↦ Some 1 | false ↦ option_map (λ k. k + 1) (least_false P K) ]) None
        → (n : ℕ) → 1 ≤ n → n ≤ length (c ∷ K) → ((m : ℕ) → least_false P K ≡ None → 1 ≤ m → m ≤ length K → is_false P (clause_at K m) ≡ false)
        → is_false P (clause_at (c ∷ K) n) ≡ false
    first true p e n one end more = absurd (cc)
    first false p e zero one end more = absurd (omega arith)
    first false p e (suc zero) one end more = p
    first false p e (suc (suc n)) one end more =
        let number : suc n + 1 ≡ suc (suc n) = omega arith in
        subst (λ m. is_false P (clause_at (c ∷ K) m) ≡ false) number
        (ap (is_false P) (clause_at-next c K (suc n) (omega arith)) ∙ more (suc n) (none (least_false P K) e) (omega arith) (omega arith))

-- a unit clause is a reason for its literal, whose variable is new
pub unit_literal-facts : (P : List Literal) (c : Clause) (l : Literal) → unit_literal P c ≡ Some l → (has c l ≡ true) × (has_var P l.var ≡ false) × (is_false P (without c l) ≡ true)
unit_literal-facts P c l h =
    let found = find-passes (is_unit_in P c) c l h in
    let unit : not (has_var P l.var) && others_false P c l ≡ true = found.1 in
    let free = not_true (has_var P l.var) (and-left (not (has_var P l.var)) (others_false P c l) unit) in
    let others : others_false P c l ≡ true = and-right (not (has_var P l.var)) (others_false P c l) unit in
    (found.0, free, is_false-from_Refutes P (without c l) (λ k a. other k (has-from_without c l k a) (list_all-has (λ k. same l k || has P (negated k)) c k others (has-from_without c l k a).0)))
  where
    other : (k : Literal) → (has c k ≡ true) × (same l k ≡ false) → same l k || has P (negated k) ≡ true → has P (negated k) ≡ true
    other k a t = elim (or-cases (same l k) (has P (negated k)) t) [ inl s ↦ true_false (same l k) s a.1 | inr r ↦ r ]

pub IsLawful-unit : (rule : Rule) → IsRule rule → (K : List Clause) (T : Trail) (u : ℕ × Literal) → IsLawful K T → rule T K ≡ Some u → IsLawful K (T ++ unit_entry T u ∷ [])
IsLawful-unit rule g K T u h e =
    let at = g.gives T K u e in
    let facts = unit_literal-facts (literals T) (clause_at K u.0) u.1 at.2 in
    IsLawful-push K T (unit_entry T u) h (record { is_new = facts.1; grounded = (refl, record { numbered = (at.0, at.1); holds = facts.0; others = facts.2 }) })

-- propagation
pub IsLawful-Propagates : (rule : Rule) → IsRule rule → (K : List Clause) (T U : Trail) (a : Closed) → Propagates rule K T a U → IsLawful K T → IsLawful K U
IsLawful-Propagates rule g K T U a (clashes h) t = t
IsLawful-Propagates rule g K T U a (rests h i) t = t
IsLawful-Propagates rule g K T U a (grows {u = u} h i more) t = IsLawful-Propagates rule g K (T ++ unit_entry T u ∷ []) U a more (IsLawful-unit rule g K T u t i)

pub current_level-Propagates : (rule : Rule) (K : List Clause) (T U : Trail) (a : Closed) → Propagates rule K T a U → current_level U ≡ current_level T
current_level-Propagates rule K T U a (clashes h) = refl
current_level-Propagates rule K T U a (rests h i) = refl
current_level-Propagates rule K T U a (grows {u = u} h i more) = current_level-Propagates rule K (T ++ unit_entry T u ∷ []) U a more ∙ current_level-push T (unit_entry T u)

-- where propagation ends in a conflict, the clause of that number is false
pub Propagates-conflict : (rule : Rule) (K : List Clause) (T U : Trail) (n : ℕ) → Propagates rule K T (conflict n) U → least_false (literals U) K ≡ Some n
Propagates-conflict rule K T U n (clashes h) = h
Propagates-conflict rule K T U n (grows {u = u} h i more) = Propagates-conflict rule K (T ++ unit_entry T u ∷ []) U n more
