-- The entries of a lawful trail: each literal has its one entry; and the cube that stands on it.
use Rattle.std.proofs.Common.{◌≡◌, ℕ, ◌+◌, ◌≤◌, Bool, true, false, not, ◌&&◌, List, [], ◌∷◌, ◌++◌, refl, ap, sym, subst, ◌∙◌, nat_eq, nat_le, eqb-true, eq-eqb, inl, inr, filter, cond, Some, None, is_some, append_assoc, append-nil, arith, le-leb}
use Rattle.std.proofs.lemmas.List.{map-append}
use Rattle.std.proofs.lemmas.List.Elements.{filter-append}
use Rattle.theory.specs.Literals.{Literal, Clause, negated, has, has_var, has_both_signs, IsCube, are_distinct}
use Rattle.theory.specs.Trails.{Entry, Trail, literals, current_level, entry_of, is_given, cube_trail, decide, up_to}
use Rattle.theory.specs.Propagation.{unit_entry, Closed, Propagates, clashes, grows, rests, Rule}
use Rattle.theory.specs.Lawful.{IsLawfulEntry, IsLawfulAfter, IsLawful, cube_of}
use Rattle.theory.specs.Learning.{is_of_cube}
use Rattle.theory.proofs.literals.LiteralLemmas.{and-left, and-right, or-left, not_true}
use Rattle.theory.proofs.literals.LiteralSets.{Refutes, true_false, false_unless, and-true, negated-other, has-head, has-tail, has-cases, has-append_right, has-append_cases, has_var-has, has_var-none, has_both_signs-none, or-false_left, or-false_right}
use Rattle.theory.proofs.trails.LawfulTrails.{current_level-rises, IsLawfulAfter-at}
use Rattle.theory.proofs.trails.TrailLists.{current_level-push}

-- the entry e stands between A and B
pub record IsAt (T : Trail) (e : Entry) : Type 0 where
  pub before : Trail
  pub behind : Trail
  pub split : T ≡ before ++ e ∷ behind

-- an entry with this literal that passes the test
pub entry_of_filter : (p : Entry → Bool) (T : Trail) (l : Literal) → has (literals (filter p T)) l ≡ true → (e : Entry) × IsAt T e × (e.lit ≡ l) × (p e ≡ true)
entry_of_filter p [] l h = absurd (cc)
entry_of_filter p (x ∷ T) l h = go (p x) refl h (entry_of_filter p T l)
  where
    Found : Trail → Type 0
    Found U = (e : Entry) × IsAt U e × (e.lit ≡ l) × (p e ≡ true)

    later : Found T → Found (x ∷ T)
    later f = (f.0, record { before = x ∷ f.1.before; behind = f.1.behind; split = ap (λ U. x ∷ U) f.1.split }, f.2, f.3)

    go : (b : Bool) → p x ≡ b → has (literals (cond b (x ∷ filter p T) (filter p T))) l ≡ true → (has (literals (filter p T)) l ≡ true → Found T) → Found (x ∷ T)
    go true e t more = elim (has-cases x.lit l (literals (filter p T)) t) [
      | inl i ↦ (x, record { before = []; behind = T; split = refl }, sym i, e)
      | inr r ↦ later (more r)
    ]
    go false e t more = later (more t)

pub entry_of_literal : (T : Trail) (l : Literal) → has (literals T) l ≡ true → (e : Entry) × IsAt T e × (e.lit ≡ l)
entry_of_literal [] l h = absurd (cc)
entry_of_literal (x ∷ T) l h = elim (has-cases x.lit l (literals T) h) [
  | inl i ↦ (x, record { before = []; behind = T; split = refl }, sym i)
  | inr r ↦ let f = entry_of_literal T l r in (f.0, record { before = x ∷ f.1.before; behind = f.1.behind; split = ap (λ U. x ∷ U) f.1.split }, f.2)
]

-- the literals of a trail in parts
pub literals-at : (A : Trail) (e : Entry) (B : Trail) → literals (A ++ e ∷ B) ≡ literals A ++ e.lit ∷ literals B
literals-at A e B = map-append (λ (x : Entry). x.lit) A (e ∷ B)

pub has-literals_at : (T : Trail) (e : Entry) → IsAt T e → has (literals T) e.lit ≡ true
has-literals_at T e a =
    let parts : literals T ≡ literals a.before ++ e.lit ∷ literals a.behind = ap literals a.split ∙ literals-at a.before e a.behind in
    subst (λ x. has x e.lit ≡ true) (sym parts) (has-append_right (literals a.before) (e.lit ∷ literals a.behind) e.lit (has-head e.lit (literals a.behind)))

-- the first entry of a variable is found
find-at : (A : Trail) (e : Entry) (B : Trail) (v : ℕ) → has_var (literals A) v ≡ false → e.lit.var ≡ v → entry_of (A ++ e ∷ B) v ≡ Some e
find-at [] e B v h k = let same_var : nat_eq e.lit.var v ≡ true = eq-eqb e.lit.var v k in rw same_var refl
find-at (a ∷ A) e B v h k = go (nat_eq a.lit.var v) refl (λ f. find-at A e B v f k)
  where
    rest : has_var (literals A) v ≡ false
    rest = or-false_right (nat_eq v a.lit.var) (has_var (literals A) v) h

    go : (b : Bool) → nat_eq a.lit.var v ≡ b → (has_var (literals A) v ≡ false → entry_of (A ++ e ∷ B) v ≡ Some e) → cond b (Some a) (entry_of (A ++ e ∷ B) v) ≡ Some e
    go true i more = true_false (has_var (literals (a ∷ A)) v) (or-left (nat_eq v a.lit.var) (has_var (literals A) v) (eq-eqb v a.lit.var (sym (eqb-true a.lit.var v i)))) h
    go false i more = more rest

pub IsLawfulEntry-at : (K : List Clause) (T : Trail) (e : Entry) (a : IsAt T e) → IsLawful K T → IsLawfulEntry K a.before e
IsLawfulEntry-at K T e a h = (IsLawfulAfter-at K [] a.before e a.behind (subst (IsLawful K) a.split h)).0

-- an entry is the one that is found for its variable
pub entry_of-at : (K : List Clause) (T : Trail) (e : Entry) → IsLawful K T → IsAt T e → entry_of T e.lit.var ≡ Some e
entry_of-at K T e h a =
    let here = IsLawfulEntry-at K T e a h in
    ap (λ U. entry_of U e.lit.var) a.split ∙ find-at a.before e a.behind e.lit.var here.is_new refl

-- the levels of the entries are at most the current one
pub level-at : (K : List Clause) (T : Trail) (e : Entry) → IsLawful K T → IsAt T e → e.level ≤ current_level T
level-at K T e h a =
    let rest = (IsLawfulAfter-at K [] a.before e a.behind (subst (IsLawful K) a.split h)).1 in
    let rises : current_level (a.before ++ e ∷ []) ≤ current_level ((a.before ++ e ∷ []) ++ a.behind) = current_level-rises K (a.before ++ e ∷ []) a.behind rest in
    let level : current_level (a.before ++ e ∷ []) ≡ e.level = current_level-push a.before e in
    let same_end : current_level ((a.before ++ e ∷ []) ++ a.behind) ≡ current_level T = ap current_level (append_assoc a.before (e ∷ []) a.behind ∙ sym a.split) in
    omega arith

-- two literals of one variable on a lawful trail are one
pub literals-distinct : (K : List Clause) (T : Trail) (k l : Literal) → IsLawful K T → has (literals T) k ≡ true → has (literals T) l ≡ true → k.var ≡ l.var → k ≡ l
literals-distinct K T k l h a b e =
    let f = entry_of_literal T k a in
    let g = entry_of_literal T l b in
    let found_k : entry_of T k.var ≡ Some f.0 = subst (λ (x : Literal). entry_of T x.var ≡ Some f.0) f.2 (entry_of-at K T f.0 h f.1) in
    let found_l : entry_of T l.var ≡ Some g.0 = subst (λ (x : Literal). entry_of T x.var ≡ Some g.0) g.2 (entry_of-at K T g.0 h g.1) in
    let one : Some f.0 ≡ Some g.0 = sym found_k ∙ (ap (entry_of T) e ∙ found_l) in
    let entry : f.0 ≡ g.0 = cc in
    sym f.2 ∙ (ap (λ (x : Entry). x.lit) entry ∙ g.2)

pub literals-consistent : (K : List Clause) (T : Trail) (l : Literal) → IsLawful K T → has (literals T) l ≡ true → has (literals T) (negated l) ≡ true → ⊥
literals-consistent K T l h a b = negated-other l (literals-distinct K T l (negated l) h a b refl)

-- a clause whose literals are all false has no variable in both signs
pub has_both_signs-refuted : (K : List Clause) (T : Trail) (c : Clause) → IsLawful K T → Refutes (literals T) c → has_both_signs c ≡ false
has_both_signs-refuted K T c h r = has_both_signs-none c (λ l a b. literals-consistent K T (negated l) h (r l a) (r (negated l) b))

-- the cube on a trail
pub has-from_cube_of : (K : List Clause) (T : Trail) (q : Literal) → IsLawful K T → has (cube_of T) q ≡ true → (has (literals T) q ≡ true) × (is_of_cube T q ≡ true)
has-from_cube_of K T q h t =
    let f = entry_of_filter (λ e. is_given (Some e)) T q t in
    let found : entry_of T q.var ≡ Some f.0 = subst (λ (x : Literal). entry_of T x.var ≡ Some f.0) f.2 (entry_of-at K T f.0 h f.1) in
    (subst (λ x. has (literals T) x ≡ true) f.2 (has-literals_at T f.0 f.1), ap is_given found ∙ f.3)

pub has-cube_of : (K : List Clause) (T : Trail) (q : Literal) → IsLawful K T → has (literals T) q ≡ true → is_of_cube T q ≡ true → has (cube_of T) q ≡ true
has-cube_of K T q h t g =
    let f = entry_of_literal T q t in
    let found : entry_of T q.var ≡ Some f.0 = subst (λ (x : Literal). entry_of T x.var ≡ Some f.0) f.2 (entry_of-at K T f.0 h f.1) in
    let given : is_given (Some f.0) ≡ true = sym (ap is_given found) ∙ g in
    let kept : filter (λ e. is_given (Some e)) (f.0 ∷ f.1.behind) ≡ f.0 ∷ filter (λ e. is_given (Some e)) f.1.behind = rw given refl in
    let parts : cube_of T ≡ literals (filter (λ e. is_given (Some e)) f.1.before) ++ f.0.lit ∷ literals (filter (λ e. is_given (Some e)) f.1.behind)
    = ap cube_of f.1.split ∙ (ap literals (filter-append (λ e. is_given (Some e)) f.1.before (f.0 ∷ f.1.behind)) ∙ (ap (λ U. literals (filter (λ e. is_given (Some e)) f.1.before ++ U)) kept
    ∙ literals-at (filter (λ e. is_given (Some e)) f.1.before) f.0 (filter (λ e. is_given (Some e)) f.1.behind))) in
    let here : has (literals (filter (λ e. is_given (Some e)) f.1.before) ++ f.0.lit ∷ literals (filter (λ e. is_given (Some e)) f.1.behind)) f.0.lit ≡ true
    = has-append_right (literals (filter (λ e. is_given (Some e)) f.1.before)) (f.0.lit ∷ literals (filter (λ e. is_given (Some e)) f.1.behind)) f.0.lit (has-head f.0.lit (literals (filter (λ e. is_given (Some e)) f.1.behind))) in
    subst (λ x. has (cube_of T) x ≡ true) f.2 (subst (λ c. has c f.0.lit ≡ true) (sym parts) here)

pub cube_of-push : (T : Trail) (e : Entry) → is_given (Some e) ≡ false → cube_of (T ++ e ∷ []) ≡ cube_of T
cube_of-push T e h =
    let none : filter (λ e. is_given (Some e)) (e ∷ []) ≡ [] = rw h refl in
    ap literals (filter-append (λ e. is_given (Some e)) T (e ∷ []) ∙ (ap (λ U. filter (λ e. is_given (Some e)) T ++ U) none ∙ append-nil (filter (λ e. is_given (Some e)) T)))

pub and-false_right : (a b : Bool) → b ≡ false → a && b ≡ false
and-false_right true b h = h
and-false_right false b h = refl

pub cube_of-unit : (T : Trail) (u : ℕ × Literal) → cube_of (T ++ unit_entry T u ∷ []) ≡ cube_of T
cube_of-unit T u = cube_of-push T (unit_entry T u) (and-false_right (nat_eq (current_level T) 0) false refl)

pub cube_of-decide : (T : Trail) (l : Literal) → cube_of (decide T l) ≡ cube_of T
cube_of-decide T l = cube_of-push T (record { lit = l; reason = None; level = current_level T + 1 }) (above (current_level T + 1) (omega arith))
  where
    above : (n : ℕ) → 1 ≤ n → nat_eq n 0 && true ≡ false
    above n h = false_unless (nat_eq n 0 && true) (λ t. let z : n ≡ 0 = eqb-true n 0 (and-left (nat_eq n 0) true t) in omega arith)

pub cube_of-Propagates : (rule : Rule) (K : List Clause) (T U : Trail) (a : Closed) → Propagates rule K T a U → cube_of U ≡ cube_of T
cube_of-Propagates rule K T U a (clashes h) = refl
cube_of-Propagates rule K T U a (rests h i) = refl
cube_of-Propagates rule K T U a (grows {u = u} h i more) = cube_of-Propagates rule K (T ++ unit_entry T u ∷ []) U a more ∙ cube_of-unit T u

pub cube_of-up_to : (T : Trail) (b : ℕ) → cube_of (up_to T b) ≡ cube_of T
cube_of-up_to [] b = refl
cube_of-up_to (e ∷ T) b = go (nat_le e.level b) (is_given (Some e)) refl refl (cube_of-up_to T b)
  where
    go : (x y : Bool) → nat_le e.level b ≡ x → is_given (Some e) ≡ y → cube_of (up_to T b) ≡ cube_of T
        → literals (filter (λ e. is_given (Some e)) (cond x (e ∷ up_to T b) (up_to T b))) ≡ literals (cond y (e ∷ filter (λ e. is_given (Some e)) T) (filter (λ e. is_given (Some e)) T))
    go true true p q more = rw q (ap (λ c. e.lit ∷ c) more)
    go true false p q more = rw q more
    go false false p q more = more
    go false true p q more =
        let zero_level : e.level ≡ 0 = eqb-true e.level 0 (and-left (nat_eq e.level 0) (not (is_some e.reason)) q) in
        true_false (nat_le e.level b) (le-leb e.level b (omega arith)) p

pub cube_of-cube_trail : (Q : List Literal) → cube_of (cube_trail Q) ≡ Q
cube_of-cube_trail [] = refl
cube_of-cube_trail (q ∷ Q) = ap (λ c. q ∷ c) (cube_of-cube_trail Q)

-- a cube's trail
IsLawfulAfter-cube_trail : (K : List Clause) (before : Trail) (Q : List Literal) → current_level before ≡ 0
    → ((l : Literal) → has Q l ≡ true → has_var (literals before) l.var ≡ false) → are_distinct Q ≡ true → IsLawfulAfter K before (cube_trail Q)
IsLawfulAfter-cube_trail K before [] level apart d = tt
IsLawfulAfter-cube_trail K before (q ∷ Q) level apart d = (
  record { is_new = apart q (has-head q Q); grounded = inl (refl, level) },
  IsLawfulAfter-cube_trail K (before ++ e ∷ []) Q (current_level-push before e) (λ l a. has_var-none (literals (before ++ e ∷ [])) l.var (other l a)) (and-right (not (has_var Q q.var)) (are_distinct Q) d),
)
  where
    e : Entry
    e = record { lit = q; reason = None; level = 0 }

    alone : has_var Q q.var ≡ false
    alone = not_true (has_var Q q.var) (and-left (not (has_var Q q.var)) (are_distinct Q) d)

    other : (l : Literal) → has Q l ≡ true → (k : Literal) → has (literals (before ++ e ∷ [])) k ≡ true → k.var ≡ l.var → ⊥
    other l a k b v = elim (has-append_cases (literals before) (q ∷ []) k (subst (λ c. has c k ≡ true) (literals-at before e []) b)) [
      | inl i ↦ true_false (has_var (literals before) l.var) (subst (λ n. has_var (literals before) n ≡ true) v (has_var-has (literals before) k i)) (apart l (has-tail q l Q a))
      | inr i ↦ elim (has-cases q k [] i) [
        | inl one ↦ true_false (has_var Q q.var) (subst (λ n. has_var Q n ≡ true) (sym v ∙ ap (λ (x : Literal). x.var) one) (has_var-has Q l a)) alone
        | inr none ↦ absurd (cc)
      ]
    ]

pub IsLawful-cube_trail : (K : List Clause) (Q : List Literal) → are_distinct Q ≡ true → IsLawful K (cube_trail Q)
IsLawful-cube_trail K Q d = IsLawfulAfter-cube_trail K [] Q refl (λ l a. refl) d

pub are_distinct-push : (Q : List Literal) (l : Literal) → are_distinct Q ≡ true → has_var Q l.var ≡ false → are_distinct (Q ++ l ∷ []) ≡ true
are_distinct-push [] l d h = refl
are_distinct-push (q ∷ Q) l d h =
    and-true (not (has_var (Q ++ l ∷ []) q.var)) (are_distinct (Q ++ l ∷ [])) (ap not (has_var-none (Q ++ l ∷ []) q.var other))
    (are_distinct-push Q l (and-right (not (has_var Q q.var)) (are_distinct Q) d) (or-false_right (nat_eq l.var q.var) (has_var Q l.var) h))
  where
    alone : has_var Q q.var ≡ false
    alone = not_true (has_var Q q.var) (and-left (not (has_var Q q.var)) (are_distinct Q) d)

    other : (k : Literal) → has (Q ++ l ∷ []) k ≡ true → k.var ≡ q.var → ⊥
    other k a v = elim (has-append_cases Q (l ∷ []) k a) [
      | inl i ↦ true_false (has_var Q q.var) (subst (λ n. has_var Q n ≡ true) v (has_var-has Q k i)) alone
      | inr i ↦ elim (has-cases l k [] i) [
        | inl one ↦ true_false (nat_eq l.var q.var) (eq-eqb l.var q.var (sym (ap (λ (x : Literal). x.var) one) ∙ v)) (or-false_left (nat_eq l.var q.var) (has_var Q l.var) h)
        | inr none ↦ absurd (cc)
      ]
    ]

pub IsLawful-cube : (K : List Clause) (Q : List Literal) → IsCube Q → IsLawful K (cube_trail Q)
IsLawful-cube K Q h = IsLawful-cube_trail K Q h
