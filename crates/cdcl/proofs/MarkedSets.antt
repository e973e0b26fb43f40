-- Sets of literals that are false on the trail, as marks of their variables: literals come, and go
-- as they are resolved on.
use Rattle.std.proofs.Common.{◌≡◌, ℕ, ◌+◌, ◌-◌, ◌<◌, ◌≤◌, Bool, true, false, ◌||◌, if◌then◌else◌, nat_le, le-leb, ◌&&◌, None, List, [], ◌∷◌, length, Some, refl, ap, sym, subst, ◌∙◌, nat_eq, eqb-true, eq-eqb, cond, inl, inr, ◌⊎◌, slice_index_or, slice_set, get_or, replicate, nat_lt, ltb-true, ltb-false, arith}
use Rattle.std.proofs.Math.ListN.{get_or-eq_default}
use Rattle.std.proofs.lemmas.List.{get_or_default, get_or-replicate, length-replicate, get_or-set_same, get_or-set_other, length-set}
use Rattle.theory.specs.Literals.{Literal, Clause, negated, has, has_var, without}
use Rattle.theory.specs.Trails.{Trail, Entry, literals, current_level, level_of, entry_of}
use Rattle.theory.specs.Truth.{IsOver}
use Rattle.theory.specs.Lawful.{IsLawful}
use Rattle.theory.specs.Learning.{with_literal, at_current_level, reason_used}
use Rattle.theory.proofs.literals.LiteralLemmas.{true_or_false, and-left, and-right}
use Rattle.theory.proofs.literals.LiteralSets.{true_false, false_unless, negated-negated, other-same, has-cases, has-from_with_literal, has-from_without, has_var-has, has_var-none, literal_of_var}
use Rattle.theory.proofs.literals.OverVariables.{AreOver-from_IsOver}
use Rattle.theory.proofs.literals.RisingSets.{IsOneSigned, IsRising-filter, IsRising-with_literals, are_distinct-rising}
use Rattle.theory.proofs.literals.DistinctLiterals.{length-distinct}
use Rattle.theory.proofs.trails.TrailEntries.{literals-distinct}
use Rattle.kernel.specs.State.{State}
use Rattle.cdcl.specs.Marks.{IsMarked, is_open, is_resolvable}
use Rattle.cdcl.proofs.TrailValues.{entry_of-there}
use Rattle.cdcl.proofs.SetLemmas.{has_var-with_literal, count-length, count-with_literal, count-without, has_var-without}

-- the mark of a variable, as it was read
pub mark-read : (marked : List Bool) (v w : ℕ) (r : Bool) → v ≡ w → w < length marked → r ≡ get_or marked v r → get_or marked w false ≡ r
mark-read marked v w r e inside h = get_or_default marked w false r inside ∙ (ap (λ x. get_or marked x r) (sym e) ∙ sym h)

-- there is a mark for each false literal
pub inside : (k : State) (marked : List Bool) (l : Literal) → IsOver k.vars (literals k.trail) → k.vars < length marked → has (literals k.trail) (negated l) ≡ true → l.var < length marked
inside k marked l over long f =
    let here = AreOver-from_IsOver k.vars (literals k.trail) over (negated l) f in
    let high = here.1 in
    omega arith

-- a false literal is the one of its variable
pub one_literal : (k : State) (l m : Literal) → IsLawful k.clauses k.trail → has (literals k.trail) (negated l) ≡ true → has (literals k.trail) (negated m) ≡ true → l.var ≡ m.var → l ≡ m
one_literal k l m lawful a b v =
    let one : negated l ≡ negated m = literals-distinct k.clauses k.trail (negated l) (negated m) lawful a b v in
    sym (negated-negated l) ∙ (ap negated one ∙ negated-negated m)

-- so it is in the set where its variable is
pub is_in : (k : State) (S : Clause) (marked : List Bool) (n : ℕ) (l : Literal) → IsLawful k.clauses k.trail → IsMarked k S marked n
    → has (literals k.trail) (negated l) ≡ true → slice_index_or marked l.var false ≡ true → has S l ≡ true
is_in k S marked n l lawful h f e =
    let m = literal_of_var S l.var (sym (h.marks l.var) ∙ e) in
    subst (λ x. has S x ≡ true) (one_literal k m.0 l lawful (h.false_on m.0 m.1) f m.2) m.1

pub is_not_in : (k : State) (S : Clause) (marked : List Bool) (n : ℕ) (l : Literal) → IsMarked k S marked n → slice_index_or marked l.var false ≡ false → has S l ≡ false
is_not_in k S marked n l h e =
    false_unless (has S l) (λ a. true_false (has_var S l.var) (has_var-has S l a) (sym (h.marks l.var) ∙ e))

-- the set is no larger than the variables are many
pub count-most : (k : State) (S : Clause) (marked : List Bool) (n : ℕ) → IsOver k.vars (literals k.trail) → IsMarked k S marked n → n ≤ k.vars
count-most k S marked n all h =
    let over = AreOver-from_IsOver k.vars (literals k.trail) all in
    let short = length-distinct k.vars S (are_distinct-rising S h.rising) (λ l a. over (negated l) (h.false_on l a)) in
    let count = count-length (λ l. nat_eq (level_of k.trail l) (current_level k.trail)) S in
    let is = h.counted in
    omega arith

-- a literal more
pub IsMarked-more : (k : State) (S : Clause) (marked after : List Bool) (n m : ℕ) (l : Literal) → IsLawful k.clauses k.trail → IsMarked k S marked n
    → has (literals k.trail) (negated l) ≡ true → slice_index_or marked l.var false ≡ false → l.var < length marked → after ≡ slice_set marked l.var true
    → m ≡ cond (nat_eq (level_of k.trail l) (current_level k.trail)) 1 0 + n → IsMarked k (with_literal l S) after m
IsMarked-more k S marked after n m l lawful h f e inside set sum = record {
  long = rw (set, length-set) h.long;
  rising = IsRising-with_literals (literals k.trail) (l ∷ []) S one (λ x a. only x (has-cases l x [] a)) h.false_on h.rising;
  false_on = λ x a. elim (has-from_with_literal l x S a) [ inl i ↦ subst (λ (y : Literal). has (literals k.trail) (negated y) ≡ true) (sym i) f | inr r ↦ h.false_on x r ];
  marks = λ v. rw set (at v (nat_eq v l.var) refl);
  counted = let c = count-with_literal (λ x. nat_eq (level_of k.trail x) (current_level k.trail)) l S (is_not_in k S marked n l h e) in let is = h.counted in omega arith;
}
  where
    one : IsOneSigned (literals k.trail)
    one x y a b v = literals-distinct k.clauses k.trail x y lawful a b v

    only : (x : Literal) → (x ≡ l) ⊎ (has [] x ≡ true) → has (literals k.trail) (negated x) ≡ true
    only x (inl i) = subst (λ (y : Literal). has (literals k.trail) (negated y) ≡ true) (sym i) f
    only x (inr r) = absurd (cc)

    at : (v : ℕ) (b : Bool) → nat_eq v l.var ≡ b → slice_index_or (slice_set marked l.var true) v false ≡ has_var (with_literal l S) v
    at v true q =
        let same : v ≡ l.var = eqb-true v l.var q in
        ap (λ x. slice_index_or (slice_set marked l.var true) x false) same
        ∙ (get_or-set_same marked l.var true false inside ∙ sym (has_var-with_literal l S v ∙ ap (λ b. b || has_var S v) q))
    at v false q =
        get_or-set_other marked l.var v true false (λ same. true_false (nat_eq v l.var) (eq-eqb v l.var same) q)
        ∙ (h.marks v ∙ sym (has_var-with_literal l S v ∙ ap (λ b. b || has_var S v) q))

-- a literal less
pub IsMarked-less : (k : State) (S : Clause) (marked after : List Bool) (n m : ℕ) (l : Literal) → IsLawful k.clauses k.trail → IsMarked k S marked n
    → has S l ≡ true → l.var < length marked → after ≡ slice_set marked l.var false
    → m ≡ n - cond (nat_eq (level_of k.trail l) (current_level k.trail)) 1 0 → IsMarked k (without S l) after m
IsMarked-less k S marked after n m l lawful h a inside set difference = record {
  long = rw (set, length-set) h.long;
  rising = IsRising-filter _ S h.rising;
  false_on = λ x b. h.false_on x (has-from_without S l x b).0;
  marks = λ v. rw set (at v (nat_eq v l.var) refl);
  counted = let c = count-without (λ x. nat_eq (level_of k.trail x) (current_level k.trail)) l S h.rising a in let is = h.counted in omega arith;
}
  where
    gone : (x : Literal) → has (without S l) x ≡ true → x.var ≡ l.var → ⊥
    gone x b v =
        let parts = has-from_without S l x b in
        other-same l x parts.1 (sym (one_literal k x l lawful (h.false_on x parts.0) (h.false_on l a) v))

    at : (v : ℕ) (b : Bool) → nat_eq v l.var ≡ b → slice_index_or (slice_set marked l.var false) v false ≡ has_var (without S l) v
    at v true q =
        let same : v ≡ l.var = eqb-true v l.var q in
        ap (λ x. slice_index_or (slice_set marked l.var false) x false) same
        ∙ (get_or-set_same marked l.var false false inside ∙ sym (ap (has_var (without S l)) same ∙ has_var-none (without S l) l.var gone))
    at v false q =
        get_or-set_other marked l.var v false false (λ same. true_false (nat_eq v l.var) (eq-eqb v l.var same) q)
        ∙ (h.marks v ∙ sym (has_var-without l S v q))

-- how many are of the current level, where one is
pub count-some : (k : State) (S : Clause) (marked : List Bool) (n : ℕ) (l : Literal) → IsMarked k S marked n → has S l ≡ true
    → level_of k.trail l ≡ current_level k.trail → 1 ≤ n
count-some k S marked n l h a e =
    let c : at_current_level k.trail S ≡ cond (nat_eq (level_of k.trail l) (current_level k.trail)) 1 0 + at_current_level k.trail (without S l) =
    count-without (λ x. nat_eq (level_of k.trail x) (current_level k.trail)) l S h.rising a in
    let here : ◌≡◌ {A = ℕ} (cond (nat_eq (level_of k.trail l) (current_level k.trail)) 1 0) 1 = ap (λ b. cond b 1 0) (eq-eqb (level_of k.trail l) (current_level k.trail) e) in
    let is = h.counted in
    omega arith

-- the negation of an entry's literal is false
pub entry-false : (T : Trail) (e : Entry) → entry_of T e.lit.var ≡ Some e → has (literals T) (negated (negated e.lit)) ≡ true
entry-false T e h = subst (λ l. has (literals T) l ≡ true) (sym (negated-negated e.lit)) (entry_of-there T e.lit.var e h).1

pub entry-inside : (k : State) (marked : List Bool) (e : Entry) → IsOver k.vars (literals k.trail) → k.vars < length marked → entry_of k.trail e.lit.var ≡ Some e → e.lit.var < length marked
entry-inside k marked e over long there = inside k marked (negated e.lit) over long (entry-false k.trail e there)

pub resolvable-current : (T : Trail) (e : Entry) → nat_eq e.level (current_level T) ≡ true → is_resolvable T [] e ≡ true
resolvable-current T e h = rw h (go (nat_eq e.level 0))
  where
    go : (b : Bool) → b || true ≡ true
    go true = refl
    go false = refl

pub resolvable-zero : (T : Trail) (e : Entry) → nat_eq e.level 0 ≡ true → is_resolvable T [] e ≡ true
resolvable-zero T e h = rw h refl

pub resolvable-neither : (T : Trail) (e : Entry) → nat_eq e.level 0 ≡ false → nat_eq e.level (current_level T) ≡ false → is_resolvable T [] e ≡ false
resolvable-neither T e h k = rw (h, k) refl

-- an open entry's negation is in the set
pub is_in-open : (k : State) (S : Clause) (marked : List Bool) (n : ℕ) (e : Entry) → IsLawful k.clauses k.trail → IsMarked k S marked n → entry_of k.trail e.lit.var ≡ Some e
    → is_open k.trail [] S (Some e) ≡ true → has S (negated e.lit) ≡ true
is_in-open k S marked n e lawful h there o =
    is_in k S marked n (negated e.lit) lawful h (entry-false k.trail e there) (h.marks e.lit.var ∙ and-left (has_var S e.lit.var) (is_resolvable k.trail [] e) o)

-- the reason that is used at an open entry
pub reason-level_0 : (k : State) (S : Clause) (marked : List Bool) (n : ℕ) (e : Entry) → IsLawful k.clauses k.trail → IsMarked k S marked n → entry_of k.trail e.lit.var ≡ Some e
    → is_open k.trail [] S (Some e) ≡ true → e.level ≡ 0 → e.reason ≡ reason_used k.trail [] S e
reason-level_0 k S marked n e lawful h there o zero_level = rw (is_in-open k S marked n e lawful h there o, eq-eqb e.level 0 zero_level) refl

pub reason-many : (k : State) (S : Clause) (marked : List Bool) (n : ℕ) (e : Entry) → IsLawful k.clauses k.trail → IsMarked k S marked n → entry_of k.trail e.lit.var ≡ Some e
    → is_open k.trail [] S (Some e) ≡ true → 2 ≤ n → e.reason ≡ reason_used k.trail [] S e
reason-many k S marked n e lawful h there o two =
    let many : nat_le 2 (at_current_level k.trail S) ≡ true = le-leb 2 (at_current_level k.trail S) (let is = h.counted in omega arith) in
    let resolvable = and-right (has_var S e.lit.var) (is_resolvable k.trail [] e) o in
    rw (is_in-open k S marked n e lawful h there o, many) (go (nat_eq e.level 0) (nat_eq e.level (current_level k.trail)) resolvable)
  where
    go : (a b : Bool) → a || b ≡ true → e.reason ≡ (if a || (b && true) then e.reason else None)
    go true b t = refl
    go false true t = refl
    go false false t = absurd (cc)

-- room without a mark
pub none-marked : (m v : ℕ) → get_or (replicate m false) v false ≡ false
none-marked m v = elim (true_or_false (nat_lt v m)) [
  | inl e ↦ get_or-replicate m v false false (ltb-true v m e)
  | inr e ↦ get_or-eq_default (replicate m false) false (let most = ltb-false v m e in let long = length-replicate {A = Bool} m false in omega arith)
]

-- no mark stands for the empty set
pub IsMarked-none : (k : State) (marked : List Bool) (n : ℕ) → k.vars < length marked → ((v : ℕ) → slice_index_or marked v false ≡ false) → n ≡ 0 → IsMarked k [] marked n
IsMarked-none k marked n long none count = record { long = long; rising = tt; false_on = λ l a. absurd (cc); marks = none; counted = count }
