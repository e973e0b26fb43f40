-- A set has each literal at most once, and is a unit clause of a variable just where its one literal
-- is of it.
use Rattle.std.proofs.Common.{◌≡◌, ℕ, ◌+◌, ◌*◌, ◌<◌, ◌≤◌, Bool, true, false, not, ◌&&◌, ◌||◌, cond, nat_eq, eq-eqb, eqb-true, List, [], ◌∷◌, length, refl, ap, sym, ◌∙◌, ◌⊎◌, inl, inr, arith, slice_index, get_or}
use Rattle.std.specs.List.{list_all}
use Rattle.std.proofs.lemmas.Bool.{cases_lt}
use Rattle.std.proofs.lemmas.List.{get_or_default, get_or_past}
use Rattle.std.proofs.lemmas.List.Sums.{sum_by-cons}
use Rattle.cnf.specs.Lits.{code}
use Rattle.theory.specs.Literals.{Literal, Clause, same, has, positive, negative}
use Rattle.theory.specs.Learning.{IsRising}
use Rattle.theory.specs.Checking.{is_empty}
use Rattle.theory.specs.Eliminating.{is_alone}
use Rattle.theory.proofs.literals.LiteralLemmas.{true_or_false, same-eq, and-left, and-right}
use Rattle.theory.proofs.literals.LiteralSets.{or-none, or-false_left, or-false_right, false_unless, other-same, has-head, list_any-none}
use Rattle.simplify.specs.Entries.{is_unit_of}
use Rattle.simplify.specs.Tables.{has_code, times, one_if, Counted, IsOneMore, IsCounted, HasRoom}

pub code-one : (k l : Literal) → code k ≡ code l → k ≡ l
code-one k l h = go k.positive l.positive refl refl h
  where
    go : (a b : Bool) → k.positive ≡ a → l.positive ≡ b → 2 * k.var + cond a 1 0 ≡ 2 * l.var + cond b 1 0 → k ≡ l
    go true true e f is = let v : k.var ≡ l.var = omega arith in let s : k.positive ≡ l.positive = e ∙ sym f in λ i. record { var = v i; positive = s i }
    go false false e f is = let v : k.var ≡ l.var = omega arith in let s : k.positive ≡ l.positive = e ∙ sym f in λ i. record { var = v i; positive = s i }
    go true false e f is = absurd (omega arith)
    go false true e f is = absurd (omega arith)

-- a literal is there just where its code is
pub has_code-has : (c : Clause) (l : Literal) → has_code (code l) c ≡ has c l
has_code-has [] l = refl
has_code-has (k ∷ c) l = (λ i. one_way k (true_or_false (same l k)) i || has_code-has c l i)
  where
    one_way : (m : Literal) → (same l m ≡ true) ⊎ (same l m ≡ false) → nat_eq (code m) (code l) ≡ same l m
    one_way m (inl e) = eq-eqb (code m) (code l) (ap code (sym (same-eq l m e))) ∙ sym e
    one_way m (inr n) = false_unless (nat_eq (code m) (code l)) (λ e. other-same l m n (sym (code-one m l (eqb-true (code m) (code l) e)))) ∙ sym n

times-none : (j : ℕ) (c : Clause) → has_code j c ≡ false → times j c ≡ 0
times-none j [] h = refl
times-none j (k ∷ c) h =
    sum_by-cons (λ (l : Literal). cond (nat_eq (code l) j) 1 0) k c
    ∙ (λ i. cond (or-false_left (nat_eq (code k) j) (has_code j c) h i) 1 0 + times-none j c (or-false_right (nat_eq (code k) j) (has_code j c) h) i)

-- each literal of a rising clause is there once
pub times-rising : (j : ℕ) (c : Clause) → IsRising c → times j c ≡ one_if (has_code j c)
times-rising j [] h = refl
times-rising j (k ∷ c) h = sum_by-cons (λ (l : Literal). cond (nat_eq (code l) j) 1 0) k c ∙ go (nat_eq (code k) j) refl (times-rising j c h.1)
  where
    go : (b : Bool) → nat_eq (code k) j ≡ b → times j c ≡ one_if (has_code j c) → cond b 1 0 + times j c ≡ one_if (b || has_code j c)
    go true e more =
        let at : code k ≡ j = eqb-true (code k) j e in
        let none : has_code j c ≡ false = list_any-none (λ l. nat_eq (code l) j) c
        (λ l m. false_unless (nat_eq (code l) j) (λ f.
        let less : k.var < l.var = h.0 l m in
        let is : k ≡ l = code-one k l (at ∙ sym (eqb-true (code l) j f)) in
        let var : k.var ≡ l.var = ap (λ (x : Literal). x.var) is in
        omega arith)) in
        ap (λ n. 1 + n) (times-none j c none)
    go false e more = (let zero_first : 0 + times j c ≡ times j c = omega arith in zero_first) ∙ more

pub unit_of-one : (v : ℕ) (l : Literal) → is_unit_of v (l ∷ []) ≡ nat_eq v l.var
unit_of-one v l = go (nat_eq v l.var) l.positive
  where
    go : (a b : Bool) → ((((a && b) || false) && ((a && b) && true)) || (((a && not b) || false) && ((a && not b) && true))) ≡ a
    go true true = refl
    go true false = refl
    go false true = refl
    go false false = refl

alone-more : (p k l : Literal) (c : Clause) → IsRising (k ∷ l ∷ c) → is_alone p (k ∷ l ∷ c) ≡ false
alone-more p k l c h = false_unless (is_alone p (k ∷ l ∷ c)) (λ e.
    let all : list_all (same p) (k ∷ l ∷ c) ≡ true = and-right (has (k ∷ l ∷ c) p) (list_all (same p) (k ∷ l ∷ c)) e in
    let first : p ≡ k = same-eq p k (and-left (same p k) (list_all (same p) (l ∷ c)) all) in
    let rest : list_all (same p) (l ∷ c) ≡ true = and-right (same p k) (list_all (same p) (l ∷ c)) all in
    let second : p ≡ l = same-eq p l (and-left (same p l) (list_all (same p) c) rest) in
    let less : k.var < l.var = h.0 l (has-head l c) in
    let var : k.var ≡ l.var = ap (λ (x : Literal). x.var) (sym first ∙ second) in
    omega arith)

pub unit_of-more : (v : ℕ) (c : Clause) → IsRising c → 2 ≤ length c → is_unit_of v c ≡ false
unit_of-more v [] h more = absurd (omega arith)
unit_of-more v (k ∷ []) h more = absurd (omega arith)
unit_of-more v (k ∷ l ∷ c) h more = or-none (is_alone (positive v) (k ∷ l ∷ c)) (is_alone (negative v) (k ∷ l ∷ c)) (alone-more (positive v) k l c h) (alone-more (negative v) k l c h)

one_if-le : (b : Bool) → one_if b ≤ 1
one_if-le true = omega arith
one_if-le false = omega arith

-- the counts with a clause of no literal, of one, and of more
is_empty-some : (c : Clause) → 1 ≤ length c → is_empty c ≡ false
is_empty-some [] some = absurd (omega arith)
is_empty-some (l ∷ c) some = refl

plus-none : (n m : ℕ) (b : Bool) → b ≡ false → m ≡ n → m ≡ n + one_if b
plus-none n m b e same = same ∙ (let none : n ≡ n + 0 = omega arith in none ∙ ap (λ x. n + one_if x) (sym e))

module _ (C D : Counted) (c : Clause) (M N : List ℕ) (rising : IsRising c) (old : M ≡ C.literals) (new : D.literals ≡ N) (long : length N ≡ length M) (counts : (j : ℕ) → slice_index N j ≡ slice_index M j + times j c) where
  by_code : length D.literals ≡ length C.literals
  by_code = ap length new ∙ (long ∙ ap length old)

  counted : (j : ℕ) → slice_index D.literals j ≡ slice_index C.literals j + one_if (has_code j c)
  counted j = ap (λ (ns : List ℕ). slice_index ns j) new ∙ (counts j ∙ (λ i. slice_index (old i) j + times-rising j c rising i))

  pub one_more-long : 2 ≤ length c → D.units ≡ C.units → D.empty ≡ C.empty → IsOneMore C c D
  one_more-long more units empty = record {
    by_code = by_code;
    by_variable = ap length units;
    literals = counted;
    units = λ v. plus-none (slice_index C.units v) (slice_index D.units v) (is_unit_of v c) (unit_of-more v c rising more) (ap (λ (us : List ℕ). slice_index us v) units);
    empty = plus-none C.empty D.empty (is_empty c) (is_empty-some c (omega arith)) empty;
  }

-- room for a clause's literals
pub few-times : (C : Counted) (N : List ℕ) (c : Clause) → N ≡ C.literals → IsRising c → HasRoom C → (j : ℕ) → slice_index N j + times j c < 4294967296
few-times C N c is rising room j =
    let once : times j c ≡ one_if (has_code j c) = times-rising j c rising in
    let most = one_if-le (has_code j c) in
    let few = room.literals j in
    let at : slice_index N j ≡ slice_index C.literals j = ap (λ (ns : List ℕ). slice_index ns j) is in
    omega arith

pub counted-times : (C : Counted) (N : List ℕ) (c : Clause) → N ≡ C.literals → IsRising c → IsCounted C c → (j : ℕ) → times j c ≤ slice_index N j
counted-times C N c is rising there j =
    let once : times j c ≡ one_if (has_code j c) = times-rising j c rising in
    let some = there.literals j in
    let at : slice_index N j ≡ slice_index C.literals j = ap (λ (ns : List ℕ). slice_index ns j) is in
    omega arith

only-literal : (c : Clause) (l : Literal) → length c ≡ 1 → l ≡ get_or c 0 l → c ≡ l ∷ []
only-literal [] l one is = absurd (omega arith)
only-literal (k ∷ []) l one is = ap (λ (x : Literal). x ∷ []) (sym is)
only-literal (k ∷ m ∷ c) l one is = absurd (omega arith)

-- a unit clause that is counted
pub counted-unit : (C : Counted) (c : Clause) (U : List ℕ) (l : Literal) (v n : ℕ) → U ≡ C.units → IsCounted C c → length c ≡ 1 → l ≡ get_or c 0 l → v ≡ l.var → n ≡ get_or U v n → 1 ≤ n
counted-unit C c U l v n are there one is var at = elim (cases_lt v (length U)) [
  | inl within ↦
      (let read : n ≡ slice_index C.units l.var = at ∙ (get_or_default U v n 0 within ∙ (λ i. slice_index (are i) (var i))) in
      omega (arith, some, counts))
  | inr past ↦ (let none : slice_index C.units l.var ≡ 0 = (λ i. slice_index (sym are i) (sym var i)) ∙ get_or_past U v 0 past in absurd (omega (arith, some, counts)))
]
  where
    unit : is_unit_of l.var c ≡ true
    unit = ap (is_unit_of l.var) (only-literal c l one is) ∙ (unit_of-one l.var l ∙ eq-eqb l.var l.var refl)

    some : one_if (is_unit_of l.var c) ≤ slice_index C.units l.var
    some = there.units l.var

    counts : one_if (is_unit_of l.var c) ≡ 1
    counts = ap one_if unit
