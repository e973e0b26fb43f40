-- What is said in numbers is said of the variables that have them.
use Rattle.std.proofs.Common.{◌≡◌, ℕ, zero, suc, ◌+◌, ◌-◌, ◌<◌, ◌≤◌, Bool, true, false, ◌&&◌, ◌||◌, List, [], ◌∷◌, ◌++◌, All, max, set, length, get_or, replicate, refl, ap, ap₂, sym, subst, ◌∙◌, ◌⊎◌, inl, inr, Result, Ok, Err, OnErr, cond, nat_eq, nat_lt, eqb-true, arith}
use Rattle.std.proofs.lemmas.Bool.{cases_lt, cases_eq, lt-ltb}
use Rattle.std.proofs.lemmas.List.{length-set, length-map, length_push, map_push, length-append, length-replicate, get_or-map, get_or_push, get_or_append_left, get_or-set_same, get_or-set_other}
use Rattle.std.proofs.lemmas.List.Elements.{All-head, All-tail, All-map, All-weaker}
use Rattle.std.proofs.lemmas.List.Sums.{sum_by-append, sum_by-set}
use Rattle.std.proofs.lemmas.List.Folds.{sum_by-replicate}
use Rattle.theory.specs.Literals.{Literal, Clause, IsVariable, has, same_sign}
use Rattle.theory.specs.Truth.{Formula, Assignment, AreTrue, IsOver, Satisfies, is_true, is_true_clause, are_true, value}
use Rattle.theory.specs.Reading.{large, max_vars}
use Rattle.theory.proofs.literals.LiteralSets.{false_unless, has-cases, has-head, has-tail}
use Rattle.theory.proofs.literals.OverVariables.{AreOver-from_IsOver}
use Rattle.session.specs.declared.answer.Answer.{Answer}
use Rattle.session.specs.declared.answer.Answer.TheVariants.{Model, Unsatisfiable, Unknown}
use Rattle.session.specs.Answers.{Says, IsCore}
use Rattle.session.specs.Naming.{Naming, IsNaming, IsMore, IsNumbered, number_of, variable_of, outward, all_outward, clauses_outward, formula_outward, value_outward, values_outward}
use Rattle.session.proofs.TrailTruths.{IsOver-more}
use Rattle.session.specs.Outward.{IsOverIfCore, IsOutward}

-- where each variable has the value of its number
module _ (N : Naming) (n m : ℕ → Bool) (V : ℕ) (agree : (v : ℕ) → IsVariable V v → n (variable_of N v) ≡ m v) where
  literal-outward : (l : Literal) → IsVariable V l.var → is_true n (outward N l) ≡ is_true m l
  literal-outward l k = ap (same_sign l.positive) (agree l.var k)

  clause-outward : (c : Clause) → IsOver V c → is_true_clause n (all_outward N c) ≡ is_true_clause m c
  clause-outward [] over = refl
  clause-outward (l ∷ c) over =
      ap₂ (λ a b. a || b) (literal-outward l (All-head (λ (k : Literal). IsVariable V k.var) l c over)) (clause-outward c (All-tail (λ (k : Literal). IsVariable V k.var) l c over))

  clauses-true : (K : List Clause) → All (IsOver V) K → are_true n (clauses_outward N K) ≡ are_true m K
  clauses-true [] over = refl
  clauses-true (c ∷ K) over = ap₂ (λ a b. a && b) (clause-outward c (All-head (IsOver V) c K over)) (clauses-true K (All-tail (IsOver V) c K over))

  literals-true : (ls : List Literal) → IsOver V ls → AreTrue m ls → AreTrue n (all_outward N ls)
  literals-true [] over t = tt
  literals-true (l ∷ ls) over t =
      (literal-outward l (All-head (λ (k : Literal). IsVariable V k.var) l ls over) ∙ t.0, literals-true ls (All-tail (λ (k : Literal). IsVariable V k.var) l ls over) t.1)

-- the values of the numbers, by those of their variables
literals-back : (N : Naming) (n : ℕ → Bool) (ls : List Literal) → AreTrue n (all_outward N ls) → AreTrue (λ v. n (variable_of N v)) ls
literals-back N n [] t = tt
literals-back N n (l ∷ ls) t = (t.0, literals-back N n ls t.1)

has-outward : (N : Naming) (B : List Literal) (l : Literal) → has B l ≡ true → has (all_outward N B) (outward N l) ≡ true
has-outward N [] l h = absurd (cc)
has-outward N (k ∷ B) l h = elim (has-cases k l B h) [
  | inl one ↦ subst (λ x. has (outward N k ∷ all_outward N B) (outward N x) ≡ true) (sym one) (has-head (outward N k) (all_outward N B))
  | inr more ↦ has-tail (outward N k) (outward N l) (all_outward N B) (has-outward N B l more)
]

-- values by number as values by variable
value-named : (M : Assignment) (v : ℕ) → 1 ≤ v → value_outward M v ≡ value M v
value-named M v low = ap (λ b. cond b false (value M v)) (false_unless (nat_eq v 0) (λ t. let none = eqb-true v 0 t in absurd (omega (arith, none, low))))

value-outward : (N : Naming) (M : Assignment) → IsNaming N → (v : ℕ) → IsVariable (length N.variables) v → value (values_outward N M) (variable_of N v) ≡ value M v
value-outward N M naming v k =
    let at = naming.numbered v k in
    let inside : variable_of N v - 1 < length N.numbers = let low = at.0.0 in let high = at.0.1 in omega (arith, low, high) in
    get_or-map (value_outward M) N.numbers (variable_of N v - 1) 0 false inside ∙ (ap (value_outward M) at.1 ∙ value-named M v k.0)

-- an answer in numbers says the same of the variables
Says-outward : (N : Naming) (G : Formula) (B : List Literal) (u : Type 0) (a b : Answer) → IsNaming N → IsNumbered N G → IsOver (length N.variables) B → Says G B u a → IsOutward N a b → Says (formula_outward N G) (all_outward N B) u b
Says-outward N G B u (Model values) (Model named) naming numbered over says is =
    let V : ℕ = length N.variables in
    let agree = value-outward N values.items naming in
    subst (λ (M : Assignment). Satisfies (formula_outward N G) M × AreTrue (value M) (all_outward N B)) (sym is) (
      record {
        values = length-map N.numbers (value_outward values.items);
        clauses = clauses-true N (value (values_outward N values.items)) (value values.items) V agree G.clauses numbered.clauses ∙ says.0.clauses;
      },
      literals-true N (value (values_outward N values.items)) (value values.items) V agree B over says.1,
    )
Says-outward N G B u (Unsatisfiable core) (Unsatisfiable named) naming numbered over says is =
    subst (IsCore (clauses_outward N G.clauses) (all_outward N B)) (sym is) (record {
      part = All-map (λ l. has (all_outward N B) l ≡ true) (outward N) core.items (All-weaker (λ l. has B l ≡ true) (λ l. has (all_outward N B) (outward N l) ≡ true) (has-outward N B) core.items says.part);
      refuted = λ n a t. says.refuted (λ v. n (variable_of N v))
          (sym (clauses-true N n (λ v. n (variable_of N v)) (length N.variables) (λ v k. refl) G.clauses numbered.clauses) ∙ a) (literals-back N n core.items t);
    })
Says-outward N G B u Unknown Unknown naming numbered over says is = says
Says-outward N G B u (Model values) (Unsatisfiable core) naming numbered over says is = absurd is
Says-outward N G B u (Model values) Unknown naming numbered over says is = absurd is
Says-outward N G B u (Unsatisfiable core) (Model values) naming numbered over says is = absurd is
Says-outward N G B u (Unsatisfiable core) Unknown naming numbered over says is = absurd is
Says-outward N G B u Unknown (Model values) naming numbered over says is = absurd is
Says-outward N G B u Unknown (Unsatisfiable core) naming numbered over says is = absurd is

pub Says-named : (N : Naming) (G : Formula) (B A : List Literal) (u : Type 0) (a b : Answer) → IsNaming N → IsNumbered N G → IsOver (length N.variables) B → all_outward N B ≡ A → Says G B u a → IsOutward N a b → Says (formula_outward N G) A u b
Says-named N G B A u a b naming numbered over named says is = subst (λ (C : List Literal). Says (formula_outward N G) C u b) named (Says-outward N G B u a b naming numbered over says is)

-- numbers that stay
pub IsMore-then : (N P Q : Naming) → IsMore N P → IsMore P Q → IsMore N Q
IsMore-then N P Q h i =
    let a = h.numbers in
    let b = i.numbers in
    let c = h.variables in
    let d = i.variables in
    record { numbers = omega (arith, a, b); variables = omega (arith, c, d); same = λ n k. i.same n (k.0, let high = k.1 in omega (arith, high, c)) ∙ h.same n k }

pub literals-same : (N P : Naming) → IsMore N P → (c : List Literal) → IsOver (length N.variables) c → all_outward P c ≡ all_outward N c
literals-same N P more [] over = refl
literals-same N P more (l ∷ c) over =
    ap₂ (λ (v : ℕ) (d : Clause). record { var = v; positive = l.positive } ∷ d) (more.same l.var (All-head (λ (k : Literal). IsVariable (length N.variables) k.var) l c over))
    (literals-same N P more c (All-tail (λ (k : Literal). IsVariable (length N.variables) k.var) l c over))

pub clauses-same : (N P : Naming) → IsMore N P → (K : List Clause) → All (IsOver (length N.variables)) K → clauses_outward P K ≡ clauses_outward N K
clauses-same N P more [] over = refl
clauses-same N P more (c ∷ K) over =
    ap₂ (λ (d : Clause) (C : List Clause). d ∷ C) (literals-same N P more c (All-head (IsOver (length N.variables)) c K over)) (clauses-same N P more K (All-tail (IsOver (length N.variables)) c K over))

-- room for more variables
padded : (xs : List ℕ) (k i : ℕ) → get_or (xs ++ replicate k 0) i 0 ≡ get_or xs i 0
padded [] k i = zeros k i
  where
    zeros : (k i : ℕ) → ◌≡◌ {A = ℕ} (get_or (replicate k 0) i 0) 0
    zeros zero i = refl
    zeros (suc k) zero = refl
    zeros (suc k) (suc i) = zeros k i
padded (x ∷ xs) k zero = refl
padded (x ∷ xs) k (suc i) = padded xs k i

module _ (N : Naming) (k : ℕ) where
  long : length (N.numbers ++ replicate k 0) ≡ length N.numbers + k
  long = length-append N.numbers (replicate k 0) ∙ ap (λ n. length N.numbers + n) (length-replicate k 0)

  pub IsNaming-wider : IsNaming N → length N.numbers + k ≤ max_vars large → IsNaming (record { numbers = N.numbers ++ replicate k 0; variables = N.variables })
  IsNaming-wider h few = record {
    numbered = λ n v. let at = h.numbered n v in let low = at.0.0 in let high = at.0.1 in ((low, omega (arith, long, high)), padded N.numbers k (variable_of N n - 1) ∙ at.1);
    named = λ v one some. let same = padded N.numbers k (v - 1) in subst (λ n. (n ≤ length N.variables) × (variable_of N n ≡ v)) (sym same) (h.named v one (omega (arith, same, some)));
    count = let none = sum_by-replicate (λ x. cond (nat_lt 0 x) 1 0) k 0 in let sum = sum_by-append (λ x. cond (nat_lt 0 x) 1 0) N.numbers (replicate k 0) in let before = h.count in omega (arith, none, sum, before);
    few = omega (arith, long, few);
  }

-- a variable gets the next number
module _ (N : Naming) (v : ℕ) (h : IsNaming N) (variable : IsVariable (length N.numbers) v) (free : number_of N v ≡ 0) where
  inside : v - 1 < length N.numbers
  inside = let low = variable.0 in let high = variable.1 in omega (arith, low, high)

  longer : length (N.variables ++ v ∷ []) ≡ length N.variables + 1
  longer = length_push N.variables v

  own : get_or (set N.numbers (v - 1) (length N.variables + 1)) (v - 1) 0 ≡ length N.variables + 1
  own = get_or-set_same N.numbers (v - 1) (length N.variables + 1) 0 inside

  other : (w : ℕ) → 1 ≤ w → (w ≡ v → ⊥) → get_or (set N.numbers (v - 1) (length N.variables + 1)) (w - 1) 0 ≡ number_of N w
  other w one differ = get_or-set_other N.numbers (v - 1) (w - 1) (length N.variables + 1) 0 (λ e. differ (let low = variable.0 in omega (arith, e, one, low)))

  last : (n : ℕ) → n ≡ length N.variables + 1 → get_or (N.variables ++ v ∷ []) (n - 1) 0 ≡ v
  last n is = get_or_push N.variables v 0 (n - 1) (omega (arith, is))

  before : (n : ℕ) → IsVariable (length N.variables) n → get_or (N.variables ++ v ∷ []) (n - 1) 0 ≡ variable_of N n
  before n k = get_or_append_left N.variables (v ∷ []) 0 (n - 1) (let low = k.0 in let high = k.1 in omega (arith, low, high))

  pub IsNaming-next : IsNaming (record { numbers = set N.numbers (v - 1) (length N.variables + 1); variables = N.variables ++ v ∷ [] })
  IsNaming-next = record {
    numbered = numbered;
    named = named;
    count = let sum = sum_by-set (λ x. cond (nat_lt 0 x) 1 0) N.numbers (v - 1) (length N.variables + 1) 0 inside in
        let none : ◌≡◌ {A = ℕ} (cond (nat_lt 0 (number_of N v)) 1 0) 0 = ap (λ x. cond (nat_lt 0 x) 1 0) free in
        let one : ◌≡◌ {A = ℕ} (cond (nat_lt 0 (length N.variables + 1)) 1 0) 1 = ap (λ b. cond b 1 0) (lt-ltb 0 (length N.variables + 1) (omega arith)) in
        let was = h.count in
        omega (arith, sum, none, one, was, longer);
    few = let long = length-set N.numbers (v - 1) (length N.variables + 1) in let few = h.few in omega (arith, long, few);
  }
    where
      numbered : (n : ℕ) → IsVariable (length (N.variables ++ v ∷ [])) n → IsVariable (length (set N.numbers (v - 1) (length N.variables + 1))) (get_or (N.variables ++ v ∷ []) (n - 1) 0)
          × (get_or (set N.numbers (v - 1) (length N.variables + 1)) (get_or (N.variables ++ v ∷ []) (n - 1) 0 - 1) 0 ≡ n)
      numbered n k = go (cases_eq n (length N.variables + 1))
        where
          long : length (set N.numbers (v - 1) (length N.variables + 1)) ≡ length N.numbers
          long = length-set N.numbers (v - 1) (length N.variables + 1)

          go : (n ≡ length N.variables + 1) ⊎ (n ≡ length N.variables + 1 → ⊥) → IsVariable (length (set N.numbers (v - 1) (length N.variables + 1))) (get_or (N.variables ++ v ∷ []) (n - 1) 0)
              × (get_or (set N.numbers (v - 1) (length N.variables + 1)) (get_or (N.variables ++ v ∷ []) (n - 1) 0 - 1) 0 ≡ n)
          go (inl is) = subst (λ w. IsVariable (length (set N.numbers (v - 1) (length N.variables + 1))) w × (get_or (set N.numbers (v - 1) (length N.variables + 1)) (w - 1) 0 ≡ n)) (sym (last n is))
              ((variable.0, let high = variable.1 in omega (arith, long, high)), own ∙ sym is)
          go (inr differ) =
              let old : IsVariable (length N.variables) n = (k.0, let high = k.1 in elim (cases_lt n (length N.variables + 1)) [ inl less ↦ omega (arith, less) | inr more ↦ absurd (differ (omega (arith, more, high, longer))) ]) in
              let at = h.numbered n old in
              let low = at.0.0 in
              let high = at.0.1 in
              let clash : variable_of N n ≡ v → ⊥ = λ e. let none = ap (number_of N) e ∙ free in let is = at.1 in let one = old.0 in omega (arith, none, is, one) in
              subst (λ w. IsVariable (length (set N.numbers (v - 1) (length N.variables + 1))) w × (get_or (set N.numbers (v - 1) (length N.variables + 1)) (w - 1) 0 ≡ n)) (sym (before n old))
              ((low, omega (arith, long, high)), other (variable_of N n) low clash ∙ at.1)

      named : (w : ℕ) → 1 ≤ w → 1 ≤ get_or (set N.numbers (v - 1) (length N.variables + 1)) (w - 1) 0
          → (get_or (set N.numbers (v - 1) (length N.variables + 1)) (w - 1) 0 ≤ length (N.variables ++ v ∷ [])) × (get_or (N.variables ++ v ∷ []) (get_or (set N.numbers (v - 1) (length N.variables + 1)) (w - 1) 0 - 1) 0 ≡ w)
      named w one some = go (cases_eq w v)
        where
          go : (w ≡ v) ⊎ (w ≡ v → ⊥)
              → (get_or (set N.numbers (v - 1) (length N.variables + 1)) (w - 1) 0 ≤ length (N.variables ++ v ∷ [])) × (get_or (N.variables ++ v ∷ []) (get_or (set N.numbers (v - 1) (length N.variables + 1)) (w - 1) 0 - 1) 0 ≡ w)
          go (inl e) =
              let is : get_or (set N.numbers (v - 1) (length N.variables + 1)) (w - 1) 0 ≡ length N.variables + 1 = ap (λ x. get_or (set N.numbers (v - 1) (length N.variables + 1)) (x - 1) 0) e ∙ own in
              (omega (arith, is, longer), last (get_or (set N.numbers (v - 1) (length N.variables + 1)) (w - 1) 0) is ∙ sym e)
          go (inr differ) =
              let is : get_or (set N.numbers (v - 1) (length N.variables + 1)) (w - 1) 0 ≡ number_of N w = other w one differ in
              let positive : 1 ≤ number_of N w = omega (arith, is, some) in
              let at = h.named w one positive in
              let high = at.0 in
              (omega (arith, is, high, longer), ap (λ n. get_or (N.variables ++ v ∷ []) (n - 1) 0) is ∙ (before (number_of N w) (positive, high) ∙ at.1))

-- the clauses over variables, as a clause is put behind those in numbers
pub clauses-pushed : (N P : Naming) (K : List Clause) (c d : Clause) → IsMore N P → All (IsOver (length N.variables)) K → all_outward P c ≡ d → clauses_outward P (K ++ c ∷ []) ≡ clauses_outward N K ++ d ∷ []
clauses-pushed N P K c d more over is = map_push (all_outward P) K c ∙ ap₂ (λ (C : List Clause) (x : Clause). C ++ x ∷ []) (clauses-same N P more K over) is

-- what holds where a call failed
pub OnErr-both : {X Y : Type 0} (r : Result X Y) {P : Type 0} → P → OnErr r P
OnErr-both (Ok x) p = tt
OnErr-both (Err y) p = p

-- the formula as it takes in all numbers that were given
pub IsNumbered-widened : (N P : Naming) (G H : Formula) (n : ℕ) → IsMore N P → n ≡ length P.variables → H ≡ record G { vars = max G.vars n } → IsNumbered N G → IsNumbered P H
IsNumbered-widened N P G H n more count is h = subst (IsNumbered P) (sym is) (
    let old = h.vars in
    let longer = more.variables in
    record { vars = omega (arith, old, longer, count); clauses = All-weaker (IsOver (length N.variables)) (IsOver (length P.variables)) (λ c k. IsOver-more (length N.variables) (length P.variables) c longer k) G.clauses h.clauses }
    )

-- a core is over what the assumptions are over
pub IsOverIfCore-says : (V : ℕ) (G : Formula) (B : List Literal) (u : Type 0) (a : Answer) → IsOver V B → Says G B u a → IsOverIfCore V a
IsOverIfCore-says V G B u (Model values) over says = tt
IsOverIfCore-says V G B u (Unsatisfiable core) over says = All-weaker (λ l. has B l ≡ true) (λ l. IsVariable V l.var) (AreOver-from_IsOver V B over) core.items says.part
IsOverIfCore-says V G B u Unknown over says = tt
