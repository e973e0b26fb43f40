-- The tries follow the definition, one after the other.
use Rattle.std.proofs.Common.{◌≡◌, ℕ, zero, suc, ◌<◌, ◌≤◌, nat_le, Bool, true, false, ◌&&◌, ◌||◌, ◌⊎◌, inl, inr, List, [], ◌∷◌, ◌++◌, filter, length, refl, ap, ap₂, sym, subst, ◌∙◌, Option, Some, None, Contains, arith, if◌then◌else◌}
use Rattle.std.specs.List.{list_any}
use Rattle.std.proofs.lemmas.List.{append_assoc, append-nil}
use Rattle.std.proofs.lemmas.List.Elements.{Contains-push_cases}
use Rattle.std.proofs.lemmas.Bool.{leb-true, leb-false}
use Rattle.theory.specs.Literals.{IsVariable}
use Rattle.theory.specs.Truth.{Formula, value}
use Rattle.theory.specs.Trails.{variables}
use Rattle.theory.specs.Checking.{is_empty}
use Rattle.theory.specs.Simplifying.{Simplified, Change, clauses_in}
use Rattle.theory.specs.Trying.{Trial, weight, lighter, lightest, next_tried, changes_of, tried, Tries, rests, tries, most_pairs}
use Rattle.theory.proofs.literals.LiteralLemmas.{and-right}
use Rattle.theory.proofs.literals.Membership.{Contains-here, Contains-there, Contains-none}
use Rattle.theory.proofs.simplifying.ListTests.{has-filter_of}
use Rattle.theory.proofs.searching.MappedVariables.{at-variable, length-mapped}
use Rattle.simplify.specs.Entries.{weight_in, has_empty_in}
use Rattle.simplify.specs.Candidates.{weight_of, lighter_by, lightest_by, first_of}
use Rattle.simplify.specs.Tried.{State, IsReady, is_worth_in, eliminated_in, left_alone, tried_in, next_in, waits_then}
use Rattle.simplify.specs.Following.{Follows, IsFinished, IsUnderWay}
use Rattle.simplify.proofs.EntryNumbers.{filter-alike}
use Rattle.simplify.proofs.EntryViews.{weight-stored, empty-stored}
use Rattle.simplify.proofs.FollowedTries.{follows-tried}

-- the lightest, by the weights as they are kept
lightest-alike : (s : Simplified) (w : ℕ → ℕ) (xs : List ℕ) → ((x : ℕ) → Contains xs x → w x ≡ weight s x) → lightest_by w xs ≡ lightest s xs
lightest-alike s w [] h = refl
lightest-alike s w (x ∷ xs) h = ap (lighter_by w x) (lightest-alike s w xs (λ y c. h y (Contains-there x xs y c))) ∙ go (lightest s xs) (least xs (λ y c. h y (Contains-there x xs y c)))
  where
    Known : Option ℕ → Type 0
    Known None = Unit {0}
    Known (Some y) = w y ≡ weight s y

    least : (ys : List ℕ) → ((y : ℕ) → Contains ys y → w y ≡ weight s y) → Known (lightest s ys)
    least [] k = tt
    least (y ∷ ys) k = one (lightest s ys) (least ys (λ z c. k z (Contains-there y ys z c)))
      where
        one : (o : Option ℕ) → Known o → Known (lighter s y o)
        one None u = k y (Contains-here y ys)
        one (Some z) u = by (nat_le (weight s y) (weight s z))
          where
            by : (b : Bool) → Known (if b then Some y else Some z)
            by true = k y (Contains-here y ys)
            by false = u

    go : (o : Option ℕ) → Known o → lighter_by w x o ≡ lighter s x o
    go None k = refl
    go (Some y) k = ap₂ (λ (a b : ℕ). if nat_le a b then Some x else Some y) (h x (Contains-here x xs)) k

-- a variable among 1 to V
variable-of : (V x : ℕ) → Contains (variables V) x → IsVariable V x
variable-of zero x c = absurd (Contains-none x c)
variable-of (suc V) x c = go (Contains-push_cases (variables V) (suc V) x c) (variable-of V x)
  where
    go : Contains (variables V) x ⊎ (suc V ≡ x) → (Contains (variables V) x → IsVariable V x) → IsVariable (suc V) x
    go (inl r) more = let low = (more r).0 in let high = (more r).1 in (omega arith, omega arith)
    go (inr e) more = (omega arith, omega arith)

module _ (F : Formula) (cs : List Change) (t : Trial) (a : State) (ready : IsReady a) (h : Follows F cs t a) where
  weight-same : (x : ℕ) → IsVariable F.vars x → weight_of a.waiting.weights x ≡ weight t.state x
  weight-same x w =
      ap (λ (W : List ℕ). weight_of W x) h.weights
      ∙ (at-variable (weight_in a.entries) F.vars x 0 w
      ∙ (ap (λ K. weight_in K x) h.entries ∙ weight-stored t.state x h.tidy.numbered))

  first-same : first_of a.waiting ≡ lightest t.state (filter (λ x. value t.waiting x && nat_le (weight t.state x) most_pairs) (variables F.vars))
  first-same =
      ap (λ n. lightest_by (weight_of a.waiting.weights) (filter test (variables n))) long
      ∙ (ap (lightest_by (weight_of a.waiting.weights)) (filter-alike test (λ x. value t.waiting x && nat_le (weight t.state x) most_pairs) (variables F.vars) (λ x c. tests x (variable-of F.vars x c)))
      ∙ lightest-alike t.state (weight_of a.waiting.weights) (filter (λ x. value t.waiting x && nat_le (weight t.state x) most_pairs) (variables F.vars))
      (λ x c. weight-same x (variable-of F.vars x (has-filter_of (λ x. value t.waiting x && nat_le (weight t.state x) most_pairs) (variables F.vars) x c).0)))
    where
      test : ℕ → Bool
      test x = value a.waiting.waits x && nat_le (weight_of a.waiting.weights x) most_pairs

      long : length a.waiting.waits ≡ F.vars
      long = ready.waits ∙ h.vars

      tests : (x : ℕ) → IsVariable F.vars x → test x ≡ (value t.waiting x && nat_le (weight t.state x) most_pairs)
      tests x w = ap₂ (λ (b : Bool) (k : ℕ). b && nat_le k most_pairs) (ap (λ M. value M x) h.waits) (weight-same x w)

  pub next-same : (most : ℕ) → next_in most a ≡ next_tried F.vars most t
  next-same most =
      ap (λ b. if b || nat_le most a.work then None else first_of a.waiting) (ap has_empty_in h.entries ∙ empty-stored t.state h.tidy.numbered)
      ∙ ap₂ (λ (k : ℕ) (o : Option ℕ). if list_any is_empty (clauses_in t.state.clauses) || nat_le most k then None else o) h.work first-same

-- the variable that is tried next
lightest-there : (w : ℕ → ℕ) (xs : List ℕ) (x : ℕ) → lightest_by w xs ≡ Some x → Contains xs x
lightest-there w [] x e = absurd (cc)
lightest-there w (y ∷ xs) x e = go (lightest_by w xs) e (lightest-there w xs x)
  where
    go : (o : Option ℕ) → lighter_by w y o ≡ Some x → (o ≡ Some x → Contains xs x) → Contains (y ∷ xs) x
    go None i more = let same : y ≡ x = cc in subst (λ z. Contains (z ∷ xs) x) (sym same) (Contains-here x xs)
    go (Some z) i more = by (nat_le (w y) (w z)) i
      where
        by : (b : Bool) → (if b then Some y else Some z) ≡ Some x → Contains (y ∷ xs) x
        by true j = let same : y ≡ x = cc in subst (λ u. Contains (u ∷ xs) x) (sym same) (Contains-here x xs)
        by false j = Contains-there y xs x (more j)

pub record IsNext (most : ℕ) (a : State) (x : ℕ) : Type 0 where
  pub var : IsVariable a.vars x
  pub light : weight_in a.entries x ≤ 100
  pub little : a.work < most

pub next-is : (most : ℕ) (a : State) (x : ℕ) → IsReady a → next_in most a ≡ Some x → IsNext most a x
next-is most a x ready e = go (has_empty_in a.entries) (nat_le most a.work) refl e
  where
    test : ℕ → Bool
    test y = value a.waiting.waits y && nat_le (weight_of a.waiting.weights y) most_pairs

    go : (p q : Bool) → nat_le most a.work ≡ q → (if p || q then None else first_of a.waiting) ≡ Some x → IsNext most a x
    go true q f i = absurd (cc)
    go false true f i = absurd (cc)
    go false false f i =
        let c = lightest-there (weight_of a.waiting.weights) (filter test (variables (length a.waiting.waits))) x i in
        let it = has-filter_of test (variables (length a.waiting.waits)) x c in
        let var : IsVariable a.vars x = subst (λ n. IsVariable n x) ready.waits (variable-of (length a.waiting.waits) x it.0) in
        let weighs : weight_of a.waiting.weights x ≡ weight_in a.entries x = ap (λ (W : List ℕ). weight_of W x) ready.weights ∙ at-variable (weight_in a.entries) a.vars x 0 var in
        record {
          var = var;
          light = subst (λ k. k ≤ 100) weighs (leb-true (weight_of a.waiting.weights x) most_pairs (and-right (value a.waiting.waits x) (nat_le (weight_of a.waiting.weights x) most_pairs) it.1));
          little = leb-false most a.work f;
        }

-- a state is ready after a try
pub ready-tried : (x : ℕ) (a : State) → IsReady (tried_in x a)
ready-tried x a = go (is_worth_in x a.entries)
  where
    go : (b : Bool) → IsReady (if b then eliminated_in x a else left_alone x a)
    go true = record { weights = refl; waits = length-mapped (waits_then x a) a.vars }
    go false = record { weights = refl; waits = length-mapped (waits_then x a) a.vars }

-- under way
pub underway-first : (most : ℕ) (a : State) → IsUnderWay most a a
underway-first most a F cs t h = ([], t, (λ ds tried. tried), subst (λ es. Follows F es t a) (sym (append-nil cs)) h)

pub underway-next : (most : ℕ) (a b : State) (x : ℕ) → IsReady b → next_in most b ≡ Some x → IsUnderWay most a b → IsUnderWay most a (tried_in x b)
underway-next most a b x ready next so_far F cs t h =
    let it = so_far F cs t h in
    let ds = it.0 in
    let u = it.1 in
    let here = it.3 in
    let is_next = sym (next-same F (cs ++ ds) u b ready here most) ∙ next in
    let var : IsVariable F.vars x = subst (λ n. IsVariable n x) here.vars (next-is most b x ready next).var in (
      ds ++ changes_of x u.state,
      tried F.vars x u,
      (λ es more. subst (Tries F.vars most t) (sym (append_assoc ds (changes_of x u.state) es)) (it.2 (changes_of x u.state ++ es) (tries x is_next more))),
      subst (λ gs. Follows F gs (tried F.vars x u) (tried_in x b)) (append_assoc cs ds (changes_of x u.state)) (follows-tried F (cs ++ ds) u b x var here),
    )

pub underway-last : (most : ℕ) (a b : State) → IsReady b → next_in most b ≡ None → IsUnderWay most a b → IsFinished most a b
underway-last most a b ready none so_far F cs t h =
    let it = so_far F cs t h in
    (it.0, it.1, subst (Tries F.vars most t) (append-nil it.0) (it.2 [] (rests (sym (next-same F (cs ++ it.0) it.1 b ready it.3 most) ∙ none))), it.3)
