-- The checker accepts the prelude: each line has its pivot's negation in no clause that is there.
-- So it begins a proof with the clauses that a search begins with, under their own numbers.
use Rattle.std.proofs.Common.{◌≡◌, ℕ, zero, suc, ◌+◌, ◌-◌, ◌<◌, ◌≤◌, Bool, true, false, not, ◌||◌, List, [], ◌∷◌, ◌++◌, map, length, refl, ap, sym, subst, ◌∙◌, nat_eq, nat_le, eqb-true, eq-eqb, le-leb, leb-true, leb-false, Some, None, get_or, append_assoc, append-nil, length-append, arith, All, if◌then◌else◌}
use Rattle.std.specs.List.{list_any}
use Rattle.std.proofs.lemmas.List.Elements.{All-head, All-tail, All-weaker}
use Rattle.std.proofs.lemmas.Option.{unwrap_or-slice_get}
use Rattle.theory.specs.Literals.{Literal, Clause, has, has_both_signs, negations, positive, negative, IsVariable}
use Rattle.theory.specs.Truth.{Formula}
use Rattle.theory.specs.Propagation.{clause_at}
use Rattle.theory.specs.Pure.{occurs, is_pure, pure_variables, unit_clauses, first_clauses}
use Rattle.theory.specs.Steps.{Addition, add}
use Rattle.theory.specs.Checking.{id_not_rising, literal_out_of_range, both_signs, missing_candidate, Numbered, numbered_from, clause_of, are_dealt_with, addition_fault, Checker, added}
use Rattle.theory.specs.Proofs.{unit_steps, prelude}
use Rattle.theory.proofs.literals.LiteralLemmas.{not_true}
use Rattle.theory.proofs.literals.LiteralSets.{false_unless}
use Rattle.theory.proofs.trails.LawfulTrails.{clause_at-append}
use Rattle.theory.proofs.searching.PureVariables.{IsPure-pure, has-opposite}
use Rattle.theory.proofs.checker.AcceptedSteps.{Leads, Leads-none, Leads-then, Leads-add, clause_at-push}

-- the clauses stand in the checker under their own numbers
abbrev pub AreInput : List Clause → Numbered → Type 0
AreInput K here = (n : ℕ) → 1 ≤ n → n ≤ length K → clause_of here n ≡ Some (clause_at K n)

-- the clauses that the checker begins with
clause_of-numbered_from : (n : ℕ) (K : List Clause) (i : ℕ) → i < length K → clause_of (numbered_from n K) (n + i) ≡ Some (get_or K i [])
clause_of-numbered_from n [] i h = absurd (omega arith)
clause_of-numbered_from n (c ∷ K) zero h =
    let here : nat_eq n (n + 0) ≡ true = eq-eqb n (n + 0) (omega arith) in
    ap (λ b. if b then Some c else clause_of (numbered_from (n + 1) K) (n + 0)) here
clause_of-numbered_from n (c ∷ K) (suc i) h =
    let number : n + suc i ≡ (n + 1) + i = omega arith in
    let other : nat_eq n (n + suc i) ≡ false = false_unless (nat_eq n (n + suc i)) (λ t. let e : n ≡ n + suc i = eqb-true n (n + suc i) t in omega arith) in
    ap (λ b. if b then Some c else clause_of (numbered_from (n + 1) K) (n + suc i)) other
    ∙ (ap (clause_of (numbered_from (n + 1) K)) number ∙ clause_of-numbered_from (n + 1) K i (omega arith))

pub AreInput-numbered_from : (K : List Clause) → AreInput K (numbered_from 1 K)
AreInput-numbered_from K n one end =
    let number : 1 + (n - 1) ≡ n = omega arith in
    let at : clause_of (numbered_from 1 K) (1 + (n - 1)) ≡ Some (get_or K (n - 1) []) = clause_of-numbered_from 1 K (n - 1) (omega arith) in
    sym (ap (clause_of (numbered_from 1 K)) number) ∙ (at ∙ ap Some (sym (unwrap_or-slice_get K (n - 1) [])))

-- one more of them
AreInput-push : (K : List Clause) (c : Clause) (here : Numbered) → AreInput K here → AreInput (K ++ c ∷ []) ((length K + 1, c) ∷ here)
AreInput-push K c here input n one end = go (nat_le n (length K)) refl
  where
    longer : length (K ++ c ∷ []) ≡ length K + 1
    longer = length-append K (c ∷ [])

    old : n ≤ length K → clause_of ((length K + 1, c) ∷ here) n ≡ Some (clause_at (K ++ c ∷ []) n)
    old h =
        let other : nat_eq (length K + 1) n ≡ false = false_unless (nat_eq (length K + 1) n) (λ t. let q : length K + 1 ≡ n = eqb-true (length K + 1) n t in omega arith) in
        ap (λ b. if b then Some c else clause_of here n) other ∙ (input n one h ∙ ap Some (sym (clause_at-append K (c ∷ []) n one h)))

    new : length K < n → clause_of ((length K + 1, c) ∷ here) n ≡ Some (clause_at (K ++ c ∷ []) n)
    new h =
        let number : length K + 1 ≡ n = omega (arith, longer) in
        ap (λ b. if b then Some c else clause_of here n) (eq-eqb (length K + 1) n number)
        ∙ ap Some (sym (clause_at-push K c) ∙ ap (clause_at (K ++ c ∷ [])) number)

    go : (b : Bool) → nat_le n (length K) ≡ b → clause_of ((length K + 1, c) ∷ here) n ≡ Some (clause_at (K ++ c ∷ []) n)
    go true t = old (leb-true n (length K) t)
    go false t = new (leb-false n (length K) t)

-- whether the literal stands in a clause that is there
abbrev pub stands : Numbered → Literal → Bool
stands here l = list_any (λ e. has e.1 l) here

stands-numbered_from : (n : ℕ) (K : List Clause) (l : Literal) → stands (numbered_from n K) l ≡ occurs K l
stands-numbered_from n [] l = refl
stands-numbered_from n (c ∷ K) l = ap (λ b. has c l || b) (stands-numbered_from (n + 1) K l)

-- the line that adds the negation of v
unit_addition : ℕ → ℕ → Addition
unit_addition n v = record { id = n; clause = negative v ∷ []; hints = []; groups = [] }

-- where no clause has the negated pivot, none is left to be dealt with
are_dealt_with-none : (there : Numbered) (P : List Literal) (q : Literal) → stands there q ≡ false → are_dealt_with there P q [] ≡ true
are_dealt_with-none [] P q h = refl
are_dealt_with-none (e ∷ there) P q h = go (has e.1 q) refl h (are_dealt_with-none there P q)
  where
    go : (b : Bool) → has e.1 q ≡ b → b || stands there q ≡ false → (stands there q ≡ false → are_dealt_with there P q [] ≡ true) → are_dealt_with (e ∷ there) P q [] ≡ true
    go true i k more = absurd (cc)
    go false i k more = rw i (more k)

addition_fault-unit : (V last : ℕ) (there : Numbered) (n v : ℕ) → last < n → v ≤ V → stands there (positive v) ≡ false → addition_fault V last there (unit_addition n v) ≡ None
unfolding unit_addition
addition_fault-unit V last there n v rises within absent =
    let new : nat_le n last ≡ false = false_unless (nat_le n last) (λ t. let l : n ≤ last = leb-true n last t in omega arith) in
    let low : nat_le v V ≡ true = le-leb v V within in
    first (nat_le n last) (nat_le v V) (has_both_signs (negative v ∷ [])) new low (one_sign (has-opposite v v))
  where
    P : List Literal
    P = negations (negative v ∷ [])

    one_sign : has (negative v ∷ []) (positive v) ≡ false → has_both_signs (negative v ∷ []) ≡ false
    one_sign h = ap (λ b. b || false) h

    dealt : are_dealt_with there P (positive v) [] ≡ true
    dealt = are_dealt_with-none there P (positive v) absent

    first : (x y z : Bool) → x ≡ false → y ≡ true → z ≡ false
        → (if x then Some id_not_rising else if not y || false then Some literal_out_of_range else if z then Some both_signs else if are_dealt_with there P (positive v) [] then None else Some missing_candidate) ≡ None
    first false true false p q r = ap (λ b. if b then None else Some missing_candidate) dealt
    first true y z p q r = absurd (cc)
    first false false z p q r = absurd (cc)
    first false true true p q r = absurd (cc)

-- v is one of the first V variables, and stands in no clause there without its negation
IsLacking : ℕ → Numbered → ℕ → Type 0
IsLacking V there v = (v ≤ V) × (stands there (positive v) ≡ false)

-- what these lines leave, where K are the clauses before: K and the unit clauses, under their own
-- numbers
pub record UnitsLead (V : ℕ) (K : List Clause) (s : Checker) (vs : List ℕ) : Type 0 where
  pub state : Checker
  pub leads : Leads V s (unit_steps (length K + 1) (map negative vs)) state
  pub last : state.last ≡ length (K ++ unit_clauses (map negative vs))
  pub empty : state.empty ≡ s.empty
  pub input : AreInput (K ++ unit_clauses (map negative vs)) state.clauses

UnitsLead-from_IsLacking : (V : ℕ) (K : List Clause) (s : Checker) (vs : List ℕ) → s.last ≡ length K → AreInput K s.clauses → All (IsLacking V s.clauses) vs → UnitsLead V K s vs
unfolding IsLacking unit_addition
UnitsLead-from_IsLacking V K s [] last input lacking = record {
  state = s;
  leads = Leads-none V s;
  last = last ∙ ap length (sym (append-nil K));
  empty = refl;
  input = rw (append-nil K) input;
}
UnitsLead-from_IsLacking V K s (v ∷ vs) last input lacking =
    finish (UnitsLead-from_IsLacking V (K ++ unit ∷ []) after vs (sym longer) (AreInput-push K unit s.clauses input)
    (All-weaker (IsLacking V s.clauses) (IsLacking V after.clauses) still vs (All-tail (IsLacking V s.clauses) v vs lacking)))
  where
    unit : Clause
    unit = negative v ∷ []

    after : Checker
    after = added s (unit_addition (length K + 1) v)

    longer : length (K ++ unit ∷ []) ≡ length K + 1
    longer = length-append K (unit ∷ [])

    still : (w : ℕ) → IsLacking V s.clauses w → IsLacking V after.clauses w
    still w h = (h.0, ap (λ b. b || stands s.clauses (positive w)) (has-opposite w v) ∙ h.1)

    one : Leads V s (add (unit_addition (length K + 1) v) ∷ []) after
    one =
        let here = All-head (IsLacking V s.clauses) v vs lacking in
        Leads-add V s (unit_addition (length K + 1) v) (addition_fault-unit V s.last s.clauses (length K + 1) v (omega arith) here.0 here.1)

    joined : (K ++ unit ∷ []) ++ unit_clauses (map negative vs) ≡ K ++ unit_clauses (map negative (v ∷ vs))
    joined = append_assoc K (unit ∷ []) (unit_clauses (map negative vs))

    finish : UnitsLead V (K ++ unit ∷ []) after vs → UnitsLead V K s (v ∷ vs)
    finish more = record {
      state = more.state;
      leads = Leads-then V s after more.state (add (unit_addition (length K + 1) v) ∷ []) (unit_steps (length K + 1 + 1) (map negative vs)) one
          (subst (λ k. Leads V after (unit_steps (k + 1) (map negative vs)) more.state) longer more.leads);
      last = more.last ∙ ap length joined;
      empty = more.empty ∙ or_false s.empty;
      input = subst (λ L. AreInput L more.state.clauses) joined more.input;
    }
      where
        or_false : (b : Bool) → b || false ≡ b
        or_false true = refl
        or_false false = refl

-- the checker's first state
abbrev pub start : Formula → Checker
start F = record { clauses = numbered_from 1 F.clauses; last = length F.clauses; empty = false }

-- what the prelude leaves
pub record PreludeLeads (F : Formula) : Type 0 where
  pub state : Checker
  pub leads : Leads F.vars (start F) (prelude F) state
  pub last : state.last ≡ length (first_clauses F)
  pub empty : state.empty ≡ false
  pub input : AreInput (first_clauses F) state.clauses

-- The lines of the prelude are accepted.
pub prelude-leads : (F : Formula) → PreludeLeads F
unfolding IsLacking
prelude-leads F = record { state = whole.state; leads = whole.leads; last = whole.last; empty = whole.empty; input = whole.input }
  where
    each : (v : ℕ) → IsVariable F.vars v × (is_pure F.clauses v ≡ true) → IsLacking F.vars (numbered_from 1 F.clauses) v
    each v h = (h.0.1, stands-numbered_from 1 F.clauses (positive v) ∙ not_true (occurs F.clauses (positive v)) h.1)

    whole : UnitsLead F.vars F.clauses (start F) (pure_variables F)
    whole = UnitsLead-from_IsLacking F.vars F.clauses (start F) (pure_variables F) refl (AreInput-numbered_from F.clauses)
        (All-weaker (λ v. IsVariable F.vars v × (is_pure F.clauses v ≡ true)) (IsLacking F.vars (numbered_from 1 F.clauses)) each (pure_variables F) (IsPure-pure F))
