-- Groups of hints, and candidates, as they are taken one after the other.
use Rattle.std.proofs.Common.{◌≡◌, ℕ, suc, ◌+◌, ◌<◌, Bool, true, false, not, ◌||◌, List, [], ◌∷◌, ◌++◌, length, drop, get_or, Option, Some, None, is_some, cond, nat_eq, eqb-true, eq-eqb, refl, ap, sym, ◌∙◌, add-one, arith, ◌==◌}
use Rattle.std.specs.List.{list_any}
use Rattle.std.proofs.Math.Seq.{drop-cons}
use Rattle.theory.specs.Literals.{Literal, Clause, has, negated, negations, without}
use Rattle.theory.specs.Steps.{Group}
use Rattle.theory.specs.Checking as theory
use Rattle.theory.specs.Checking.{Numbered, clause_of, take_hints, is_closed, closed_fault, group_fault, groups_fault, bad_candidate}
use Rattle.theory.proofs.literals.LiteralSets.{or-none, false_unless, true_false}
use Rattle.lrat.specs.declared.check_fault.Fault.{Fault}
use Rattle.lrat.specs.declared.hints.Taken.{Taken}
use Rattle.lrat.specs.Assumed.{IsAssumed}
use Rattle.lrat.specs.Named.{IsNamed, LeavesNamed}
use Rattle.lrat.specs.CheckFaults.{faults_of}
use Rattle.lrat.specs.Taken.{taken_of}
use Rattle.lrat.proofs.SameLiterals.{AreSame-assumed, take_hints-same, fault_of-same}

-- a group whose candidate isn't closed comes to what its hints come to
pub group_fault-taken : (K : Numbered) (P : List Literal) (q : Literal) (L : List ℕ) (g : Group) (d : Clause) (Q R : List Literal) (t : Taken) → Some d ≡ clause_of K g.candidate
    → has d q ≡ true → list_any (nat_eq g.candidate) L ≡ false → is_closed P q d ≡ false → IsAssumed P q d Q → taken_of t R ≡ take_hints K Q g.hints
    → theory.fault_of (taken_of t R) ≡ group_fault K P q L g (clause_of K g.candidate)
group_fault-taken K P q L g d Q R t there candidate new open_ assumed taken =
    let same = fault_of-same (take_hints K (negations (without d q) ++ P) g.hints) (take_hints K Q g.hints)
    (take_hints-same K (negations (without d q) ++ P) Q g.hints (AreSame-assumed P q d Q assumed)) in
    let first : not (has d q) || list_any (nat_eq g.candidate) L ≡ false = or-none (not (has d q)) (list_any (nat_eq g.candidate) L) (ap not candidate) new in
    ap theory.fault_of taken ∙ (sym same
    ∙ (sym (ap (λ b. cond b (closed_fault g.hints) (theory.fault_of (take_hints K (negations (without d q) ++ P) g.hints))) open_)
    ∙ (sym (ap (λ b. cond b (Some bad_candidate) (cond (is_closed P q d) (closed_fault g.hints) (theory.fault_of (take_hints K (negations (without d q) ++ P) g.hints)))) first)
    ∙ ap (group_fault K P q L g) there)))

-- a group without a fault
pub groups_fault-next : (K : Numbered) (P : List Literal) (q : Literal) (L : List ℕ) (gs : List Group) (i : ℕ) (g : Group) → i < length gs → g ≡ get_or gs i g
    → None ≡ group_fault K P q L g (clause_of K g.candidate) → groups_fault K P q (g.candidate ∷ L) (drop (i + 1) gs) ≡ groups_fault K P q L (drop i gs)
groups_fault-next K P q L gs i g less e none =
    let split : drop i gs ≡ g ∷ drop (i + 1) gs = rw add-one (drop-cons gs i g less ∙ ap (λ x. x ∷ drop (suc i) gs) (sym e)) in
    sym (ap (groups_fault K P q L) split
    ∙ ap (λ (o : Option theory.Fault). elim o as (λ _. Option theory.Fault) [ Some f ↦ Some f | None ↦ groups_fault K P q (g.candidate ∷ L) (drop (i + 1) gs) ]) (sym none))

-- one number more
pub IsNamed-more : (old new : ℕ → Bool) (L : List ℕ) (m n : ℕ) → m ≡ n → IsNamed old L → ((q : ℕ) → new q ≡ cond (nat_eq m q) true (old q)) → IsNamed new (n ∷ L)
IsNamed-more old new L m n e h step q = step q ∙ (ap (λ k. cond (nat_eq k q) true (old q)) e ∙ (ap (λ b. cond b true (old q)) (turned n q) ∙ (either (nat_eq q n) (old q) ∙ ap (λ b. nat_eq q n || b) (h q))))
  where
    either : (a b : Bool) → cond a true b ≡ a || b
    either true b = refl
    either false b = refl

    turned : (a b : ℕ) → nat_eq a b ≡ nat_eq b a
    turned a b = go (nat_eq a b) refl
      where
        go : (x : Bool) → nat_eq a b ≡ x → x ≡ nat_eq b a
        go true t = sym (eq-eqb b a (sym (eqb-true a b t)))
        go false t = sym (false_unless (nat_eq b a) (λ u. true_false (nat_eq a b) (eq-eqb a b (sym (eqb-true b a u))) t))

-- a candidate that is neither closed nor named
pub open_candidate : (P : List Literal) (q : Literal) (d : Clause) (n : ℕ) (L : List ℕ) → has d q ≡ true → is_closed P q d ≡ false → list_any (nat_eq n) L ≡ false
    → not (has d q) || (is_closed P q d || list_any (nat_eq n) L) ≡ false
open_candidate P q d n L a b e = or-none (not (has d q)) (is_closed P q d || list_any (nat_eq n) L) (ap not a) (or-none (is_closed P q d) (list_any (nat_eq n) L) b e)

pub no_fault : (o : Option Fault) → is_some o ≡ false → o ≡ None
no_fault None h = refl
no_fault (Some f) h = absurd (cc)

-- an addition without literals, and one with some
pub rat-empty : (K : Numbered) (P : List Literal) (d : Clause) (gs : List Group) → length d == 0 ≡ true → Some theory.no_conflict ≡ theory.rat_fault K P d gs
rat-empty K P [] gs h = refl
rat-empty K P (p ∷ d) gs h = let long : length (p ∷ d) ≡ 0 = eqb-true (length (p ∷ d)) 0 h in absurd (omega arith)

pub rat-pivot : (K : Numbered) (P : List Literal) (d : Clause) (gs : List Group) (p : Literal) → length d == 0 ≡ false → p ≡ get_or d 0 p
    → groups_fault K P (negated p) [] gs ≡ theory.rat_fault K P d gs
rat-pivot K P [] gs p h is = absurd (cc)
rat-pivot K P (r ∷ d) gs p h is = ap (λ x. groups_fault K P (negated x) [] gs) is

-- what the groups leave, and then what the candidates say
pub groups-found : (K : Numbered) (P : List Literal) (q : Literal) (gs : List Group) (has : ℕ → Bool) (o : Option Fault) → LeavesNamed K P q gs has o → is_some o ≡ true
    → faults_of o ≡ groups_fault K P q [] gs
groups-found K P q gs has (Some f) h e = h
groups-found K P q gs has None h e = absurd (cc)

pub groups-passed : (K : Numbered) (P : List Literal) (q : Literal) (gs : List Group) (has : ℕ → Bool) (o : Option Fault) (b : Bool) → LeavesNamed K P q gs has o → o ≡ None
    → ((L : List ℕ) → IsNamed has L → b ≡ theory.are_dealt_with K P q L) → cond b None (Some theory.missing_candidate) ≡ groups_fault K P q [] gs
groups-passed K P q gs has (Some f) b h e dealt = absurd (cc)
groups-passed K P q gs has None b h e dealt = ap (λ x. cond x None (Some theory.missing_candidate)) (dealt h.0 h.1) ∙ h.2
