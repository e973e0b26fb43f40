-- The checker's answers depend on the literals held true as a set.
use Rattle.std.proofs.Common.{◌≡◌, ℕ, Bool, true, false, not, ◌&&◌, ◌||◌, List, [], ◌∷◌, ◌++◌, Option, Some, None, find, cond, nat_eq, refl, ap, sym, subst, ◌∙◌, inl, inr}
use Rattle.std.specs.List.{list_any, list_all}
use Rattle.theory.specs.Literals.{Literal, Clause, same, has, has_var, has_both_signs, negated, negations, without}
use Rattle.theory.specs.Status.{is_false, unit_literal}
use Rattle.theory.specs.Steps.{Group, Addition}
use Rattle.theory.specs.Checking.{Numbered, clause_of, Hint, missing, false_clause, not_unit, unit_in, unit_hint, hint, Taken, conflicts, holds, fails, Fault, no_such_clause, hint_not_unit, bad_candidate, missing_candidate, end_at_conflict, take_hints, is_closed, are_dealt_with, fault_of, closed_fault, group_fault, groups_fault, rat_fault, hints_fault}
use Rattle.theory.proofs.literals.LiteralSets.{literal_of_var, has_var-has, has-append_cases, has-append_left, has-append_right, has-negations, has-from_negations, negated-negated, has-without, has-from_without}
use Rattle.lrat.specs.Assumed.{IsAssumed, AreSame}

pub AreSame-by : (P Q : List Literal) → ((l : Literal) → has P l ≡ true → has Q l ≡ true) → ((l : Literal) → has Q l ≡ true → has P l ≡ true) → AreSame P Q
AreSame-by P Q to from = λ i l. one (has P l) refl (has Q l) refl (to l) (from l) i
  where
    one : {x y : Bool} (a : Bool) → x ≡ a → (b : Bool) → y ≡ b → (x ≡ true → y ≡ true) → (y ≡ true → x ≡ true) → x ≡ y
    one true e b f to from = e ∙ sym (to e)
    one false e true f to from = from f ∙ sym f
    one false e false f to from = e ∙ sym f

has_var-same : (P Q : List Literal) → AreSame P Q → has_var P ≡ has_var Q
has_var-same P Q h = λ i v. one v i
  where
    to : (P Q : List Literal) (v : ℕ) → AreSame P Q → has_var P v ≡ true → has_var Q v ≡ true
    to P Q v h t =
        let l = literal_of_var P v t in
        subst (λ n. has_var Q n ≡ true) l.2 (has_var-has Q l.0 (sym (ap (λ f. f l.0) h) ∙ l.1))

    both : (a b : Bool) → (a ≡ true → b ≡ true) → (b ≡ true → a ≡ true) → a ≡ b
    both true b f g = sym (f refl)
    both false true f g = g refl
    both false false f g = refl

    one : (v : ℕ) → has_var P v ≡ has_var Q v
    one v = both (has_var P v) (has_var Q v) (to P Q v h) (to Q P v (sym h))

hint-same : (P Q : List Literal) (o : Option Clause) → AreSame P Q → hint P o ≡ hint Q o
hint-same P Q None h = refl
hint-same P Q (Some c) h =
    let a : is_false P c ≡ is_false Q c = ap (λ (f : Literal → Bool). list_all (λ l. f (negated l)) c) h in
    let b : unit_literal P c ≡ unit_literal Q c =
    ap (λ (f : Literal → Bool). find (λ l. not (has_var P l.var) && list_all (λ k. same l k || f (negated k)) c) c) h
    ∙ ap (λ (g : ℕ → Bool). find (λ l. not (g l.var) && list_all (λ k. same l k || has Q (negated k)) c) c) (has_var-same P Q h) in
    ap (λ x. cond x false_clause (unit_hint (unit_literal P c))) a ∙ ap (λ x. cond (is_false Q c) false_clause (unit_hint x)) b

-- the same, but for the order and the repetition of the literals held true
abbrev pub AreSameTaken : Taken → Taken → Type 0
AreSameTaken conflicts u = u ≡ conflicts
AreSameTaken (holds P) u = (Q : List Literal) × (u ≡ holds Q) × AreSame P Q
AreSameTaken (fails f) u = u ≡ fails f

end-same : (ns : List ℕ) → AreSameTaken (end_at_conflict ns) (end_at_conflict ns)
end-same [] = refl
end-same (n ∷ ns) = refl

push-same : (P Q : List Literal) (l : Literal) → AreSame P Q → AreSame (l ∷ P) (l ∷ Q)
push-same P Q l h = λ i k. same k l || h i k

pub take_hints-same : (K : Numbered) (P Q : List Literal) (ns : List ℕ) → AreSame P Q → AreSameTaken (take_hints K P ns) (take_hints K Q ns)
take_hints-same K P Q [] h = (Q, refl, h)
take_hints-same K P Q (n ∷ ns) h = go (hint P (clause_of K n)) (hint Q (clause_of K n)) (hint-same P Q (clause_of K n) h) (λ l. take_hints-same K (l ∷ P) (l ∷ Q) ns (push-same P Q l h))
  where
    step : List Literal → Hint → Taken
    step P h = elim h [
      | missing ↦ fails no_such_clause
      | false_clause ↦ end_at_conflict ns
      | not_unit ↦ fails hint_not_unit
      | unit_in l ↦ take_hints K (l ∷ P) ns
    ]

    go : (x y : Hint) → x ≡ y → ((l : Literal) → AreSameTaken (take_hints K (l ∷ P) ns) (take_hints K (l ∷ Q) ns)) → AreSameTaken (step P x) (step Q y)
    go x y e more = subst (λ z. AreSameTaken (step P x) (step Q z)) e (one x)
      where
        one : (x : Hint) → AreSameTaken (step P x) (step Q x)
        one missing = refl
        one false_clause = end-same ns
        one not_unit = refl
        one (unit_in l) = more l

pub is_closed-same : (P Q : List Literal) (q : Literal) (d : Clause) → AreSame P Q → is_closed P q d ≡ is_closed Q q d
is_closed-same P Q q d h = ap (λ (f : Literal → Bool). has_both_signs d || list_any f (without d q)) h

pub are_dealt_with-same : (K : Numbered) (P Q : List Literal) (q : Literal) (named : List ℕ) → AreSame P Q → are_dealt_with K P q named ≡ are_dealt_with K Q q named
are_dealt_with-same K P Q q named h =
    ap (λ (f : Literal → Bool). list_all (λ e. not (has e.1 q) || ((has_both_signs e.1 || list_any f (without e.1 q)) || list_any (nat_eq e.0) named)) K) h

pub fault_of-same : (t u : Taken) → AreSameTaken t u → fault_of t ≡ fault_of u
fault_of-same conflicts u h = ap fault_of (sym h)
fault_of-same (holds P) u h = ap fault_of (sym h.1)
fault_of-same (fails f) u h = ap fault_of (sym h)

append-same : (A P Q : List Literal) → AreSame P Q → AreSame (A ++ P) (A ++ Q)
append-same [] P Q h = h
append-same (l ∷ A) P Q h = push-same (A ++ P) (A ++ Q) l (append-same A P Q h)

pub group_fault-same : (K : Numbered) (P Q : List Literal) (q : Literal) (named : List ℕ) (g : Group) (o : Option Clause) → AreSame P Q
    → group_fault K P q named g o ≡ group_fault K Q q named g o
group_fault-same K P Q q named g None h = refl
group_fault-same K P Q q named g (Some d) h =
    let t = fault_of-same (take_hints K (negations (without d q) ++ P) g.hints) (take_hints K (negations (without d q) ++ Q) g.hints)
    (take_hints-same K (negations (without d q) ++ P) (negations (without d q) ++ Q) g.hints (append-same (negations (without d q)) P Q h)) in
    ap (λ x. cond (not (has d q) || list_any (nat_eq g.candidate) named) (Some bad_candidate) (cond x (closed_fault g.hints) (fault_of (take_hints K (negations (without d q) ++ P) g.hints)))) (is_closed-same P Q q d h)
    ∙ ap (λ x. cond (not (has d q) || list_any (nat_eq g.candidate) named) (Some bad_candidate) (cond (is_closed Q q d) (closed_fault g.hints) x)) t

pub groups_fault-same : (K : Numbered) (P Q : List Literal) (q : Literal) (named : List ℕ) (gs : List Group) → AreSame P Q → groups_fault K P q named gs ≡ groups_fault K Q q named gs
groups_fault-same K P Q q named [] h = ap (λ x. cond x None (Some missing_candidate)) (are_dealt_with-same K P Q q named h)
groups_fault-same K P Q q named (g ∷ gs) h =
    go (group_fault K P q named g (clause_of K g.candidate)) (group_fault K Q q named g (clause_of K g.candidate)) (group_fault-same K P Q q named g (clause_of K g.candidate) h)
    (groups_fault-same K P Q q (g.candidate ∷ named) gs h)
  where
    go : (x y : Option Fault) → x ≡ y → groups_fault K P q (g.candidate ∷ named) gs ≡ groups_fault K Q q (g.candidate ∷ named) gs
        → ◌≡◌ {A = Option Fault} (elim x as (λ _. Option Fault) [ Some f ↦ Some f | None ↦ groups_fault K P q (g.candidate ∷ named) gs ])
        (elim y as (λ _. Option Fault) [ Some f ↦ Some f | None ↦ groups_fault K Q q (g.candidate ∷ named) gs ])
    go x y e more =
        ap (λ (z : Option Fault). elim z as (λ _. Option Fault) [ Some f ↦ Some f | None ↦ groups_fault K P q (g.candidate ∷ named) gs ]) e
        ∙ ap (λ (r : Option Fault). elim y as (λ _. Option Fault) [ Some f ↦ Some f | None ↦ r ]) more

pub rat_fault-same : (K : Numbered) (P Q : List Literal) (c : Clause) (gs : List Group) → AreSame P Q → rat_fault K P c gs ≡ rat_fault K Q c gs
rat_fault-same K P Q [] gs h = refl
rat_fault-same K P Q (p ∷ c) gs h = groups_fault-same K P Q (negated p) [] gs h

pub hints_fault-same : (K : Numbered) (a : Addition) (t u : Taken) → AreSameTaken t u → hints_fault K a t ≡ hints_fault K a u
hints_fault-same K a conflicts u h = ap (hints_fault K a) (sym h)
hints_fault-same K a (holds P) u h = rat_fault-same K P h.0 a.clause a.groups h.2 ∙ ap (hints_fault K a) (sym h.1)
hints_fault-same K a (fails f) u h = ap (hints_fault K a) (sym h)

-- what was put is what the definition puts
pub AreSame-assumed : (P : List Literal) (q : Literal) (c : Clause) (Q : List Literal) → IsAssumed P q c Q → AreSame (negations (without c q) ++ P) Q
AreSame-assumed P q c Q h = AreSame-by (negations (without c q) ++ P) Q to from
  where
    to : (l : Literal) → has (negations (without c q) ++ P) l ≡ true → has Q l ≡ true
    to l t = elim (has-append_cases (negations (without c q)) P l t) [
      | inl a ↦ (let m = has-from_without c q (negated l) (has-from_negations (without c q) l a) in subst (λ k. has Q k ≡ true) (negated-negated l) (h.negations (negated l) m.0 m.1))
      | inr b ↦ h.kept l b
    ]

    from : (l : Literal) → has Q l ≡ true → has (negations (without c q) ++ P) l ≡ true
    from l t = elim (h.no_more l t) [
      | inl b ↦ has-append_right (negations (without c q)) P l b
      | inr a ↦ has-append_left (negations (without c q)) P l (subst (λ k. has (negations (without c q)) k ≡ true) (negated-negated l) (has-negations (without c q) (negated l) (has-without c q (negated l) a.0 a.1)))
    ]
