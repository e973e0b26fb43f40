-- The walk that puts the negations of a clause's literals.
use Rattle.std.proofs.Common.{◌≡◌, ℕ, ◌+◌, ◌<◌, ◌≤◌, Bool, true, false, List, [], ◌∷◌, ◌++◌, length, take, get_or, refl, ap, sym, subst, ◌∙◌, ◌⊎◌, inl, inr}
use Rattle.std.specs.List.{list_any}
use Rattle.std.proofs.lemmas.List.{take_more, take_all}
use Rattle.theory.specs.Literals.{Literal, Clause, same, has, has_var, has_both_signs, negated, without}
use Rattle.theory.specs.Checking.{is_closed}
use Rattle.theory.proofs.literals.LiteralLemmas.{or-left, or-right, same-eq}
use Rattle.theory.proofs.literals.LiteralSets.{true_false, false_unless, or-none, has-head, has-tail, has-cases, has-append_left, has-append_right, has-append_cases, has_var-has, negated-negated, negated-other, same-other, has-without, has-from_without, has_both_signs-none, list_any-none}
use Rattle.lrat.specs.Assumed.{IsAssumed}

one : (k l : Literal) → has (l ∷ []) k ≡ true → k ≡ l
one k l h = elim (has-cases l k [] h) [ inl e ↦ e | inr e ↦ absurd (cc) ]

-- the pivot itself
pub IsAssumed-pivot : (P : List Literal) (q : Literal) (c : Clause) (Q : List Literal) (l : Literal) → same q l ≡ true → IsAssumed P q c Q → IsAssumed P q (c ++ l ∷ []) Q
IsAssumed-pivot P q c Q l is h = record {
  kept = h.kept;
  negations = λ k a o. elim (has-append_cases c (l ∷ []) k a) [
    | inl b ↦ h.negations k b o
    | inr b ↦ true_false (same q k) (ap (same q) (one k l b) ∙ is) o
  ];
  no_more = λ k a. elim (h.no_more k a) [ inl b ↦ inl b | inr b ↦ inr (has-append_left c (l ∷ []) (negated k) b.0, b.1) ];
  not_held = λ k a o. elim (has-append_cases c (l ∷ []) k a) [
    | inl b ↦ h.not_held k b o
    | inr b ↦ true_false (same q k) (ap (same q) (one k l b) ∙ is) o
  ];
  alone = λ k a v. elim (has-append_cases c (l ∷ []) k a) [
    | inl b ↦ h.alone k b v
    | inr b ↦ one k l b ∙ sym (same-eq q l is)
  ];
}

-- a literal of another variable whose negation is held true, with those before
more : (P : List Literal) (q : Literal) (c : Clause) (Q R : List Literal) (l : Literal) → (l.var ≡ q.var → ⊥) → IsAssumed P q c Q
    → ((k : Literal) → has Q k ≡ true → has R k ≡ true) → has R (negated l) ≡ true → ((k : Literal) → has R k ≡ true → (k ≡ negated l) ⊎ (has Q k ≡ true))
    → ((k : Literal) → has c k ≡ true → same q k ≡ false → has R k ≡ false) → has R l ≡ false
    → IsAssumed P q (c ++ l ∷ []) R
more P q c Q R l apart h bigger there only closed here = record {
  kept = λ k a. bigger k (h.kept k a);
  negations = λ k a o. elim (has-append_cases c (l ∷ []) k a) [
    | inl b ↦ bigger (negated k) (h.negations k b o)
    | inr b ↦ subst (λ (x : Literal). has R (negated x) ≡ true) (sym (one k l b)) there
  ];
  no_more = λ k a. elim (only k a) [
    | inl e ↦ inr (back k e)
    | inr b ↦ elim (h.no_more k b) [ inl d ↦ inl d | inr d ↦ inr (has-append_left c (l ∷ []) (negated k) d.0, d.1) ]
  ];
  not_held = λ k a o. elim (has-append_cases c (l ∷ []) k a) [
    | inl b ↦ closed k b o
    | inr b ↦ subst (λ (x : Literal). has R x ≡ false) (sym (one k l b)) here
  ];
  alone = λ k a v. elim (has-append_cases c (l ∷ []) k a) [
    | inl b ↦ h.alone k b v
    | inr b ↦ absurd (apart (ap (λ (x : Literal). x.var) (sym (one k l b)) ∙ v))
  ];
}
  where
    back : (k : Literal) → k ≡ negated l → (has (c ++ l ∷ []) (negated k) ≡ true) × (same q (negated k) ≡ false)
    back k e =
        let m : negated k ≡ l = ap negated e ∙ negated-negated l in (
          subst (λ x. has (c ++ l ∷ []) x ≡ true) (sym m) (has-append_right c (l ∷ []) l (has-head l [])),
          subst (λ x. same q x ≡ false) (sym m) (same-other q l (λ s. apart (ap (λ (x : Literal). x.var) (sym s)))),
        )

pub IsAssumed-push : (P : List Literal) (q : Literal) (c : Clause) (Q : List Literal) (l : Literal) → (l.var ≡ q.var → ⊥) → has_var Q l.var ≡ false → IsAssumed P q c Q
    → IsAssumed P q (c ++ l ∷ []) (negated l ∷ Q)
IsAssumed-push P q c Q l apart free h =
    more P q c Q (negated l ∷ Q) l apart h (λ k a. has-tail (negated l) k Q a) (has-head (negated l) Q) (λ k a. has-cases (negated l) k Q a)
    (λ k a o. false_unless (has (negated l ∷ Q) k) (λ b. elim (has-cases (negated l) k Q b) [
      | inl e ↦ none (subst (λ x. has Q x ≡ true) (ap negated e ∙ negated-negated l) (h.negations k a o))
      | inr d ↦ true_false (has Q k) d (h.not_held k a o)
    ]))
    (false_unless (has (negated l ∷ Q) l) (λ b. elim (has-cases (negated l) l Q b) [ inl e ↦ negated-other l e | inr d ↦ none d ]))
  where
    none : has Q l ≡ true → ⊥
    none d = true_false (has_var Q l.var) (has_var-has Q l d) free

pub IsAssumed-held : (P : List Literal) (q : Literal) (c : Clause) (Q : List Literal) (l : Literal) → (l.var ≡ q.var → ⊥) → has Q (negated l) ≡ true → has Q l ≡ false → IsAssumed P q c Q
    → IsAssumed P q (c ++ l ∷ []) Q
IsAssumed-held P q c Q l apart there free h = more P q c Q Q l apart h (λ k a. a) there (λ k a. inr a) h.not_held free

-- a clause with a literal and its negation has both signs of a variable
pub both-signs : (c : Clause) (l : Literal) → has c l ≡ true → has c (negated l) ≡ true → has_both_signs c ≡ true
both-signs c l a b = any (λ k. has c (negated k)) c l a b
  where
    any : (p : Literal → Bool) (d : Clause) (l : Literal) → has d l ≡ true → p l ≡ true → list_any p d ≡ true
    any p [] l a b = absurd (cc)
    any p (k ∷ d) l a b = elim (has-cases k l d a) [
      | inl e ↦ or-left (p k) (list_any p d) (ap p (sym e) ∙ b)
      | inr e ↦ or-right (p k) (list_any p d) (any p d l e b)
    ]

any-has : (P : List Literal) (d : Clause) (l : Literal) → has d l ≡ true → has P l ≡ true → list_any (has P) d ≡ true
any-has P [] l a b = absurd (cc)
any-has P (k ∷ d) l a b = elim (has-cases k l d a) [
  | inl e ↦ or-left (has P k) (list_any (has P) d) (ap (has P) (sym e) ∙ b)
  | inr e ↦ or-right (has P k) (list_any (has P) d) (any-has P d l e b)
]

-- a literal that is held true
pub closed-by_held : (P : List Literal) (q : Literal) (c d : Clause) (Q : List Literal) (l : Literal) → ((k : Literal) → has d k ≡ true → has c k ≡ true) → IsAssumed P q d Q
    → has c l ≡ true → (l.var ≡ q.var → ⊥) → has Q l ≡ true → is_closed P q c ≡ true
closed-by_held P q c d Q l within h a apart t =
    elim (h.no_more l t) [
      | inl b ↦ or-right (has_both_signs c) (list_any (has P) (without c q)) (any-has P (without c q) l (has-without c q l a (same-other q l (λ s. apart (ap (λ (x : Literal). x.var) (sym s))))) b)
      | inr b ↦ or-left (has_both_signs c) (list_any (has P) (without c q)) (both-signs c l a (within (negated l) b.0))
    ]

-- at the end
pub not_closed : (P : List Literal) (q : Literal) (c : Clause) (Q : List Literal) → IsAssumed P q c Q → is_closed P q c ≡ false
not_closed P q c Q h = or-none (has_both_signs c) (list_any (has P) (without c q)) (has_both_signs-none c signs) (list_any-none (has P) (without c q) held)
  where
    signs : (l : Literal) → has c l ≡ true → has c (negated l) ≡ true → ⊥
    signs l a b = go (same q l) refl (same q (negated l)) refl
      where
        go : (x : Bool) → same q l ≡ x → (y : Bool) → same q (negated l) ≡ y → ⊥
        go true e y f = negated-other l (sym (same-eq q l e) ∙ sym (h.alone (negated l) b (ap (λ (k : Literal). k.var) (sym (same-eq q l e)))))
        go false e true f = negated-other l (h.alone l a (sym (ap (λ (k : Literal). k.var) (same-eq q (negated l) f))) ∙ same-eq q (negated l) f)
        go false e false f = true_false (has Q l) (subst (λ k. has Q k ≡ true) (negated-negated l) (h.negations (negated l) b f)) (h.not_held l a e)

    held : (l : Literal) → has (without c q) l ≡ true → has P l ≡ false
    held l a =
        let m = has-from_without c q l a in
        false_unless (has P l) (λ t. true_false (has Q l) (h.kept l t) (h.not_held l m.0 m.1))

-- the steps of the walk; l is the literal at the place i
pub next : (P : List Literal) (q : Literal) (c : Clause) (Q : List Literal) (i : ℕ) (l : Literal) → i < length c → l ≡ get_or c i l → IsAssumed P q (take i c ++ l ∷ []) Q → IsAssumed P q (take (i + 1) c) Q
next P q c Q i l less e h = subst (λ x. IsAssumed P q x Q) (ap (λ k. take i c ++ k ∷ []) e ∙ sym (take_more c i l less)) h

pub whole : (P : List Literal) (q : Literal) (c : Clause) (Q : List Literal) (i : ℕ) → length c ≤ i → IsAssumed P q (take i c) Q → IsAssumed P q c Q
whole P q c Q i past h = subst (λ x. IsAssumed P q x Q) (take_all i c past) h
