-- Merging two clauses whose literals rise into the set of their resolvent on x.
use Rattle.std.proofs.Common.{◌≡◌, ℕ, ◌+◌, ◌<◌, ◌≤◌, Bool, true, false, not, cond, ◌||◌, [], ◌∷◌, ◌++◌, append_assoc, append-nil, length, drop, get_or, refl, ap, ap₂, sym, subst, ◌∙◌, ◌⊎◌, inl, inr, arith}
use Rattle.std.proofs.lemmas.List.{at_drop_more, drop_all}
use Rattle.theory.specs.Literals.{Literal, Clause, negated, positive, negative, same, has, has_both_signs, without}
use Rattle.theory.specs.Learning.{IsRising}
use Rattle.theory.specs.Simplifying.{resolvent}
use Rattle.theory.proofs.literals.LiteralSets.{true_false, has-head, has-tail, has-cases, has-append_left, has-append_right, has-append_cases, has-without, same_variable, same-other, other-same, false_unless, or-false_left, or-false_right}
use Rattle.theory.proofs.literals.LiteralLemmas.{same-refl}
use Rattle.std.proofs.lemmas.List.Folds.{list_any-append}
use Rattle.simplify.specs.Entries.{set}
use Rattle.simplify.proofs.LiteralSets.{HaveSame, has_both_signs-same, has_both_signs-both, has_both_signs-set, one_sign, rising-one_sign, set-of}

-- each literal of S is of a lesser variable than those of C
abbrev pub AreBelow : Clause → Clause → Type 0
AreBelow S C = (k l : Literal) → has S k ≡ true → has C l ≡ true → k.var < l.var

-- each literal of the variable is this one
abbrev pub IsOnly : Literal → Clause → Type 0
IsOnly k C = (l : Literal) → has C l ≡ true → l.var ≡ k.var → l ≡ k

-- S is what is merged so far of the resolvent on x of c and d, of which C and D are left
pub record IsMerged (x : ℕ) (c d S C D : Clause) : Type 0 where
  pub same : HaveSame (S ++ resolvent (positive x) C D) (resolvent (positive x) c d)
  pub rising : IsRising S
  pub left : IsRising C
  pub right : IsRising D
  pub below_left : AreBelow S C
  pub below_right : AreBelow S D
  pub pivot : has C (positive x) ≡ has D (negative x)
  pub only_left : IsOnly (positive x) C
  pub only_right : IsOnly (negative x) D

-- rising literals
rising-only : (c : Clause) (k : Literal) → IsRising c → has c k ≡ true → IsOnly k c
rising-only c k r a l b v = elim (same_variable l k v) [
  | inl e ↦ e
  | inr e ↦ true_false (has c (negated k)) (subst (λ y. has c y ≡ true) e b) (one_sign c k (rising-one_sign c r) a)
]

rising-append : (S T : Clause) → IsRising S → IsRising T → AreBelow S T → IsRising (S ++ T)
rising-append [] T r s b = s
rising-append (k ∷ S) T r s b = (
  λ l a. elim (has-append_cases S T l a) [ inl i ↦ r.0 l i | inr j ↦ b k l (has-head k S) j ],
  rising-append S T r.1 s (λ j l i t. b j l (has-tail k j S i) t),
)

below-append : (S T C : Clause) → AreBelow S C → AreBelow T C → AreBelow (S ++ T) C
below-append S T C a b k l i t = elim (has-append_cases S T k i) [ inl m ↦ a k l m t | inr m ↦ b k l m t ]

below-one : (k : Literal) (C : Clause) → ((l : Literal) → has C l ≡ true → k.var < l.var) → AreBelow (k ∷ []) C
below-one k C h j l i t = elim (has-cases k j [] i) [
  | inl e ↦ subst (λ (y : Literal). y.var < l.var) (sym e) (h l t)
  | inr r ↦ absurd (cc)
]

-- all behind the first are above what the first is above
above-first : (n : ℕ) (l : Literal) (D : Clause) → IsRising (l ∷ D) → n < l.var → (j : Literal) → has (l ∷ D) j ≡ true → n < j.var
above-first n l D r less j a = elim (has-cases l j D a) [
  | inl e ↦ subst (λ (y : Literal). n < y.var) (sym e) less
  | inr t ↦ (let more = r.0 j t in omega arith)
]

rising-one : (k : Literal) → IsRising (k ∷ [])
rising-one k = (λ l a. absurd (cc), tt)

pub begin : (x : ℕ) (c d : Clause) → IsRising c → IsRising d → has c (positive x) ≡ true → has d (negative x) ≡ true → IsMerged x c d [] c d
begin x c d r s a b = record {
  same = λ l. refl;
  rising = tt;
  left = r;
  right = s;
  below_left = λ k l i t. absurd (cc);
  below_right = λ k l i t. absurd (cc);
  pivot = a ∙ sym b;
  only_left = rising-only c (positive x) r a;
  only_right = rising-only d (negative x) s b;
}

-- what a clause is without a literal
without-other : (p k : Literal) (C : Clause) → same p k ≡ false → without (k ∷ C) p ≡ k ∷ without C p
without-other p k C h = ap (λ b. cond (not b) (k ∷ without C p) (without C p)) h

without-it : (p k : Literal) (C : Clause) → k ≡ p → without (k ∷ C) p ≡ without C p
without-it p k C e = ap (λ b. cond (not b) (k ∷ without C p) (without C p)) (subst (λ y. same p y ≡ true) (sym e) (same-refl p))

without-none : (p : Literal) (C : Clause) → has C p ≡ false → without C p ≡ C
without-none p [] h = refl
without-none p (k ∷ C) h = without-other p k C (or-false_left (same p k) (has C p) h) ∙ ap (λ c. k ∷ c) (without-none p C (or-false_right (same p k) (has C p) h))

has-append : (a b : Clause) (j : Literal) → has (a ++ b) j ≡ has a j || has b j
has-append a b j = list_any-append (same j) a b

-- a literal that moves to another place
moved : (S A W : Clause) (l : Literal) → HaveSame ((S ++ l ∷ []) ++ (A ++ W)) (S ++ (A ++ l ∷ W))
moved S A W l j =
    has-append (S ++ l ∷ []) (A ++ W) j ∙ (ap₂ (λ a b. a || b) (has-append S (l ∷ []) j) (has-append A W j)
    ∙ (swapped (has S j) (same j l) (has A j) (has W j) ∙ sym (has-append S (A ++ l ∷ W) j ∙ ap (λ b. has S j || b) (has-append A (l ∷ W) j))))
  where
    swapped : (s t a w : Bool) → (s || (t || false)) || (a || w) ≡ s || (a || (t || w))
    swapped true t a w = refl
    swapped false true true w = refl
    swapped false true false w = refl
    swapped false false a w = refl

-- a literal that stands twice
once : (S A W : Clause) (l : Literal) → HaveSame ((S ++ l ∷ []) ++ (A ++ W)) (S ++ (l ∷ (A ++ l ∷ W)))
once S A W l j =
    has-append (S ++ l ∷ []) (A ++ W) j ∙ (ap₂ (λ a b. a || b) (has-append S (l ∷ []) j) (has-append A W j)
    ∙ (swapped (has S j) (same j l) (has A j) (has W j) ∙ sym (has-append S (l ∷ (A ++ l ∷ W)) j ∙ ap (λ b. has S j || (same j l || b)) (has-append A (l ∷ W) j))))
  where
    swapped : (s t a w : Bool) → (s || (t || false)) || (a || w) ≡ s || (t || (a || (t || w)))
    swapped true t a w = refl
    swapped false true a w = refl
    swapped false false a w = refl

pivots-differ : {A : Type 0} (x : ℕ) (k : Literal) → k ≡ positive x → k ≡ negative x → A
pivots-differ x k e f = let signs : true ≡ false = ap (λ (y : Literal). y.positive) (sym e ∙ f) in absurd (cc)

-- the first literal of c goes on
pub left-first : (x : ℕ) (c d S : Clause) (k : Literal) (C : Clause) (l : Literal) (D : Clause) → IsMerged x c d S (k ∷ C) (l ∷ D) → k.var < l.var → IsMerged x c d (S ++ k ∷ []) C (l ∷ D)
left-first x c d S k C l D m less = record {
  same = λ j. ap (λ L. has L j) (append_assoc S (k ∷ []) (resolvent (positive x) C (l ∷ D)) ∙ ap (λ L. S ++ (L ++ without (l ∷ D) (negative x))) (sym (without-other (positive x) k C other))) ∙ m.same j;
  rising = rising-append S (k ∷ []) m.rising (rising-one k) (λ i j a b. elim (has-cases k j [] b) [
    | inl e ↦ subst (λ (y : Literal). i.var < y.var) (sym e) (m.below_left i k a (has-head k C))
    | inr r ↦ absurd (cc)
  ]);
  left = m.left.1;
  right = m.right;
  below_left = below-append S (k ∷ []) C (λ i j a b. m.below_left i j a (has-tail k j C b)) (below-one k C m.left.0);
  below_right = below-append S (k ∷ []) (l ∷ D) m.below_right (below-one k (l ∷ D) (λ j a. above-first k.var l D m.right less j a));
  pivot = sym (ap (λ b. b || has C (positive x)) other) ∙ m.pivot;
  only_left = λ j a v. m.only_left j (has-tail k j C a) v;
  only_right = m.only_right;
}
  where
    other : same (positive x) k ≡ false
    other = same-other (positive x) k (λ e.
        let there = sym m.pivot ∙ subst (λ y. has (k ∷ C) y ≡ true) (sym e) (has-head k C) in
        let more : k.var < x = above-first k.var l D m.right less (negative x) there in
        let v : x ≡ k.var = ap (λ (y : Literal). y.var) e in
        absurd (omega arith))

-- the first literal of d goes on
pub right-first : (x : ℕ) (c d S : Clause) (k : Literal) (C : Clause) (l : Literal) (D : Clause) → IsMerged x c d S (k ∷ C) (l ∷ D) → l.var < k.var → IsMerged x c d (S ++ l ∷ []) (k ∷ C) D
right-first x c d S k C l D m less = record {
  same = λ j. moved S (without (k ∷ C) (positive x)) (without D (negative x)) l j
      ∙ (ap (λ L. has (S ++ (without (k ∷ C) (positive x) ++ L)) j) (sym (without-other (negative x) l D other)) ∙ m.same j);
  rising = rising-append S (l ∷ []) m.rising (rising-one l) (λ i j a b. elim (has-cases l j [] b) [
    | inl e ↦ subst (λ (y : Literal). i.var < y.var) (sym e) (m.below_right i l a (has-head l D))
    | inr r ↦ absurd (cc)
  ]);
  left = m.left;
  right = m.right.1;
  below_left = below-append S (l ∷ []) (k ∷ C) m.below_left (below-one l (k ∷ C) (λ j a. above-first l.var k C m.left less j a));
  below_right = below-append S (l ∷ []) D (λ i j a b. m.below_right i j a (has-tail l j D b)) (below-one l D m.right.0);
  pivot = m.pivot ∙ ap (λ b. b || has D (negative x)) other;
  only_left = m.only_left;
  only_right = λ j a v. m.only_right j (has-tail l j D a) v;
}
  where
    other : same (negative x) l ≡ false
    other = same-other (negative x) l (λ e.
        let there = m.pivot ∙ subst (λ y. has (l ∷ D) y ≡ true) (sym e) (has-head l D) in
        let more : l.var < x = above-first l.var k C m.left less (positive x) there in
        let v : x ≡ l.var = ap (λ (y : Literal). y.var) e in
        absurd (omega arith))

-- both have the same literal first
pub both-first : (x : ℕ) (c d S : Clause) (k : Literal) (C : Clause) (l : Literal) (D : Clause) → IsMerged x c d S (k ∷ C) (l ∷ D) → k ≡ l → IsMerged x c d (S ++ k ∷ []) C D
both-first x c d S k C l D m e = record {
  same = λ j. once S (without C (positive x)) (without D (negative x)) k j
      ∙ (ap₂ (λ L M. has (S ++ (L ++ M)) j) (sym (without-other (positive x) k C other_left)) (ap (λ y. y ∷ without D (negative x)) e ∙ sym (without-other (negative x) l D other_right)) ∙ m.same j);
  rising = rising-append S (k ∷ []) m.rising (rising-one k) (λ i j a b. elim (has-cases k j [] b) [
    | inl f ↦ subst (λ (y : Literal). i.var < y.var) (sym f) (m.below_left i k a (has-head k C))
    | inr r ↦ absurd (cc)
  ]);
  left = m.left.1;
  right = m.right.1;
  below_left = below-append S (k ∷ []) C (λ i j a b. m.below_left i j a (has-tail k j C b)) (below-one k C m.left.0);
  below_right = below-append S (k ∷ []) D (λ i j a b. m.below_right i j a (has-tail l j D b)) (below-one k D (subst (λ (y : Literal). (j : Literal) → has D j ≡ true → y.var < j.var) (sym e) m.right.0));
  pivot = sym (ap (λ b. b || has C (positive x)) other_left) ∙ (m.pivot ∙ ap (λ b. b || has D (negative x)) other_right);
  only_left = λ j a v. m.only_left j (has-tail k j C a) v;
  only_right = λ j a v. m.only_right j (has-tail l j D a) v;
}
  where
    other_left : same (positive x) k ≡ false
    other_left = same-other (positive x) k (λ f.
        pivots-differ x l (sym e ∙ sym f) (m.only_right l (has-head l D) (sym (ap (λ (y : Literal). y.var) (f ∙ e)))))

    other_right : same (negative x) l ≡ false
    other_right = same-other (negative x) l (λ f.
        pivots-differ x k (m.only_left k (has-head k C) (ap (λ (y : Literal). y.var) (e ∙ sym f))) (e ∙ sym f))

-- both have a literal of x first
pub pivot-first : (x : ℕ) (c d S : Clause) (k : Literal) (C : Clause) (l : Literal) (D : Clause) → IsMerged x c d S (k ∷ C) (l ∷ D) → k.var ≡ l.var → k.var ≡ x → IsMerged x c d S C D
pivot-first x c d S k C l D m v e = record {
  same = λ j. ap₂ (λ L M. has (S ++ (L ++ M)) j) (sym (without-it (positive x) k C left_one)) (sym (without-it (negative x) l D right_one)) ∙ m.same j;
  rising = m.rising;
  left = m.left.1;
  right = m.right.1;
  below_left = λ i j a b. m.below_left i j a (has-tail k j C b);
  below_right = λ i j a b. m.below_right i j a (has-tail l j D b);
  pivot = false_unless (has C (positive x)) (λ a. (let more = m.left.0 (positive x) a in absurd (omega arith)))
      ∙ sym (false_unless (has D (negative x)) (λ a. (let more = m.right.0 (negative x) a in absurd (omega arith))));
  only_left = λ j a w. m.only_left j (has-tail k j C a) w;
  only_right = λ j a w. m.only_right j (has-tail l j D a) w;
}
  where
    left_one : k ≡ positive x
    left_one = m.only_left k (has-head k C) e

    right_one : l ≡ negative x
    right_one = m.only_right l (has-head l D) (sym v ∙ e)

-- they have a literal and its negation first
pub opposite-first : (x : ℕ) (c d S : Clause) (k : Literal) (C : Clause) (l : Literal) (D : Clause) → IsMerged x c d S (k ∷ C) (l ∷ D) → k.var ≡ l.var → same k l ≡ false → ¬ (k.var ≡ x)
    → has_both_signs (resolvent (positive x) c d) ≡ true
opposite-first x c d S k C l D m v o n =
    has_both_signs-both (resolvent (positive x) c d) l
    (whole l (has-append_right (without (k ∷ C) (positive x)) (without (l ∷ D) (negative x)) l (has-without (l ∷ D) (negative x) l (has-head l D) (same-other (negative x) l (λ e. n (v ∙ sym (ap (λ (y : Literal). y.var) e)))))))
    (subst (λ y. has (resolvent (positive x) c d) y ≡ true) opposite
    (whole k (has-append_left (without (k ∷ C) (positive x)) (without (l ∷ D) (negative x)) k (has-without (k ∷ C) (positive x) k (has-head k C) (same-other (positive x) k (λ e. n (sym (ap (λ (y : Literal). y.var) e))))))))
  where
    opposite : k ≡ negated l
    opposite = elim (same_variable k l v) [ inl e ↦ absurd (other-same k l o e) | inr e ↦ e ]

    whole : (j : Literal) → has (resolvent (positive x) (k ∷ C) (l ∷ D)) j ≡ true → has (resolvent (positive x) c d) j ≡ true
    whole j a = sym (m.same j) ∙ has-append_right S (resolvent (positive x) (k ∷ C) (l ∷ D)) j a

-- what is left of one clause goes on
done : (x : ℕ) (c d S R : Clause) → IsRising (S ++ R) → HaveSame (S ++ R) (resolvent (positive x) c d) → (set (resolvent (positive x) c d) ≡ S ++ R) × (has_both_signs (resolvent (positive x) c d) ≡ false)
done x c d S R r h = (set-of (resolvent (positive x) c d) (S ++ R) r h, sym (has_both_signs-same (S ++ R) (resolvent (positive x) c d) h) ∙ rising-one_sign (S ++ R) r)

pub end-left : (x : ℕ) (c d S C : Clause) → IsMerged x c d S C [] → (set (resolvent (positive x) c d) ≡ S ++ C) × (has_both_signs (resolvent (positive x) c d) ≡ false)
end-left x c d S C m =
    done x c d S C (rising-append S C m.rising m.left m.below_left) (λ j. ap (λ L. has (S ++ L) j) (sym (append-nil (without C (positive x)) ∙ without-none (positive x) C m.pivot)) ∙ m.same j)

pub end-right : (x : ℕ) (c d S D : Clause) → IsMerged x c d S [] D → (set (resolvent (positive x) c d) ≡ S ++ D) × (has_both_signs (resolvent (positive x) c d) ≡ false)
end-right x c d S D m =
    done x c d S D (rising-append S D m.rising m.right m.below_right) (λ j. ap (λ L. has (S ++ L) j) (sym (without-none (negative x) D (sym m.pivot))) ∙ m.same j)

-- the literals of a list behind the old ones, merged so far of c up to i and of d up to j
pub record IsMerging (x : ℕ) (c d old out : Clause) (i j : ℕ) : Type 0 where
  pub done : Clause
  pub items : out ≡ old ++ done
  pub merged : IsMerged x c d done (drop i c) (drop j d)

pub at_place : (c : Clause) (i : ℕ) (k : Literal) → i < length c → k ≡ get_or c i k → drop i c ≡ k ∷ drop (i + 1) c
at_place c i k within is = at_drop_more (λ (L : Clause). L) c i k within ∙ ap (λ y. y ∷ drop (i + 1) c) (sym is)

-- the literals that are there
pub record AreThere (c d : Clause) (i j : ℕ) (k l : Literal) : Type 0 where
  pub within_left : i < length c
  pub within_right : j < length d
  pub left : k ≡ get_or c i k
  pub right : l ≡ get_or d j l

module _ (x : ℕ) (c d old out : Clause) (i j : ℕ) (k l : Literal) where
  opened : (m : IsMerging x c d old out i j) → AreThere c d i j k l → IsMerged x c d m.done (k ∷ drop (i + 1) c) (l ∷ drop (j + 1) d)
  opened m t = subst (λ D. IsMerged x c d m.done (k ∷ drop (i + 1) c) D) (at_place d j l t.within_right t.right)
      (subst (λ C. IsMerged x c d m.done C (drop j d)) (at_place c i k t.within_left t.left) m.merged)

  longer : (new : Clause) (m : IsMerging x c d old out i j) (y : Literal) → new ≡ out ++ y ∷ [] → new ≡ old ++ (m.done ++ y ∷ [])
  longer new m y e = e ∙ (ap (λ L. L ++ y ∷ []) m.items ∙ append_assoc old m.done (y ∷ []))

  pub merge-left : (new : Clause) → IsMerging x c d old out i j → AreThere c d i j k l → k.var < l.var → new ≡ out ++ k ∷ [] → IsMerging x c d old new (i + 1) j
  merge-left new m t less e = record {
    done = m.done ++ k ∷ [];
    items = longer new m k e;
    merged = subst (λ D. IsMerged x c d (m.done ++ k ∷ []) (drop (i + 1) c) D) (sym (at_place d j l t.within_right t.right))
        (left-first x c d m.done k (drop (i + 1) c) l (drop (j + 1) d) (opened m t) less);
  }

  pub merge-right : (new : Clause) → IsMerging x c d old out i j → AreThere c d i j k l → l.var < k.var → new ≡ out ++ l ∷ [] → IsMerging x c d old new i (j + 1)
  merge-right new m t less e = record {
    done = m.done ++ l ∷ [];
    items = longer new m l e;
    merged = subst (λ C. IsMerged x c d (m.done ++ l ∷ []) C (drop (j + 1) d)) (sym (at_place c i k t.within_left t.left))
        (right-first x c d m.done k (drop (i + 1) c) l (drop (j + 1) d) (opened m t) less);
  }

  pub merge-both : (new : Clause) → IsMerging x c d old out i j → AreThere c d i j k l → k ≡ l → new ≡ out ++ k ∷ [] → IsMerging x c d old new (i + 1) (j + 1)
  merge-both new m t one e = record {
    done = m.done ++ k ∷ [];
    items = longer new m k e;
    merged = both-first x c d m.done k (drop (i + 1) c) l (drop (j + 1) d) (opened m t) one;
  }

  pub merge-pivot : IsMerging x c d old out i j → AreThere c d i j k l → k.var ≡ l.var → k.var ≡ x → IsMerging x c d old out (i + 1) (j + 1)
  merge-pivot m t v e = record { done = m.done; items = m.items; merged = pivot-first x c d m.done k (drop (i + 1) c) l (drop (j + 1) d) (opened m t) v e }

  pub merge-opposite : IsMerging x c d old out i j → AreThere c d i j k l → k.var ≡ l.var → same k l ≡ false → ¬ (k.var ≡ x) → has_both_signs (set (resolvent (positive x) c d)) ≡ true
  merge-opposite m t v o n =
      has_both_signs-set (resolvent (positive x) c d) ∙ opposite-first x c d m.done k (drop (i + 1) c) l (drop (j + 1) d) (opened m t) v o n

-- one of the clauses is at its end
pub merge-end : (x : ℕ) (c d old out : Clause) (i j : ℕ) → IsMerging x c d old out i j → (length c ≤ i) ⊎ (length d ≤ j)
    → ((out ++ drop i c) ++ drop j d ≡ old ++ set (resolvent (positive x) c d)) × (true ≡ not (has_both_signs (set (resolvent (positive x) c d))))
merge-end x c d old out i j m (inl e) =
    let none = drop_all i c e in
    let all = end-right x c d m.done (drop j d) (subst (λ C. IsMerged x c d m.done C (drop j d)) none m.merged) in (
      ap (λ L. (out ++ L) ++ drop j d) none ∙ (ap (λ L. L ++ drop j d) (append-nil out ∙ m.items) ∙ (append_assoc old m.done (drop j d) ∙ ap (λ L. old ++ L) (sym all.0))),
      sym (ap not (has_both_signs-set (resolvent (positive x) c d) ∙ all.1)),
    )
merge-end x c d old out i j m (inr e) =
    let none = drop_all j d e in
    let all = end-left x c d m.done (drop i c) (subst (λ D. IsMerged x c d m.done (drop i c) D) none m.merged) in (
      ap (λ L. (out ++ drop i c) ++ L) none ∙ (append-nil (out ++ drop i c) ∙ (ap (λ L. L ++ drop i c) m.items ∙ (append_assoc old m.done (drop i c) ∙ ap (λ L. old ++ L) (sym all.0)))),
      sym (ap not (has_both_signs-set (resolvent (positive x) c d) ∙ all.1)),
    )

pub merge-begin : (x : ℕ) (c d old out : Clause) → IsRising c → IsRising d → has c (positive x) ≡ true → has d (negative x) ≡ true → out ≡ old → IsMerging x c d old out 0 0
merge-begin x c d old out r s a b e = record { done = []; items = e ∙ sym (append-nil old); merged = begin x c d r s a b }
