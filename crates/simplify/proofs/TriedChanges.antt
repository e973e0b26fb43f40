-- What the changes of a try leave: entries, lines, and what is needed for a model.
use Rattle.std.proofs.Common.{◌≡◌, ℕ, ◌≤◌, Bool, true, false, not, List, [], ◌∷◌, ◌++◌, map, refl, ap, ap₂, sym, ◌∙◌, ◌⊎◌, inl, inr, Contains, All, if◌then◌else◌}
use Rattle.std.specs.List.{list_any, flat_map}
use Rattle.std.proofs.lemmas.List.{append_assoc}
use Rattle.theory.specs.Literals.{Literal, Clause, positive, negative, same, has, has_var, has_both_signs, without}
use Rattle.theory.specs.Truth.{is_true, is_true_clause}
use Rattle.theory.specs.Learning.{Line}
use Rattle.theory.specs.Simplifying.{Simplified, Change, adds, eliminates, changed, drops, changed_by, AreNumbered, resolvent, having, clauses_in, is_needed, extended, with_value}
use Rattle.theory.specs.Eliminating.{clause_there, holders, gone_with, resolvent_line, resolvent_lines, left_sides, right_sides, elimination, IsTidy}
use Rattle.theory.proofs.literals.Membership.{All-from, Contains-here, Contains-there, Contains-map, map-Contains, flat_map-Contains}
use Rattle.theory.proofs.literals.LiteralSets.{true_false, false_unless, has-append_cases, has-without, has-from_without}
use Rattle.theory.proofs.literals.LiteralLemmas.{same-eq, same-refl}
use Rattle.theory.proofs.simplifying.ListTests.{any-at, any-from, filter-has, has-filter_of}
use Rattle.theory.proofs.simplifying.Elimination.{entry-there}
use Rattle.theory.proofs.simplifying.Eliminations.{changed_by-append}
use Rattle.theory.proofs.simplifying.Simplifications.{clause_of-there}
use Rattle.theory.proofs.simplifying.NumberedClauses.{numbers_of-has, has-numbers_of, there-of, clause_there-is}
use Rattle.simplify.specs.Entries.{set, there, holding}
use Rattle.simplify.specs.Stored.{stored, with_clauses, without_entries}
use Rattle.simplify.specs.Tried.{lines_in, gone_in, entries_without, line_of_gone}
use Rattle.simplify.specs.Following.{lines_of, AreHinted}
use Rattle.simplify.proofs.LiteralSets.{HaveSame, has-set, set-set, has_both_signs-set, one_sign}
use Rattle.simplify.proofs.EntryNumbers.{both-ways, there-stored}
use Rattle.simplify.proofs.EntryChanges.{stored-lines, stored-eliminated}
use Rattle.simplify.proofs.EntryViews.{holding-stored, gone-stored}
use Rattle.simplify.proofs.SideViews.{lines-stored, right-has}

-- a resolvent's line: of which clauses
pub record IsResolvent (x : ℕ) (s : Simplified) (line : Line) : Type 0 where
  pub i : ℕ
  pub j : ℕ
  pub left : Contains (left_sides x s) i
  pub right : Contains (right_sides x s) j
  pub is : line ≡ resolvent_line x s i j
  pub one_sign : has_both_signs line.clause ≡ false

not-true : (b : Bool) → not b ≡ true → b ≡ false
not-true true h = absurd (cc)
not-true false h = refl

pub of-resolvents : (x : ℕ) (s : Simplified) (line : Line) → Contains (resolvent_lines x s) line → IsResolvent x s line
of-resolvents x s line c =
    let it = has-filter_of (λ (l : Line). not (has_both_signs l.clause)) (flat_map (λ i. map (resolvent_line x s i) (right_sides x s)) (left_sides x s)) line c in
    let one = flat_map-Contains (λ i. map (resolvent_line x s i) (right_sides x s)) (left_sides x s) line it.0 in
    let two = map-Contains (resolvent_line x s one.0) (right_sides x s) line one.2 in
    record { i = one.0; j = two.0; left = one.1; right = two.1; is = sym two.2; one_sign = not-true (has_both_signs line.clause) it.1 }

-- its clause is a set
pub resolvent-set : (x : ℕ) (s : Simplified) (line : Line) → Contains (resolvent_lines x s) line → set line.clause ≡ line.clause
resolvent-set x s line c =
    let it = of-resolvents x s line c in
    let r = resolvent (positive x) (clause_there s it.i) (clause_there s it.j) in
    let is_set : line.clause ≡ set r = ap (λ (l : Line). l.clause) it.is in
    ap set is_set ∙ (set-set r (sym (has_both_signs-set r) ∙ (ap has_both_signs (sym is_set) ∙ it.one_sign)) ∙ sym is_set)

gone-low : (x : ℕ) (s : Simplified) → All (λ n. 1 ≤ n) (gone_with x s)
gone-low x s = All-from (λ n. 1 ≤ n) (gone_with x s) (λ n c. (has-numbers_of (λ d. has_var d x) s n c).0)

-- the entries once x is eliminated
pub stored-elimination : (V x : ℕ) (s : Simplified) → IsTidy V s → stored (changed_by s (elimination x s)) ≡ entries_without x (stored s)
stored-elimination V x s tidy =
    ap stored (changed_by-append s (map adds (resolvent_lines x s)) (eliminates x (gone_with x s) ∷ []))
    ∙ (stored-eliminated (changed_by s (map adds (resolvent_lines x s))) x (gone_with x s) (gone-low x s)
    ∙ (ap (λ K. without_entries K (gone_with x s)) (stored-lines s (resolvent_lines x s) tidy.numbered (All-from (λ (l : Line). set l.clause ≡ l.clause) (resolvent_lines x s) (resolvent-set x s)))
    ∙ ap₂ (λ (ls : List Line) (ns : List ℕ). without_entries (with_clauses (stored s) ls) ns) (sym (lines-stored s x)) (sym (gone-stored s x))))

-- its lines
pub lines_of-append : (cs ds : List Change) → lines_of (cs ++ ds) ≡ lines_of cs ++ lines_of ds
lines_of-append [] ds = refl
lines_of-append (adds line ∷ cs) ds = ap (λ ls. line ∷ ls) (lines_of-append cs ds)
lines_of-append (drops ns ∷ cs) ds = ap (λ ls. line_of_gone ns ++ ls) (lines_of-append cs ds) ∙ sym (append_assoc (line_of_gone ns) (lines_of cs) (lines_of ds))
lines_of-append (eliminates x ns ∷ cs) ds = ap (λ ls. line_of_gone ns ++ ls) (lines_of-append cs ds) ∙ sym (append_assoc (line_of_gone ns) (lines_of cs) (lines_of ds))

append-none : {X : Type 0} (xs : List X) → xs ++ [] ≡ xs
append-none [] = refl
append-none (x ∷ xs) = ap (λ ys. x ∷ ys) (append-none xs)

lines_of-added : (ls : List Line) → lines_of (map adds ls) ≡ ls
lines_of-added [] = refl
lines_of-added (l ∷ ls) = ap (λ ks. l ∷ ks) (lines_of-added ls)

pub lines_of-elimination : (x : ℕ) (s : Simplified) → lines_of (elimination x s) ≡ lines_in x (stored s) ++ line_of_gone (gone_in x (stored s))
lines_of-elimination x s =
    lines_of-append (map adds (resolvent_lines x s)) (eliminates x (gone_with x s) ∷ [])
    ∙ (ap₂ (λ (a b : List Line). a ++ b) (lines_of-added (resolvent_lines x s)) (append-none (line_of_gone (gone_with x s)))
    ∙ ap₂ (λ (ls : List Line) (ns : List ℕ). ls ++ line_of_gone ns) (sym (lines-stored s x)) (sym (gone-stored s x)))

pub AreHinted-append : (cs ds : List Change) → AreHinted cs → AreHinted ds → AreHinted (cs ++ ds)
AreHinted-append [] ds h k = k
AreHinted-append (adds line ∷ cs) ds h k = (h.0, AreHinted-append cs ds h.1 k)
AreHinted-append (drops ns ∷ cs) ds h k = AreHinted-append cs ds h k
AreHinted-append (eliminates x ns ∷ cs) ds h k = AreHinted-append cs ds h k

hinted-added : (x : ℕ) (s : Simplified) (ls : List Line) → ((l : Line) → Contains ls l → IsResolvent x s l) → AreHinted (map adds ls)
hinted-added x s [] h = tt
hinted-added x s (l ∷ ls) h =
    let it = h l (Contains-here l ls) in
    ((it.i, it.j ∷ [], ap (λ (k : Line). k.hints) it.is), hinted-added x s ls (λ k c. h k (Contains-there l ls k c)))

pub hinted-elimination : (x : ℕ) (s : Simplified) → AreHinted (elimination x s)
hinted-elimination x s = AreHinted-append (map adds (resolvent_lines x s)) (eliminates x (gone_with x s) ∷ []) (hinted-added x s (resolvent_lines x s) (of-resolvents x s)) tt

-- a clause is true without a literal, whether it is kept as it is or as a set
pub list_any-same : (p : Literal → Bool) (c d : Clause) → HaveSame c d → list_any p c ≡ list_any p d
list_any-same p c d h = both-ways (list_any p c) (list_any p d) (more c d (λ l a. sym (h l) ∙ a)) (more d c (λ l a. h l ∙ a))
  where
    more : (a b : Clause) → ((l : Literal) → has a l ≡ true → has b l ≡ true) → list_any p a ≡ true → list_any p b ≡ true
    more a b w t =
        let one = any-at p a t in
        let there_it = w one.0 (any-from (same one.0) a one.0 one.1 (same-refl one.0)) in
        let two = any-at (same one.0) b there_it in
        any-from p b two.0 two.1 (ap p (sym (same-eq one.0 two.0 two.2)) ∙ one.2)

without-same : (c d : Clause) (l : Literal) → HaveSame c d → HaveSame (without c l) (without d l)
without-same c d l h k = both-ways (has (without c l) k) (has (without d l) k) (more c d (λ j a. sym (h j) ∙ a)) (more d c (λ j a. h j ∙ a))
  where
    more : (a b : Clause) → ((j : Literal) → has a j ≡ true → has b j ≡ true) → has (without a l) k ≡ true → has (without b l) k ≡ true
    more a b w t = let it = has-from_without a l k t in has-without b l k (w k it.0) it.1

pub true-without : (m : ℕ → Bool) (c : Clause) (l : Literal) → is_true_clause m (without (set c) l) ≡ is_true_clause m (without c l)
true-without m c l = list_any-same (is_true m) (without (set c) l) (without c l) (without-same (set c) c l (has-set c))

-- of the clauses that come with x's elimination none has x
resolvent-lacks : (V x : ℕ) (s : Simplified) (line : Line) → IsTidy V s → Contains (resolvent_lines x s) line → has line.clause (positive x) ≡ false
resolvent-lacks V x s line tidy c =
    let it = of-resolvents x s line c in
    let r = resolvent (positive x) (clause_there s it.i) (clause_there s it.j) in
    let is_set : line.clause ≡ set r = ap (λ (l : Line). l.clause) it.is in
    ap (λ (d : Clause). has d (positive x)) is_set ∙ (has-set r (positive x) ∙ false_unless (has r (positive x)) (λ t. go it.i it.j it.right (has-append_cases (without (clause_there s it.i) (positive x)) (without (clause_there s it.j) (negative x)) (positive x) t)))
  where
    no_sign : (j : ℕ) → Contains (right_sides x s) j → has (clause_there s j) (positive x) ≡ true → ⊥
    no_sign j w t =
        let holds = right-has s x j w in
        let is_there = there-of (λ d. has d (negative x)) s j refl holds in
        true_false (has (clause_there s j) (positive x)) t (one_sign_of (clause_there s j) (tidy.one_sign (j, clause_there s j) (clause_of-there s.clauses j (clause_there s j) is_there)) holds)
      where
        one_sign_of : (d : Clause) → has_both_signs d ≡ false → has d (negative x) ≡ true → has d (positive x) ≡ false
        one_sign_of d e h = one_sign d (negative x) e h

    go : (i j : ℕ) → Contains (right_sides x s) j → (has (without (clause_there s i) (positive x)) (positive x) ≡ true) ⊎ (has (without (clause_there s j) (negative x)) (positive x) ≡ true) → ⊥
    go i j w (inl a) = true_false (same (positive x) (positive x)) (same-refl (positive x)) (has-from_without (clause_there s i) (positive x) (positive x) a).1
    go i j w (inr b) = no_sign j w (has-from_without (clause_there s j) (negative x) (positive x) b).0

-- so these clauses have it that had it before
having-added : (l : Literal) (s : Simplified) (ls : List Line) → ((k : Line) → Contains ls k → has k.clause l ≡ false) → having l (changed_by s (map adds ls)).clauses ≡ having l s.clauses
having-added l s [] h = refl
having-added l s (k ∷ ls) h =
    having-added l (changed s (adds k)) ls (λ j c. h j (Contains-there k ls j c))
    ∙ ap (λ b. if b then k.clause ∷ having l s.clauses else having l s.clauses) (h k (Contains-here k ls))

-- whether x is needed, by the clauses as they are kept
needed-stored : (m : ℕ → Bool) (x : ℕ) (s : Simplified) → AreNumbered s.last s.clauses
    → is_needed m (record { var = x; clauses = map (there (stored s)) (holders (positive x) s) }) ≡ is_needed m (record { var = x; clauses = having (positive x) s.clauses })
needed-stored m x s numbered = both-ways (list_any test (map (there (stored s)) (holders (positive x) s))) (list_any test (having (positive x) s.clauses)) to from
  where
    test : Clause → Bool
    test c = not (is_true_clause m (without c (positive x)))

    same_test : (n : ℕ) → 1 ≤ n → n ≤ s.last → test (there (stored s) n) ≡ test (clause_there s n)
    same_test n low high = ap test (there-stored s n low high) ∙ ap not (true-without m (clause_there s n) (positive x))

    to : list_any test (map (there (stored s)) (holders (positive x) s)) ≡ true → list_any test (having (positive x) s.clauses) ≡ true
    to t =
        let one = any-at test (map (there (stored s)) (holders (positive x) s)) t in
        let n = map-Contains (there (stored s)) (holders (positive x) s) one.0 one.1 in
        let it = has-numbers_of (λ c. has c (positive x)) s n.0 n.1 in
        let is_there = there-of (λ c. has c (positive x)) s n.0 refl it.2 in
        any-from test (having (positive x) s.clauses) (clause_there s n.0)
        (filter-has (λ c. has c (positive x)) (clauses_in s.clauses) (clause_there s n.0) (entry-there s.clauses (n.0, clause_there s n.0) (clause_of-there s.clauses n.0 (clause_there s n.0) is_there)) it.2)
        (sym (same_test n.0 it.0 it.1) ∙ (ap test n.2 ∙ one.2))

    from : list_any test (having (positive x) s.clauses) ≡ true → list_any test (map (there (stored s)) (holders (positive x) s)) ≡ true
    from t =
        let one = any-at test (having (positive x) s.clauses) t in
        let has_it = has-filter_of (λ c. has c (positive x)) (clauses_in s.clauses) one.0 one.1 in
        let e = map-Contains (λ (e : ℕ × Clause). e.1) s.clauses one.0 has_it.0 in
        let is = numbered.alone e.0 e.1 in
        let w = numbered.within e.0.0 e.0.1 is in
        let stands : clause_there s e.0.0 ≡ one.0 = clause_there-is s e.0.0 e.0.1 is ∙ e.2 in
        any-from test (map (there (stored s)) (holders (positive x) s)) (there (stored s) e.0.0)
        (Contains-map (there (stored s)) (holders (positive x) s) e.0.0 (numbers_of-has (λ c. has c (positive x)) s e.0.0 w.0 w.1 (ap (λ c. has c (positive x)) stands ∙ has_it.1)))
        (same_test e.0.0 w.0 w.1 ∙ (ap test stands ∙ one.2))

pub needed-elimination : (V x : ℕ) (s : Simplified) (m : ℕ → Bool) → IsTidy V s
    → extended m (record { var = x; clauses = map (there (stored s)) (holding (positive x) (stored s)) } ∷ [])
    ≡ extended m (record { var = x; clauses = having (positive x) (changed_by s (map adds (resolvent_lines x s))).clauses } ∷ [])
needed-elimination V x s m tidy = ap (with_value m x)
    (ap (λ ns. is_needed m (record { var = x; clauses = map (there (stored s)) ns })) (holding-stored s (positive x))
    ∙ (needed-stored m x s tidy.numbered
    ∙ ap (λ cs. is_needed m (record { var = x; clauses = cs })) (sym (having-added (positive x) s (resolvent_lines x s) (λ l c. resolvent-lacks V x s l tidy c)))))
