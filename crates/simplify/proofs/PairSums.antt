-- The lines of pairs of clauses, one after the other, and how many literals the pairs have.
use Rattle.std.proofs.Common.{◌≡◌, ℕ, ◌+◌, ◌*◌, ◌<◌, ◌≤◌, ◌^◌, Bool, true, false, not, cond, List, [], ◌∷◌, ◌++◌, length, filter, map, flat_map, sum_by, All, Option, Some, None, is_some, unwrap_or, append_assoc, append-nil, refl, ap, ap₂, sym, subst, ◌∙◌, get_or, drop, arith}
use Rattle.std.proofs.lemmas.List.{at_drop_more, get_or_default, drop_all}
use Rattle.std.proofs.lemmas.List.Sums.{sum_by-cons, sum_by-le}
use Rattle.std.proofs.lemmas.List.Elements.{All-head, All-tail, All-nil, All-cons, All-weaker, All-append}
use Rattle.theory.specs.Literals.{Literal, Clause, positive, has, has_both_signs}
use Rattle.theory.specs.Learning.{Line, IsRising}
use Rattle.theory.specs.Simplifying.{resolvent}
use Rattle.theory.proofs.literals.OverVariables.{AreOver-from_IsOver}
use Rattle.theory.proofs.literals.LiteralSets.{has-head, has-tail}
use Rattle.simplify.specs.Entries.{Entries, entry_at, there, set, IsThere, IsSet, AreSets}
use Rattle.simplify.specs.Resolving.{line_of, lines_of_pairs, literals_of_pairs}
use Rattle.simplify.proofs.LiteralSets.{IsSet-rising, IsSet-resolvent}

-- a line without both signs of a variable
abbrev pub has_one_sign : Line → Bool
has_one_sign line = not (has_both_signs line.clause)

pub at_place : {X : Type 0} (xs : List X) (i : ℕ) (x : X) → i < length xs → x ≡ get_or xs i x → drop i xs ≡ x ∷ drop (i + 1) xs
at_place xs i x within is = at_drop_more (λ L. L) xs i x within ∙ ap (λ y. y ∷ drop (i + 1) xs) (sym is)

filter-first : (l : Line) (ls : List Line) → filter has_one_sign (l ∷ ls) ≡ filter has_one_sign (l ∷ []) ++ filter has_one_sign ls
filter-first l ls = go (has_one_sign l)
  where
    go : (b : Bool) → cond b (l ∷ filter has_one_sign ls) (filter has_one_sign ls) ≡ cond b (l ∷ []) [] ++ filter has_one_sign ls
    go true = refl
    go false = refl

filter-append : (ls ms : List Line) → filter has_one_sign (ls ++ ms) ≡ filter has_one_sign ls ++ filter has_one_sign ms
filter-append [] ms = refl
filter-append (l ∷ ls) ms = go (has_one_sign l) (filter-append ls ms)
  where
    go : (b : Bool) → filter has_one_sign (ls ++ ms) ≡ filter has_one_sign ls ++ filter has_one_sign ms
        → cond b (l ∷ filter has_one_sign (ls ++ ms)) (filter has_one_sign (ls ++ ms)) ≡ cond b (l ∷ filter has_one_sign ls) (filter has_one_sign ls) ++ filter has_one_sign ms
    go true e = ap (λ xs. l ∷ xs) e
    go false e = e

-- how many literals a pair has, and the pairs of one clause
abbrev pub pair_size : Entries → ℕ → ℕ → ℕ
pair_size K i j = length (there K i) + length (there K j)

-- a clause that is there
pub there-is : (K : Entries) (n : ℕ) (c : Clause) → entry_at K n ≡ Some c → there K n ≡ c
there-is K n c h = ap (λ o. unwrap_or o []) h

pub IsSet-there : (V : ℕ) (K : Entries) (n : ℕ) → AreSets V K → IsThere K n → IsSet V (there K n)
IsSet-there V K n sets h = go (entry_at K n) refl h.2
  where
    go : (o : Option Clause) → entry_at K n ≡ o → is_some o ≡ true → IsSet V (unwrap_or o [])
    go None e t = absurd (cc)
    go (Some c) e t = sets n c e

-- a set over the variables 1 to V has at most V literals
rising-short : (V least : ℕ) (c : Clause) → IsRising c → ((l : Literal) → has c l ≡ true → (least ≤ l.var) × (l.var ≤ V)) → least ≤ V + 1 → length c + least ≤ V + 1
rising-short V least [] r h e = omega arith
rising-short V least (l ∷ c) r h e =
    let here = h l (has-head l c) in
    let more = rising-short V (l.var + 1) c r.1 (λ k a. (let up = r.0 k a in omega arith, (h k (has-tail l k c a)).1)) (omega arith) in
    omega arith

pub IsSet-short : (V : ℕ) (c : Clause) → IsSet V c → length c ≤ V
IsSet-short V c s =
    let over = AreOver-from_IsOver V c s.over in
    let short = rising-short V 1 c (IsSet-rising V c s) (λ l a. over l a) (omega arith) in
    omega arith

-- one pair more of a row
pub row-lines : (x : ℕ) (K : Entries) (i : ℕ) (js : List ℕ) (k j : ℕ) (left right : Clause) (before after all : List Line) → k < length js → j ≡ get_or js k j → entry_at K i ≡ Some left → entry_at K j ≡ Some right
    → before ++ filter has_one_sign (map (line_of x K i) (drop k js)) ≡ all
    → after ≡ before ++ filter has_one_sign (record { clause = set (resolvent (positive x) left right); hints = i ∷ j ∷ []; forgets = [] } ∷ [])
    → after ++ filter has_one_sign (map (line_of x K i) (drop (k + 1) js)) ≡ all
row-lines x K i js k j left right before after all within is il ir h e =
    ap (λ ls. ls ++ rest) (e ∙ ap (λ ls. before ++ filter has_one_sign (ls ∷ [])) one)
    ∙ (append_assoc before (filter has_one_sign (line_of x K i j ∷ [])) rest
    ∙ (ap (λ ls. before ++ ls) (sym (filter-first (line_of x K i j) (map (line_of x K i) (drop (k + 1) js))))
    ∙ (ap (λ ns. before ++ filter has_one_sign (map (line_of x K i) ns)) (sym (at_place js k j within is)) ∙ h)))
  where
    rest : List Line
    rest = filter has_one_sign (map (line_of x K i) (drop (k + 1) js))

    one : record { clause = set (resolvent (positive x) left right); hints = i ∷ j ∷ []; forgets = [] } ≡ line_of x K i j
    one = ap₂ (λ (a b : Clause). let line : Line = record { clause = set (resolvent (positive x) a b); hints = i ∷ j ∷ []; forgets = [] } in line) (sym (there-is K i left il)) (sym (there-is K j right ir))

pub row-sum : (K : Entries) (i : ℕ) (js : List ℕ) (k j : ℕ) → k < length js → j ≡ get_or js k j → sum_by (pair_size K i) (drop k js) ≡ pair_size K i j + sum_by (pair_size K i) (drop (k + 1) js)
row-sum K i js k j within is = ap (sum_by (pair_size K i)) (at_place js k j within is) ∙ sum_by-cons (pair_size K i) j (drop (k + 1) js)

-- the pairs of one clause more
pub pairs-lines : (x : ℕ) (K : Entries) (is js : List ℕ) (k i : ℕ) (before after all : List Line) → k < length is → i ≡ get_or is k i → before ++ lines_of_pairs x K (drop k is) js ≡ all
    → after ≡ before ++ filter has_one_sign (map (line_of x K i) js) → after ++ lines_of_pairs x K (drop (k + 1) is) js ≡ all
pairs-lines x K is js k i before after all within at h e =
    ap (λ ls. ls ++ lines_of_pairs x K (drop (k + 1) is) js) e
    ∙ (append_assoc before (filter has_one_sign (map (line_of x K i) js)) (lines_of_pairs x K (drop (k + 1) is) js)
    ∙ (ap (λ ls. before ++ ls) (sym (filter-append (map (line_of x K i) js) (flat_map (λ n. map (line_of x K n) js) (drop (k + 1) is))))
    ∙ (ap (λ ns. before ++ lines_of_pairs x K ns js) (sym (at_place is k i within at)) ∙ h)))

pub pairs-sum : (K : Entries) (is js : List ℕ) (k i : ℕ) → k < length is → i ≡ get_or is k i → literals_of_pairs K (drop k is) js ≡ sum_by (pair_size K i) js + literals_of_pairs K (drop (k + 1) is) js
pairs-sum K is js k i within at = ap (λ ns. literals_of_pairs K ns js) (at_place is k i within at) ∙ sum_by-cons (λ n. sum_by (pair_size K n) js) i (drop (k + 1) is)

-- clauses that are there
abbrev pub AreThere : Entries → List ℕ → Type 0
AreThere K ns = All (IsThere K) ns

-- how many literals the pairs have at most
row-small : (V : ℕ) (K : Entries) (i : ℕ) (js : List ℕ) → V ≤ 100000000 → AreSets V K → IsThere K i → AreThere K js → sum_by (pair_size K i) js ≤ length js * 200000000
row-small V K i js few sets t ts = sum_by-le (pair_size K i) 200000000 js (All-weaker (IsThere K) (λ j. pair_size K i j ≤ 200000000) (λ j u.
    (let one = IsSet-short V (there K i) (IsSet-there V K i sets t) in let two = IsSet-short V (there K j) (IsSet-there V K j sets u) in omega arith)) js ts)

pub pairs-small : (V : ℕ) (K : Entries) (is js : List ℕ) → V ≤ 100000000 → AreSets V K → AreThere K is → AreThere K js → length is * length js ≤ 2 ^ 32 → literals_of_pairs K is js ≤ 2 ^ 62
pairs-small V K is js few sets ts us most =
    let all = sum_by-le (λ i. sum_by (pair_size K i) js) (length js * 200000000) is (All-weaker (IsThere K) (λ i. sum_by (pair_size K i) js ≤ length js * 200000000) (λ i t. row-small V K i js few sets t us) is ts) in
    omega arith

-- the clauses are sets
pub pairs-sets : (V x : ℕ) (K : Entries) (is js : List ℕ) → AreSets V K → AreThere K is → AreThere K js → All (λ (l : Line). IsSet V l.clause) (lines_of_pairs x K is js)
pairs-sets V x K [] js sets ts us = All-nil (λ (l : Line). IsSet V l.clause)
pairs-sets V x K (i ∷ is) js sets ts us =
    subst (All (λ (l : Line). IsSet V l.clause)) (sym (filter-append (map (line_of x K i) js) (flat_map (λ n. map (line_of x K n) js) is)))
    (All-append (λ (l : Line). IsSet V l.clause) (filter has_one_sign (map (line_of x K i) js)) (lines_of_pairs x K is js) (row js us) (pairs-sets V x K is js sets (All-tail (IsThere K) i is ts) us))
  where
    row : (ns : List ℕ) → AreThere K ns → All (λ (l : Line). IsSet V l.clause) (filter has_one_sign (map (line_of x K i) ns))
    row [] vs = All-nil (λ (l : Line). IsSet V l.clause)
    row (j ∷ ns) vs = go (has_both_signs (line_of x K i j).clause) refl (row ns (All-tail (IsThere K) j ns vs))
      where
        go : (b : Bool) → has_both_signs (line_of x K i j).clause ≡ b → All (λ (l : Line). IsSet V l.clause) (filter has_one_sign (map (line_of x K i) ns))
            → All (λ (l : Line). IsSet V l.clause) (cond (not b) (line_of x K i j ∷ filter has_one_sign (map (line_of x K i) ns)) (filter has_one_sign (map (line_of x K i) ns)))
        go true e rest = rest
        go false e rest = All-cons (λ (l : Line). IsSet V l.clause) (line_of x K i j) (filter has_one_sign (map (line_of x K i) ns))
            (IsSet-resolvent V (positive x) (there K i) (there K j) (IsSet-there V K i sets (All-head (IsThere K) i is ts)).over (IsSet-there V K j sets (All-head (IsThere K) j ns vs)).over e) rest

-- the same of the number at a place
pub place-sum : (K : Entries) (is js : List ℕ) (k : ℕ) → k < length is → literals_of_pairs K (drop k is) js ≡ sum_by (pair_size K (get_or is k 0)) js + literals_of_pairs K (drop (k + 1) is) js
place-sum K is js k within = pairs-sum K is js k (get_or is k 0) within (get_or_default is k 0 (get_or is k 0) within)

pub place-lines : (x : ℕ) (K : Entries) (is js : List ℕ) (k : ℕ) (before after all : List Line) → k < length is → before ++ lines_of_pairs x K (drop k is) js ≡ all
    → after ≡ before ++ filter has_one_sign (map (line_of x K (get_or is k 0)) js) → after ++ lines_of_pairs x K (drop (k + 1) is) js ≡ all
place-lines x K is js k before after all within h e = pairs-lines x K is js k (get_or is k 0) before after all within (get_or_default is k 0 (get_or is k 0) within) h e

-- a row's work fits, where all work does
pub row-fits : (K : Entries) (is js : List ℕ) (k work : ℕ) → k < length is → work + literals_of_pairs K (drop k is) js ≡ literals_of_pairs K is js → literals_of_pairs K is js ≤ 2 ^ 62 → work + sum_by (pair_size K (get_or is k 0)) js ≤ 2 ^ 62
row-fits K is js k work within h small = let more = place-sum K is js k within in omega arith

-- clauses that are there, and have a literal
pub there-only : (K : Entries) (l : Literal) (ns : List ℕ) → All (λ n. IsThere K n × (has (there K n) l ≡ true)) ns → AreThere K ns
there-only K l ns h = All-weaker (λ n. IsThere K n × (has (there K n) l ≡ true)) (IsThere K) (λ n t. t.0) ns h

-- none is left
pub lines-done : (x : ℕ) (K : Entries) (is js : List ℕ) (k : ℕ) (before all : List Line) → length is ≤ k → before ++ lines_of_pairs x K (drop k is) js ≡ all → before ≡ all
lines-done x K is js k before all past h = sym (ap (λ ns. before ++ lines_of_pairs x K ns js) (drop_all k is past) ∙ append-nil before) ∙ h
