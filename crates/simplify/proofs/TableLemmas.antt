-- What is kept beside the clauses: what it says of them, and what becomes of it where a clause comes
-- or goes.
use Rattle.std.proofs.Common.{◌≡◌, ℕ, ◌+◌, ◌-◌, ◌*◌, ◌<◌, ◌≤◌, Bool, true, false, cond, nat_lt, List, [], ◌∷◌, ◌++◌, length, Some, None, slice_index, slice_set, refl, ap, sym, ◌∙◌, subst, arith, All, get_or, slice_get, filter}
use Rattle.std.proofs.lemmas.List.{get_or_default, length_push, length-set}
use Rattle.cnf.specs.Lits.{code}
use Rattle.theory.specs.Literals.{Literal, Clause, IsVariable, has}
use Rattle.theory.specs.Truth.{Formula, IsOver}
use Rattle.theory.specs.Checking.{is_empty}
use Rattle.simplify.specs.Entries.{Entries, is_unit_of, IsSet, IsThere, AreSets, holding, has_unit_in, has_empty_in}
use Rattle.simplify.specs.Tables.{entries_of, has_code, is_live, list_at, Counted, IsOneMore, IsCounted, AreCounts, AreLists, AreListed, AreTables}
use Rattle.simplify.proofs.CountedClauses.{has_code-has}
use Rattle.simplify.proofs.CountLemmas.{counts-come, counts-absent, counts-gone, is-counted}
use Rattle.simplify.proofs.EntryLemmas.{at-from_entry, entry-is, length-entries, entries-push, entries-gone, AreSets-come, AreSets-absent, AreSets-gone, length-numbers_in, numbers_in-same, passing-any}
use Rattle.simplify.proofs.ListedClauses.{lists-come, lists-absent, lists-gone, lists-cleaned}
use Rattle.simplify.proofs.LiteralSets.{IsSet-rising}

code-below : (V : ℕ) (l : Literal) → l.var ≤ V → code l < 2 * V + 2
code-below V l most = go l.positive
  where
    go : (b : Bool) → 2 * l.var + cond b 1 0 < 2 * V + 2
    go true = omega arith
    go false = omega arith

pub over-by_code : (V n : ℕ) (c : Clause) → n ≡ 2 * V + 2 → IsOver V c → All (λ l. code l < n) c
over-by_code V n c long over = λ k d less. (let below = code-below V (get_or c k d) (over k d less).1 in omega arith)

pub over-by_variable : (V n : ℕ) (c : Clause) → n ≡ V + 1 → IsOver V c → All (λ l. l.var < n) c
over-by_variable V n c long over = λ k d less. (let most = (over k d less).1 in omega arith)

module _ (F : Formula) (there : List Bool) (L : List (List ℕ)) (C : Counted) (h : AreTables F there L C) where
  pub tables-code : (l : Literal) → IsVariable F.vars l.var → code l < length C.literals
  tables-code l v = let below = code-below F.vars l v.1 in let long = h.counts_by_code in omega arith

  pub tables-count : (l : Literal) → IsVariable F.vars l.var → slice_index C.literals (code l) ≡ length (holding l (entries_of there F.clauses))
  tables-count l v =
      h.counts.literals (code l) (tables-code l v)
      ∙ (sym (length-numbers_in (has_code (code l)) 1 (entries_of there F.clauses)) ∙ ap length (numbers_in-same (has_code (code l)) (λ c. has c l) 1 (entries_of there F.clauses) (λ c. has_code-has c l)))

  pub tables-unit : (v : ℕ) → IsVariable F.vars v → nat_lt 0 (slice_index C.units v) ≡ has_unit_in v (entries_of there F.clauses)
  tables-unit v h' =
      let most = h'.1 in
      let long = h.units_by_variable in
      ap (nat_lt 0) (h.counts.units v (omega arith)) ∙ passing-any (is_unit_of v) (entries_of there F.clauses)

  pub tables-empty : nat_lt 0 C.empty ≡ has_empty_in (entries_of there F.clauses)
  tables-empty = ap (nat_lt 0) h.counts.empty ∙ passing-any is_empty (entries_of there F.clauses)

  each-entry : length (entries_of there F.clauses) ≡ length there
  each-entry = length-entries there F.clauses h.each

  -- a clause that comes
  pub tables-come : (c : Clause) (n : ℕ) (M : List (List ℕ)) (D : Counted) → IsSet F.vars c → n ≡ length there + 1 → AreListed L c n M → IsOneMore C c D
      → AreTables (record F { clauses = F.clauses ++ c ∷ [] }) (there ++ true ∷ []) M D
  tables-come c n M D set last m more =
      let K = entries_of there F.clauses in
      let are : entries_of (there ++ true ∷ []) (F.clauses ++ c ∷ []) ≡ K ++ Some c ∷ [] = entries-push there F.clauses true c h.each in
      record {
        each = length_push there true ∙ (ap (λ k. k + 1) h.each ∙ sym (length_push F.clauses c));
        lists_by_code = m.0 ∙ h.lists_by_code;
        counts_by_code = more.by_code ∙ h.counts_by_code;
        units_by_variable = more.by_variable ∙ h.units_by_variable;
        sets = subst (AreSets F.vars) (sym are) (AreSets-come F.vars K c h.sets set);
        lists = subst (λ (k : Entries). AreLists (there ++ true ∷ []) k M) (sym are) (lists-come there K L M c n h.lists last m each-entry (IsSet-rising F.vars c set));
        counts = subst (λ (k : Entries). AreCounts k D) (sym are) (counts-come K C D c h.counts more);
      }

  -- a number of a clause that isn't there
  pub tables-absent : (c d : Clause) (n : ℕ) (M : List (List ℕ)) → n ≡ length there + 1 → AreListed L d n M
      → AreTables (record F { clauses = F.clauses ++ c ∷ [] }) (there ++ false ∷ []) M C
  tables-absent c d n M last m =
      let K = entries_of there F.clauses in
      let are : entries_of (there ++ false ∷ []) (F.clauses ++ c ∷ []) ≡ K ++ None ∷ [] = entries-push there F.clauses false c h.each in
      record {
        each = length_push there false ∙ (ap (λ k. k + 1) h.each ∙ sym (length_push F.clauses c));
        lists_by_code = m.0 ∙ h.lists_by_code;
        counts_by_code = h.counts_by_code;
        units_by_variable = h.units_by_variable;
        sets = subst (AreSets F.vars) (sym are) (AreSets-absent F.vars K h.sets);
        lists = subst (λ (k : Entries). AreLists (there ++ false ∷ []) k M) (sym are) (lists-absent there K L M d n h.lists last m);
        counts = subst (λ (k : Entries). AreCounts k C) (sym are) (counts-absent K C h.counts);
      }

  -- a clause that goes
  pub tables-gone : (n : ℕ) (c : Clause) (D : Counted) → n < length there → slice_get (entries_of there F.clauses) n ≡ Some (Some c) → IsOneMore D c C
      → AreTables F (slice_set there n false) L D
  tables-gone n c D less at more =
      let K = entries_of there F.clauses in
      let are : entries_of (slice_set there n false) F.clauses ≡ slice_set K n None = entries-gone there F.clauses n less h.each in
      record {
        each = length-set there n false ∙ h.each;
        lists_by_code = h.lists_by_code;
        counts_by_code = sym more.by_code ∙ h.counts_by_code;
        units_by_variable = sym more.by_variable ∙ h.units_by_variable;
        sets = subst (AreSets F.vars) (sym are) (AreSets-gone F.vars K n h.sets);
        lists = subst (λ (k : Entries). AreLists (slice_set there n false) k L) (sym are) (lists-gone there K L n h.lists less each-entry);
        counts = subst (λ (k : Entries). AreCounts k D) (sym are) (counts-gone K C D n c h.counts at more);
      }

  -- a list that loses the numbers of clauses that are gone
  pub tables-cleaned : (i : ℕ) (ns : List ℕ) → i < length L → ns ≡ filter (is_live there) (list_at L i) → AreTables F there (slice_set L i ns) C
  tables-cleaned i ns less is = record {
    each = h.each;
    lists_by_code = length-set L i ns ∙ h.lists_by_code;
    counts_by_code = h.counts_by_code;
    units_by_variable = h.units_by_variable;
    sets = h.sets;
    lists = lists-cleaned there (entries_of there F.clauses) L i ns h.lists less is;
    counts = h.counts;
  }

  -- the numbers of the clauses that hold a literal
  pub tables-holders : (l : Literal) → IsVariable F.vars l.var → filter (is_live there) (list_at L (code l)) ≡ holding l (entries_of there F.clauses)
  tables-holders l v =
      let below = code-below F.vars l v.1 in
      let long = h.lists_by_code in
      h.lists.live (code l) (omega arith) ∙ numbers_in-same (has_code (code l)) (λ c. has c l) 1 (entries_of there F.clauses) (λ c. has_code-has c l)

  -- what is read and written at a literal's list
  pub tables-list : (l : Literal) (i : ℕ) → IsVariable F.vars l.var → i ≡ code l → i < length L
  tables-list l i v is = let below = code-below F.vars l v.1 in let long = h.lists_by_code in omega arith

  pub cleaned-list : (t : List Bool) (l : Literal) (i : ℕ) (ms ns : List ℕ) → IsVariable F.vars l.var → i ≡ code l → t ≡ there → ms ≡ get_or L i ms → ns ≡ filter (is_live t) ms → ns ≡ filter (is_live there) (list_at L i)
  cleaned-list t l i ms ns v is same read kept =
      kept ∙ (λ j. filter (is_live (same j)) ((read ∙ get_or_default L i ms [] (tables-list l i v is)) j))

  pub cleaned-holders : (t : List Bool) (l : Literal) (i : ℕ) (ms ns : List ℕ) → IsVariable F.vars l.var → i ≡ code l → t ≡ there → ms ≡ get_or L i ms → ns ≡ filter (is_live t) ms → ns ≡ holding l (entries_of there F.clauses)
  cleaned-holders t l i ms ns v is same read kept =
      cleaned-list t l i ms ns v is same read kept ∙ (ap (λ k. filter (is_live there) (list_at L k)) is ∙ tables-holders l v)

  -- a clause that is there
  pub there-within : (n : ℕ) → IsThere (entries_of there F.clauses) n → n - 1 < length there
  there-within n at = let some = at.0 in let last : n ≤ length there = subst (λ m. n ≤ m) each-entry at.1 in omega arith

  module _ (n : ℕ) (c : Clause) (at : IsThere (entries_of there F.clauses) n) (read : slice_get F.clauses (n - 1) ≡ Some c) where
    pub there-set : IsSet F.vars c
    there-set = h.sets n c (entry-is there F.clauses n c h.each at read)

    pub there-at : slice_get (entries_of there F.clauses) (n - 1) ≡ Some (Some c)
    there-at = at-from_entry (entries_of there F.clauses) n c (entry-is there F.clauses n c h.each at read)

    pub there-counted : IsCounted C c
    there-counted =
        is-counted (entries_of there F.clauses) C (n - 1) c h.counts there-at (over-by_code F.vars (length C.literals) c h.counts_by_code there-set.over) (over-by_variable F.vars (length C.units) c h.units_by_variable there-set.over)

pub tables-same : (F G : Formula) (there those : List Bool) (L : List (List ℕ)) (C : Counted) → AreTables F there L C → G ≡ F → those ≡ there → AreTables G those L C
tables-same F G there those L C h formula live = subst (λ (H : Formula). AreTables H those L C) (sym formula) (subst (λ (t : List Bool). AreTables F t L C) (sym live) h)

-- the lists as the code has them
pub listed-same : (L M N O : List (List ℕ)) (c : Clause) (n : ℕ) → AreListed L c n M → L ≡ N → O ≡ M → AreListed N c n O
listed-same L M N O c n h before after = subst (λ (l : List (List ℕ)). AreListed l c n O) before (subst (λ (l : List (List ℕ)). AreListed L c n l) (sym after) h)

set-last : (there : List Bool) (a b : Bool) → slice_set (there ++ a ∷ []) (length there) b ≡ there ++ b ∷ []
set-last [] a b = refl
set-last (x ∷ there) a b = ap (λ (t : List Bool). x ∷ t) (set-last there a b)

-- the last clause comes to be there
pub live-last : (there those : List Bool) (n : ℕ) → those ≡ there ++ false ∷ [] → n ≡ length there + 1 → slice_set those (n - 1) true ≡ there ++ true ∷ []
live-last there those n is last =
    (λ i. slice_set (is i) ((let at : n - 1 ≡ length there = omega arith in at) i) true) ∙ set-last there false true

-- its number
pub number-last : (F G : Formula) (there : List Bool) (c : Clause) (n : ℕ) → length there ≡ length F.clauses → n ≡ length G.clauses → G ≡ record F { clauses = F.clauses ++ c ∷ [] } → n ≡ length there + 1
number-last F G there c n each count is =
    count ∙ (ap (λ (H : Formula). length H.clauses) is ∙ (length_push F.clauses c ∙ ap (λ k. k + 1) (sym each)))
