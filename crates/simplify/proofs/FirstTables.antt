-- What is kept where there are no clauses yet.
use Rattle.std.proofs.Common.{◌≡◌, ℕ, zero, suc, ◌+◌, ◌-◌, ◌*◌, ◌≤◌, Bool, List, [], ◌∷◌, length, map, replicate, filter, Some, slice_index, refl, ap, sym, ◌∙◌, subst, arith, All}
use Rattle.std.proofs.lemmas.List.{length-map, length-replicate}
use Rattle.std.proofs.lemmas.List.Elements.{All-nil}
use Rattle.std.proofs.lemmas.Option.{slice_get_within}
use Rattle.theory.specs.Truth.{Formula}
use Rattle.simplify.specs.Tables.{is_live, list_at, Counted, none_counted, AreTables}
use Rattle.simplify.proofs.EntryLemmas.{at-from_entry}

empty-at : (N : List ℕ) (j : ℕ) → list_at (map (λ n. []) N) j ≡ []
empty-at [] j = refl
empty-at (n ∷ N) zero = refl
empty-at (n ∷ N) (suc j) = empty-at N j

zero-at : (n j : ℕ) → slice_index (replicate n 0) j ≡ 0
zero-at zero j = refl
zero-at (suc n) zero = refl
zero-at (suc n) (suc j) = zero-at n j

none : (V : ℕ) (N : List ℕ) → length N ≡ 2 * V + 2 → AreTables (record { vars = V; clauses = [] }) [] (map (λ n. []) N) (none_counted V)
none V N long = record {
  each = refl;
  lists_by_code = length-map N (λ (n : ℕ). []) ∙ long;
  counts_by_code = length-replicate (2 * V + 2) 0;
  units_by_variable = length-replicate (V + 1) 0;
  sets = λ n c at. absurd (let less = slice_get_within [] (n - 1) (Some c) (at-from_entry [] n c at) in omega arith);
  lists = record {
    live = λ j less. ap (filter (is_live [])) (empty-at N j);
    within = λ j. subst (All (λ k. (1 ≤ k) × (k ≤ 0))) (sym (empty-at N j)) (All-nil (λ k. (1 ≤ k) × (k ≤ 0)));
  };
  counts = record {
    literals = λ j less. zero-at (2 * V + 2) j;
    units = λ v less. zero-at (V + 1) v;
    empty = refl;
  };
}

pub tables-none : (F : Formula) (V : ℕ) (there : List Bool) (L : List (List ℕ)) (C : Counted) (N : List ℕ) → F ≡ record { vars = V; clauses = [] } → there ≡ [] → L ≡ map (λ n. []) N → length N ≡ 2 * V + 2 → C ≡ none_counted V
    → AreTables F there L C
tables-none F V there L C N formula live lists long counts =
    subst (λ (G : Formula). AreTables G there L C) (sym formula)
    (subst (λ (t : List Bool). AreTables (record { vars = V; clauses = [] }) t L C) (sym live)
    (subst (λ (l : List (List ℕ)). AreTables (record { vars = V; clauses = [] }) [] l C) (sym lists)
    (subst (λ (c : Counted). AreTables (record { vars = V; clauses = [] }) [] (map (λ n. []) N) c) (sym counts) (none V N long))))
