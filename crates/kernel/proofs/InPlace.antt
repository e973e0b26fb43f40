-- A list that is gone through where it stands, among the others.
use Rattle.std.proofs.Common.{◌≡◌, ℕ, ◌<◌, List, [], ◌++◌, length, set, map, ap, sym, subst, ◌∙◌}
use Rattle.std.proofs.lemmas.List.{map-set, set-set, set-get_or, get_or-set_same}
use Rattle.std.proofs.Math.ListN.{get_or-map}
use Rattle.theory.specs.Literals.{Literal}
use Rattle.kernel.specs.declared.propagator.Propagator.{Propagator}
use Rattle.kernel.specs.declared.watches.watch.Watch.{Watch}
use Rattle.kernel.specs.declared.units.unit_queue.Waiting.{Waiting}
use Rattle.cnf.specs.Lits.{code}
use Rattle.kernel.specs.EntryLists.{EntryList, entries_of, nth_list}
use Rattle.kernel.specs.Visiting.{kept_of, with_list}
use Rattle.kernel.specs.Placing.{clauses_of, kept_with}

pub list-now : (ls new : List EntryList) (at : ℕ) (l : EntryList) → at < length ls → new ≡ set ls at l → nth_list new at ≡ l
list-now ls new at l inside is = ap (λ ks. nth_list ks at) is ∙ get_or-set_same ls at l (record { from = 0; len = 0; room = [] }) inside

-- the list in which an entry was written
pub written : (ls new : List EntryList) (at n place : ℕ) (e x : Watch) → at ≡ n → n < length ls → new ≡ set ls at (record (nth_list ls at) { room = set (nth_list ls at).room place x }) → e ≡ x
    → nth_list new n ≡ record (nth_list ls n) { room = set (nth_list ls n).room place e }
written ls new at n place e x same inside is one =
    ap (nth_list new) (sym same)
    ∙ list-now ls new at (record (nth_list ls at) { room = set (nth_list ls at).room place x }) (subst (λ m. m < length ls) (sym same) inside) is
    ∙ (λ i. record (nth_list ls (same i)) { room = set (nth_list ls (same i)).room place (sym one i) })

-- another list in its place changes nothing beside it
beside : (ls new : List EntryList) (at n : ℕ) (l : EntryList) (ws : List Watch) → new ≡ set ls at l → at ≡ n → set (map entries_of new) n ws ≡ set (map entries_of ls) n ws
beside ls new at n l ws is same =
    (λ i. set (map entries_of (is i)) (sym same i) ws)
    ∙ ap (λ xs. set xs at ws) (map-set entries_of ls at l)
    ∙ set-set (map entries_of ls) at (entries_of l) ws
    ∙ ap (λ i. set (map entries_of ls) i ws) same

module _ (p q : Propagator) (g : Literal) (at : ℕ) (l : EntryList) (lists : q.lists ≡ set p.lists at l) (same : at ≡ code g) (kept : (q.clauses ≡ p.clauses) × (q.units ≡ p.units) × (q.conflict ≡ p.conflict)) where
  pub same-beside : (line : List Waiting) (ws : List Watch) → with_list (kept_with q line) g ws ≡ with_list (kept_with p line) g ws
  same-beside line ws = (λ i. record { pairs = (kept.0 i).pairs; lists = beside p.lists q.lists at (code g) l ws lists same i; units = clauses_of line ++ kept.1 i; least = kept.2 i })

  pub same-kept-beside : (ws : List Watch) → with_list (kept_of q) g ws ≡ with_list (kept_of p) g ws
  same-kept-beside ws = (λ i. record { pairs = (kept.0 i).pairs; lists = beside p.lists q.lists at (code g) l ws lists same i; units = kept.1 i; least = kept.2 i })

  new-lists : map entries_of q.lists ≡ set (map entries_of p.lists) (code g) (entries_of l)
  new-lists = ap (map entries_of) lists ∙ map-set entries_of p.lists at l ∙ ap (λ n. set (map entries_of p.lists) n (entries_of l)) same

  -- the list with fewer entries
  pub shorter : (line : List Waiting) → kept_with q line ≡ with_list (kept_with p line) g (entries_of l)
  shorter line = (λ i. record { pairs = (kept.0 i).pairs; lists = new-lists i; units = clauses_of line ++ kept.1 i; least = kept.2 i })

  pub shorter-kept : kept_of q ≡ with_list (kept_of p) g (entries_of l)
  shorter-kept = (λ i. record { pairs = (kept.0 i).pairs; lists = new-lists i; units = kept.1 i; least = kept.2 i })

-- the list itself in its place
itself : (ls : List EntryList) (n : ℕ) → set (map entries_of ls) n (entries_of (nth_list ls n)) ≡ map entries_of ls
itself ls n = ap (set (map entries_of ls) n) (sym (get_or-map entries_of ls n (record { from = 0; len = 0; room = [] }))) ∙ set-get_or (map entries_of ls) n []

pub as-it-stands : (p : Propagator) (line : List Waiting) (g : Literal) → with_list (kept_with p line) g (entries_of (nth_list p.lists (code g))) ≡ kept_with p line
as-it-stands p line g = (λ i. record { pairs = p.clauses.pairs; lists = itself p.lists (code g) i; units = clauses_of line ++ p.units; least = p.conflict })

pub as-kept : (p : Propagator) (g : Literal) → with_list (kept_of p) g (entries_of (nth_list p.lists (code g))) ≡ kept_of p
as-kept p g = (λ i. record { pairs = p.clauses.pairs; lists = itself p.lists (code g) i; units = p.units; least = p.conflict })
