-- What the changes do to the entries.
use Rattle.std.proofs.Common.{◌≡◌, ℕ, zero, suc, ◌+◌, ◌-◌, ◌≤◌, false, ◌||◌, nat_eq, eqb-true, eq-eqb, List, [], ◌∷◌, ◌++◌, map, refl, ap, sym, ◌∙◌, Option, Some, None, Contains, All, slice_set, arith, if◌then◌else◌}
use Rattle.std.specs.Option.{option_map}
use Rattle.std.proofs.lemmas.List.Elements.{All-head, All-tail}
use Rattle.theory.specs.Literals.{Clause}
use Rattle.theory.specs.Learning.{Line}
use Rattle.theory.specs.Checking.{Numbered, clause_of, without_number}
use Rattle.theory.specs.Deletions.{without_numbers}
use Rattle.theory.specs.Proofs.{numbers_from}
use Rattle.theory.specs.Simplifying.{Simplified, adds, drops, eliminates, changed, changed_by, AreNumbered}
use Rattle.theory.proofs.literals.LiteralSets.{false_unless}
use Rattle.theory.proofs.checker.FewerClauses.{clause_of-without_numbers, clause_of-gone}
use Rattle.theory.proofs.simplifying.Simplifications.{AreNumbered-changed}
use Rattle.simplify.specs.Entries.{Entries, set}
use Rattle.simplify.specs.Stored.{entry_in, stored, with_clauses, without_entries}
use Rattle.simplify.proofs.EntryNumbers.{map-alike, numbers-within}

pub numbers-push : (n count : ℕ) → numbers_from n (suc count) ≡ numbers_from n count ++ (n + count) ∷ []
numbers-push n zero = ap (λ k. k ∷ []) (omega arith)
numbers-push n (suc count) = ap (λ ks. n ∷ ks) (numbers-push (n + 1) count ∙ ap (λ k. numbers_from (n + 1) count ++ k ∷ []) (omega arith))

pub map-push : {X Y : Type 0} (f : X → Y) (xs : List X) (x : X) → map f (xs ++ x ∷ []) ≡ map f xs ++ f x ∷ []
map-push f [] x = refl
map-push f (y ∷ xs) x = ap (λ ys. f y ∷ ys) (map-push f xs x)

differ : (a b : ℕ) → (a ≡ b → ⊥) → nat_eq a b ≡ false
differ a b h = false_unless (nat_eq a b) (λ t. h (eqb-true a b t))

-- a clause is added
pub stored-added : (s : Simplified) (line : Line) → AreNumbered s.last s.clauses → stored (changed s (adds line)) ≡ stored s ++ Some (set line.clause) ∷ []
stored-added s line numbered =
    ap (λ k. map (entry_in t) (numbers_from 1 k)) more ∙ (ap (map (entry_in t)) (numbers-push 1 s.last) ∙ (map-push (entry_in t) (numbers_from 1 s.last) (1 + s.last)
    ∙ (ap (λ ks. ks ++ entry_in t (1 + s.last) ∷ []) (map-alike (entry_in t) (entry_in s) (numbers_from 1 s.last) old)
    ∙ ap (λ e. stored s ++ e ∷ []) new)))
  where
    t : Simplified
    t = changed s (adds line)

    more : s.last + 1 ≡ suc s.last
    more = omega arith

    old : (n : ℕ) → Contains (numbers_from 1 s.last) n → entry_in t n ≡ entry_in s n
    old n c = let high = (numbers-within 1 s.last n c).1 in ap (λ b. option_map set (if b then Some line.clause else clause_of s.clauses n)) (differ (s.last + 1) n (λ e. omega arith))

    new : entry_in t (1 + s.last) ≡ Some (set line.clause)
    new = ap (λ b. option_map set (if b then Some line.clause else clause_of s.clauses (1 + s.last))) (eq-eqb (s.last + 1) (1 + s.last) (omega arith))

append-push : {X : Type 0} (xs : List X) (x : X) (ys : List X) → (xs ++ x ∷ []) ++ ys ≡ xs ++ x ∷ ys
append-push [] x ys = refl
append-push (y ∷ xs) x ys = ap (λ zs. y ∷ zs) (append-push xs x ys)

append-none : {X : Type 0} (xs : List X) → xs ++ [] ≡ xs
append-none [] = refl
append-none (x ∷ xs) = ap (λ ys. x ∷ ys) (append-none xs)

-- the clauses of lines are added, each of which is a set already
pub stored-lines : (s : Simplified) (lines : List Line) → AreNumbered s.last s.clauses → All (λ (l : Line). set l.clause ≡ l.clause) lines
    → stored (changed_by s (map adds lines)) ≡ with_clauses (stored s) lines
stored-lines s [] numbered h = sym (append-none (stored s))
stored-lines s (line ∷ lines) numbered h =
    stored-lines (changed s (adds line)) lines (AreNumbered-changed s (adds line) numbered) (All-tail (λ (l : Line). set l.clause ≡ l.clause) line lines h)
    ∙ (ap (λ K. with_clauses K lines) (stored-added s line numbered ∙ ap (λ c. stored s ++ Some c ∷ []) (All-head (λ (l : Line). set l.clause ≡ l.clause) line lines h))
    ∙ append-push (stored s) (Some line.clause) (map (λ (l : Line). Some l.clause) lines))

-- one clause is dropped
map-but : (f g : ℕ → Option Clause) (a count n : ℕ) → a ≤ n → g n ≡ None → ((m : ℕ) → (m ≡ n → ⊥) → g m ≡ f m)
    → map g (numbers_from a count) ≡ slice_set (map f (numbers_from a count)) (n - a) None
map-but f g a zero n low none same = refl
map-but f g a (suc count) n low none same = go (n - a) refl (λ l. map-but f g (a + 1) count n l none same)
  where
    later : (m : ℕ) → Contains (numbers_from (a + 1) count) m → n - a ≡ 0 → g m ≡ f m
    later m c e = let low_m = (numbers-within (a + 1) count m c).0 in same m (λ i. omega arith)

    go : (i : ℕ) → n - a ≡ i → (a + 1 ≤ n → map g (numbers_from (a + 1) count) ≡ slice_set (map f (numbers_from (a + 1) count)) (n - (a + 1)) None)
        → g a ∷ map g (numbers_from (a + 1) count) ≡ slice_set (f a ∷ map f (numbers_from (a + 1) count)) i None
    go zero e more =
        ap (λ o. o ∷ map g (numbers_from (a + 1) count)) (ap g (omega arith) ∙ none)
        ∙ ap (λ K. None ∷ K) (map-alike g f (numbers_from (a + 1) count) (λ m c. later m c e))
    go (suc k) e more =
        ap (λ o. o ∷ map g (numbers_from (a + 1) count)) (same a (λ i. omega arith))
        ∙ ap (λ K. f a ∷ K) (more (omega arith) ∙ ap (λ i. slice_set (map f (numbers_from (a + 1) count)) i None) (omega arith))

-- the entries of clauses, where so many numbers are given away
abbrev entries_of : Numbered → ℕ → Entries
entries_of K last = map (λ n. option_map set (clause_of K n)) (numbers_from 1 last)

without-one : (K : Numbered) (last n : ℕ) → 1 ≤ n → entries_of (without_number K n) last ≡ slice_set (entries_of K last) (n - 1) None
without-one K last n low = map-but (λ m. option_map set (clause_of K m)) (λ m. option_map set (clause_of (without_number K n) m)) 1 last n low
    (ap (option_map set) (clause_of-gone K (n ∷ []) n (ap (λ b. b || false) (eq-eqb n n refl))))
    (λ m other. ap (option_map set) (clause_of-without_numbers K (n ∷ []) m (ap (λ b. b || false) (differ m n other))))

-- clauses are dropped
without-all : (K : Numbered) (last : ℕ) (ns : List ℕ) → All (λ n. 1 ≤ n) ns → entries_of (without_numbers K ns) last ≡ without_entries (entries_of K last) ns
without-all K last [] h = refl
without-all K last (n ∷ ns) h =
    without-all (without_number K n) last ns (All-tail (λ n. 1 ≤ n) n ns h)
    ∙ ap (λ E. without_entries E ns) (without-one K last n (All-head (λ n. 1 ≤ n) n ns h))

pub stored-dropped : (s : Simplified) (ns : List ℕ) → All (λ n. 1 ≤ n) ns → stored (changed s (drops ns)) ≡ without_entries (stored s) ns
stored-dropped s ns h = without-all s.clauses s.last ns h

pub stored-eliminated : (s : Simplified) (x : ℕ) (ns : List ℕ) → All (λ n. 1 ≤ n) ns → stored (changed s (eliminates x ns)) ≡ without_entries (stored s) ns
stored-eliminated s x ns h = without-all s.clauses s.last ns h
