-- Steps, as they are tested one after the other.
use Rattle.std.proofs.Common.{◌≡◌, ℕ, zero, suc, ◌+◌, ◌<◌, ◌≤◌, Bool, true, ◌||◌, List, [], ◌∷◌, length, drop, get_or, map, Option, Some, None, is_some, cond, refl, ap, sym, subst, ◌∙◌, arith, add-one, All}
use Rattle.std.proofs.Math.Seq.{drop-cons}
use Rattle.std.proofs.lemmas.List.{drop-map, length-map}
use Rattle.theory.specs.Literals.{Clause}
use Rattle.theory.specs.Truth.{Formula, IsOver}
use Rattle.theory.specs.Steps as theory
use Rattle.theory.specs.Checking.{Numbered, numbered_from, clause_of, without_number, deleted, is_empty, Checker, Checked, Tested, leaves, faulty, refused, accepted, no_empty_clause, addition_fault, addition_test, deletion_test, added, test, check_from, checks}
use Rattle.theory.specs.Checking as checking
use Rattle.lrat.specs.declared.check_fault.Fault.{Fault}
use Rattle.lrat.specs.declared.check_fault.Fault.TheVariants.{IdNotRising, BothSigns, NoSuchClause, HintNotUnit, HintAfterConflict, NoConflict, MissingCandidate, BadCandidate, NoSuchDeletion, LiteralOutOfRange}
use Rattle.lrat.specs.CheckFaults.{fault_of, fault_at, IsRefused}
use Rattle.lrat.specs.Tested.{IsDeleted}

-- one clause more at the front
pub numbered-more : (cs : List Clause) (a b i : ℕ) (x : Clause) → i < length cs → a ≡ i + 1 → b ≡ i → x ≡ get_or cs i x
    → (i + 1, x) ∷ numbered_from (a + 1) (drop a cs) ≡ numbered_from (b + 1) (drop b cs)
numbered-more cs a b i x less e f g =
    let split : drop i cs ≡ x ∷ drop (i + 1) cs = rw add-one (drop-cons cs i x less ∙ ap (λ y. y ∷ drop (suc i) cs) (sym g)) in
    ap (λ n. (i + 1, x) ∷ numbered_from (n + 1) (drop n cs)) e ∙ (sym (ap (numbered_from (i + 1)) split) ∙ ap (λ n. numbered_from (n + 1) (drop n cs)) (sym f))

-- a deletion without a fault
pub deleted-all : (o : Option Numbered) (b : Bool) (L : Numbered) → IsDeleted o b L → b ≡ true → o ≡ Some L
deleted-all (Some K) b L h t = ap Some (sym h.1)
deleted-all None b L h t = absurd (cc)

pub delete-leaves : (V : ℕ) (s : Checker) (d : theory.Deletion) (L : Numbered) → deleted s.clauses d.ids ≡ Some L → test V s (theory.delete d) ≡ leaves (record s { clauses = L })
delete-leaves V s d L h = ap (deletion_test s) h

-- an addition without a fault
pub add-leaves : (V : ℕ) (s t : Checker) (a : theory.Addition) → None ≡ addition_fault V s.last s.clauses a → t.clauses ≡ (a.id, a.clause) ∷ s.clauses → t.last ≡ a.id
    → t.empty ≡ s.empty || is_empty a.clause → test V s (theory.add a) ≡ leaves t
add-leaves V s t a none clauses last empty =
    ap (addition_test s a) (sym none) ∙ ap leaves (λ i. record { clauses = sym clauses i; last = sym last i; empty = sym empty i })

-- one with a fault
pub add-faulty : (V : ℕ) (s : Checker) (a : theory.Addition) (f : checking.Fault) → Some f ≡ addition_fault V s.last s.clauses a → test V s (theory.add a) ≡ faulty f
add-faulty V s a f is = ap (addition_test s a) (sym is)

pub check-leaves : (V n : ℕ) (s t : Checker) (step : theory.Step) (steps rest : List theory.Step) → steps ≡ step ∷ rest → test V s step ≡ leaves t
    → check_from V n s steps ≡ check_from V (n + 1) t rest
check-leaves V n s t step steps rest e h =
    ap (check_from V n s) e ∙ ap (λ (x : Tested). elim x as (λ _. Checked) [ leaves u ↦ check_from V (n + 1) u rest | faulty f ↦ refused f n ]) h

pub check-faulty : (V n : ℕ) (s : Checker) (f : checking.Fault) (step : theory.Step) (steps rest : List theory.Step) → steps ≡ step ∷ rest → test V s step ≡ faulty f
    → check_from V n s steps ≡ refused f n
check-faulty V n s f step steps rest e h =
    ap (check_from V n s) e ∙ ap (λ (x : Tested). elim x as (λ _. Checked) [ leaves u ↦ check_from V (n + 1) u rest | faulty f ↦ refused f n ]) h

pub refused-at : (F : Formula) (steps : List theory.Step) (f : Fault) (n : ℕ) → checks F steps ≡ refused (fault_of f) n → IsRefused F steps (fault_at f n)
refused-at F steps IdNotRising n h = h
refused-at F steps BothSigns n h = h
refused-at F steps (NoSuchClause id) n h = h
refused-at F steps (HintNotUnit id) n h = h
refused-at F steps HintAfterConflict n h = h
refused-at F steps NoConflict n h = h
refused-at F steps MissingCandidate n h = h
refused-at F steps BadCandidate n h = h
refused-at F steps NoSuchDeletion n h = h
refused-at F steps LiteralOutOfRange n h = h

-- the step at a place, and those behind it
pub map-next : {X Y : Type 0} (f : X → Y) (xs : List X) (i : ℕ) (x : X) → i < length xs → x ≡ get_or xs i x → drop i (map f xs) ≡ f x ∷ drop (i + 1) (map f xs)
map-next f xs i x less e =
    drop-map f i xs ∙ (ap (map f) (drop-cons xs i x less ∙ ap (λ y. y ∷ drop (suc i) xs) (sym e)) ∙ (ap (λ ys. f x ∷ ys) (sym (drop-map f (suc i) xs)) ∙ ap (λ n. f x ∷ drop n (map f xs)) (sym (add-one i))))

pub map-at : {X Y : Type 0} (f : X → Y) (xs : List X) (i : ℕ) (x : X) → i < length xs → x ≡ get_or xs i x → f x ≡ get_or (map f xs) i (f x)
map-at f [] i x less e = absurd (omega arith)
map-at f (y ∷ xs) zero x less e = ap f e
map-at f (y ∷ xs) (suc i) x less e = map-at f xs i x (omega arith) e

-- the clauses of a formula are over its variables
pub over-map : {X : Type 0} (V : ℕ) (f : X → Clause) (cs : List Clause) (xs : List X) (i : ℕ) (x : X) → map f xs ≡ cs → All (IsOver V) cs → i < length xs → x ≡ get_or xs i x → IsOver V (f x)
over-map V f cs xs i x same all less e =
    subst (IsOver V) (ap (λ l. get_or l i (f x)) (sym same) ∙ sym (map-at f xs i x less e)) (all i (f x) (let n : length (map f xs) ≡ length xs = length-map xs f in let m : length (map f xs) ≡ length cs = ap length same in omega arith))

-- no steps are left
pub check-ends : (V n : ℕ) (s : Checker) (steps : List theory.Step) (i : ℕ) → length steps ≤ i → s.empty ≡ true → check_from V n s (drop i steps) ≡ accepted
check-ends V n s steps i past e = ap (check_from V n s) (none i steps past) ∙ ap (λ b. cond b accepted no_empty_clause) e
  where
    none : (i : ℕ) (xs : List theory.Step) → length xs ≤ i → drop i xs ≡ []
    none zero [] p = refl
    none zero (x ∷ xs) p = absurd (omega arith)
    none (suc i) [] p = refl
    none (suc i) (x ∷ xs) p = none i xs (omega arith)

-- one number of a deletion
pub deleted-next : (K L : Numbered) (ids : List ℕ) (i : ℕ) → i < length ids → is_some (clause_of K (get_or ids i 0)) ≡ true → L ≡ without_number K (get_or ids i 0)
    → deleted L (drop (suc i) ids) ≡ deleted K (drop i ids)
deleted-next K L [] i less some e = absurd (omega arith)
deleted-next K L (n ∷ ns) zero less some e = ap (λ k. deleted k ns) e ∙ sym (ap (λ b. cond b (deleted (without_number K n) ns) None) some)
deleted-next K L (n ∷ ns) (suc i) less some e = deleted-next K L ns i (omega arith) some e
