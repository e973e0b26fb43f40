-- The clauses at places once some are forgotten.
use Rattle.std.proofs.Common.{◌≡◌, ℕ, zero, suc, ◌+◌, ◌<◌, Bool, true, false, List, [], ◌∷◌, length, get_or, refl, ap, sym, subst, ◌∙◌, nat_eq, arith, if◌then◌else◌}
use Rattle.std.specs.List.{list_any}
use Rattle.theory.specs.Literals.{Literal, Clause}
use Rattle.theory.specs.Forgetting.{forgotten, forget}
use Rattle.theory.proofs.searching.ForgettingNumbers.{length-forget}
use Rattle.kernel.specs.declared.watches.watch.Watched.{Watched}
use Rattle.kernel.specs.Watching.{At, IsWatched, apart, first_true, second_true, other_true, both_signs}
use Rattle.kernel.specs.Forgetting.{is_numbered}

get_or-forget : (ns : List ℕ) (m : ℕ) (K : List Clause) (i : ℕ) (d : Clause) → i < length K → get_or (forget ns m K) i d ≡ (if list_any (nat_eq (i + m)) ns then forgotten else get_or K i d)
get_or-forget ns m [] i d h = absurd (omega (arith, h))
get_or-forget ns m (c ∷ K) zero d h = let e : 0 + m ≡ m = omega arith in rw e refl
get_or-forget ns m (c ∷ K) (suc i) d h =
    let e : i + (m + 1) ≡ suc i + m = omega arith in
    get_or-forget ns (m + 1) K i d (omega (arith, h)) ∙ ap (λ k. if list_any (nat_eq k) ns then forgotten else get_or K i d) e

within : (ns : List ℕ) (K : List Clause) (i : ℕ) (c : Clause) → At (forget ns 1 K) i c → i < length K
within ns K i c a = subst (λ n. i < n) (length-forget ns 1 K) a.0

read : (ns : List ℕ) (K : List Clause) (i : ℕ) (c : Clause) (b : Bool) → is_numbered ns i ≡ b → i < length K → get_or (forget ns 1 K) i c ≡ (if b then forgotten else get_or K i c)
read ns K i c b e h = get_or-forget ns 1 K i c h ∙ ap (λ x. if x then forgotten else get_or K i c) e

pub At-forgotten : (ns : List ℕ) (K : List Clause) (i : ℕ) (c : Clause) → is_numbered ns i ≡ true → At (forget ns 1 K) i c → c ≡ forgotten
At-forgotten ns K i c e a = sym a.1 ∙ read ns K i c true e (within ns K i c a)

pub At-unforgotten : (ns : List ℕ) (K : List Clause) (i : ℕ) (c : Clause) → is_numbered ns i ≡ false → At (forget ns 1 K) i c → At K i c
At-unforgotten ns K i c e a = (within ns K i c a, sym (read ns K i c false e (within ns K i c a)) ∙ a.1)

pub At-stays : (ns : List ℕ) (K : List Clause) (i : ℕ) (c : Clause) → is_numbered ns i ≡ false → At K i c → At (forget ns 1 K) i c
At-stays ns K i c e a = (subst (λ n. i < n) (sym (length-forget ns 1 K)) a.0, read ns K i c false e a.0 ∙ a.1)

pub IsWatched-stays : (ns : List ℕ) (K : List Clause) (n : ℕ) (S P : List Literal) (w : Watched) → is_numbered ns n ≡ false → IsWatched K n S P w → IsWatched (forget ns 1 K) n S P w
IsWatched-stays ns K n S P w e (apart d a b) = apart d a b
IsWatched-stays ns K n S P w e (first_true t) = first_true t
IsWatched-stays ns K n S P w e (second_true t) = second_true t
IsWatched-stays ns K n S P w e (other_true c y a m t) = other_true c y (At-stays ns K n c e a) m t
IsWatched-stays ns K n S P w e (both_signs c a b) = both_signs c (At-stays ns K n c e a) b
