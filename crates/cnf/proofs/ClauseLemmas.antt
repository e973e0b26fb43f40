-- The clauses from a place on, which are gone through one by one.
use Rattle.std.proofs.Common.{◌≡◌, ℕ, suc, ◌+◌, Bool, true, false, ◌||◌, List, ◌∷◌, drop, Some, slice_get, refl, ap, sym, ◌∙◌, add-one}
use Rattle.std.proofs.Math.Seq.{drop-cons}
use Rattle.std.proofs.lemmas.Option.{slice_get_within, get_or_from_slice_get}
use Rattle.theory.specs.Literals.{Literal, Clause, has}
use Rattle.theory.specs.Truth.{are_true, is_true_clause}
use Rattle.theory.specs.Pure.{occurs}

pub drop-at : {X : Type 0} (xs : List X) (i : ℕ) (x : X) → slice_get xs i ≡ Some x → drop i xs ≡ x ∷ drop (i + 1) xs
drop-at {X} xs i x at =
    drop-cons xs i x (slice_get_within xs i x at) ∙ ap (λ (y : X). y ∷ drop (suc i) xs) (get_or_from_slice_get xs i x x at)
    ∙ ap (λ n. x ∷ drop n xs) (sym (add-one i))

pub true-from : (v : ℕ → Bool) (cs : List Clause) (i : ℕ) (c : Clause) → slice_get cs i ≡ Some c → is_true_clause v c ≡ true → are_true v (drop i cs) ≡ are_true v (drop (i + 1) cs)
true-from v cs i c at is = ap (are_true v) (drop-at cs i c at) ∙ rw is refl

pub false-from : (v : ℕ → Bool) (cs : List Clause) (i : ℕ) (c : Clause) → slice_get cs i ≡ Some c → is_true_clause v c ≡ false → are_true v (drop i cs) ≡ false
false-from v cs i c at is = ap (are_true v) (drop-at cs i c at) ∙ rw is refl

pub occurs-from : (cs : List Clause) (i : ℕ) (c : Clause) (l : Literal) → slice_get cs i ≡ Some c → occurs (drop i cs) l ≡ (has c l || occurs (drop (i + 1) cs) l)
occurs-from cs i c l at = ap (λ ds. occurs ds l) (drop-at cs i c at)

pub or-behind : (a b r x : Bool) → x ≡ (a || b) → (x || r) ≡ (a || (b || r))
or-behind true b r x e = rw e refl
or-behind false b r x e = rw e refl
