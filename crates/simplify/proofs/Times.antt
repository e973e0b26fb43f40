-- How often a clause has a literal, by its code.
use Rattle.std.proofs.Common.{◌≡◌, ℕ, ◌+◌, ◌<◌, ◌≤◌, Bool, cond, nat_eq, eq-eqb, length, take, get_or, ap, sym, ◌∙◌, subst}
use Rattle.std.proofs.lemmas.List.Sums.{sum_by_more, sum_by_more_le}
use Rattle.cnf.specs.Lits.{code}
use Rattle.theory.specs.Literals.{Literal, Clause}
use Rattle.simplify.specs.Tables.{times, one_if}

pub times_more : (c : Clause) (i : ℕ) (l : Literal) (j : ℕ) → i < length c → l ≡ get_or c i l → times j (take (i + 1) c) ≡ times j (take i c) + one_if (nat_eq (code l) j)
times_more c i l j less is =
    sum_by_more (λ (k : Literal). cond (nat_eq (code k) j) 1 0) c i l less ∙ ap (λ (k : Literal). times j (take i c) + cond (nat_eq (code k) j) 1 0) (sym is)

-- the one at a place is one more than those before
pub times-room : (c : Clause) (i : ℕ) (l : Literal) → i < length c → l ≡ get_or c i l → times (code l) (take i c) + 1 ≤ times (code l) c
times-room c i l less is =
    let all : times (code l) (take i c) + cond (nat_eq (code (get_or c i l)) (code l)) 1 0 ≤ times (code l) c = sum_by_more_le (λ (k : Literal). cond (nat_eq (code k) (code l)) 1 0) c i l less in
    let here : cond (nat_eq (code (get_or c i l)) (code l)) 1 0 ≡ 1 = ap (λ (b : Bool). cond b 1 0) (eq-eqb (code (get_or c i l)) (code l) (ap code (sym is))) in
    subst (λ n. times (code l) (take i c) + n ≤ times (code l) c) here all
