-- The negations of a candidate's literals, held true beside others.
use Rattle.std.specs.Prelude.{◌≡◌, true, false, List, ◌⊎◌}
use Rattle.theory.specs.Literals.{Literal, Clause, same, has, negated}

-- Q has the literals of P and the negations of the clause's literals other than q, none of which is
-- in Q; of q's variable the clause has q alone
pub record IsAssumed (P : List Literal) (q : Literal) (c : Clause) (Q : List Literal) : Type 0 where
  pub kept : (k : Literal) → has P k ≡ true → has Q k ≡ true
  pub negations : (k : Literal) → has c k ≡ true → same q k ≡ false → has Q (negated k) ≡ true
  pub no_more : (k : Literal) → has Q k ≡ true → (has P k ≡ true) ⊎ ((has c (negated k) ≡ true) × (same q (negated k) ≡ false))
  pub not_held : (k : Literal) → has c k ≡ true → same q k ≡ false → has Q k ≡ false
  pub alone : (k : Literal) → has c k ≡ true → k.var ≡ q.var → k ≡ q

-- the literals are the same as sets
abbrev pub AreSame : List Literal → List Literal → Type 0
AreSame P Q = has P ≡ has Q
