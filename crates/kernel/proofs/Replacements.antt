-- Another literal of a clause to watch, looked for in one part of the clause and then in the other.
use Rattle.std.proofs.Common.{◌≡◌, ℕ, ◌+◌, ◌-◌, ◌<◌, ◌≤◌, Bool, true, false, not, List, length, take, drop, get_or, Option, Some, None, IfSome, IfNone, refl, ap, sym, subst, ◌∙◌, ◌⊎◌, inl, inr, arith}
use Rattle.std.proofs.lemmas.List.{take-append-drop, take_all, length-drop, get_or-drop, get_or-take, length-take-le}
use Rattle.theory.specs.Literals.{Literal, Clause, same, has, negated}
use Rattle.theory.proofs.literals.LiteralSets.{has-append_left, has-append_right, has-append_cases}
use Rattle.kernel.specs.Visiting.{IsLast, Replaces}
use Rattle.kernel.specs.Seeing.{IsFirstOpen, IsFound}
use Rattle.kernel.proofs.Visits.{has-get}

-- the part of a clause from a place on
abbrev pub from_place : Clause → ℕ → Clause
from_place c i = take (length c - i) (drop i c)

whole : (c : Clause) (i : ℕ) → from_place c i ≡ drop i c
whole c i = let e : length (drop i c) ≡ length c - i = length-drop i c in take_all (length c - i) (drop i c) (omega arith)

-- what is found in a part is found in the clause
pub replaces-behind : (P : List Literal) (c : Clause) (i : ℕ) (k z : Literal) → Replaces P (from_place c i) k z → Replaces P c k z
replaces-behind P c i k z r = record {
  member = subst (λ (d : Clause). has d z ≡ true) (take-append-drop i c) (has-append_right (take i c) (drop i c) z (subst (λ (d : Clause). has d z ≡ true) (whole c i) r.member));
  apart = r.apart;
  not_false = r.not_false;
}

pub replaces-before : (P : List Literal) (c : Clause) (i : ℕ) (k z : Literal) → Replaces P (take i c) k z → Replaces P c k z
replaces-before P c i k z r = record {
  member = subst (λ (d : Clause). has d z ≡ true) (take-append-drop i c) (has-append_left (take i c) (drop i c) z r.member);
  apart = r.apart;
  not_false = r.not_false;
}

pub found-behind : (P : List Literal) (c : Clause) (i : ℕ) (k : Literal) (j : ℕ) → IsFound P (from_place c i) k j → IsFound P c k (i + j)
found-behind P c i k j f = record { lit = f.lit; at = (inside, sym (get_or-drop i c j f.lit) ∙ sym (ap (λ (d : Clause). get_or d j f.lit) (whole c i)) ∙ f.at.1); replaces = replaces-behind P c i k f.lit f.replaces }
  where
    inside : i + j < length c
    inside = let a : j < length (drop i c) = subst (λ (d : Clause). j < length d) (whole c i) f.at.0 in let b : length (drop i c) ≡ length c - i = length-drop i c in omega (arith, a, b)

pub found-before : (P : List Literal) (c : Clause) (i : ℕ) (k : Literal) (j : ℕ) → i ≤ length c → IsFound P (take i c) k j → IsFound P c k j
found-before P c i k j low f = record { lit = f.lit; at = (omega (arith, inside, low), sym (get_or-take i c j f.lit inside) ∙ f.at.1); replaces = replaces-before P c i k f.lit f.replaces }
  where
    inside : j < i
    inside = let a : length (take i c) ≡ i = length-take-le i c low in let b = f.at.0 in omega (arith, a, b)

-- the first literal that isn't false is found, but where it is k
pub found-first : (P : List Literal) (c : Clause) (k : Literal) (i j : ℕ) (f : IsFirstOpen P c i j) → same f.lit k ≡ false → IsFound P c k j
found-first P c k i j f ne = record {
  lit = f.lit;
  at = f.at;
  replaces = record { member = subst (λ (l : Literal). has c l ≡ true) f.at.1 (has-get c j f.lit f.at.0); apart = ne; not_false = f.not_false };
}

-- where nothing is found in either part, nothing is found in the clause
pub last-parts : (P : List Literal) (c : Clause) (i : ℕ) (k : Literal) → IsLast P (from_place c i) k → IsLast P (take i c) k → IsLast P c k
last-parts P c i k behind before x m ne = go (has-append_cases (take i c) (drop i c) x (subst (λ (d : Clause). has d x ≡ true) (sym (take-append-drop i c)) m))
  where
    go : (has (take i c) x ≡ true) ⊎ (has (drop i c) x ≡ true) → has P (negated x) ≡ true
    go (inl e) = before x e ne
    go (inr e) = behind x (subst (λ (d : Clause). has d x ≡ true) (sym (whole c i)) e) ne

pub some-weaker : {X : Type 0} (A B : X → Type 0) → ((x : X) → A x → B x) → (o : Option X) → IfSome o A → IfSome o B
some-weaker A B f (Some x) a = f x a
some-weaker A B f None a = a

pub none-weaker : {X : Type 0} (A B : Type 0) → (A → B) → (o : Option X) → IfNone o A → IfNone o B
none-weaker A B f (Some x) a = a
none-weaker A B f None a = f a

pub turned : (b : Bool) → not b ≡ true → b ≡ false
turned false h = refl
turned true h = absurd (cc)
