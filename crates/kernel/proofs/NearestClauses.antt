-- The unit clause that propagation by place takes.
use Rattle.std.proofs.Common.{◌≡◌, ℕ, suc, zero, ◌+◌, ◌<◌, ◌≤◌, Bool, true, false, List, [], ◌∷◌, length, Option, Some, None, option_map, refl, ap, subst, ◌⊎◌, inl, inr, arith, nat_le, leb-true, if◌then◌else◌}
use Rattle.std.proofs.lemmas.Bool.{leb-false}
use Rattle.theory.specs.Literals.{Literal, Clause}
use Rattle.theory.specs.Status.{unit_literal}
use Rattle.theory.specs.Trails.{Trail, literals}
use Rattle.theory.specs.Propagation.{Placed, nearer, nearest, last_false}
use Rattle.kernel.specs.Watching.{At}
use Rattle.kernel.proofs.LeastClauses.{At-behind}

-- what it says that a clause is the nearest
record IsNearest (T : Trail) (K : List Clause) (w : Placed) : Type 0 where
  index : ℕ
  clause : Clause
  at : At K index clause
  unit : unit_literal (literals T) clause ≡ Some w.unit.1
  number : w.unit.0 ≡ index + 1
  place : w.place ≡ last_false T clause

nearer-is : (u v : Option Placed) (w : Placed) → nearer u v ≡ Some w → (u ≡ Some w) ⊎ (v ≡ Some w)
nearer-is None v w h = inr h
nearer-is (Some u) None w h = inl h
nearer-is (Some u) (Some v) w h = go (nat_le u.place v.place) h
  where
    go : (b : Bool) → (if b then Some u else Some v) ≡ Some w → (Some u ≡ Some w) ⊎ (Some v ≡ Some w)
    go true e = inl e
    go false e = inr e

nearest-says : (T : Trail) (K : List Clause) (w : Placed) → nearest T K ≡ Some w → IsNearest T K w
nearest-says T [] w h = absurd (cc)
nearest-says T (c ∷ K) w h = go (nearer-is (option_map here (unit_literal (literals T) c)) (option_map one_on (nearest T K)) w h) (nearest-says T K)
  where
    here : Literal → Placed
    here l = record { place = last_false T c; unit = (1, l) }

    one_on : Placed → Placed
    one_on v = record { place = v.place; unit = (v.unit.0 + 1, v.unit.1) }

    first : (o : Option Literal) → unit_literal (literals T) c ≡ o → option_map here o ≡ Some w → IsNearest T (c ∷ K) w
    first None e k = absurd (cc)
    first (Some l) e k =
        let one : here l ≡ w = cc in
        subst (IsNearest T (c ∷ K)) one (record { index = 0; clause = c; at = ((let z : 0 < length (c ∷ K) = omega arith in z), refl); unit = e; number = refl; place = refl })

    later : (o : Option Placed) → ((v : Placed) → o ≡ Some v → IsNearest T K v) → option_map one_on o ≡ Some w → IsNearest T (c ∷ K) w
    later None more k = absurd (cc)
    later (Some v) more k =
        let one : one_on v ≡ w = cc in
        let n = more v refl in
        subst (IsNearest T (c ∷ K)) one
        (record { index = suc n.index; clause = n.clause; at = At-behind c K n.index n.clause n.at; unit = n.unit; number = omega (arith, n.number); place = n.place })

    go : (option_map here (unit_literal (literals T) c) ≡ Some w) ⊎ (option_map one_on (nearest T K) ≡ Some w) → ((v : Placed) → nearest T K ≡ Some v → IsNearest T K v) → IsNearest T (c ∷ K) w
    go (inl e) more = first (unit_literal (literals T) c) refl e
    go (inr e) more = later (nearest T K) more e

pub nearest-none : (T : Trail) (K : List Clause) → ((n : ℕ) (c : Clause) → At K n c → unit_literal (literals T) c ≡ None) → nearest T K ≡ None
nearest-none T [] h = refl
nearest-none T (c ∷ K) h =
    let here : unit_literal (literals T) c ≡ None = h 0 c ((let z : 0 < length (c ∷ K) = omega arith in z), refl) in
    let rest : nearest T K ≡ None = nearest-none T K (λ n d a. h (suc n) d (At-behind c K n d a)) in
    rw (here, rest) refl

-- the clause at n goes no later than the one at m, each with its place
abbrev pub NoLater : ℕ → ℕ → ℕ → ℕ → Type 0
NoLater p n q m = (p < q) ⊎ ((p ≡ q) × (n ≤ m))

pub nearest-some : (T : Trail) (K : List Clause) (n : ℕ) (c : Clause) (l : Literal) → At K n c → unit_literal (literals T) c ≡ Some l
    → ((m : ℕ) (d : Clause) (k : Literal) → At K m d → unit_literal (literals T) d ≡ Some k → NoLater (last_false T c) n (last_false T d) m)
    → nearest T K ≡ Some (record { place = last_false T c; unit = (n + 1, l) })
nearest-some T [] n c l a h least = absurd (omega (arith, a.0))
nearest-some T (k ∷ K) zero c l a h least = rw (one, h) (go (nearest T K) refl)
  where
    one : k ≡ c
    one = a.1

    here : Placed
    here = record { place = last_false T c; unit = (1, l) }

    first : (w : Placed) → nearest T K ≡ Some w → last_false T c ≤ w.place
    first w e =
        let s = nearest-says T K w e in
        by s.place (least (suc s.index) s.clause w.unit.1 (At-behind k K s.index s.clause s.at) s.unit)
      where
        by : {q m : ℕ} → w.place ≡ q → NoLater (last_false T c) 0 q m → last_false T c ≤ w.place
        by e (inl f) = omega (arith, e, f)
        by e (inr f) = omega (arith, e, f.0)

    go : (o : Option Placed) → nearest T K ≡ o → nearer (Some here) (option_map (λ w. record { place = w.place; unit = (w.unit.0 + 1, w.unit.1) }) o) ≡ Some here
    go None e = refl
    go (Some w) e = pick (nat_le (last_false T c) w.place) refl
      where
        pick : (b : Bool) → nat_le (last_false T c) w.place ≡ b → ◌≡◌ {A = Option Placed} (if b then Some here else Some (record { place = w.place; unit = (w.unit.0 + 1, w.unit.1) })) (Some here)
        pick true f = refl
        pick false f = absurd (omega (arith, leb-false (last_false T c) w.place f, first w e))
nearest-some T (k ∷ K) (suc n) c l a h least =
    go (unit_literal (literals T) k) refl (nearest-some T K n c l ((let z : n < length K = omega (arith, a.0) in z), a.1) h (λ m d x b e. again (least (suc m) d x (At-behind k K m d b) e)))
  where
    again : {p q i j : ℕ} → NoLater p (suc i) q (suc j) → NoLater p i q j
    again (inl f) = inl f
    again (inr f) = inr (f.0, (let z = f.1 in omega (arith, z)))

    goal : Placed
    goal = record { place = last_false T c; unit = (suc n + 1, l) }

    Rest : Type 0
    Rest = nearest T K ≡ Some (record { place = last_false T c; unit = (n + 1, l) })

    on : Rest → ◌≡◌ {A = Option Placed} (option_map (λ w. record { place = w.place; unit = (w.unit.0 + 1, w.unit.1) }) (nearest T K)) (Some goal)
    on rest = rw rest (let e : n + 1 + 1 ≡ suc n + 1 = omega arith in ap (λ (x : ℕ). Some (record { place = last_false T c; unit = (x, l) })) e)

    go : (o : Option Literal) → unit_literal (literals T) k ≡ o → Rest
        → nearer (option_map (λ (x : Literal). record { place = last_false T k; unit = (1, x) }) o) (option_map (λ w. record { place = w.place; unit = (w.unit.0 + 1, w.unit.1) }) (nearest T K)) ≡ Some goal
    go None e rest = on rest
    go (Some x) e rest = rw (on rest) (pick (nat_le (last_false T k) (last_false T c)) refl (least 0 k x ((let z : 0 < length (k ∷ K) = omega arith in z), refl) e))
      where
        pick : (b : Bool) → nat_le (last_false T k) (last_false T c) ≡ b → NoLater (last_false T c) (suc n) (last_false T k) 0
            → ◌≡◌ {A = Option Placed} (if b then Some (record { place = last_false T k; unit = (1, x) }) else Some goal) (Some goal)
        pick true f (inl g) = absurd (omega (arith, leb-true (last_false T k) (last_false T c) f, g))
        pick true f (inr g) = absurd (omega (arith, g.1))
        pick false f g = refl
