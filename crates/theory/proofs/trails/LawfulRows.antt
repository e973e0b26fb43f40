-- Worked rows on lawful trails and learnt lines, computed by the definitions.
use Rattle.std.proofs.Common.{◌≡◌, ℕ, zero, suc, List, [], ◌∷◌, ◌++◌, refl, Some, None, inl, inr, arith}
use Rattle.theory.specs.Literals.{Literal, Clause}
use Rattle.theory.specs.Trails.{Entry, Trail, up_to}
use Rattle.theory.specs.Lawful.{IsLawful, cube_of}
use Rattle.theory.specs.Learnable.{IsOpenBelow, IsLearnable}
use Rattle.theory.specs.Learning.{learn, back_level}
use Rattle.theory.specs.Checking.{take_hints, fails, hint_not_unit}
use Rattle.theory.specs.Replaying.{carrying_from, Passes}
use Rattle.theory.proofs.searching.Rows.{p1, n1, p2, n2, p3, row17}

abbrev pub decided : Literal → ℕ → Entry
decided l level = record { lit = l; reason = None; level = level }

abbrev forced : Literal → ℕ → ℕ → Entry
forced l n level = record { lit = l; reason = Some n; level = level }

-- -1(dec)@1, -2(dec)@2, 3(1)@2
abbrev trail1 : Trail
trail1 = decided n1 1 ∷ decided n2 2 ∷ forced p3 1 2 ∷ []

trail1_lawful : IsLawful row17.clauses trail1
trail1_lawful = (
  record { is_new = refl; grounded = inr refl },
  (
    record { is_new = refl; grounded = inr refl },
    (record { is_new = refl; grounded = (refl, record { numbered = (omega arith, omega arith); holds = refl; others = refl }) }, tt),
  ),
)

trail1_learns : learn row17.clauses trail1 2 ≡ record { clause = p1 ∷ p2 ∷ []; hints = 1 ∷ 2 ∷ []; forgets = [] }
trail1_learns = refl

trail1_goes_back : back_level trail1 (p1 ∷ p2 ∷ []) ≡ 1
trail1_goes_back = refl

trail1_open : IsOpenBelow row17.clauses trail1
trail1_open zero h = refl
trail1_open (suc zero) h = refl
trail1_open (suc (suc n)) h = absurd (omega arith)

-- on the trail gone back to, -1(dec)@1, the literal of 2 is free, and that of 1 is false and of
-- level 1
trail1_learnable : IsLearnable (up_to trail1 1) (p1 ∷ p2 ∷ [])
trail1_learnable = record { distinct = refl; free = p2; unit = refl; latest = inr (p1, refl, refl, refl) }

-- on the whole trail, or at level 0, the clause can't be learnt
trail1_not_yet : ¬ (IsLearnable trail1 (p1 ∷ p2 ∷ []))
trail1_not_yet h = let e = h.unit in absurd (cc)

trail1_too_far : ¬ (IsLearnable (up_to trail1 0) (p1 ∷ p2 ∷ []))
trail1_too_far h = let e = h.unit in absurd (cc)

trail1_passes : Passes 8 [] row17.clauses (learn row17.clauses trail1 2)
trail1_passes = refl

-- -1(dec)@1, -2(dec)@2, where clause 1 was false at level 1 already: what is learnt from it can't
-- be learnt
abbrev clauses3 : List Clause
clauses3 = (p1 ∷ []) ∷ []

abbrev trail3 : Trail
trail3 = decided n1 1 ∷ decided n2 2 ∷ []

trail3_learns : learn clauses3 trail3 1 ≡ record { clause = p1 ∷ []; hints = 1 ∷ []; forgets = [] }
trail3_learns = refl

trail3_goes_back : back_level trail3 (p1 ∷ []) ≡ 1
trail3_goes_back = refl

trail3_not_open : ¬ (IsOpenBelow clauses3 trail3)
trail3_not_open h = let e = h 1 (omega arith) in absurd (cc)

trail3_not_learnable : ¬ (IsLearnable (up_to trail3 1) (p1 ∷ []))
trail3_not_learnable h = let e = h.unit in absurd (cc)

-- -1(cube)@0, 2(9)@0, 3(3)@0, where clause 9 was learnt in the cube
abbrev clauses2 : List Clause
clauses2 = row17.clauses ++ (p2 ∷ []) ∷ []

abbrev trail2 : Trail
trail2 = decided n1 0 ∷ forced p2 9 0 ∷ forced p3 3 0 ∷ []

trail2_cube : cube_of trail2 ≡ n1 ∷ []
trail2_cube = refl

trail2_lawful : IsLawful clauses2 trail2
trail2_lawful = (
  record { is_new = refl; grounded = inl (refl, refl) },
  (
    record { is_new = refl; grounded = (refl, record { numbered = (omega arith, omega arith); holds = refl; others = refl }) },
    (record { is_new = refl; grounded = (refl, record { numbered = (omega arith, omega arith); holds = refl; others = refl }) }, tt),
  ),
)

trail2_learns : learn clauses2 trail2 4 ≡ record { clause = []; hints = 9 ∷ 3 ∷ 4 ∷ []; forgets = [] }
trail2_learns = refl

trail2_passes : Passes 8 (n1 ∷ []) clauses2 (learn clauses2 trail2 4)
trail2_passes = refl

-- in the order of resolution the hints don't pass
other_order : take_hints (carrying_from 1 8 (n1 ∷ []) clauses2) (n1 ∷ []) (3 ∷ 9 ∷ 4 ∷ []) ≡ fails hint_not_unit
other_order = refl

-- with a level jumped over, or a reason whose other literals come later, a trail isn't lawful
jumps_level : ¬ (IsLawful row17.clauses (decided n1 2 ∷ []))
jumps_level h = elim h.0.grounded [ inl a ↦ absurd (let z = a.0 in omega arith) | inr b ↦ absurd (omega arith) ]

reason_too_early : ¬ (IsLawful row17.clauses (decided n1 1 ∷ forced p3 1 1 ∷ []))
reason_too_early h = let e = h.1.0.grounded.1.others in absurd (cc)
