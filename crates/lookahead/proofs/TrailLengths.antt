-- How long a trail is.
use Rattle.std.proofs.Common.{ℕ, ◌≤◌, List, [], ◌∷◌, ◌++◌, length, length-append, subst, arith}
use Rattle.std.proofs.lemmas.List.{map-append, length-map}
use Rattle.theory.specs.Literals.{Clause}
use Rattle.theory.specs.Trails.{Trail, Entry, literals}
use Rattle.theory.specs.Propagation.{Closed, Rule, Propagates, clashes, grows, rests, unit_entry}
use Rattle.theory.specs.Lawful.{IsLawful, IsLawfulAfter}
use Rattle.theory.proofs.literals.OverVariables.{AreOver}
use Rattle.theory.proofs.literals.CubeLiterals.{IsDistinctFrom, IsCube-from}
use Rattle.theory.proofs.literals.DistinctLiterals.{length-distinct}

-- the literals of a lawful trail are of distinct variables
pub IsDistinctFrom-lawful : (K : List Clause) (before T : Trail) → IsLawfulAfter K before T → IsDistinctFrom (literals before) (literals T)
IsDistinctFrom-lawful K before [] h = tt
IsDistinctFrom-lawful K before (e ∷ T) h =
    (h.0.is_new, subst (λ P. IsDistinctFrom P (literals T)) (map-append (λ (d : Entry). d.lit) before (e ∷ [])) (IsDistinctFrom-lawful K (before ++ e ∷ []) T h.1))

-- a lawful trail is no longer than its variables are many
pub length-lawful : (V : ℕ) (K : List Clause) (T : Trail) → IsLawful K T → AreOver V (literals T) → length T ≤ V
length-lawful V K T lawful over =
    let short = length-distinct V (literals T) (IsCube-from (literals T) (IsDistinctFrom-lawful K [] T lawful)) over in
    let same = length-map T (λ (d : Entry). d.lit) in
    omega arith

-- propagation takes nothing off
pub length-Propagates : (rule : Rule) (K : List Clause) (T U : Trail) (a : Closed) → Propagates rule K T a U → length T ≤ length U
length-Propagates rule K T U a (clashes h) = omega arith
length-Propagates rule K T U a (rests h i) = omega arith
length-Propagates rule K T U a (grows {u = u} h i more) =
    let rest = length-Propagates rule K (T ++ unit_entry T u ∷ []) U a more in
    let one = length-append T (unit_entry T u ∷ []) in
    omega arith
