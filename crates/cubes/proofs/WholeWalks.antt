-- The traversal over a whole list whose outcomes are handed out once: a cube that is reached has
-- its outcome in the list, and it was not yet handed out.
use Rattle.std.proofs.Common.{◌≡◌, ◌≢◌, ℕ, suc, ◌<◌, ◌≤◌, true, false, List, [], ◌∷◌, ◌++◌, length, length-append, Option, Some, None, Contains, sum_by, ◌⊎◌, inl, inr, sym, ap, ◌∙◌, subst, append_assoc, append-nil, arith}
use Rattle.std.proofs.lemmas.List.{append_cancel_left}
use Rattle.std.proofs.lemmas.List.Sums.{sum_by-cons}
use Rattle.theory.specs.Literals.{Literal, positive, negative}
use Rattle.theory.specs.Truth.{Formula}
use Rattle.theory.specs.Plans.{Plan}
use Rattle.theory.specs.Learning.{Line}
use Rattle.theory.specs.Search as search
use Rattle.theory.specs.Trees.{false_half}
use Rattle.theory.specs.Results.{done, Solved, IsWhole}
use Rattle.theory.proofs.literals.Membership.{Contains-none, Contains-cases}
use Rattle.theory.proofs.trees.Assemblies.{IsComeTo, IsComeTo-root, IsComeTo-left, IsComeTo-right, IsComeTo-outcome, outcome_in-result}
use Rattle.trail.specs.Cubes.{AreOfVariables}
use Rattle.cdcl.specs.Outcome.{outcome_by}
use Rattle.cdcl.specs.declared.api.outcome.Outcome.{Outcome}
use Rattle.cdcl.specs.declared.api.outcome.Outcome.TheVariants as outcome
use Rattle.cubes.specs.declared.known.Known.{Known}
use Rattle.cubes.specs.declared.tree.Tree.{Tree}
use Rattle.cubes.specs.declared.tree.Tree.TheVariants as tree
use Rattle.cubes.specs.declared.gathering.Gathering.{Gathering}
use Rattle.cubes.specs.declared.traversal.Split.{Split}
use Rattle.cubes.specs.Known.{AreKnown, known_of}
use Rattle.cubes.specs.CubeWalks.{IsBelow}
use Rattle.cubes.specs.Gathering.{GoesOnWith}
use Rattle.cubes.specs.Traversal.{half, path, beside, behind}
use Rattle.cubes.proofs.KnownLemmas.{AreOutcomes-known}
use Rattle.cubes.proofs.Walks.{by_plan, IsReached, IsLeftDone, length-path}
use Rattle.cubes.proofs.GatheringLemmas.{IsGathered, IsKnown, IsKnown-Runs}

-- R lies in the left half of a split of the cube Q, which is done
abbrev IsInLeft : {T : Type 0} → List Literal → ℕ → Option T → List Literal → Type 0
IsInLeft Q x None R = ⊥
IsInLeft Q x (Some left) R = (rest : List Literal) × (R ≡ false_half Q x ++ rest)

-- R is a cube before the place: one on the way to it, or one in a left half that is done
abbrev pub IsPassed : {T : Type 0} → List (Split T) → List Literal → Type 0
IsPassed [] R = ⊥
IsPassed (s ∷ ss) R = (R ≡ path ss) ⊎ IsInLeft (path ss) s.var s.left R ⊎ IsPassed ss R

-- no cube is before itself,
not_passed : {T : Type 0} (ss : List (Split T)) (ls : List Literal) → IsPassed ss (path ss ++ ls) → ⊥
not_passed [] ls h = h
not_passed {T} (s ∷ ss) ls (inl e) = let a = length-append (path ss ++ half s.var s.left ∷ []) ls in let b = length-append (path ss) (half s.var s.left ∷ []) in let c = ap length e in absurd (omega arith)
not_passed {T} (s ∷ ss) ls (inr (inl i)) = left s.left i
  where
    left : (o : Option T) → IsInLeft (path ss) s.var o (path ss ++ half s.var o ∷ [] ++ ls) → ⊥
    left None i = i
    left (Some d) i =
        let e = append_cancel_left (path ss) (positive s.var ∷ ls) (negative s.var ∷ i.0) (sym (append_assoc (path ss) (positive s.var ∷ []) ls) ∙ i.1 ∙ append_assoc (path ss) (negative s.var ∷ []) i.0) in
        let k : positive s.var ≡ negative s.var = cc in
        let apart : true ≡ false = ap (λ (l : Literal). l.positive) k in
        cc
not_passed {T} (s ∷ ss) ls (inr (inr p)) = not_passed ss (half s.var s.left ∷ ls) (subst (IsPassed ss) (append_assoc (path ss) (half s.var s.left ∷ []) ls) p)

-- and before the next place are those before this one, and those from this one on
passed-behind : {T : Type 0} (d : T) (ss ts : List (Split T)) (R : List Literal) → behind d ss ≡ Some ts → IsPassed ss R ⊎ (rest : List Literal) × (R ≡ path ss ++ rest) → IsPassed ts R
passed-behind d [] ts R e h = absurd (cc)
passed-behind {T} d (s ∷ ss) ts R e h = go s.left e h (λ f p. passed-behind d ss ts R f p)
  where
    go : (o : Option T) → beside d s.var o ss (behind d ss) ≡ Some ts → ((R ≡ path ss) ⊎ IsInLeft (path ss) s.var o R ⊎ IsPassed ss R) ⊎ (rest : List Literal) × (R ≡ path ss ++ half s.var o ∷ [] ++ rest)
        → (behind d ss ≡ Some ts → IsPassed ss R ⊎ (rest : List Literal) × (R ≡ path ss ++ rest) → IsPassed ts R) → IsPassed ts R
    go None e h up = subst (λ us. IsPassed us R) (let one : record { var = s.var; left = Some d } ∷ ss ≡ ts = cc in one) (elim h [
      | inl (inl a) ↦ inl a
      | inl (inr (inl i)) ↦ absurd i
      | inl (inr (inr p)) ↦ inr (inr p)
      | inr b ↦ inr (inl b)
    ])
    go (Some left) e h up = up e (elim h [
      | inl (inl a) ↦ inr ([], a ∙ sym (append-nil (path ss)))
      | inl (inr (inl i)) ↦ inr (negative s.var ∷ i.0, i.1 ∙ append_assoc (path ss) (negative s.var ∷ []) i.0)
      | inl (inr (inr p)) ↦ inl p
      | inr b ↦ inr (positive s.var ∷ b.0, b.1 ∙ append_assoc (path ss) (positive s.var ∷ []) b.0)
    ])

goes_later : {L : Type 0} (lines : L → List Line) (g h : Gathering L) (o : Outcome L) → GoesOnWith lines g o None h → (R : List Literal) → IsPassed g.at.walk R ⊎ (R ≡ path g.at.walk) → IsPassed h.at.walk R
goes_later {L} lines g h (outcome.Model values) goes R p = absurd (let e : ◌≡◌ {A = Option (Tree L)} None (Some (tree.Model values)) = goes in cc)
goes_later lines g h (outcome.Exhausted x) goes R (inl p) = rw goes.1.walk (inr (inr p))
goes_later lines g h (outcome.Exhausted x) goes R (inr e) = rw goes.1.walk (inl e)
goes_later lines g h (outcome.Refuted kept) goes R (inl p) = passed-behind tt g.at.walk h.at.walk R goes.0.0 (inl p)
goes_later lines g h (outcome.Refuted kept) goes R (inr e) = passed-behind tt g.at.walk h.at.walk R goes.0.0 (inr ([], e ∙ sym (append-nil (path g.at.walk))))

-- a reached cube is one that an assembly comes to
reached-come : {T : Type 0} (F : Formula) (plan : Plan) (ss : List (Split T)) (rs : List Solved) → IsReached F (by_plan F plan) [] ss rs → IsComeTo F plan (path ss)
reached-come F plan [] rs h = IsComeTo-root F plan
reached-come {T} F plan (s ∷ ss) rs h = go s.left h.2.is_left (reached-come F plan ss h.0 h.3)
  where
    go : (o : Option T) → IsLeftDone F (by_plan F plan) (path ss) s.var o h.1 → IsComeTo F plan (path ss) → IsComeTo F plan (path ss ++ half s.var o ∷ [])
    go None l c = IsComeTo-left F plan (path ss) s.var c h.2.splits
    go (Some t) l c = IsComeTo-right F plan (path ss) s.var l.tree c h.2.splits l.of_cube l.none

reached-in : {L : Type 0} (lines : L → List Line) (F : Formula) (plan : Plan) (rs : List Solved) (g : Gathering L) → IsWhole F plan rs → IsGathered lines F (by_plan F plan) g → (o : search.Outcome) × Contains rs (record { cube = g.at.cube; what = done o })
reached-in lines F plan rs g whole r =
    let o = IsComeTo-outcome F plan rs g.at.cube whole (rw r.below (reached-come F plan g.at.walk r.results r.reached)) in
    (o.0, outcome_in-result rs g.at.cube o.0 o.1)

-- the outcomes of the cubes that aren't before this place are still there
abbrev pub AreStillThere : {L : Type 0} → Known L → Known L → Gathering L → Type 0
AreStillThere first now g = IsBelow [] g.at × ((R : List Literal) → AreOfVariables R → ¬ (IsPassed g.at.walk R) → known_of now R ≡ known_of first R)

below-on : {L : Type 0} (lines : L → List Line) (g h : Gathering L) (o : Outcome L) → GoesOnWith lines g o None h → IsBelow [] g.at → IsBelow [] h.at
below-on {L} lines g h (outcome.Model values) goes b = absurd (let e : ◌≡◌ {A = Option (Tree L)} None (Some (tree.Model values)) = goes in cc)
below-on lines g h (outcome.Exhausted x) goes b = rw goes.1.walk (goes.1.cube ∙ ap (λ Q. false_half Q x) b)
below-on lines g h (outcome.Refuted kept) goes b = goes.0.1 [] b

pub AreStillThere-on : {L : Type 0} (lines : L → List Line) (first now later : Known L) (g h : Gathering L) (o : Outcome L) → GoesOnWith lines g o None h
    → ((R : List Literal) → AreOfVariables R → R ≢ g.at.cube → known_of later R ≡ known_of now R) → AreStillThere first now g → AreStillThere first later h
AreStillThere-on lines first now later g h o goes others still = (
  below-on lines g h o goes still.0,
  λ R named n. others R named (λ e. n (goes_later lines g h o goes R (inr (e ∙ still.0)))) ∙ still.1 R named (λ p. n (goes_later lines g h o goes R (inl p))),
)

still-here : {L : Type 0} (first now : Known L) (g : Gathering L) → AreOfVariables g.at.cube → AreStillThere first now g → known_of now g.at.cube ≡ known_of first g.at.cube
still-here first now g named still = still.1 g.at.cube named (λ p. not_passed g.at.walk [] (subst (IsPassed g.at.walk) (still.0 ∙ sym (append-nil (path g.at.walk))) p))

-- a cube that is reached is handed out
pub is_there : {L : Type 0} (lines : L → List Line) (F : Formula) (plan : Plan) (rs : List Solved) (first now : Known L) (g : Gathering L) → IsWhole F plan rs → IsGathered lines F (by_plan F plan) g → AreOfVariables g.at.cube → AreKnown lines rs first → AreStillThere first now g
    → known_of now g.at.cube ≢ None
is_there lines F plan rs first now g whole r named known still none =
    let there = reached-in lines F plan rs g whole r in
    known.missing g.at.cube there.0 named (sym (still-here first now g named still) ∙ none) there.1

-- and it is its outcome
pub is_outcome : {L : Type 0} (lines : L → List Line) (F : Formula) (plan : Plan) (rs : List Solved) (first now : Known L) (g : Gathering L) (o : Outcome L) → IsWhole F plan rs → AreOfVariables g.at.cube → AreKnown lines rs first → AreStillThere first now g
    → known_of now g.at.cube ≡ Some o → IsKnown F (by_plan F plan) g.at.cube (outcome_by lines o)
is_outcome lines F plan rs first now g o whole named known still some =
    IsKnown-Runs F plan g.at.cube (outcome_by lines o) (AreOutcomes-known lines F plan rs first whole.true_of known g.at.cube o named (sym (still-here first now g named still) ∙ some))

length-among : (rs : List Solved) (r : Solved) → Contains rs r → length r.cube ≤ sum_by (λ r. length r.cube) rs
length-among [] r h = absurd (Contains-none r h)
length-among (y ∷ rs) r h = go (Contains-cases y rs r h) (length-among rs r)
  where
    go : (y ≡ r) ⊎ Contains rs r → (Contains rs r → length r.cube ≤ sum_by (λ r. length r.cube) rs) → length r.cube ≤ sum_by (λ r. length r.cube) (y ∷ rs)
    go (inl e) more = let all = sum_by-cons (λ (r : Solved). length r.cube) y rs in let same : length y.cube ≡ length r.cube = ap (λ (x : Solved). length x.cube) e in omega arith
    go (inr there) more = let all = sum_by-cons (λ (r : Solved). length r.cube) y rs in let less = more there in omega arith

-- the way to a reached cube is no longer than all cubes of the list together
pub length-there : {L : Type 0} (lines : L → List Line) (F : Formula) (plan : Plan) (rs : List Solved) (g : Gathering L) → IsWhole F plan rs → IsGathered lines F (by_plan F plan) g → length g.at.walk < suc (sum_by (λ r. length r.cube) rs)
length-there lines F plan rs g whole r =
    let there = reached-in lines F plan rs g whole r in
    let less = length-among rs (record { cube = g.at.cube; what = done there.0 }) there.1 in
    let same = ap length r.below in
    let long = length-path g.at.walk in
    omega arith
