-- How a round ends, over the crate's own types.
use Rattle.std.proofs.Common.{◌≡◌, ℕ, Bool, true, false, List, [], ◌∷◌, ◌++◌, Option, refl, ap, ◌∙◌}
use Rattle.theory.specs.Literals.{Literal}
use Rattle.theory.specs.Truth.{Formula}
use Rattle.theory.specs.Plans.{Plan}
use Rattle.theory.specs.Search as search
use Rattle.theory.specs.Trees.{false_half, true_half}
use Rattle.theory.specs.Places.{place_of}
use Rattle.theory.specs.Results as results
use Rattle.theory.specs.Results.{Solved}
use Rattle.theory.specs.Ledger.{Ledger, joined, calling, offer, look, less}
use Rattle.theory.specs.Work.{IsNotBelow}
use Rattle.theory.specs.Round.{IsHandOn, Adds}
use Rattle.cubes.specs.declared.hands.Ending.TheVariants as ending
use Rattle.cubes.specs.Hands.{Settles, AddsRound, AddsHalves}
use Rattle.cubes.proofs.RoundParts.{refuted-part, model-part, exhausted-part, right-short}

module _ (F : Formula) (plan : Plan) (Q : List Literal) (l0 l1 : Ledger) (s t : List Solved) (seen : Option ℕ) (looked : l1 ≡ joined l0 (calling (look seen))) where
  with_result : (o p : search.Outcome) → o ≡ p → t ≡ s ++ record { cube = Q; what = results.done o } ∷ [] → t ≡ s ++ record { cube = Q; what = results.done p } ∷ []
  with_result o p e h = h ∙ ap (λ a. s ++ record { cube = Q; what = results.done a } ∷ []) e

  pub ends-refuted : (l2 : Ledger) → IsNotBelow seen (place_of Q) → Settles F plan Q ending.Refuted s t → l2 ≡ joined l1 (calling less) → AddsRound F plan true Q l0 l2 s t
  ends-refuted l2 below settles f =
      refuted-part F plan Q l0 l1 l2 s t seen settles.ends.0 looked below (rw settles.ends.1 at settles.runs) f (with_result _ _ settles.ends.1 settles.is_after)

  pub ends-model : (l2 l3 : Ledger) (place : ℕ) → IsNotBelow seen (place_of Q) → Settles F plan Q ending.Model s t → place ≡ place_of Q → l2 ≡ joined l1 (calling (offer place)) → l3 ≡ joined l2 (calling less) → AddsRound F plan true Q l0 l3 s t
  ends-model l2 l3 place below settles p f g =
      model-part F plan Q l0 l1 l2 l3 s t seen settles.ends.0 place looked below (rw settles.ends.1 at settles.runs) p f g (with_result _ _ settles.ends.1 settles.is_after)

  module _ (x : ℕ) (settles : Settles F plan Q (ending.Exhausted x) s t) (ok : Bool) (l2 : Ledger) (u : List Solved) (halves : AddsHalves F plan ok Q x l1 l2 t u) where
    left : Adds (IsHandOn F plan halves.left_done (false_half Q x)) l1 (joined l1 halves.left_piece) t (t ++ halves.left_results)
    left = record { piece = halves.left_piece; results = halves.left_results; is_new = refl; is_after = refl; is_part = halves.left }

    right : Adds (IsHandOn F plan halves.right_done (true_half Q x)) (joined l1 halves.left_piece) l2 (t ++ halves.left_results) u
    right = record { piece = halves.right_piece; results = halves.right_results; is_new = halves.is_new; is_after = halves.is_after; is_part = halves.right }

    pub ends-exhausted : (l3 : Ledger) → IsNotBelow seen (place_of Q) → ok ≡ true → l3 ≡ joined l2 (calling less) → AddsRound F plan true Q l0 l3 s u
    ends-exhausted l3 below o g =
        exhausted-part F plan Q (false_half Q x) (true_half Q x) x l0 l1 (joined l1 halves.left_piece) l2 l3 s t (t ++ halves.left_results) u seen
        halves.left_done halves.right_done (halves.both_done o).0 (halves.both_done o).1 looked below (rw settles.ends.0 at settles.runs) refl refl (with_result _ _ settles.ends.0 settles.is_after) left right g

    pub ends-short : (done : Bool) → done ≡ false → AddsRound F plan done Q l0 l2 s u
    ends-short done o =
        right-short F plan Q (false_half Q x) (true_half Q x) x l0 l1 (joined l1 halves.left_piece) l2 s t (t ++ halves.left_results) u seen
        halves.left_done halves.right_done done o looked (rw settles.ends.0 at settles.runs) refl refl (with_result _ _ settles.ends.0 settles.is_after) left right
