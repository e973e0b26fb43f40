-- Carrying a half on, over the crate's own types.
use Rattle.std.proofs.Common.{◌≡◌, ℕ, ◌+◌, ◌<◌, Bool, true, false, List, [], ◌∷◌, ◌++◌, length, refl, sym, ap, ap₂, ◌∙◌, subst, append_assoc, append-nil, arith}
use Rattle.std.proofs.lemmas.List.Elements.{All-push}
use Rattle.theory.specs.Literals.{Literal, IsCube}
use Rattle.theory.specs.Truth.{Formula, IsOver}
use Rattle.theory.specs.Plans.{Plan}
use Rattle.theory.specs.Search as search
use Rattle.theory.specs.Runs.{Runs}
use Rattle.theory.specs.Trees.{false_half}
use Rattle.theory.specs.Places.{place_of}
use Rattle.theory.specs.Results as results
use Rattle.theory.specs.Results.{Solved}
use Rattle.theory.specs.Ledger.{Ledger, joined, calling, offer}
use Rattle.theory.proofs.hands.Joining.{joined-empty}
use Rattle.theory.proofs.hands.RoundEnds.{only_calls}
use Rattle.cubes.specs.declared.cube_walk.CubeWalk.{CubeWalk}
use Rattle.cubes.specs.declared.hands.Ending.{Ending}
use Rattle.cubes.specs.declared.hands.Ending.TheVariants as ending
use Rattle.cubes.specs.CubeWalks.{IsBelow, Enters, GoesOn}
use Rattle.cubes.specs.Hands.{Settles, AddsCarried}
use Rattle.cubes.specs.Traversal.{path, behind}
use Rattle.cubes.proofs.Carrying.{IsFair, fair, reached-fair, carried-short, carried-whole, carried-model}
use Rattle.cubes.proofs.Walks.{by_plan, to_come, to_come-enter, to_come-behind, IsDone-refuted, IsReached, IsReached-enter, IsReached-behind, IsReached-leads, IsReached-over, IsReached-short, ComesTo}

-- while the half H is carried on: a place below it is reached, and the results since then are those
-- of the cubes before it
pub record IsCarrying (F : Formula) (plan : Plan) (H : List Literal) (w : CubeWalk) (before now : List Solved) : Type 0 where
  pub results : List results.Solved
  pub below : IsBelow H w
  pub reached : IsReached F (by_plan F plan) H w.walk results
  pub is_now : now ≡ before ++ results

module _ (F : Formula) (plan : Plan) (H : List Literal) where
  pub carrying-first : (w : CubeWalk) (s : List Solved) → w.cube ≡ H → w.walk ≡ [] → IsCarrying F plan H w s s
  carrying-first w s cube walk = record { results = []; below = rw walk (cube ∙ sym (append-nil H)); reached = rw walk refl; is_now = sym (append-nil s) }

  module _ (w : CubeWalk) (before now : List Solved) (at : IsCarrying F plan H w before now) where
    pub carrying-over : IsCube H → IsOver F.vars H → IsOver F.vars w.cube
    carrying-over cube over = IsReached-over F (by_plan F plan) H w.walk at.results w.cube at.below cube over at.reached

    pub carrying-short : IsCube H → IsOver F.vars H → length w.walk < F.vars + 1
    carrying-short cube over = let most = IsReached-short F (by_plan F plan) H w.walk at.results w.cube at.below cube over at.reached in omega arith

    -- memory ran short at a cube
    pub short-here : (ok : Bool) (l : Ledger) (after : List Solved) → ok ≡ false → after ≡ now → AddsCarried F plan ok H l l before after
    short-here ok l after o e = record {
      piece = only_calls [];
      results = at.results;
      is_new = sym (joined-empty l);
      is_after = e ∙ at.is_now;
      is_part = (refl, carried-short F plan H ok at.results o (reached-fair F plan H w.walk at.results at.reached));
    }

    -- the cube is settled, with this outcome
    module _ (e : Ending) (after : List Solved) (o : search.Outcome) (settles : Settles F plan w.cube e now after) (is : settles.outcome ≡ o) where
      abbrev last : results.Solved
      last = record { cube = H ++ path w.walk; what = results.done o }

      runs : Runs F plan (H ++ path w.walk) o
      runs = rw (is, at.below) at settles.runs

      is_after : after ≡ before ++ (at.results ++ record { cube = H ++ path w.walk; what = results.done o } ∷ [])
      is_after =
          settles.is_after ∙ ap₂ (λ r p. r ++ record { cube = w.cube; what = results.done p } ∷ []) at.is_now is
          ∙ ap (λ q. before ++ at.results ++ record { cube = q; what = results.done o } ∷ []) at.below ∙ append_assoc before at.results (last ∷ [])

      -- memory runs short behind it
      pub short-behind : (ok : Bool) (l : Ledger) → ok ≡ false → ¬ (results.IsModel (results.done o)) → AddsCarried F plan ok H l l before after
      short-behind ok l f none = record {
        piece = only_calls [];
        results = at.results ++ last ∷ [];
        is_new = sym (joined-empty l);
        is_after = is_after;
        is_part = (refl, carried-short F plan H ok (at.results ++ last ∷ []) f (All-push (IsFair F plan H) at.results last (reached-fair F plan H w.walk at.results at.reached) (fair F plan H (path w.walk) o (IsReached-leads F plan H w.walk at.results at.reached) runs none)));
      }

    -- a model was found
    pub at-model : (l new : Ledger) (place : ℕ) (after : List Solved) → Settles F plan w.cube ending.Model now after → place ≡ place_of w.cube → new ≡ joined l (calling (offer place)) → AddsCarried F plan true H l new before after
    at-model l new place after settles p e =
        let M = settles.ends.0 in record {
          piece = only_calls (offer (place_of (H ++ path w.walk)) ∷ []);
          results = at.results ++ record { cube = H ++ path w.walk; what = results.done (search.model M) } ∷ [];
          is_new = e ∙ ap (λ n. joined l (calling (offer n))) (p ∙ ap place_of at.below);
          is_after = is_after ending.Model after (search.model M) settles settles.ends.1;
          is_part = (refl, carried-model F plan H w.walk at.results M at.reached (runs ending.Model after (search.model M) settles settles.ends.1));
        }

    -- the cube is split
    pub carrying-enter : (x : ℕ) (v : CubeWalk) (after : List Solved) → Settles F plan w.cube (ending.Exhausted x) now after → Enters x w v → IsCarrying F plan H v before after
    carrying-enter x v after settles enters = record {
      results = at.results ++ record { cube = H ++ path w.walk; what = results.done (search.exhausted x) } ∷ [];
      below = rw enters.walk (enters.cube ∙ ap (λ Q. false_half Q x) at.below ∙ append_assoc H (path w.walk) _);
      reached = rw enters.walk (IsReached-enter F (by_plan F plan) H w.walk at.results x at.reached (runs (ending.Exhausted x) after (search.exhausted x) settles settles.ends.0));
      is_now = is_after (ending.Exhausted x) after (search.exhausted x) settles settles.ends.0;
    }

    pub enter-less : (n x : ℕ) (v : CubeWalk) → length w.walk < n → Enters x w v → to_come n v.walk < to_come n w.walk
    enter-less n x v short enters = rw enters.walk (to_come-enter n x w.walk short)

    -- the cube is refuted: on to the next one,
    module _ (v : CubeWalk) (after : List Solved) (settles : Settles F plan w.cube ending.Refuted now after) where
      comes : ComesTo F (by_plan F plan) H (behind tt w.walk) (at.results ++ record { cube = H ++ path w.walk; what = results.done (search.refuted settles.ends.0) } ∷ [])
      comes = IsReached-behind F (by_plan F plan) H tt w.walk at.results _ at.reached (IsDone-refuted F (by_plan F plan) (H ++ path w.walk) settles.ends.0 (runs ending.Refuted after (search.refuted settles.ends.0) settles settles.ends.1))

      pub carrying-on : GoesOn w true v → IsCarrying F plan H v before after
      carrying-on goes = record {
        results = at.results ++ record { cube = H ++ path w.walk; what = results.done (search.refuted settles.ends.0) } ∷ [];
        below = goes.1 H at.below;
        reached = subst (λ o. ComesTo F (by_plan F plan) H o (at.results ++ record { cube = H ++ path w.walk; what = results.done (search.refuted settles.ends.0) } ∷ [])) goes.0 comes;
        is_now = is_after ending.Refuted after (search.refuted settles.ends.0) settles settles.ends.1;
      }

      -- or, where none follows, all is settled
      pub carrying-ends : (l : Ledger) → GoesOn w false v → AddsCarried F plan true H l l before after
      carrying-ends l goes = record {
        piece = only_calls [];
        results = at.results ++ record { cube = H ++ path w.walk; what = results.done (search.refuted settles.ends.0) } ∷ [];
        is_new = sym (joined-empty l);
        is_after = is_after ending.Refuted after (search.refuted settles.ends.0) settles settles.ends.1;
        is_part = (refl, carried-whole F plan H _ (subst (λ o. ComesTo F (by_plan F plan) H o (at.results ++ record { cube = H ++ path w.walk; what = results.done (search.refuted settles.ends.0) } ∷ [])) goes comes));
      }

    pub next-less : (n : ℕ) (v : CubeWalk) → length w.walk < n → GoesOn w true v → to_come n v.walk < to_come n w.walk
    next-less n v short goes = to_come-behind n tt w.walk v.walk (omega arith) goes.0
