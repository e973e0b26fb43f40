-- How a round ends: the cube is skipped, has a model, is refuted, or is exhausted and its halves
-- are handed on.
use Rattle.std.proofs.Common.{◌≡◌, ◌≢◌, ℕ, ◌<◌, true, false, List, [], ◌∷◌, Option, Some, All, Any, Contains, refl, arith, inl, inr, ◌⊎◌}
use Rattle.std.proofs.lemmas.List.Elements.{All-cons, All-nil}
use Rattle.theory.specs.Literals.{Literal}
use Rattle.theory.specs.Truth.{Formula, Assignment}
use Rattle.theory.specs.Plans.{Plan}
use Rattle.theory.specs.Learning.{Line}
use Rattle.theory.specs.Search.{model, refuted}
use Rattle.theory.specs.Runs.{Runs}
use Rattle.theory.specs.Trees.{IsCubeOf}
use Rattle.theory.specs.Places.{place_of}
use Rattle.theory.specs.Results.{What, done, skipped, Solved, IsTrueOf, IsModel}
use Rattle.theory.specs.Ledger.{Call, offer, look, less, halt, Ledger}
use Rattle.theory.specs.Work.{IsHalfOfGot, IsFoundedOn, IsTruthful, IsNotBelow, IsPassedOver, IsDealtWith}
use Rattle.theory.specs.Round.{with_got, IsRound}
use Rattle.theory.proofs.literals.Membership.{Contains-here, Contains-there, All-at, Any-from}
use Rattle.theory.proofs.trees.CubePlaces.{IsCubeOf-itself}

-- the ledger of a round in which nothing was put
abbrev pub only_calls : List Call → Ledger
only_calls calls = record { put = []; got = []; calls = calls }

pub All-one : {X : Type 0} (P : X → Type 0) (x : X) → P x → All P (x ∷ [])
All-one P x p = All-cons P x [] p (All-nil P)

-- A round in which nothing was put and the cube has one result.
alone-truthful : (F : Formula) (plan : Plan) (Q : List Literal) (w : What) (calls : List Call) → IsTrueOf F plan Q w → All (IsFoundedOn (record { cube = Q; what = w } ∷ [])) calls
    → IsTruthful F plan (with_got Q (only_calls calls)) (record { cube = Q; what = w } ∷ [])
alone-truthful F plan Q w calls t f = record {
  true_of = All-one (λ r. IsTrueOf F plan r.cube r.what) (record { cube = Q; what = w }) t;
  of_got = All-one (λ r. Any (λ R. IsCubeOf F plan R r.cube) (Q ∷ [])) (record { cube = Q; what = w }) (Any-from (λ R. IsCubeOf F plan R Q) (Q ∷ []) Q (Contains-here Q []) (IsCubeOf-itself F plan Q));
  halves = All-nil (IsHalfOfGot F plan (with_got Q (only_calls calls)));
  once = λ R k. omega arith;
  offers = f;
}

-- nothing was found out, as memory ran short
pub IsRound-short : (F : Formula) (plan : Plan) (Q : List Literal) (seen : Option ℕ) → IsRound F plan false Q (only_calls (look seen ∷ [])) []
IsRound-short F plan Q seen = record {
  none_got = refl;
  truthful = record {
    true_of = All-nil (λ r. IsTrueOf F plan r.cube r.what);
    of_got = All-nil (λ r. Any (λ R. IsCubeOf F plan R r.cube) (Q ∷ []));
    halves = All-nil (IsHalfOfGot F plan (with_got Q (only_calls (look seen ∷ []))));
    once = λ R k. omega arith;
    offers = All-one (IsFoundedOn []) (look seen) tt;
  };
  thorough = λ e. absurd (cc);
}

pub not-halt : (calls : List Call) → All (λ c. c ≢ halt) calls → ¬ (Contains calls halt)
not-halt calls a h = All-at (λ c. c ≢ halt) calls halt a h refl

pub IsRound-skipped : (F : Formula) (plan : Plan) (Q : List Literal) (place : ℕ) → place < place_of Q → IsRound F plan true Q (only_calls (look (Some place) ∷ less ∷ [])) (record { cube = Q; what = skipped place } ∷ [])
IsRound-skipped F plan Q place below = record {
  none_got = refl;
  truthful = alone-truthful F plan Q (skipped place) (look (Some place) ∷ less ∷ []) tt
      (All-cons (IsFoundedOn (record { cube = Q; what = skipped place } ∷ [])) (look (Some place)) (less ∷ []) tt (All-one (IsFoundedOn (record { cube = Q; what = skipped place } ∷ [])) less tt));
  thorough = λ e. record {
    each_got = All-one (λ R. IsPassedOver (with_got Q (only_calls (look (Some place) ∷ less ∷ []))) (record { cube = Q; what = skipped place } ∷ []) R ⊎ IsDealtWith F plan (with_got Q (only_calls (look (Some place) ∷ less ∷ []))) (record { cube = Q; what = skipped place } ∷ []) R) Q
        (inl (record { place = place; seen = Contains-here (look (Some place)) (less ∷ []); below = below; result = Contains-here (record { cube = Q; what = skipped place }) [] }));
    offered = All-one (λ r. IsModel r.what → Contains (look (Some place) ∷ less ∷ []) (offer (place_of r.cube))) (record { cube = Q; what = skipped place }) (λ m. absurd m);
    looks = refl;
    balance = refl;
    no_halt = not-halt (look (Some place) ∷ less ∷ []) (All-cons (λ c. c ≢ halt) (look (Some place)) (less ∷ []) (λ e. cc) (All-one (λ c. c ≢ halt) less (λ e. cc)));
  };
}

pub IsRound-refuted : (F : Formula) (plan : Plan) (Q : List Literal) (seen : Option ℕ) (lines : List Line) → IsNotBelow seen (place_of Q) → Runs F plan Q (refuted lines)
    → IsRound F plan true Q (only_calls (look seen ∷ less ∷ [])) (record { cube = Q; what = done (refuted lines) } ∷ [])
IsRound-refuted F plan Q seen lines below runs = record {
  none_got = refl;
  truthful = alone-truthful F plan Q (done (refuted lines)) (look seen ∷ less ∷ []) runs
      (All-cons (IsFoundedOn (record { cube = Q; what = done (refuted lines) } ∷ [])) (look seen) (less ∷ []) tt (All-one (IsFoundedOn (record { cube = Q; what = done (refuted lines) } ∷ [])) less tt));
  thorough = λ e. record {
    each_got = All-one (λ R. IsPassedOver (with_got Q (only_calls (look seen ∷ less ∷ []))) (record { cube = Q; what = done (refuted lines) } ∷ []) R ⊎ IsDealtWith F plan (with_got Q (only_calls (look seen ∷ less ∷ []))) (record { cube = Q; what = done (refuted lines) } ∷ []) R) Q
        (inr (record { seen = seen; looked = Contains-here (look seen) (less ∷ []); not_below = below; outcome = refuted lines; result = Contains-here (record { cube = Q; what = done (refuted lines) }) []; halves = λ k e. absurd (cc) }));
    offered = All-one (λ r. IsModel r.what → Contains (look seen ∷ less ∷ []) (offer (place_of r.cube))) (record { cube = Q; what = done (refuted lines) }) (λ m. absurd m);
    looks = refl;
    balance = refl;
    no_halt = not-halt (look seen ∷ less ∷ []) (All-cons (λ c. c ≢ halt) (look seen) (less ∷ []) (λ e. cc) (All-one (λ c. c ≢ halt) less (λ e. cc)));
  };
}

abbrev model_of : List Literal → Assignment → Solved
model_of Q M = record { cube = Q; what = done (model M) }

pub IsRound-model : (F : Formula) (plan : Plan) (Q : List Literal) (seen : Option ℕ) (M : Assignment) → IsNotBelow seen (place_of Q) → Runs F plan Q (model M)
    → IsRound F plan true Q (only_calls (look seen ∷ offer (place_of Q) ∷ less ∷ [])) (record { cube = Q; what = done (model M) } ∷ [])
IsRound-model F plan Q seen M below runs = record {
  none_got = refl;
  truthful = alone-truthful F plan Q (done (model M)) (look seen ∷ offer (place_of Q) ∷ less ∷ []) runs
      (All-cons (IsFoundedOn (model_of Q M ∷ [])) (look seen) (offer (place_of Q) ∷ less ∷ []) tt
      (All-cons (IsFoundedOn (model_of Q M ∷ [])) (offer (place_of Q)) (less ∷ []) (Any-from (λ r. IsModel r.what × (place_of r.cube ≡ place_of Q)) (model_of Q M ∷ []) (model_of Q M) (Contains-here (model_of Q M) []) (tt, refl)) (All-one (IsFoundedOn (model_of Q M ∷ [])) less tt)));
  thorough = λ e. record {
    each_got = All-one (λ R. IsPassedOver (with_got Q (only_calls (look seen ∷ offer (place_of Q) ∷ less ∷ []))) (model_of Q M ∷ []) R ⊎ IsDealtWith F plan (with_got Q (only_calls (look seen ∷ offer (place_of Q) ∷ less ∷ []))) (model_of Q M ∷ []) R) Q
        (inr (record { seen = seen; looked = Contains-here (look seen) (offer (place_of Q) ∷ less ∷ []); not_below = below; outcome = model M; result = Contains-here (model_of Q M) []; halves = λ k e. absurd (cc) }));
    offered = All-one (λ r. IsModel r.what → Contains (look seen ∷ offer (place_of Q) ∷ less ∷ []) (offer (place_of r.cube))) (model_of Q M) (λ m. Contains-there (look seen) (offer (place_of Q) ∷ less ∷ []) (offer (place_of Q)) (Contains-here (offer (place_of Q)) (less ∷ [])));
    looks = refl;
    balance = refl;
    no_halt = not-halt (look seen ∷ offer (place_of Q) ∷ less ∷ [])
        (All-cons (λ c. c ≢ halt) (look seen) (offer (place_of Q) ∷ less ∷ []) (λ e. cc) (All-cons (λ c. c ≢ halt) (offer (place_of Q)) (less ∷ []) (λ e. cc) (All-one (λ c. c ≢ halt) less (λ e. cc))));
  };
}
