-- What a hand's work adds to the ledger of a new hand is all of its ledger.
use Rattle.std.proofs.Common.{◌≡◌, ℕ, zero, suc, ◌+◌, ◌≤◌, Bool, List, [], ◌∷◌, ◌++◌, length, replicate, flat_map, All, Any, Contains, count_by, ◌⊎◌, inl, inr, Some, refl, sym, ap, ap₂, ◌∙◌, subst}
use Rattle.std.proofs.lemmas.List.Elements.{All-weaker}
use Rattle.theory.specs.Literals.{Literal}
use Rattle.theory.specs.Truth.{Formula}
use Rattle.theory.specs.Plans.{Plan}
use Rattle.theory.specs.Trees.{IsCubeOf}
use Rattle.theory.specs.Places.{place_of}
use Rattle.theory.specs.Results.{Solved, IsModel}
use Rattle.theory.specs.Ledger.{offer, look, halt, Ledger, all_got, both, times, is_more, is_less, is_look}
use Rattle.theory.specs.Work.{IsHalfOfGot, IsFoundedOn, IsTruthful, IsPassedOver, IsHandedOn, IsDealtWith, IsThorough, WentHome, IsWork}

-- two ledgers with the same cubes put and got, and the same calls
module _ (F : Formula) (plan : Plan) (l m : Ledger) (results : List Solved) (put : m.put ≡ l.put) (got : all_got m ≡ all_got l) (calls : m.calls ≡ l.calls) where
  half_same : (Q : List Literal) → IsHalfOfGot F plan l Q → IsHalfOfGot F plan m Q
  half_same Q h = record { parent = h.parent; literal = h.literal; is_half = h.is_half; is_got = subst (λ g. Contains g h.parent) (sym got) h.is_got; is_exhausted = h.is_exhausted }

  truthful_same : IsTruthful F plan l results → IsTruthful F plan m results
  truthful_same h = record {
    true_of = h.true_of;
    of_got = subst (λ g. All (λ r. Any (λ R. IsCubeOf F plan R r.cube) g) results) (sym got) h.of_got;
    halves = subst (λ p. All (IsHalfOfGot F plan m) p) (sym put) (All-weaker (IsHalfOfGot F plan l) (IsHalfOfGot F plan m) half_same l.put h.halves);
    once = λ Q k. subst (λ p. times (Q ++ k ∷ []) p ≤ times Q (all_got m)) (sym put) (subst (λ g. times (Q ++ k ∷ []) l.put ≤ times Q g) (sym got) (h.once Q k));
    offers = subst (λ c. All (IsFoundedOn results) c) (sym calls) h.offers;
  }

  passed_same : (Q : List Literal) → IsPassedOver l results Q → IsPassedOver m results Q
  passed_same Q h = record { place = h.place; seen = subst (λ c. Contains c (look (Some h.place))) (sym calls) h.seen; below = h.below; result = h.result }

  handed_same : (Q : List Literal) → IsHandedOn F plan l results Q → IsHandedOn F plan m results Q
  handed_same Q (inl c) = inl (subst (λ p. Contains p Q) (sym put) c)
  handed_same Q (inr f) = inr f

  dealt_same : (Q : List Literal) → IsDealtWith F plan l results Q → IsDealtWith F plan m results Q
  dealt_same Q h = record {
    seen = h.seen;
    looked = subst (λ c. Contains c (look h.seen)) (sym calls) h.looked;
    not_below = h.not_below;
    outcome = h.outcome;
    result = h.result;
    halves = λ k e. handed_same (Q ++ k ∷ []) (h.halves k e);
  }

  each_same : (Q : List Literal) → IsPassedOver l results Q ⊎ IsDealtWith F plan l results Q → IsPassedOver m results Q ⊎ IsDealtWith F plan m results Q
  each_same Q (inl h) = inl (passed_same Q h)
  each_same Q (inr h) = inr (dealt_same Q h)

  thorough_same : IsThorough F plan l results → IsThorough F plan m results
  thorough_same h = record {
    each_got = subst (λ g. All (λ Q. IsPassedOver m results Q ⊎ IsDealtWith F plan m results Q) g) (sym got)
        (All-weaker (λ Q. IsPassedOver l results Q ⊎ IsDealtWith F plan l results Q) (λ Q. IsPassedOver m results Q ⊎ IsDealtWith F plan m results Q) each_same (all_got l) h.each_got);
    offered = subst (λ c. All (λ r. IsModel r.what → Contains c (offer (place_of r.cube))) results) (sym calls) h.offered;
    looks = ap (count_by is_look) calls ∙ h.looks ∙ sym (ap length got);
    balance = ap₂ (λ c g. count_by is_more c + length g) calls got ∙ h.balance ∙ sym (ap₂ (λ c p. count_by is_less c + length p) calls put);
    no_halt = λ c. h.no_halt (subst (λ d. Contains d halt) calls c);
  }

  pub work_same : (is_short : Bool) → IsWork F plan is_short l results → IsWork F plan is_short m results
  work_same is_short h = record {
    truthful = truthful_same h.truthful;
    thorough = λ e. thorough_same (h.thorough e);
    went_home = λ e. subst WentHome (sym calls) (h.went_home e);
  }

none_got : (n : ℕ) → flat_map {X = List (List Literal)} (λ cubes. cubes) (replicate n []) ≡ []
none_got zero = refl
none_got (suc n) = none_got n

got_none : (n : ℕ) (got : List (List (List Literal))) → flat_map (λ cubes. cubes) (both (replicate n []) got) ≡ flat_map (λ cubes. cubes) got
got_none zero got = refl
got_none (suc n) [] = none_got n
got_none (suc n) (cubes ∷ got) = ap (λ g. cubes ++ g) (got_none n got)
