-- Hands that came home: what they did from the empty ledgers on, and that they are the pool's.
use Rattle.std.proofs.Common.{◌≡◌, ℕ, zero, suc, ◌<◌, Bool, List, [], ◌∷◌, map, length, Some, slice_get, slice_index_or, All, refl, sym, ap, ◌∙◌, subst, zero-le, arith}
use Rattle.std.proofs.lemmas.List.{length-map}
use Rattle.std.proofs.lemmas.List.Elements.{All-nil}
use Rattle.theory.specs.Truth.{Formula}
use Rattle.theory.specs.Plans.{Plan}
use Rattle.theory.specs.Results as results
use Rattle.theory.specs.Ledger.{Ledger, all_got, joined, halt}
use Rattle.theory.specs.Work.{IsHalfOfGot, IsFoundedOn, IsTruthful, IsThorough, IsWork}
use Rattle.theory.specs.Round.{HasWorked}
use Rattle.theory.proofs.literals.Membership.{Contains-none, slice_get-map, slice_get-below}
use Rattle.theory.proofs.hands.Joining.{IsTruthful-joined, IsThorough-joined}
use Rattle.pool.specs.Hands.{HandView, SameHand}
use Rattle.pool.specs.Pools.{PoolView, AreNew, AreAllOf, IsHandOf, new_ledger, new_hand, roots_of}
use Rattle.theory.specs.Learning.{Line}
use Rattle.cubes.specs.declared.hands.Worked.{Worked}
use Rattle.cubes.specs.Solved.{results_by}
use Rattle.cubes.specs.Shares.{HasDone, HaveDone}

none-got : (n : ℕ) → all_got (new_ledger n) ≡ []
none-got zero = refl
none-got (suc n) = none-got n

truthful : (F : Formula) (plan : Plan) (n : ℕ) → IsTruthful F plan (new_ledger n) []
truthful F plan n = record {
  true_of = All-nil _;
  of_got = All-nil _;
  halves = All-nil (IsHalfOfGot F plan (new_ledger n));
  once = λ Q k. zero-le;
  offers = All-nil (IsFoundedOn []);
}

thorough : (F : Formula) (plan : Plan) (n : ℕ) → IsThorough F plan (new_ledger n) []
thorough F plan n = record {
  each_got = rw (none-got n) (All-nil _);
  offered = All-nil _;
  looks = rw (none-got n) refl;
  balance = rw (none-got n) refl;
  no_halt = Contains-none halt;
}

-- work from the ledger with which the pool was opened
pub fresh-work : (F : Formula) (plan : Plan) (n : ℕ) (short_of_memory : Bool) (first last : Ledger) (s : List results.Solved) → first ≡ new_ledger n → HasWorked F plan short_of_memory first last s → IsWork F plan short_of_memory last s
fresh-work F plan n short_of_memory first last s e h =
    subst (λ l. IsWork F plan short_of_memory l s) (sym (h.is_last ∙ ap (λ l. joined l h.added) e)) (record {
      truthful = IsTruthful-joined F plan (new_ledger n) h.added [] s (truthful F plan n) h.work.truthful;
      thorough = λ o. IsThorough-joined F plan (new_ledger n) h.added [] s (thorough F plan n) (h.work.thorough o);
      went_home = h.work.went_home;
    })

get-some : {X : Type 0} (xs : List X) (k : ℕ) (x : X) → slice_get xs k ≡ Some x → (k < length xs) × ((d : X) → slice_index_or xs k d ≡ x)
get-some [] k x h = absurd (cc)
get-some (y ∷ xs) zero x h = (omega arith, λ d. let e : y ≡ x = cc in e)
get-some (y ∷ xs) (suc k) x h = let more = get-some xs k x h in let less = more.0 in (omega arith, more.1)

get-mapped : {A X : Type 0} (f : A → X) (xs : List A) (k : ℕ) (x : A) → slice_get xs k ≡ Some x → slice_get (map f xs) k ≡ Some (f x)
get-mapped f [] k x h = absurd (cc)
get-mapped f (y ∷ xs) zero x h = let e : y ≡ x = cc in ap (λ a. Some (f a)) e
get-mapped f (y ∷ xs) (suc k) x h = get-mapped f xs k x h

-- new hands are over the pool's variables
pub new-vars : (vars : ℕ) (pool : PoolView) (hands : List HandView) → AreNew pool vars hands → All (λ h. h.vars ≡ vars) hands
new-vars vars pool hands new k d less =
    let there = slice_get-below hands k less in
    ap (λ (h : HandView). h.vars) ((get-some hands k there.0 there.1).1 d ∙ new.each k there.0 there.1)

-- where refuted cubes keep what has these lines
module _ {L : Type 0} (lines : L → List Line) (F : Formula) (plan : Plan) (pool : PoolView) (hands : List HandView) (works : List (Worked L)) (new : AreNew pool F.vars hands) (long : length works ≡ length hands) (each : HaveDone lines F plan hands works) where
  -- the hand at a place did its work, from what it was as the pool was opened
  at_place : (place : ℕ) (d : HandView) (e : Worked L) → place < length works → (slice_index_or hands place d ≡ new_hand pool F.vars new.deques place) × HasDone lines F plan (slice_index_or hands place d) (slice_index_or works place e)
  at_place place d e less =
      let within : place < length hands = omega arith in
      let there = slice_get-below hands place within in
      ((get-some hands place there.0 there.1).1 d ∙ new.each place there.0 there.1, each place d e within)

  at_work : (place : ℕ) (w : Worked L) → slice_get works place ≡ Some w → SameHand (new_hand pool F.vars new.deques place) w.hand
  at_work place w h =
      let here = get-some works place w h in
      let at = at_place place w.hand w here.0 in
      subst (λ v. SameHand (new_hand pool F.vars new.deques place) v.hand) (here.1 w) (subst (λ g. SameHand g (slice_index_or works place w).hand) at.0 at.1.0)

  pub home-all : AreAllOf pool (map (λ (w : Worked L). w.hand) works)
  home-all = record {
    deques = new.deques;
    of_pool = λ place h e. of place h (slice_get-map (λ (w : Worked L). w.hand) works place h e);
    as_many = length-map works (λ (w : Worked L). w.hand) ∙ (long ∙ new.as_many);
    each_number = λ number less. named number (slice_get-below works number (let many = new.as_many in omega arith));
  }
    where
      of : (place : ℕ) (h : HandView) → (w : Worked L) × (slice_get works place ≡ Some w) × (w.hand ≡ h) → IsHandOf pool new.deques h
      of place h w =
          let same = at_work place w.0 w.1 in
          subst (IsHandOf pool new.deques) w.2 (same.1, same.4, same.3, same.5 ∙ ap (roots_of pool.root) (sym same.0))

      named : (number : ℕ) → (w : Worked L) × (slice_get works number ≡ Some w)
          → (place : ℕ) × (h : HandView) × (slice_get (map (λ (v : Worked L). v.hand) works) place ≡ Some h) × (h.number ≡ number)
      named number w = (number, w.0.hand, get-mapped (λ (v : Worked L). v.hand) works number w.0 w.1, (at_work number w.0 w.1).0)

  pub home-works : All (λ w. IsWork F plan w.short_of_memory w.hand.ledger (results_by lines w.solved.items)) works
  home-works k d less =
      let at = at_place k (slice_index_or works k d).hand d less in
      fresh-work F plan pool.hands (slice_index_or works k d).short_of_memory (slice_index_or hands k (slice_index_or works k d).hand).ledger (slice_index_or works k d).hand.ledger
      (results_by lines (slice_index_or works k d).solved.items) (ap (λ (h : HandView). h.ledger) at.0) at.1.1
