-- Cubes that wait by breadth.
use Rattle.std.specs.Prelude.{nat_lt}
use Rattle.std.proofs.Common.{◌≡◌, ℕ, suc, ◌+◌, get_or, ◌≤◌, ◌<◌, Bool, true, false, cond, List, [], ◌∷◌, ◌++◌, All, length, refl, arith, sym, ap, subst, ◌∙◌, append_assoc}
use Rattle.std.proofs.lemmas.List.Elements.{All-nil, All-cons, All-push, All-same, All-head, All-tail, All-weaker, All-append}
use Rattle.std.proofs.lemmas.List.{append-nil, length-append}
use Rattle.theory.specs.Literals.{Literal, positive, negative}
use Rattle.theory.specs.Truth.{Formula, Assignment}
use Rattle.theory.specs.Learning.{Line}
use Rattle.theory.specs.Plans.{Plan}
use Rattle.theory.specs.Search.{Outcome, model, refuted, exhausted}
use Rattle.theory.specs.Trees.{false_half, true_half}
use Rattle.theory.specs.Runs.{Runs}
use Rattle.theory.specs.Beginnings.{begun_by}
use Rattle.packs.specs.declared.fact.Claim.{Claim}
use Rattle.packs.specs.declared.fact.Claim.TheVariants.{Split, Refuted, Model}
use Rattle.packs.specs.declared.fact.Fact.{Fact}
use Rattle.gathering.specs.Facts.{claim_of, IsTrueFact}
use Rattle.spread.specs.Dividing.{Divides, begins, goes_on, IsBreadth, from_longer, before_longer, longer_first}

-- the root waits alone
pub root-waits : (F : Formula) (plan : Plan) → IsBreadth F plan [] ([] ∷ []) false
root-waits F plan = record {
  count = 0;
  first = [] ∷ [];
  behind = [];
  waits = refl;
  short = All-cons (λ (Q : List Literal). length Q ≡ 0) [] [] refl (All-nil (λ (Q : List Literal). length Q ≡ 0));
  long = All-nil (λ (Q : List Literal). length Q ≡ 1);
  divides = begins;
}

-- the first one that waits, with those left and those right of it
pub record IsNext (F : Formula) (plan : Plan) (facts : List Fact) (Q : List Literal) (rest : List (List Literal)) (has_model : Bool) : Type 0 where
  pub low : List (List Literal)
  pub high : List (List Literal)
  pub rest_is : rest ≡ high ++ low
  pub short : All (λ P. length P ≡ length Q) high
  pub long : All (λ P. length P ≡ suc (length Q)) low
  pub divides : Divides F plan facts (low ++ Q ∷ high) has_model

module _ (F : Formula) (plan : Plan) (facts : List Fact) (Q : List Literal) (rest : List (List Literal)) (has_model : Bool) where
  first-next : (count : ℕ) (first behind : List (List Literal)) → Q ∷ rest ≡ first ++ behind → All (λ P. length P ≡ count) first → All (λ P. length P ≡ suc count) behind
      → Divides F plan facts (behind ++ first) has_model → IsNext F plan facts Q rest has_model
  first-next count [] [] e short long d = absurd (cc)
  first-next count [] (P ∷ behind) e short long d =
      let same : Q ≡ P = cc in
      let others : rest ≡ behind = cc in
      let n : length Q ≡ suc count = ap length same ∙ All-head (λ (P : List Literal). length P ≡ suc count) P behind long in
      record {
        low = [];
        high = rest;
        rest_is = sym (append-nil rest);
        short = All-same (λ (P : List Literal). length P ≡ length Q) rest behind others (subst (λ (k : ℕ). All (λ (P : List Literal). length P ≡ k) behind) (sym n) (All-tail (λ (P : List Literal). length P ≡ suc count) P behind long));
        long = All-nil (λ (P : List Literal). length P ≡ suc (length Q));
        divides = subst (λ (Qs : List (List Literal)). Divides F plan facts Qs has_model) (append-nil (P ∷ behind) ∙ sym e) d;
      }
  first-next count (P ∷ first) behind e short long d =
      let same : Q ≡ P = cc in
      let others : rest ≡ first ++ behind = cc in
      let n : length Q ≡ count = ap length same ∙ All-head (λ (P : List Literal). length P ≡ count) P first short in
      record {
        low = behind;
        high = first;
        rest_is = others;
        short = subst (λ (k : ℕ). All (λ (P : List Literal). length P ≡ k) first) (sym n) (All-tail (λ (P : List Literal). length P ≡ count) P first short);
        long = subst (λ (k : ℕ). All (λ (P : List Literal). length P ≡ suc k) behind) (sym n) long;
        divides = subst (λ (R : List Literal). Divides F plan facts (behind ++ R ∷ first) has_model) (sym same) d;
      }

  pub next : (queue : List (List Literal)) → queue ≡ Q ∷ rest → IsBreadth F plan facts queue has_model → IsNext F plan facts Q rest has_model
  next queue e b = first-next b.count b.first b.behind (sym e ∙ b.waits) b.short b.long b.divides

-- whether a cube is longer
is-not-longer : (count n : ℕ) → n ≤ count → nat_lt count n ≡ false
is-not-longer count n h = grind arith

is-longer : (count n : ℕ) → count < n → nat_lt count n ≡ true
is-longer count n h = grind arith

if-not : {A : Type 0} (b : Bool) (x y : A) → b ≡ false → cond b x y ≡ y
if-not b x y e = ap (λ (c : Bool). cond c x y) e

if-so : {A : Type 0} (b : Bool) (x y : A) → b ≡ true → cond b x y ≡ x
if-so b x y e = ap (λ (c : Bool). cond c x y) e

-- what is longer lies behind what isn't
module _ (count : ℕ) where
  pub from-short : (xs ys : List (List Literal)) → All (λ Q. length Q ≤ count) xs → from_longer count (xs ++ ys) ≡ from_longer count ys
  from-short [] ys h = refl
  from-short (Q ∷ xs) ys h =
      if-not (nat_lt count (length Q)) (Q ∷ (xs ++ ys)) (from_longer count (xs ++ ys)) (is-not-longer count (length Q) (All-head (λ (Q : List Literal). length Q ≤ count) Q xs h))
      ∙ from-short xs ys (All-tail (λ (Q : List Literal). length Q ≤ count) Q xs h)

  pub before-short : (xs ys : List (List Literal)) → All (λ Q. length Q ≤ count) xs → before_longer count (xs ++ ys) ≡ xs ++ before_longer count ys
  before-short [] ys h = refl
  before-short (Q ∷ xs) ys h =
      if-not (nat_lt count (length Q)) [] (Q ∷ before_longer count (xs ++ ys)) (is-not-longer count (length Q) (All-head (λ (Q : List Literal). length Q ≤ count) Q xs h))
      ∙ ap (λ (Qs : List (List Literal)). Q ∷ Qs) (before-short xs ys (All-tail (λ (Q : List Literal). length Q ≤ count) Q xs h))

  pub from-long : (xs : List (List Literal)) → All (λ Q. length Q ≡ suc count) xs → from_longer count xs ≡ xs
  from-long [] h = refl
  from-long (Q ∷ xs) h =
      let n : length Q ≡ suc count = All-head (λ (Q : List Literal). length Q ≡ suc count) Q xs h in
      if-so (nat_lt count (length Q)) (Q ∷ xs) (from_longer count xs) (is-longer count (length Q) (omega arith))

  pub before-long : (xs : List (List Literal)) → All (λ Q. length Q ≡ suc count) xs → before_longer count xs ≡ []
  before-long [] h = refl
  before-long (Q ∷ xs) h =
      let n : length Q ≡ suc count = All-head (λ (Q : List Literal). length Q ≡ suc count) Q xs h in
      if-so (nat_lt count (length Q)) [] (Q ∷ before_longer count xs) (is-longer count (length Q) (omega arith))

  not-above : (xs : List (List Literal)) → All (λ Q. length Q ≡ count) xs → All (λ Q. length Q ≤ count) xs
  not-above xs h = All-weaker (λ (Q : List Literal). length Q ≡ count) (λ (Q : List Literal). length Q ≤ count) (λ Q e. omega arith) xs h

  pub from-both : (xs ys : List (List Literal)) → All (λ Q. length Q ≡ count) xs → All (λ Q. length Q ≡ suc count) ys → from_longer count (xs ++ ys) ≡ ys
  from-both xs ys h k = from-short xs ys (not-above xs h) ∙ from-long ys k

  pub before-both : (xs ys : List (List Literal)) → All (λ Q. length Q ≡ count) xs → All (λ Q. length Q ≡ suc count) ys → before_longer count (xs ++ ys) ≡ xs
  before-both xs ys h k = before-short xs ys (not-above xs h) ∙ (ap (λ (Qs : List (List Literal)). xs ++ Qs) (before-long ys k) ∙ append-nil xs)

-- put in order, the cubes that wait are those that are open, from left to right
sorted-first : (count : ℕ) (first behind : List (List Literal)) → All (λ Q. length Q ≡ count) first → All (λ Q. length Q ≡ suc count) behind → longer_first (first ++ behind) ≡ behind ++ first
sorted-first count [] [] short long = refl
sorted-first count [] (Q ∷ behind) short long =
    let n : length Q ≡ suc count = All-head (λ (Q : List Literal). length Q ≡ suc count) Q behind long in
    let same : All (λ P. length P ≡ length Q) (Q ∷ behind) = subst (λ (k : ℕ). All (λ (P : List Literal). length P ≡ k) (Q ∷ behind)) (sym n) long in
    let none : All (λ P. length P ≡ suc (length Q)) [] = All-nil (λ (P : List Literal). length P ≡ suc (length Q)) in
    let all : (Q ∷ behind) ++ [] ≡ Q ∷ behind = append-nil (Q ∷ behind) in
    let from : from_longer (length Q) (Q ∷ behind) ≡ [] = subst (λ (Qs : List (List Literal)). from_longer (length Q) Qs ≡ []) all (from-both (length Q) (Q ∷ behind) [] same none) in
    let before : before_longer (length Q) (Q ∷ behind) ≡ Q ∷ behind = subst (λ (Qs : List (List Literal)). before_longer (length Q) Qs ≡ Q ∷ behind) all (before-both (length Q) (Q ∷ behind) [] same none) in
    (ap (λ (Qs : List (List Literal)). Qs ++ before_longer (length Q) (Q ∷ behind)) from ∙ before) ∙ sym all
sorted-first count (Q ∷ first) behind short long =
    let n : length Q ≡ count = All-head (λ (Q : List Literal). length Q ≡ count) Q first short in
    let same : All (λ P. length P ≡ length Q) (Q ∷ first) = subst (λ (k : ℕ). All (λ (P : List Literal). length P ≡ k) (Q ∷ first)) (sym n) short in
    let more : All (λ P. length P ≡ suc (length Q)) behind = subst (λ (k : ℕ). All (λ (P : List Literal). length P ≡ suc k) behind) (sym n) long in
    ap (λ (Qs : List (List Literal)). Qs ++ before_longer (length Q) (Q ∷ (first ++ behind))) (from-both (length Q) (Q ∷ first) behind same more)
    ∙ ap (λ (Qs : List (List Literal)). behind ++ Qs) (before-both (length Q) (Q ∷ first) behind same more)

pub sorted : (F : Formula) (plan : Plan) (facts : List Fact) (queue ordered : List (List Literal)) (has_model : Bool) → IsBreadth F plan facts queue has_model → ordered ≡ longer_first queue → Divides F plan facts ordered has_model
sorted F plan facts queue ordered has_model b e =
    subst (λ (Qs : List (List Literal)). Divides F plan facts Qs has_model) (sym (e ∙ (ap longer_first b.waits ∙ sorted-first b.count b.first b.behind b.short b.long))) b.divides

-- what the first one's outcome leaves
module _ (F : Formula) (plan : Plan) (facts new : List Fact) (Q : List Literal) (rest queue : List (List Literal)) (known : Bool) (h : IsNext F plan facts Q rest known) where
  pub refuted-waits : (lines : List Line) → Runs (begun_by plan.search F) plan Q (refuted lines) → new ≡ facts ++ record { cube = Q; claim = claim_of (refuted lines) } ∷ [] → queue ≡ rest → IsBreadth F plan new queue known
  refuted-waits lines runs e same = record {
    count = length Q;
    first = h.high;
    behind = h.low;
    waits = same ∙ h.rest_is;
    short = h.short;
    long = h.long;
    divides = subst (λ (fs : List Fact). Divides F plan fs (h.low ++ h.high) known) (sym e) (goes_on h.low h.high Q (refuted lines) h.divides refl runs);
  }

  pub model-waits : (M : Assignment) → Runs (begun_by plan.search F) plan Q (model M) → new ≡ facts ++ record { cube = Q; claim = claim_of (model M) } ∷ [] → queue ≡ from_longer (length Q) rest → IsBreadth F plan new queue true
  model-waits M runs e same = record {
    count = length Q;
    first = [];
    behind = h.low;
    waits = same ∙ (ap (from_longer (length Q)) h.rest_is ∙ from-both (length Q) h.high h.low h.short h.long);
    short = All-nil (λ (P : List Literal). length P ≡ length Q);
    long = h.long;
    divides = subst (λ (Qs : List (List Literal)). Divides F plan new Qs true) (sym (append-nil h.low))
        (subst (λ (fs : List Fact). Divides F plan fs h.low true) (sym e) (goes_on h.low h.high Q (model M) h.divides refl runs));
  }

  pub split-waits : (x : ℕ) → Runs (begun_by plan.search F) plan Q (exhausted x) → new ≡ facts ++ record { cube = Q; claim = claim_of (exhausted x) } ∷ [] → queue ≡ (rest ++ false_half Q x ∷ []) ++ true_half Q x ∷ [] → IsBreadth F plan new queue known
  split-waits x runs e same =
      let low = false_half Q x in
      let high = true_half Q x in
      let longer : (l : Literal) → length (Q ++ l ∷ []) ≡ suc (length Q) = λ l. length-append Q (l ∷ []) ∙ omega arith in
      record {
        count = length Q;
        first = h.high;
        behind = (h.low ++ low ∷ []) ++ high ∷ [];
        waits = same ∙ (ap (λ (Qs : List (List Literal)). (Qs ++ low ∷ []) ++ high ∷ []) h.rest_is ∙ (ap (λ (Qs : List (List Literal)). Qs ++ high ∷ []) (append_assoc h.high h.low (low ∷ [])) ∙ append_assoc h.high (h.low ++ low ∷ []) (high ∷ [])));
        short = h.short;
        long = All-push (λ (P : List Literal). length P ≡ suc (length Q)) (h.low ++ low ∷ []) high (All-push (λ (P : List Literal). length P ≡ suc (length Q)) h.low low h.long (longer (negative x))) (longer (positive x));
        divides = subst (λ (Qs : List (List Literal)). Divides F plan new Qs known) (sym (append_assoc (h.low ++ low ∷ []) (high ∷ []) h.high ∙ append_assoc h.low (low ∷ []) (high ∷ h.high)))
            (subst (λ (fs : List Fact). Divides F plan fs (h.low ++ low ∷ high ∷ h.high) known) (sym e) (goes_on h.low h.high Q (exhausted x) h.divides refl runs));
      }

-- a cube that is longer ends the others
pub at-longer : (count : ℕ) (xs rest : List (List Literal)) (Q : List Literal) → All (λ P. length P ≤ count) xs → count < length Q → from_longer count (xs ++ Q ∷ rest) ≡ Q ∷ rest
at-longer count xs rest Q h l = from-short count xs (Q ∷ rest) h ∙ if-so (nat_lt count (length Q)) (Q ∷ rest) (from_longer count rest) (is-longer count (length Q) l)

pub up-to-longer : (count : ℕ) (xs rest : List (List Literal)) (Q : List Literal) → All (λ P. length P ≤ count) xs → count < length Q → before_longer count (xs ++ Q ∷ rest) ≡ xs
up-to-longer count xs rest Q h l =
    before-short count xs (Q ∷ rest) h ∙ (ap (λ (Qs : List (List Literal)). xs ++ Qs) (if-so (nat_lt count (length Q)) [] (Q ∷ before_longer count rest) (is-longer count (length Q) l)) ∙ append-nil xs)

-- where no cube is longer
pub none-longer : (count : ℕ) (xs : List (List Literal)) → All (λ P. length P ≤ count) xs → from_longer count xs ≡ []
none-longer count xs h = subst (λ (Qs : List (List Literal)). from_longer count Qs ≡ []) (append-nil xs) (from-short count xs [] h)

-- one more is gone
pub gone-on : {A : Type 0} (xs gone left rest : List A) (x : A) → xs ≡ gone ++ left → left ≡ x ∷ rest → xs ≡ (gone ++ x ∷ []) ++ rest
gone-on xs gone left rest x e h = e ∙ (ap (λ ys. gone ++ ys) h ∙ sym (append_assoc gone (x ∷ []) rest))

-- no cube is left where all are gone
pub nothing-left : {A : Type 0} (xs : List A) (n : ℕ) → n ≡ length xs → n ≡ 0 → xs ≡ []
nothing-left [] n e z = refl
nothing-left (x ∷ xs) n e z = absurd (omega arith)

pub nothing-behind : {A : Type 0} (xs moved rest : List A) → xs ≡ moved ++ rest → length xs ≤ length moved → rest ≡ []
nothing-behind xs moved [] e h = refl
nothing-behind xs moved (y ∷ rest) e h = let n : length xs ≡ length moved + suc (length rest) = ap length e ∙ length-append moved (y ∷ rest) in absurd (omega arith)

-- the first one says how long a longer one is
pub by-first : (xs : List (List Literal)) (Q : List Literal) → Q ≡ get_or xs 0 Q → longer_first xs ≡ from_longer (length Q) xs ++ before_longer (length Q) xs
by-first [] Q e = refl
by-first (P ∷ xs) Q e = subst (λ (R : List Literal). longer_first (P ∷ xs) ≡ from_longer (length R) (P ∷ xs) ++ before_longer (length R) (P ∷ xs)) (sym e) refl

-- some of the cubes that wait, none of them longer, came behind the others
pub record IsTurned (count : ℕ) (old queue : List (List Literal)) (moves : ℕ) : Type 0 where
  pub moved : List (List Literal)
  pub rest : List (List Literal)
  pub were : old ≡ moved ++ rest
  pub waits : queue ≡ rest ++ moved
  pub short : All (λ Q. length Q ≤ count) moved
  pub moves_are : length moved ≡ moves

module _ (count : ℕ) (old : List (List Literal)) where
  -- all came
  pub all-turned : (queue : List (List Literal)) (moves : ℕ) → IsTurned count old queue moves → length old ≤ moves → queue ≡ from_longer count old ++ before_longer count old
  all-turned queue moves t h =
      let m : length t.moved ≡ moves = t.moves_are in
      let none : t.rest ≡ [] = nothing-behind old t.moved t.rest t.were (omega arith) in
      let same : old ≡ t.moved ++ [] = t.were ∙ ap (λ (Qs : List (List Literal)). t.moved ++ Qs) none in
      let from : from_longer count old ≡ [] = ap (from_longer count) same ∙ from-short count t.moved [] t.short in
      let before : before_longer count old ≡ t.moved ++ [] = ap (before_longer count) same ∙ before-short count t.moved [] t.short in
      (t.waits ∙ ap (λ (Qs : List (List Literal)). Qs ++ t.moved) none)
      ∙ sym (ap (λ (Qs : List (List Literal)). Qs ++ before_longer count old) from ∙ (before ∙ append-nil t.moved))

  module _ (Q : List Literal) (popped : List (List Literal)) where
    -- or the next one is longer
    stopped-at : (moved rest : List (List Literal)) → old ≡ moved ++ rest → Q ∷ popped ≡ rest ++ moved → All (λ P. length P ≤ count) moved → count < length Q → Q ∷ popped ≡ from_longer count old ++ before_longer count old
    stopped-at [] [] e h short longer = absurd (cc)
    stopped-at (P ∷ moved) [] e h short longer =
        let same : Q ≡ P = cc in
        let n : length P ≤ count = All-head (λ (P : List Literal). length P ≤ count) P moved short in
        let m : length Q ≡ length P = ap length same in
        absurd (omega arith)
    stopped-at moved (R ∷ rest) e h short longer =
        let same : R ≡ Q = cc in
        let all : old ≡ moved ++ Q ∷ rest = e ∙ ap (λ (P : List Literal). moved ++ P ∷ rest) same in
        let others : popped ≡ rest ++ moved = cc in
        let from : from_longer count old ≡ Q ∷ rest = ap (from_longer count) all ∙ at-longer count moved rest Q short longer in
        let before : before_longer count old ≡ moved = ap (before_longer count) all ∙ up-to-longer count moved rest Q short longer in
        ap (λ (Qs : List (List Literal)). Q ∷ Qs) others ∙ sym (ap (λ (Qs : List (List Literal)). Qs ++ before_longer count old) from ∙ ap (λ (Qs : List (List Literal)). (Q ∷ rest) ++ Qs) before)

    pub stopped-turned : (queue : List (List Literal)) (moves : ℕ) → IsTurned count old queue moves → queue ≡ Q ∷ popped → count < length Q → Q ∷ popped ≡ from_longer count old ++ before_longer count old
    stopped-turned queue moves t e longer = stopped-at t.moved t.rest t.were (sym e ∙ t.waits) t.short longer

    -- one more comes
    turned-on : (new : List (List Literal)) (moves : ℕ) (moved rest : List (List Literal)) → old ≡ moved ++ rest → Q ∷ popped ≡ rest ++ moved → All (λ P. length P ≤ count) moved → length moved ≡ moves → moves < length old
        → length Q ≤ count → new ≡ popped ++ Q ∷ [] → IsTurned count old new (moves + 1)
    turned-on new moves moved [] e h short n less here same = let m : length old ≡ length moved + 0 = ap length e ∙ length-append moved [] in absurd (omega arith)
    turned-on new moves moved (R ∷ rest) e h short n less here same =
        let first : R ≡ Q = cc in
        let others : popped ≡ rest ++ moved = cc in
        record {
          moved = moved ++ Q ∷ [];
          rest = rest;
          were = e ∙ (ap (λ (P : List Literal). moved ++ P ∷ rest) first ∙ sym (append_assoc moved (Q ∷ []) rest));
          waits = same ∙ (ap (λ (Qs : List (List Literal)). Qs ++ Q ∷ []) others ∙ append_assoc rest moved (Q ∷ []));
          short = All-push (λ (P : List Literal). length P ≤ count) moved Q short here;
          moves_are = length-append moved (Q ∷ []) ∙ omega arith;
        }

    pub one-turned : (queue new : List (List Literal)) (moves : ℕ) → IsTurned count old queue moves → queue ≡ Q ∷ popped → moves < length old → length Q ≤ count → new ≡ popped ++ Q ∷ [] → IsTurned count old new (moves + 1)
    one-turned queue new moves t e less here same = turned-on new moves t.moved t.rest t.were (sym e ∙ t.waits) t.short t.moves_are less here same

of-either : (P : List Literal → Type 0) (b : Bool) (xs ys : List (List Literal)) → All P xs → All P ys → All P (cond b xs ys)
of-either P true xs ys h k = h
of-either P false xs ys h k = k

-- what holds of cubes holds of them in another order
module _ (P : List Literal → Type 0) (count : ℕ) where
  pub from-cubes : (xs : List (List Literal)) → All P xs → All P (from_longer count xs)
  from-cubes [] h = h
  from-cubes (Q ∷ xs) h = of-either P (nat_lt count (length Q)) (Q ∷ xs) (from_longer count xs) h (from-cubes xs (All-tail P Q xs h))

  before-cubes : (xs : List (List Literal)) → All P xs → All P (before_longer count xs)
  before-cubes [] h = h
  before-cubes (Q ∷ xs) h =
      of-either P (nat_lt count (length Q)) [] (Q ∷ before_longer count xs) (All-nil P) (All-cons P Q (before_longer count xs) (All-head P Q xs h) (before-cubes xs (All-tail P Q xs h)))

pub longer-cubes : (P : List Literal → Type 0) (xs : List (List Literal)) → All P xs → All P (longer_first xs)
longer-cubes P [] h = h
longer-cubes P (Q ∷ xs) h = All-append P (from_longer (length Q) (Q ∷ xs)) (before_longer (length Q) (Q ∷ xs)) (from-cubes P (length Q) (Q ∷ xs) h) (before-cubes P (length Q) (Q ∷ xs) h)

-- what waits once what is said of the first one is taken up
module _ (F : Formula) (plan : Plan) (before : List Fact) (f : Fact) (rest queue : List (List Literal)) (known : Bool) (b : IsBreadth F plan before (f.cube ∷ rest) known) (true-fact : IsTrueFact F plan f) where
  first : IsNext F plan before f.cube rest known
  first = next F plan before f.cube rest known (f.cube ∷ rest) refl b

  abbrev pub after : List Fact
  after = before ++ f ∷ []

  said : (o : Outcome) → f.claim ≡ claim_of o → after ≡ before ++ record { cube = f.cube; claim = claim_of o } ∷ []
  said o says = ap (λ (c : Claim). before ++ record { cube = f.cube; claim = c } ∷ []) says

  pub refuted-fact : (lines : List Line) → f.claim ≡ Refuted lines → queue ≡ rest → IsBreadth F plan after queue known
  refuted-fact lines is e = go true-fact.outcome true-fact.runs true-fact.says
    where
      go : (o : Outcome) → Runs (begun_by plan.search F) plan f.cube o → f.claim ≡ claim_of o → IsBreadth F plan after queue known
      go (model M) runs says = absurd (cc)
      go (refuted ls) runs says = refuted-waits F plan before after f.cube rest queue known first ls runs (said (refuted ls) says) e
      go (exhausted x) runs says = absurd (cc)

  pub model-fact : f.claim ≡ Model → queue ≡ from_longer (length f.cube) rest → IsBreadth F plan after queue true
  model-fact is e = go true-fact.outcome true-fact.runs true-fact.says
    where
      go : (o : Outcome) → Runs (begun_by plan.search F) plan f.cube o → f.claim ≡ claim_of o → IsBreadth F plan after queue true
      go (model M) runs says = model-waits F plan before after f.cube rest queue known first M runs (said (model M) says) e
      go (refuted ls) runs says = absurd (cc)
      go (exhausted x) runs says = absurd (cc)

  pub split-fact : (x : ℕ) → f.claim ≡ Split x → queue ≡ (rest ++ false_half f.cube x ∷ []) ++ true_half f.cube x ∷ [] → IsBreadth F plan after queue known
  split-fact x is e = go true-fact.outcome true-fact.runs true-fact.says
    where
      go : (o : Outcome) → Runs (begun_by plan.search F) plan f.cube o → f.claim ≡ claim_of o → IsBreadth F plan after queue known
      go (model M) runs says = absurd (cc)
      go (refuted ls) runs says = absurd (cc)
      go (exhausted y) runs says =
          let same : y ≡ x = cc in
          split-waits F plan before after f.cube rest queue known first y runs (said (exhausted y) says)
          (subst (λ z. queue ≡ (rest ++ false_half f.cube z ∷ []) ++ true_half f.cube z ∷ []) (sym same) e)
