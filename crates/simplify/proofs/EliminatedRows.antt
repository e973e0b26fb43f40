-- The clauses of eliminated variables as they are kept.
use Rattle.std.proofs.Common.{◌≡◌, ℕ, zero, suc, ◌+◌, ◌-◌, ◌<◌, ◌≤◌, Bool, true, false, ◌||◌, List, [], ◌∷◌, ◌++◌, map, length, take, drop, get_or, set, slice_get, Some, unwrap_or, All, append_assoc, length-append, refl, ap, ap₂, sym, subst, ◌∙◌, arith}
use Rattle.std.specs.List.{slice_range, list_any}
use Rattle.std.proofs.lemmas.List.{length_push, get_or_default}
use Rattle.std.proofs.lemmas.List.Elements.{All-head, All-tail}
use Rattle.std.proofs.lemmas.Option.{unwrap_or-slice_get}
use Rattle.theory.specs.Literals.{Clause, IsVariable}
use Rattle.theory.specs.Truth.{Assignment, IsOver, value}
use Rattle.theory.specs.Simplifying.{Eliminated, is_needed, extended_model}
use Rattle.theory.proofs.literals.Membership.{slice_get-below, Contains-slice_get, All-at}
use Rattle.simplify.proofs.ExtendedModels.{is_without, extended-first}
use Rattle.cnf.specs.Pieces.{pieces, AreEnds, start_at}
use Rattle.cnf.proofs.Pieces.{pieces-push, pieces-at, length-pieces, AreEnds-push, start-le, end-le}
use Rattle.simplify.specs.Entries.{Entries, there, entry_at}
use Rattle.simplify.specs.Extending.{eliminated_of, AreOver}
use Rattle.simplify.proofs.PairSums.{at_place, there-is}

-- a range by its first element
module _ {X : Type 0} where
  pub place_of : (xs : List X) (i : ℕ) (x : X) → i < length xs → slice_get xs i ≡ Some x → drop i xs ≡ x ∷ drop (i + 1) xs
  place_of xs i x within h = at_place xs i x within (sym (ap (λ o. unwrap_or o x) h) ∙ unwrap_or-slice_get xs i x)

  pub range-first : (xs : List X) (i to : ℕ) (x : X) → i < to → to ≤ length xs → slice_get xs i ≡ Some x → slice_range xs i to ≡ x ∷ slice_range xs (i + 1) to
  range-first xs i to x less within h =
      let count : to - i ≡ suc (to - (i + 1)) = omega arith in
      ap₂ (λ n ys. take n ys) count (place_of xs i x (omega arith) h)

  pub any-here : (p : X → Bool) (xs : List X) (i to : ℕ) (x : X) → i < to → to ≤ length xs → slice_get xs i ≡ Some x → p x ≡ true → list_any p (slice_range xs i to) ≡ true
  any-here p xs i to x less within h t = ap (list_any p) (range-first xs i to x less within h) ∙ ap (λ b. b || list_any p (slice_range xs (i + 1) to)) t

  pub any-behind : (p : X → Bool) (xs : List X) (i to : ℕ) (x : X) → i < to → to ≤ length xs → slice_get xs i ≡ Some x → p x ≡ false → list_any p (slice_range xs (i + 1) to) ≡ list_any p (slice_range xs i to)
  any-behind p xs i to x less within h t = sym (ap (list_any p) (range-first xs i to x less within h) ∙ ap (λ b. b || list_any p (slice_range xs (i + 1) to)) t)

  pub all-here : (P : X → Type 0) (xs : List X) (i to : ℕ) (x : X) → i < to → to ≤ length xs → slice_get xs i ≡ Some x → All P (slice_range xs i to) → P x
  all-here P xs i to x less within h a = All-head P x (slice_range xs (i + 1) to) (subst (All P) (range-first xs i to x less within h) a)

  pub all-behind : (P : X → Type 0) (xs : List X) (i to : ℕ) (x : X) → i < to → to ≤ length xs → slice_get xs i ≡ Some x → All P (slice_range xs i to) → All P (slice_range xs (i + 1) to)
  all-behind P xs i to x less within h a = All-tail P x (slice_range xs (i + 1) to) (subst (All P) (range-first xs i to x less within h) a)

-- a clause more
module _ (literals longer c : Clause) (ends more_ends : List ℕ) (end : ℕ) where
  pub ends-more : AreEnds 0 ends (length literals) → longer ≡ literals ++ c → end ≡ length longer → more_ends ≡ ends ++ end ∷ [] → AreEnds 0 more_ends (length longer)
  ends-more ok is e es =
      let behind : end ≡ length literals + length c = e ∙ (ap length is ∙ length-append literals c) in
      subst (λ n. AreEnds 0 more_ends n) e (subst (λ L. AreEnds 0 L end) (sym es) (AreEnds-push 0 ends (length literals) end ok (omega arith)))

  pub clauses-more : AreEnds 0 ends (length literals) → longer ≡ literals ++ c → end ≡ length longer → more_ends ≡ ends ++ end ∷ [] → pieces 0 longer more_ends ≡ pieces 0 literals ends ++ c ∷ []
  clauses-more ok is e es =
      ap₂ (λ L M. pieces 0 L M) is es ∙ pieces-push 0 literals c ends end ok (e ∙ (ap length is ∙ length-append literals c))

-- the clause of the number at a place
pub next-there : (K : Entries) (ns : List ℕ) (k : ℕ) (c : Clause) (before after all : List Clause) → k < length ns → entry_at K (get_or ns k 0) ≡ Some c → before ++ map (there K) (drop k ns) ≡ all
    → after ≡ before ++ c ∷ [] → after ++ map (there K) (drop (k + 1) ns) ≡ all
next-there K ns k c before after all within h e is =
    let n = get_or ns k 0 in
    ap (λ cs. cs ++ map (there K) (drop (k + 1) ns)) is
    ∙ (append_assoc before (c ∷ []) (map (there K) (drop (k + 1) ns))
    ∙ (ap (λ (d : Clause). before ++ d ∷ map (there K) (drop (k + 1) ns)) (sym (there-is K n c h))
    ∙ (ap (λ ms. before ++ map (there K) ms) (sym (at_place ns k n within (get_or_default ns k 0 n within))) ∙ e)))

-- the variables with their clauses
pub length-eliminated : (xs : List ℕ) (css : List (List Clause)) → length xs ≡ length css → length (eliminated_of xs css) ≡ length xs
length-eliminated [] css h = refl
length-eliminated (x ∷ xs) [] h = absurd (omega arith)
length-eliminated (x ∷ xs) (cs ∷ css) h = let more = length-eliminated xs css (omega arith) in omega arith

pub eliminated-push : (xs : List ℕ) (css : List (List Clause)) (x : ℕ) (cs : List Clause) → length xs ≡ length css → eliminated_of (xs ++ x ∷ []) (css ++ cs ∷ []) ≡ eliminated_of xs css ++ record { var = x; clauses = cs } ∷ []
eliminated-push [] [] x cs h = refl
eliminated-push [] (ds ∷ css) x cs h = absurd (omega arith)
eliminated-push (y ∷ xs) [] x cs h = absurd (omega arith)
eliminated-push (y ∷ xs) (ds ∷ css) x cs h = ap (λ es. record { var = y; clauses = ds } ∷ es) (eliminated-push xs css x cs (omega arith))

pub eliminated-at : (xs : List ℕ) (css : List (List Clause)) (i : ℕ) (e : Eliminated) → slice_get (eliminated_of xs css) i ≡ Some e → (slice_get xs i ≡ Some e.var) × (slice_get css i ≡ Some e.clauses)
eliminated-at [] css i e h = absurd (cc)
eliminated-at (x ∷ xs) [] i e h = absurd (cc)
eliminated-at (x ∷ xs) (cs ∷ css) zero e h =
    let one : record { var = x; clauses = cs } ≡ e = cc in (ap (λ (d : Eliminated). Some d.var) one, ap (λ (d : Eliminated). Some d.clauses) one)
eliminated-at (x ∷ xs) (cs ∷ css) (suc i) e h = eliminated-at xs css i e h

-- a variable more
module _ (literals more_literals : Clause) (ends more_ends clause_ends more_clause_ends vars more_vars : List ℕ) (x end : ℕ) (cs : List Clause) where
  many : pieces 0 more_literals more_ends ≡ pieces 0 literals ends ++ cs → length more_ends ≡ length ends + length cs
  many is = sym (length-pieces 0 more_literals more_ends) ∙ (ap length is ∙ (length-append (pieces 0 literals ends) cs ∙ ap (λ n. n + length cs) (length-pieces 0 literals ends)))

  pub variable-ends : AreEnds 0 clause_ends (length ends) → pieces 0 more_literals more_ends ≡ pieces 0 literals ends ++ cs → end ≡ length more_ends → more_clause_ends ≡ clause_ends ++ end ∷ [] → AreEnds 0 more_clause_ends (length more_ends)
  variable-ends ok is e es =
      let count = many is in
      subst (λ n. AreEnds 0 more_clause_ends n) e (subst (λ L. AreEnds 0 L end) (sym es) (AreEnds-push 0 clause_ends (length ends) end ok (omega arith)))

  pub variable-beside : length vars ≡ length clause_ends → more_clause_ends ≡ clause_ends ++ end ∷ [] → more_vars ≡ vars ++ x ∷ [] → length more_vars ≡ length more_clause_ends
  variable-beside same es xs = ap length xs ∙ (length_push vars x ∙ (ap (λ n. n + 1) same ∙ (sym (length_push clause_ends end) ∙ ap length (sym es))))

  pub variable-more : (old : List Eliminated) → eliminated_of vars (pieces 0 (pieces 0 literals ends) clause_ends) ≡ old → AreEnds 0 clause_ends (length ends) → length vars ≡ length clause_ends → pieces 0 more_literals more_ends ≡ pieces 0 literals ends ++ cs
      → end ≡ length more_ends → more_clause_ends ≡ clause_ends ++ end ∷ [] → more_vars ≡ vars ++ x ∷ []
      → eliminated_of more_vars (pieces 0 (pieces 0 more_literals more_ends) more_clause_ends) ≡ old ++ record { var = x; clauses = cs } ∷ []
  variable-more old view ok same is e es xs =
      let P : List Clause = pieces 0 literals ends in
      let long = length-pieces 0 literals ends in
      let count = many is in
      ap₂ (λ L M. eliminated_of L (pieces 0 (pieces 0 more_literals more_ends) M)) xs es
      ∙ (ap (λ Q. eliminated_of (vars ++ x ∷ []) (pieces 0 Q (clause_ends ++ end ∷ []))) is
      ∙ (ap (eliminated_of (vars ++ x ∷ [])) (pieces-push 0 P cs clause_ends end (subst (AreEnds 0 clause_ends) (sym long) ok) (omega arith))
      ∙ (eliminated-push vars (pieces 0 P clause_ends) x cs (same ∙ sym (length-pieces 0 P clause_ends)) ∙ ap (λ es. es ++ record { var = x; clauses = cs } ∷ []) view)))

-- the variable at a place, and the range of its clauses
module _ (literals : Clause) (ends clause_ends vars : List ℕ) (all : List Eliminated) (place : ℕ) where
  pub count-all : eliminated_of vars (pieces 0 (pieces 0 literals ends) clause_ends) ≡ all → length vars ≡ length clause_ends → length all ≡ length vars
  count-all view same = sym (ap length view) ∙ length-eliminated vars (pieces 0 (pieces 0 literals ends) clause_ends) (same ∙ sym (length-pieces 0 (pieces 0 literals ends) clause_ends))

  pub row-at : (e : Eliminated) → eliminated_of vars (pieces 0 (pieces 0 literals ends) clause_ends) ≡ all → slice_get all place ≡ Some e → place < length clause_ends
      → (slice_get vars place ≡ Some e.var) × (slice_range (pieces 0 literals ends) (start_at 0 clause_ends place) (get_or clause_ends place 0) ≡ e.clauses)
  row-at e view h within =
      let both = eliminated-at vars (pieces 0 (pieces 0 literals ends) clause_ends) place e (ap (λ es. slice_get es place) view ∙ h) in
      let at = pieces-at 0 (pieces 0 literals ends) clause_ends place within in
      let one : slice_range (pieces 0 literals ends) (start_at 0 clause_ends place) (get_or clause_ends place 0) ≡ e.clauses = (let joined = sym at ∙ both.1 in cc) in
      (both.0, one)

  pub range-within : (from to : ℕ) → AreEnds 0 clause_ends (length ends) → place < length clause_ends → from ≡ start_at 0 clause_ends place → to ≡ get_or clause_ends place to → (from ≤ to) × (to ≤ length ends)
  range-within from to ok within f t =
      let same = get_or_default clause_ends place to 0 within in
      let low = start-le 0 clause_ends (length ends) place ok within in
      let high = end-le 0 clause_ends (length ends) place ok within in
      (omega arith, omega arith)

  range-is : (from to : ℕ) → place < length clause_ends → from ≡ start_at 0 clause_ends place → to ≡ get_or clause_ends place to
      → slice_range (pieces 0 literals ends) from to ≡ slice_range (pieces 0 literals ends) (start_at 0 clause_ends place) (get_or clause_ends place 0)
  range-is from to within f t = ap₂ (λ a b. slice_range (pieces 0 literals ends) a b) f (t ∙ get_or_default clause_ends place to 0 within)

  pub range-over : (V from to : ℕ) → eliminated_of vars (pieces 0 (pieces 0 literals ends) clause_ends) ≡ all → AreOver V all → place < length all → place < length clause_ends → from ≡ start_at 0 clause_ends place → to ≡ get_or clause_ends place to
      → All (IsOver V) (slice_range (pieces 0 literals ends) from to)
  range-over V from to view over there within f t =
      let e = slice_get-below all place there in
      let row = row-at e.0 view e.1 within in
      let mine = All-at (λ (d : Eliminated). IsVariable V d.var × All (IsOver V) d.clauses) all e.0 over (Contains-slice_get all place e.0 e.1) in
      subst (All (IsOver V)) (sym (range-is from to within f t ∙ row.1)) mine.1

  -- its value, by its clauses
  pub needed-at : (m : ℕ → Bool) (e : Eliminated) (from to x : ℕ) → eliminated_of vars (pieces 0 (pieces 0 literals ends) clause_ends) ≡ all → slice_get all place ≡ Some e → place < length clause_ends → from ≡ start_at 0 clause_ends place
      → to ≡ get_or clause_ends place to → x ≡ get_or vars place x → list_any (is_without m x) (slice_range (pieces 0 literals ends) from to) ≡ is_needed m e
  needed-at m e from to x view h within f t at =
      let row = row-at e view h within in
      let own : x ≡ e.var = at ∙ (sym (unwrap_or-slice_get vars place x) ∙ ap (λ o. unwrap_or o x) row.0) in
      ap₂ (λ y cs. list_any (is_without m y) cs) own (range-is from to within f t ∙ row.1)

  row-var : (e : Eliminated) (x : ℕ) → eliminated_of vars (pieces 0 (pieces 0 literals ends) clause_ends) ≡ all → slice_get all place ≡ Some e → place < length clause_ends → x ≡ get_or vars place x → x ≡ e.var
  row-var e x view h within at = at ∙ (sym (unwrap_or-slice_get vars place x) ∙ ap (λ o. unwrap_or o x) (row-at e view h within).0)

  pub place-variable : (V x : ℕ) → eliminated_of vars (pieces 0 (pieces 0 literals ends) clause_ends) ≡ all → AreOver V all → place < length all → place < length clause_ends → x ≡ get_or vars place x → IsVariable V x
  place-variable V x view over there within at =
      let e = slice_get-below all place there in
      let mine = All-at (λ (d : Eliminated). IsVariable V d.var × All (IsOver V) d.clauses) all e.0 over (Contains-slice_get all place e.0 e.1) in
      subst (IsVariable V) (sym (row-var e.0 x view e.1 within at)) mine.0

  -- its value is written
  pub extended-place : (V x : ℕ) (M values : Assignment) (b : Bool) → eliminated_of vars (pieces 0 (pieces 0 literals ends) clause_ends) ≡ all → AreOver V all → place < length all → place < length clause_ends → x ≡ get_or vars place x
      → values ≡ extended_model V (drop (place + 1) all) M → ((e : Eliminated) → slice_get all place ≡ Some e → b ≡ is_needed (value values) e) → set values (x - 1) b ≡ extended_model V (drop place all) M
  extended-place V x M values b view over there within at is needed =
      let e = slice_get-below all place there in
      let mine = All-at (λ (d : Eliminated). IsVariable V d.var × All (IsOver V) d.clauses) all e.0 over (Contains-slice_get all place e.0 e.1) in
      let E : Assignment = extended_model V (drop (place + 1) all) M in
      ap₂ (λ y c. set values (y - 1) c) (row-var e.0 x view e.1 within at) (needed e.0 e.1)
      ∙ (ap (λ L. set L (e.0.var - 1) (is_needed (value L) e.0)) is
      ∙ (sym (extended-first V M e.0 (drop (place + 1) all) mine.0 mine.1) ∙ ap (λ es. extended_model V es M) (sym (place_of all place e.0 there e.1))))
