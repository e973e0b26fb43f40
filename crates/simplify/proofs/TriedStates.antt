-- What a try leaves of the state.
use Rattle.std.proofs.Common.{◌≡◌, ℕ, suc, zero, ◌+◌, ◌-◌, ◌<◌, ◌≤◌, nat_eq, eqb-true, eq-eqb, Bool, true, false, not, ◌&&◌, ◌||◌, inl, inr, List, [], ◌∷◌, ◌++◌, map, length, slice_index_or, slice_set, refl, ap, ap₂, sym, subst, ◌∙◌, Option, Some, None, Contains, All, arith, if◌then◌else◌}
use Rattle.std.specs.List.{list_any, flat_map}
use Rattle.std.specs.Option.{unwrap_or}
use Rattle.std.proofs.lemmas.List.{length-set}
use Rattle.theory.specs.Literals.{IsVariable, Literal, Clause, positive, negative, has, has_var, has_both_signs, without}
use Rattle.theory.specs.Truth.{value, Assignment}
use Rattle.theory.specs.Trails.{variables}
use Rattle.theory.specs.Learning.{Line}
use Rattle.theory.specs.Simplifying.{resolvent}
use Rattle.theory.proofs.literals.LiteralSets.{true_false, false_unless, has_var-has, has-append_cases, has-from_without}
use Rattle.theory.proofs.literals.Membership.{All-from, All-at, Contains-here, Contains-there, Contains-none, map-Contains, flat_map-Contains}
use Rattle.theory.proofs.simplifying.ListTests.{any-from, has-filter_of}
use Rattle.theory.proofs.searching.MappedVariables.{at-variable, length-mapped}
use Rattle.simplify.specs.Entries.{Entries, entry_at, there, passes, numbers_in, holding, weight_in, IsThere, AreSets}
use Rattle.simplify.specs.Candidates.{Waiting, weight_of}
use Rattle.simplify.specs.Resolving.{line_of, literals_of_pairs}
use Rattle.simplify.specs.Tried.{left_in, right_in, lines_in, is_worth_in, gone_in, vars_of, entries_without, line_of_gone, State, IsReady, IsRenewed, IsEliminated, waits_then, eliminated_in, left_alone, tried_in}
use Rattle.simplify.proofs.LiteralSets.{has_var-set}
use Rattle.simplify.proofs.EntryNumbers.{at_place}
use Rattle.simplify.proofs.KeptWeights.{AreWithout, weight-kept}
use Rattle.simplify.proofs.SideNumbers.{left-there, right-there}
use Rattle.simplify.proofs.GoneClauses.{literal_of_var, gone-there}
use Rattle.simplify.proofs.TouchedVariables.{any-touched}
use Rattle.simplify.proofs.RenewedCandidates.{set-at, from-values}

-- a clause that passes has its number among them
pub numbers-has : (p : Clause → Bool) (n : ℕ) (K : Entries) (i : ℕ) → i < length K → passes p (at_place K i) ≡ true → Contains (numbers_in p n K) (n + i)
numbers-has p n [] i below t = absurd (omega arith)
numbers-has p n (e ∷ K) zero below t = ap-list (sym t)
  where
    same : n + 0 ≡ n
    same = omega arith

    ap-list : true ≡ passes p e → Contains (if passes p e then n ∷ numbers_in p (n + 1) K else numbers_in p (n + 1) K) (n + 0)
    ap-list q = subst (λ b. Contains (if b then n ∷ numbers_in p (n + 1) K else numbers_in p (n + 1) K) (n + 0)) q (subst (λ k. Contains (n ∷ numbers_in p (n + 1) K) k) (sym same) (Contains-here n (numbers_in p (n + 1) K)))
numbers-has p n (e ∷ K) (suc i) below t = go (passes p e) (numbers-has p (n + 1) K i (omega arith) t)
  where
    moved : n + 1 + i ≡ n + suc i
    moved = omega arith

    go : (b : Bool) → Contains (numbers_in p (n + 1) K) (n + 1 + i) → Contains (if b then n ∷ numbers_in p (n + 1) K else numbers_in p (n + 1) K) (n + suc i)
    go true more = Contains-there n (numbers_in p (n + 1) K) (n + suc i) (subst (Contains (numbers_in p (n + 1) K)) moved more)
    go false more = subst (Contains (numbers_in p (n + 1) K)) moved more

module _ (x : ℕ) (K : Entries) where
  -- a clause with a literal of x is one that goes
  is-gone : (n : ℕ) (l : Literal) → l.var ≡ x → IsThere K n → has (there K n) l ≡ true → Contains (gone_in x K) n
  is-gone n l v h t =
      let low = h.0 in
      let high = h.1 in
      let place : 1 + (n - 1) ≡ n = omega arith in
      subst (Contains (gone_in x K)) place (numbers-has (λ c. has_var c x) 1 K (n - 1) (omega arith) (go (entry_at K n) t))
    where
      go : (o : Option Clause) → has (unwrap_or o []) l ≡ true → passes (λ c. has_var c x) o ≡ true
      go None q = absurd (cc)
      go (Some c) q = subst (λ y. has_var c y ≡ true) v (has_var-has c l q)

  -- what lacks a variable that none of them has
  lacks : ℕ → Type 0
  lacks y = list_any (λ n. has_var (there K n) y) (gone_in x K) ≡ false

  gone-lacks : (y : ℕ) → list_any (λ n. has_var (there K n) y) (gone_in x K) ≡ false → (n : ℕ) → Contains (gone_in x K) n → has_var (there K n) y ≡ false
  gone-lacks y none n c = false_unless (has_var (there K n) y) (λ t. true_false (list_any (λ n. has_var (there K n) y) (gone_in x K)) (any-from (λ n. has_var (there K n) y) (gone_in x K) n c t) none)

  line-lacks : (y i j : ℕ) → list_any (λ n. has_var (there K n) y) (gone_in x K) ≡ false → Contains (left_in x K) i → Contains (right_in x K) j → has_var (line_of x K i j).clause y ≡ false
  line-lacks y i j none a b =
      has_var-set (resolvent (positive x) (there K i) (there K j)) y ∙ false_unless (has_var (resolvent (positive x) (there K i) (there K j)) y) (λ t. clash (literal_of_var (resolvent (positive x) (there K i) (there K j)) y t))
    where
      left : IsThere K i × (has (there K i) (positive x) ≡ true)
      left = All-at (λ n. IsThere K n × (has (there K n) (positive x) ≡ true)) (left_in x K) i (left-there x K) a

      right : IsThere K j × (has (there K j) (negative x) ≡ true)
      right = All-at (λ n. IsThere K n × (has (there K n) (negative x) ≡ true)) (right_in x K) j (right-there x K) b

      clash : (l : Literal) × (has (resolvent (positive x) (there K i) (there K j)) l ≡ true) × (l.var ≡ y) → ⊥
      clash it = elim (has-append_cases (without (there K i) (positive x)) (without (there K j) (negative x)) it.0 it.1) [
        | inl p ↦ true_false (has_var (there K i) y) (subst (λ v. has_var (there K i) v ≡ true) it.2 (has_var-has (there K i) it.0 (has-from_without (there K i) (positive x) it.0 p).0)) (gone-lacks y none i (is-gone i (positive x) refl left.0 left.1))
        | inr q ↦ true_false (has_var (there K j) y) (subst (λ v. has_var (there K j) v ≡ true) it.2 (has_var-has (there K j) it.0 (has-from_without (there K j) (negative x) it.0 q).0)) (gone-lacks y none j (is-gone j (negative x) refl right.0 right.1))
      ]

  come-lack : (y : ℕ) → list_any (λ n. has_var (there K n) y) (gone_in x K) ≡ false → (line : Line) → Contains (lines_in x K) line → has_var line.clause y ≡ false
  come-lack y none line c =
      let it = has-filter_of (λ (l : Line). not (has_both_signs l.clause)) (flat_map (λ i. map (line_of x K i) (right_in x K)) (left_in x K)) line c in
      let one = flat_map-Contains (λ i. map (line_of x K i) (right_in x K)) (left_in x K) line it.0 in
      let two = map-Contains (line_of x K one.0) (right_in x K) line one.2 in
      ap (λ (l : Line). has_var l.clause y) (sym two.2) ∙ line-lacks y one.0 two.0 none one.1 two.1

  without-it : (y : ℕ) → list_any (λ n. has_var (there K n) y) (gone_in x K) ≡ false → AreWithout K (lines_in x K) (gone_in x K) y
  without-it y none = record {
    come = All-from (λ (l : Line). has_var l.clause y ≡ false) (lines_in x K) (come-lack y none);
    within = All-from (λ n. (1 ≤ n) × (n ≤ length K)) (gone_in x K) (λ n c. let h = All-at (IsThere K) (gone_in x K) n (gone-there x K) c in (h.0, h.1));
    go = All-from (λ n. has_var (there K n) y ≡ false) (gone_in x K) (gone-lacks y none);
  }

nat_eq-sym : (m n : ℕ) → nat_eq m n ≡ nat_eq n m
nat_eq-sym m n = go (nat_eq m n) refl (nat_eq n m) refl
  where
    go : (a : Bool) → nat_eq m n ≡ a → (b : Bool) → nat_eq n m ≡ b → nat_eq m n ≡ nat_eq n m
    go true e true f = e ∙ sym f
    go false e false f = e ∙ sym f
    go true e false f = absurd (let same = eqb-true m n e in let t : nat_eq n m ≡ true = eq-eqb n m (sym same) in cc)
    go false e true f = absurd (let same = eqb-true n m f in let t : nat_eq m n ≡ true = eq-eqb m n (sym same) in cc)

module _ (x : ℕ) (a : State) (ready : IsReady a) (var : IsVariable a.vars x) where
  weight-was : (v : ℕ) → IsVariable a.vars v → weight_of a.waiting.weights v ≡ weight_in a.entries v
  weight-was v w = ap (λ (W : List ℕ). weight_of W v) ready.weights ∙ at-variable (weight_in a.entries) a.vars v 0 w

  -- the variable waits no more
  left-waits : (M : Assignment) → length M ≡ a.vars → ((v : ℕ) → IsVariable a.vars v → value M v ≡ (value a.waiting.waits v || (is_worth_in x a.entries && list_any (λ n. has_var (there a.entries n) v) (gone_in x a.entries))))
      → slice_set M (x - 1) false ≡ map (waits_then x a) (variables a.vars)
  left-waits M long h = from-values (waits_then x a) a.vars (slice_set M (x - 1) false) false (length-set M (x - 1) false ∙ long) at
    where
      at : (v : ℕ) → IsVariable a.vars v → slice_index_or (slice_set M (x - 1) false) (v - 1) false ≡ waits_then x a v
      at v w = set-at M x v false false (subst (λ n. IsVariable n x) (sym long) var) w.0 ∙ (ap (λ b. if b then false else value M v) (nat_eq-sym v x) ∙ go (nat_eq x v))
        where
          go : (b : Bool) → (if b then false else value M v) ≡ (not b && (value a.waiting.waits v || (is_worth_in x a.entries && list_any (λ n. has_var (there a.entries n) v) (gone_in x a.entries))))
          go true = refl
          go false = h v w

  pub left-state : (w : ℕ) → is_worth_in x a.entries ≡ false → w ≡ literals_of_pairs a.entries (left_in x a.entries) (right_in x a.entries)
      → record a { waiting = record a.waiting { waits = slice_set a.waiting.waits (x - 1) false }; work = a.work + w } ≡ tried_in x a
  left-state w worth e =
      ap₂ (λ (q : Waiting) (k : ℕ). record a { waiting = q; work = a.work + k }) (λ i. record { weights = ready.weights i; waits = waits_are i }) e
      ∙ ap (λ b. if b then eliminated_in x a else left_alone x a) (sym worth)
    where
      waits_are : slice_set a.waiting.waits (x - 1) false ≡ map (waits_then x a) (variables a.vars)
      waits_are = left-waits a.waiting.waits ready.waits (λ v w. go v (value a.waiting.waits v) ∙ ap (λ b. value a.waiting.waits v || (b && list_any (λ n. has_var (there a.entries n) v) (gone_in x a.entries))) (sym worth))
        where
          go : (v : ℕ) (b : Bool) → b ≡ (b || false)
          go v true = refl
          go v false = refl

  pub eliminated-state : (w : ℕ) (q : Waiting) → is_worth_in x a.entries ≡ true → w ≡ literals_of_pairs a.entries (left_in x a.entries) (right_in x a.entries)
      → IsRenewed a.vars (entries_without x a.entries) (vars_of a.entries (gone_in x a.entries)) a.waiting q
      → record a {
        entries = entries_without x a.entries;
        waiting = record q { waits = slice_set q.waits (x - 1) false };
        lines = a.lines ++ lines_in x a.entries ++ line_of_gone (gone_in x a.entries);
        eliminated = a.eliminated ++ record { var = x; clauses = map (there a.entries) (holding (positive x) a.entries) } ∷ [];
        work = a.work + w;
      } ≡ tried_in x a
  eliminated-state w q worth e h =
      ap₂ (λ (p : Waiting) (k : ℕ). record a {
        entries = entries_without x a.entries;
        waiting = p;
        lines = a.lines ++ lines_in x a.entries ++ line_of_gone (gone_in x a.entries);
        eliminated = a.eliminated ++ record { var = x; clauses = map (there a.entries) (holding (positive x) a.entries) } ∷ [];
        work = a.work + k;
      }) (λ i. record { weights = weights_are i; waits = waits_are i }) e
      ∙ ap (λ b. if b then eliminated_in x a else left_alone x a) (sym worth)
    where
      touched : (v : ℕ) → list_any (nat_eq v) (vars_of a.entries (gone_in x a.entries)) ≡ list_any (λ n. has_var (there a.entries n) v) (gone_in x a.entries)
      touched v = any-touched a.entries (gone_in x a.entries) v

      waits_are : slice_set q.waits (x - 1) false ≡ map (waits_then x a) (variables a.vars)
      waits_are = left-waits q.waits h.waits_long (λ v w. h.waits v w ∙ (ap (λ b. value a.waiting.waits v || b) (touched v) ∙ ap (λ b. value a.waiting.waits v || (b && list_any (λ n. has_var (there a.entries n) v) (gone_in x a.entries))) (sym worth)))

      weights_are : q.weights ≡ map (weight_in (entries_without x a.entries)) (variables a.vars)
      weights_are = from-values (weight_in (entries_without x a.entries)) a.vars q.weights 0 h.weights_long
          (λ v w. h.weights v w ∙ (ap (λ b. if b then weight_in (entries_without x a.entries) v else weight_of a.waiting.weights v) (touched v) ∙ go v w (list_any (λ n. has_var (there a.entries n) v) (gone_in x a.entries)) refl))
        where
          go : (v : ℕ) → IsVariable a.vars v → (b : Bool) → list_any (λ n. has_var (there a.entries n) v) (gone_in x a.entries) ≡ b → (if b then weight_in (entries_without x a.entries) v else weight_of a.waiting.weights v) ≡ weight_in (entries_without x a.entries) v
          go v w true f = refl
          go v w false f = weight-was v w ∙ sym (weight-kept a.entries (lines_in x a.entries) (gone_in x a.entries) v (without-it x a.entries v f))

-- x waits no more
abbrev pub left_by : ℕ → State → State
left_by x a = record a { waiting = record a.waiting { waits = slice_set a.waiting.waits (x - 1) false } }

-- the work of a try is counted
abbrev pub worked : ℕ → State → State
worked x a = record a { work = a.work + literals_of_pairs a.entries (left_in x a.entries) (right_in x a.entries) }

pub tried-left : (x : ℕ) (a b e : State) → IsReady a → IsVariable a.vars x → b ≡ worked x a → is_worth_in x b.entries ≡ false → e ≡ left_by x b → e ≡ tried_in x a
tried-left x a b e ready var found worth left =
    left ∙ (ap (left_by x) found ∙ left-state x a ready var (literals_of_pairs a.entries (left_in x a.entries) (right_in x a.entries)) (sym (ap (λ (s : State). is_worth_in x s.entries) found) ∙ worth) refl)

pub tried-eliminated : (x : ℕ) (a b d e : State) → IsReady a → IsVariable a.vars x → b ≡ worked x a → is_worth_in x b.entries ≡ true → IsEliminated x b d → e ≡ left_by x d → e ≡ tried_in x a
tried-eliminated x a b d e ready var found worth gone left =
    left ∙ (ap (left_by x) same ∙ eliminated-state x a ready var (literals_of_pairs a.entries (left_in x a.entries) (right_in x a.entries)) d.waiting
    (sym (ap (λ (s : State). is_worth_in x s.entries) found) ∙ worth) refl h.waiting)
  where
    h : IsEliminated x (worked x a) d
    h = subst (λ s. IsEliminated x s d) found gone

    same : d ≡ record a {
      entries = entries_without x a.entries;
      waiting = d.waiting;
      lines = a.lines ++ lines_in x a.entries ++ line_of_gone (gone_in x a.entries);
      eliminated = a.eliminated ++ record { var = x; clauses = map (there a.entries) (holding (positive x) a.entries) } ∷ [];
      work = a.work + literals_of_pairs a.entries (left_in x a.entries) (right_in x a.entries);
    }
    same = λ i. record { vars = h.vars i; entries = h.entries i; waiting = d.waiting; lines = h.lines i; eliminated = h.eliminated i; work = h.work i }

pub ready-long : (a : State) → IsReady a → (length a.waiting.waits ≡ a.vars) × (length a.waiting.weights ≡ a.vars)
ready-long a ready = (ready.waits, ap (λ (W : List ℕ). length W) ready.weights ∙ length-mapped (weight_in a.entries) a.vars)

-- the variables of the clauses that go
pub touched-within : (V x : ℕ) (K : Entries) → AreSets V K → All (IsVariable V) (vars_of K (gone_in x K))
touched-within V x K sets = All-from (IsVariable V) (vars_of K (gone_in x K)) (λ v c. at v c)
  where
    over : (n : ℕ) (o : Option Clause) → entry_at K n ≡ o → All (λ (l : Literal). IsVariable V l.var) (unwrap_or o [])
    over n None e = All-from (λ (l : Literal). IsVariable V l.var) [] (λ l c. absurd (Contains-none l c))
    over n (Some c) e = (sets n c e).over

    at : (v : ℕ) → Contains (vars_of K (gone_in x K)) v → IsVariable V v
    at v c =
        let one = flat_map-Contains (λ n. map (λ (l : Literal). l.var) (there K n)) (gone_in x K) v c in
        let l = map-Contains (λ (l : Literal). l.var) (there K one.0) v one.2 in
        subst (IsVariable V) l.2 (All-at (λ (l : Literal). IsVariable V l.var) (there K one.0) l.0 (over one.0 (entry_at K one.0) refl) l.1)
