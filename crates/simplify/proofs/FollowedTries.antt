-- The state that follows the definition follows it after a try.
use Rattle.std.proofs.Common.{◌≡◌, ℕ, ◌+◌, ◌-◌, ◌<◌, ◌≤◌, nat_eq, eqb-true, Bool, true, false, not, ◌&&◌, ◌||◌, List, [], ◌∷◌, ◌++◌, map, length, refl, ap, ap₂, sym, subst, ◌∙◌, inl, inr, Contains, All, Option, Some, None, slice_get, arith, if◌then◌else◌}
use Rattle.std.specs.List.{list_any}
use Rattle.std.specs.Option.{unwrap_or, option_map}
use Rattle.std.proofs.lemmas.List.{append_assoc}
use Rattle.std.proofs.lemmas.List.Elements.{All-nil, All-push}
use Rattle.theory.specs.Literals.{IsVariable, Literal, Clause, positive, has_var}
use Rattle.theory.specs.Truth.{Formula, IsOver, value}
use Rattle.theory.specs.Trails.{variables}
use Rattle.theory.specs.Learning.{Line}
use Rattle.theory.specs.Checking.{clause_of}
use Rattle.theory.specs.Deletions.{is_among, without_numbers}
use Rattle.theory.specs.Simplifying.{Simplified, Eliminated, Change, adds, eliminates, unsimplified, changed, changed_by, simplified, having, extended}
use Rattle.theory.specs.Eliminating.{clause_there, gone_with, resolvent_lines, elimination, IsTidy}
use Rattle.theory.specs.Trying.{Trial, is_worth, changes_of, looked_at, is_touched, tried}
use Rattle.theory.proofs.literals.Membership.{All-from, Contains-here, Contains-there, map-Contains, slice_get-map}
use Rattle.theory.proofs.literals.LiteralLemmas.{true_or_false}
use Rattle.theory.proofs.checker.FewerClauses.{clause_of-without_numbers, clause_of-gone}
use Rattle.theory.proofs.simplifying.Eliminations.{changed_by-append, elimination-tidy}
use Rattle.theory.proofs.simplifying.Elimination.{extended-push}
use Rattle.theory.proofs.simplifying.Simplifications.{clause_of-there}
use Rattle.theory.specs.Proofs.{numbers_from}
use Rattle.theory.proofs.simplifying.NumberedClauses.{has-numbers_of}
use Rattle.simplify.specs.Entries.{Entries, set, entry_at, there, holding, weight_in}
use Rattle.simplify.specs.Stored.{stored, entry_in}
use Rattle.simplify.specs.Extending.{AreOver}
use Rattle.simplify.specs.Resolving.{literals_of_pairs}
use Rattle.simplify.specs.Tried.{left_in, right_in, lines_in, is_worth_in, gone_in, entries_without, line_of_gone, State, waits_then, eliminated_in, left_alone, tried_in}
use Rattle.simplify.specs.Following.{lines_of, AreHinted, IsOf, Follows}
use Rattle.simplify.proofs.LiteralSets.{has_var-set, IsOver-set}
use Rattle.simplify.proofs.EntryNumbers.{map-alike, there-stored}
use Rattle.simplify.proofs.EntryViews.{gone-stored}
use Rattle.simplify.proofs.SideViews.{work-stored, worth-stored}
use Rattle.simplify.proofs.TriedChanges.{stored-elimination, resolvent-set, lines_of-append, lines_of-elimination, AreHinted-append, hinted-elimination, needed-elimination}

-- the clauses that are kept are over the variables
entry-over : (V : ℕ) (s : Simplified) (n : ℕ) (c : Clause) → IsTidy V s → entry_at (stored s) n ≡ Some c → IsOver V c
entry-over V s n c tidy e =
    let k = slice_get-map (entry_in s) (numbers_from 1 s.last) (n - 1) (Some c) (found (slice_get (stored s) (n - 1)) e) in
    go k.0 (clause_of s.clauses k.0) refl k.2
  where
    found : (o : Option (Option Clause)) → unwrap_or o None ≡ Some c → o ≡ Some (Some c)
    found None i = absurd (cc)
    found (Some d) i = ap (λ x. Some x) i

    go : (m : ℕ) (o : Option Clause) → clause_of s.clauses m ≡ o → option_map set o ≡ Some c → IsOver V c
    go m None f i = absurd (cc)
    go m (Some d) f i =
        let same : set d ≡ c = cc in
        subst (IsOver V) same (IsOver-set V d (tidy.over (m, d) (clause_of-there s.clauses m d f)))

-- where the clauses come from
IsOf-added : (F : Formula) (s : Simplified) (line : Line) → set line.clause ≡ line.clause → IsOf F s → IsOf F (changed s (adds line))
IsOf-added F s line is_set h = record {
  longer = let l = h.longer in omega arith;
  old = λ n c e low. old_at n c (nat_eq (s.last + 1) n) refl e low;
  new = λ n c e high. new_at n c (nat_eq (s.last + 1) n) e high;
}
  where
    old_at : (n : ℕ) (c : Clause) (b : Bool) → nat_eq (s.last + 1) n ≡ b → (if b then Some line.clause else clause_of s.clauses n) ≡ Some c → n ≤ length F.clauses → slice_get F.clauses (n - 1) ≡ Some c
    old_at n c true i e low = absurd (let same = eqb-true (s.last + 1) n i in let l = h.longer in omega arith)
    old_at n c false i e low = h.old n c e low

    new_at : (n : ℕ) (c : Clause) (b : Bool) → (if b then Some line.clause else clause_of s.clauses n) ≡ Some c → length F.clauses < n → set c ≡ c
    new_at n c true e high = let same : line.clause ≡ c = cc in subst (λ (d : Clause). set d ≡ d) same is_set
    new_at n c false e high = h.new n c e high

IsOf-lines : (F : Formula) (s : Simplified) (ls : List Line) → ((l : Line) → Contains ls l → set l.clause ≡ l.clause) → IsOf F s → IsOf F (changed_by s (map adds ls))
IsOf-lines F s [] sets h = h
IsOf-lines F s (l ∷ ls) sets h = IsOf-lines F (changed s (adds l)) ls (λ k c. sets k (Contains-there l ls k c)) (IsOf-added F s l (sets l (Contains-here l ls)) h)

pub IsOf-dropped : (F : Formula) (s t : Simplified) (ns : List ℕ) → t.clauses ≡ without_numbers s.clauses ns → t.last ≡ s.last → IsOf F s → IsOf F t
IsOf-dropped F s t ns e f h = record {
  longer = let l = h.longer in omega arith;
  old = λ n c i low. h.old n c (was n c (sym (ap (λ K. clause_of K n) e) ∙ i)) low;
  new = λ n c i high. h.new n c (was n c (sym (ap (λ K. clause_of K n) e) ∙ i)) high;
}
  where
    was : (n : ℕ) (c : Clause) → clause_of (without_numbers s.clauses ns) n ≡ Some c → clause_of s.clauses n ≡ Some c
    was n c i = elim (true_or_false (is_among n ns)) [
      | inl t ↦ absurd (let gone = clause_of-gone s.clauses ns n t in cc)
      | inr f ↦ sym (clause_of-without_numbers s.clauses ns n f) ∙ i
    ]

eliminated-added : (s : Simplified) (ls : List Line) → (changed_by s (map adds ls)).eliminated ≡ s.eliminated
eliminated-added s [] = refl
eliminated-added s (l ∷ ls) = eliminated-added (changed s (adds l)) ls

any-alike : (p q : ℕ → Bool) (ns : List ℕ) → ((n : ℕ) → Contains ns n → p n ≡ q n) → list_any p ns ≡ list_any q ns
any-alike p q [] h = refl
any-alike p q (n ∷ ns) h = ap₂ (λ a b. a || b) (h n (Contains-here n ns)) (any-alike p q ns (λ m c. h m (Contains-there n ns m c)))

module _ (F : Formula) (cs : List Change) (t : Trial) (a : State) (x : ℕ) (var : IsVariable F.vars x) (h : Follows F cs t a) where
  worth-same : is_worth_in x a.entries ≡ is_worth x t.state
  worth-same = ap (is_worth_in x) h.entries ∙ worth-stored t.state x h.tidy.numbered

  touched-same : (y : ℕ) → (is_worth_in x a.entries && list_any (λ n. has_var (there a.entries n) y) (gone_in x a.entries)) ≡ is_touched x t.state y
  touched-same y =
      ap₂ (λ (b : Bool) (K : Entries). b && list_any (λ n. has_var (there K n) y) (gone_in x K)) worth-same h.entries
      ∙ (ap (λ ns. is_worth x t.state && list_any (λ n. has_var (there (stored t.state) n) y) ns) (gone-stored t.state x)
      ∙ ap (λ b. is_worth x t.state && b) (any-alike (λ n. has_var (there (stored t.state) n) y) (λ n. has_var (clause_there t.state n) y) (gone_with x t.state) at))
    where
      at : (n : ℕ) → Contains (gone_with x t.state) n → has_var (there (stored t.state) n) y ≡ has_var (clause_there t.state n) y
      at n c = let it = has-numbers_of (λ d. has_var d x) t.state n c in ap (λ (d : Clause). has_var d y) (there-stored t.state n it.0 it.1) ∙ has_var-set (clause_there t.state n) y

  waits-same : map (waits_then x a) (variables a.vars) ≡ (tried F.vars x t).waiting
  waits-same =
      ap (λ V. map (waits_then x a) (variables V)) h.vars
      ∙ map-alike (waits_then x a) (λ y. not (nat_eq x y) && (value t.waiting y || is_touched x t.state y)) (variables F.vars)
      (λ y c. ap₂ (λ (w b : Bool). not (nat_eq x y) && (w || b)) (ap (λ M. value M y) h.waits) (touched-same y))

  work-same : a.work + literals_of_pairs a.entries (left_in x a.entries) (right_in x a.entries) ≡ t.work + looked_at x t.state
  work-same = ap₂ (λ (k l : ℕ). k + l) h.work (ap (λ K. literals_of_pairs K (left_in x K) (right_in x K)) h.entries ∙ work-stored F.vars t.state x h.tidy)

  kept-same : (m : ℕ → Bool) (v : ℕ) → extended m (eliminated_in x a).eliminated v ≡ extended m (changed_by t.state (elimination x t.state)).eliminated v
  kept-same m v =
      ap (λ f. f v) (extended-push m a.eliminated (record { var = x; clauses = map (there a.entries) (holding (positive x) a.entries) }))
      ∙ (ap (λ n. extended n a.eliminated v) (ap (λ (K : Entries). extended m (record { var = x; clauses = map (there K) (holding (positive x) K) } ∷ [])) h.entries ∙ needed-elimination F.vars x t.state m h.tidy)
      ∙ (h.kept (extended m (last ∷ [])) v
      ∙ (ap (λ f. f v) (sym (extended-push m t.state.eliminated last))
      ∙ ap (λ es. extended m es v) (sym those))))
    where
      last : Eliminated
      last = record { var = x; clauses = having (positive x) (changed_by t.state (map adds (resolvent_lines x t.state))).clauses }

      those : (changed_by t.state (elimination x t.state)).eliminated ≡ t.state.eliminated ++ last ∷ []
      those =
          ap (λ (z : Simplified). z.eliminated) (changed_by-append t.state (map adds (resolvent_lines x t.state)) (eliminates x (gone_with x t.state) ∷ []))
          ∙ ap (λ (es : List Eliminated). es ++ last ∷ []) (eliminated-added t.state (resolvent_lines x t.state))

  origin-same : IsOf F (changed_by t.state (elimination x t.state))
  origin-same = subst (IsOf F) (sym (changed_by-append t.state (map adds (resolvent_lines x t.state)) (eliminates x (gone_with x t.state) ∷ [])))
      (IsOf-dropped F (changed_by t.state (map adds (resolvent_lines x t.state))) (changed (changed_by t.state (map adds (resolvent_lines x t.state))) (eliminates x (gone_with x t.state))) (gone_with x t.state) refl refl
      (IsOf-lines F t.state (resolvent_lines x t.state) (resolvent-set x t.state) h.origin))

  there-over : (n : ℕ) → IsOver F.vars (there (stored t.state) n)
  there-over n = go (entry_at (stored t.state) n) refl
    where
      go : (o : Option Clause) → entry_at (stored t.state) n ≡ o → IsOver F.vars (unwrap_or o [])
      go None e = All-nil (λ (l : Literal). IsVariable F.vars l.var)
      go (Some c) e = entry-over F.vars t.state n c h.tidy e

  over-more : AreOver F.vars (eliminated_in x a).eliminated
  over-more = All-push (λ (e : Eliminated). IsVariable F.vars e.var × All (IsOver F.vars) e.clauses) a.eliminated (record { var = x; clauses = map (there a.entries) (holding (positive x) a.entries) }) h.over
      (var, rw h.entries (All-from (IsOver F.vars) (map (there (stored t.state)) (holding (positive x) (stored t.state))) (λ c i. let n = map-Contains (there (stored t.state)) (holding (positive x) (stored t.state)) c i in subst (IsOver F.vars) n.2 (there-over n.0))))

  -- what the definition has, where it eliminates x or doesn't
  abbrev tried_as : Bool → Trial
  tried_as b = record { state = changed_by t.state (if b then elimination x t.state else []); waiting = (tried F.vars x t).waiting; work = t.work + looked_at x t.state }

  by_case : (b : Bool) → Follows F (cs ++ (if b then elimination x t.state else [])) (tried_as b) (if b then eliminated_in x a else left_alone x a)
  by_case true = record {
    vars = h.vars;
    tidy = elimination-tidy F.vars x t.state h.tidy;
    changes = ap (λ (z : Simplified). changed_by z (elimination x t.state)) h.changes ∙ sym (changed_by-append (unsimplified F) cs (elimination x t.state));
    entries = ap (entries_without x) h.entries ∙ sym (stored-elimination F.vars x t.state h.tidy);
    weights = ap (λ V. map (weight_in (entries_without x a.entries)) (variables V)) h.vars;
    waits = waits-same;
    work = work-same;
    lines = ap₂ (λ (ls : List Line) (K : Entries). ls ++ lines_in x K ++ line_of_gone (gone_in x K)) h.lines h.entries
        ∙ (append_assoc (lines_of cs) (lines_in x (stored t.state)) (line_of_gone (gone_in x (stored t.state))) ∙ (ap (λ ls. lines_of cs ++ ls) (sym (lines_of-elimination x t.state)) ∙ sym (lines_of-append cs (elimination x t.state))));
    hinted = AreHinted-append cs (elimination x t.state) h.hinted (hinted-elimination x t.state);
    kept = kept-same;
    over = over-more;
    origin = origin-same;
  }
  by_case false = record {
    vars = h.vars;
    tidy = h.tidy;
    changes = h.changes ∙ ap (simplified F) (sym (none cs));
    entries = h.entries;
    weights = ap (λ V. map (weight_in a.entries) (variables V)) h.vars;
    waits = waits-same;
    work = work-same;
    lines = h.lines ∙ ap lines_of (sym (none cs));
    hinted = subst AreHinted (sym (none cs)) h.hinted;
    kept = h.kept;
    over = h.over;
    origin = h.origin;
  }
    where
      none : (ds : List Change) → ds ++ [] ≡ ds
      none [] = refl
      none (d ∷ ds) = ap (λ es. d ∷ es) (none ds)

  pub follows-tried : Follows F (cs ++ changes_of x t.state) (tried F.vars x t) (tried_in x a)
  follows-tried = subst (λ b. Follows F (cs ++ changes_of x t.state) (tried F.vars x t) (if b then eliminated_in x a else left_alone x a)) (sym worth-same) (by_case (is_worth x t.state))
