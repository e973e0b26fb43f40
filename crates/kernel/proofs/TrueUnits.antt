-- The literal of an entry of level 0 as a clause of its own, which becomes the entry's reason.
use Rattle.std.proofs.Common.{◌≡◌, ℕ, zero, suc, ◌+◌, ◌-◌, ◌<◌, ◌≤◌, true, false, nat_le, List, [], ◌∷◌, ◌++◌, length, length-append, map, take, set, get_or, Option, Some, None, slice_get, refl, ap, sym, subst, ◌∙◌, inl, inr, append_assoc, arith}
use Rattle.std.specs.Option.{option_map}
use Rattle.std.proofs.Math.Seq.{map-set_same}
use Rattle.std.proofs.Math.ListN.{get_or-map}
use Rattle.std.proofs.lemmas.List.{length-map, length-set, map-append, take-map}
use Rattle.std.proofs.lemmas.Option.{get_or_from_slice_get, slice_get-map, slice_get_within}
use Rattle.theory.specs.Literals.{Literal, Clause, IsVariable, same, has, has_var}
use Rattle.theory.specs.Truth.{IsOver}
use Rattle.theory.specs.Trails.{Entry, Trail, literals, current_level, level_at}
use Rattle.theory.specs.Propagation.{clause_at}
use Rattle.theory.specs.Lawful.{IsReason, IsGrounded, IsLawfulAfter, IsLawful}
use Rattle.theory.proofs.literals.LiteralLemmas.{same-refl}
use Rattle.theory.proofs.literals.LiteralSets.{has-head, has-tail}
use Rattle.theory.proofs.checker.AcceptedSteps.{clause_at-push}
use Rattle.theory.proofs.trails.TrailLists.{current_level-push}
use Rattle.theory.proofs.trails.LawfulTrails.{current_level-rises, IsLawful-append}
use Rattle.trail.proofs.Reasons.{literals-reason}
use Rattle.cnf.specs.Lits.{code}
use Rattle.kernel.specs.declared.watches.watch.Watched.{Watched}
use Rattle.kernel.specs.Watching.{first_true, held, IsPair, listed_both}
use Rattle.kernel.specs.Visiting.{WatchLists, places, tending}
use Rattle.kernel.specs.Attaching.{attached, IsWatching}
use Rattle.kernel.proofs.Adding.{added}
use Rattle.kernel.proofs.Attached.{attached-places, attached-entries}
use Rattle.kernel.proofs.KernelSteps.{base-more}

-- the literal of an entry is on the trail
pub has-entry : (T : Trail) (p : ℕ) (e : Entry) → slice_get T p ≡ Some e → has (literals T) e.lit ≡ true
has-entry [] p e at = absurd (cc)
has-entry (x ∷ T) zero e at = let one : x ≡ e = cc in rw one (has-head e.lit (literals T))
has-entry (x ∷ T) (suc p) e at = has-tail x.lit e.lit (literals T) (has-entry T p e at)

-- what is read at the place of an entry
pub entry-read : (T U : Trail) (p : ℕ) (x e : Entry) → x ≡ get_or U p x → U ≡ T → slice_get T p ≡ Some e → x ≡ e
entry-read T U p x e read same at = read ∙ (ap (λ (V : Trail). get_or V p x) same ∙ get_or_from_slice_get T p e x at)

pub over-entry : (V : ℕ) (T : Trail) (p : ℕ) (e : Entry) → slice_get T p ≡ Some e → IsOver V (literals T) → IsVariable V e.lit.var
over-entry V T p e at over =
    let within : p < length T = slice_get_within T p e at in
    let read : get_or (literals T) p e.lit ≡ e.lit = get_or-map (λ (x : Entry). x.lit) T p e ∙ ap (λ (x : Entry). x.lit) (get_or_from_slice_get T p e e at) in
    subst (λ (l : Literal). IsVariable V l.var) read (over p e.lit (omega (arith, within, length-map T (λ (x : Entry). x.lit))))

-- the current level is that of the levels alone
level-option : (o : Option Entry) (n : ℕ) → option_map (λ (x : Entry). x.level) o ≡ Some n → level_at o ≡ n
level-option None n h = absurd (cc)
level-option (Some e) n h = cc

current_level-reason : (T : Trail) (p : ℕ) (e : Entry) (r : Option ℕ) → slice_get T p ≡ Some e → current_level (set T p (record e { reason = r })) ≡ current_level T
current_level-reason T p e r at = go (slice_get T (length T - 1)) refl
  where
    U : Trail
    U = set T p (record e { reason = r })

    same : map (λ (x : Entry). x.level) U ≡ map (λ (x : Entry). x.level) T
    same = map-set_same (λ (x : Entry). x.level) T p (record e { reason = r }) e (ap (λ (x : Entry). x.level) (sym (get_or_from_slice_get T p e e at)))

    last : option_map (λ (x : Entry). x.level) (slice_get U (length U - 1)) ≡ option_map (λ (x : Entry). x.level) (slice_get T (length T - 1))
    last =
        sym (slice_get-map (λ (x : Entry). x.level) U (length U - 1))
        ∙ (ap (λ (ns : List ℕ). slice_get ns (length U - 1)) same
        ∙ (ap (λ n. slice_get (map (λ (x : Entry). x.level) T) (n - 1)) (length-set T p (record e { reason = r }))
        ∙ slice_get-map (λ (x : Entry). x.level) T (length T - 1)))

    none : (o : Option Entry) → option_map (λ (x : Entry). x.level) o ≡ None → level_at o ≡ 0
    none None h = refl
    none (Some x) h = absurd (cc)

    go : (o : Option Entry) → slice_get T (length T - 1) ≡ o → current_level U ≡ level_at (slice_get T (length T - 1))
    go None h = rw h (none (slice_get U (length U - 1)) (last ∙ ap (option_map (λ (x : Entry). x.level)) h))
    go (Some x) h = rw h (level-option (slice_get U (length U - 1)) x.level (last ∙ ap (option_map (λ (y : Entry). y.level)) h))

-- an entry is lawful by the literals and the level before it
IsGrounded-like : (K : List Clause) (A B : Trail) (e : Entry) (r : Option ℕ) → literals A ≡ literals B → current_level A ≡ current_level B → IsGrounded K A e r → IsGrounded K B e r
IsGrounded-like K A B e (Some n) same level g = (g.0 ∙ level, subst (λ (P : List Literal). IsReason K P e.lit n) same g.1)
IsGrounded-like K A B e None same level (inl h) = inl (h.0, sym level ∙ h.1)
IsGrounded-like K A B e None same level (inr h) = inr (h ∙ ap (λ n. n + 1) level)

IsLawfulAfter-like : (K : List Clause) (A B T : Trail) → literals A ≡ literals B → current_level A ≡ current_level B → IsLawfulAfter K A T → IsLawfulAfter K B T
IsLawfulAfter-like K A B [] same level h = tt
IsLawfulAfter-like K A B (e ∷ T) same level h = (
  record {
    is_new = subst (λ (P : List Literal). has_var P e.lit.var ≡ false) same h.0.is_new;
    grounded = IsGrounded-like K A B e e.reason same level h.0.grounded;
  },
  IsLawfulAfter-like K (A ++ e ∷ []) (B ++ e ∷ []) T
      (map-append (λ (x : Entry). x.lit) A (e ∷ []) ∙ (ap (λ (P : List Literal). P ++ e.lit ∷ []) same ∙ sym (map-append (λ (x : Entry). x.lit) B (e ∷ []))))
      (current_level-push A e ∙ sym (current_level-push B e)) h.1,
)

-- a clause of the literal of an entry of level 0 can be the entry's reason
IsLawfulAfter-unit : (K : List Clause) (before T : Trail) (p : ℕ) (e : Entry) (n : ℕ) → slice_get T p ≡ Some e → current_level (before ++ T) ≡ 0 → 1 ≤ n → n ≤ length K → clause_at K n ≡ e.lit ∷ []
    → IsLawfulAfter K before T → IsLawfulAfter K before (set T p (record e { reason = Some n }))
IsLawfulAfter-unit K before [] p e n at level one end is h = h
IsLawfulAfter-unit K before (x ∷ T) zero e n at level one end is h = (
  record { is_new = here.0.is_new; grounded = (low, reason) },
  IsLawfulAfter-like K (before ++ e ∷ []) (before ++ record e { reason = Some n } ∷ []) T
      (map-append (λ (y : Entry). y.lit) before (e ∷ []) ∙ sym (map-append (λ (y : Entry). y.lit) before (record e { reason = Some n } ∷ [])))
      (current_level-push before e ∙ sym (current_level-push before (record e { reason = Some n }))) here.1,
)
  where
    head : x ≡ e
    head = cc

    here : IsLawfulAfter K before (e ∷ T)
    here = subst (λ (y : Entry). IsLawfulAfter K before (y ∷ T)) head h

    all : current_level (before ++ e ∷ T) ≡ 0
    all = subst (λ (y : Entry). current_level (before ++ y ∷ T) ≡ 0) head level

    low : e.level ≡ current_level before
    low =
        let first : current_level before ≤ current_level (before ++ e ∷ T) = current_level-rises K before (e ∷ T) here in
        let rest : current_level (before ++ e ∷ []) ≤ current_level ((before ++ e ∷ []) ++ T) = current_level-rises K (before ++ e ∷ []) T here.1 in
        let parts : current_level ((before ++ e ∷ []) ++ T) ≡ current_level (before ++ e ∷ T) = ap current_level (append_assoc before (e ∷ []) T) in
        let push : current_level (before ++ e ∷ []) ≡ e.level = current_level-push before e in
        omega (arith, all)

    reason : IsReason K (literals before) e.lit n
    reason = record {
      numbered = (one, end);
      holds = rw is (has-head e.lit []);
      others = rw (is, same-refl) refl;
    }
IsLawfulAfter-unit K before (x ∷ T) (suc p) e n at level one end is h =
    (h.0, IsLawfulAfter-unit K (before ++ x ∷ []) T p e n at (ap current_level (append_assoc before (x ∷ []) T) ∙ level) one end is h.1)

pub IsLawful-unit : (K : List Clause) (T : Trail) (p : ℕ) (e : Entry) → slice_get T p ≡ Some e → current_level T ≡ 0 → IsLawful K T
    → IsLawful (K ++ (e.lit ∷ []) ∷ []) (set T p (record e { reason = Some (length K + 1) }))
IsLawful-unit K T p e at level h =
    IsLawfulAfter-unit (K ++ (e.lit ∷ []) ∷ []) [] T p e (length K + 1) at level (omega arith) (omega (arith, length-append K ((e.lit ∷ []) ∷ []))) (clause_at-push K (e.lit ∷ [])) (IsLawful-append K ((e.lit ∷ []) ∷ []) T h)

-- at level 0 the watches go by the trail's literals
pub reason-watching : (V first : ℕ) (K : List Clause) (T : Trail) (p : ℕ) (e : Entry) (r : Option ℕ) (at floor : ℕ) (k : WatchLists) (single : List ℕ) (empty : Option ℕ) → slice_get T p ≡ Some e → current_level T ≡ 0
    → IsWatching V first K T at floor k single empty → IsWatching V first K (set T p (record e { reason = r })) at floor k single empty
reason-watching V first K T p e r at floor k single empty there level s = record {
  lists = s.lists;
  served = record {
    tends = record {
      listed = s.served.tends.listed;
      exact = s.served.tends.exact;
      found = rw same s.served.tends.found;
      earlier = λ m h. absurd (omega (arith, h, low));
    };
    good = rw (same, served) s.served.good;
  };
  entries = s.entries;
  within = omega (arith, s.within, length-set T p (record e { reason = r }));
  base = s.base;
}
  where
    U : Trail
    U = set T p (record e { reason = r })

    same : literals U ≡ literals T
    same = literals-reason T p e r there

    served : literals (take at U) ≡ literals (take at T)
    served = sym (take-map (λ (x : Entry). x.lit) at U) ∙ (ap (take at) same ∙ take-map (λ (x : Entry). x.lit) at T)

    low : current_level U ≡ 0
    low = current_level-reason T p e r there ∙ level

-- a clause of one literal, which is true at level 0, waits nowhere
pub true-watching : (V first : ℕ) (K : List Clause) (T : Trail) (at floor : ℕ) (k u : WatchLists) (single : List ℕ) (empty : Option ℕ) (l : Literal) (w : Watched) → first ≤ length K → w ≡ record { first = l; second = l } → code l < length k.lists
    → current_level T ≡ 0 → has (literals T) l ≡ true
    → u.pairs ≡ k.pairs ++ w ∷ [] → u.lists ≡ attached k.lists w (length K) (nat_le (length (l ∷ [])) 2) → length u.lists ≡ length k.lists → u.units ≡ k.units → u.least ≡ k.least
    → IsWatching V first K T at floor k single empty → IsWatching V first (K ++ (l ∷ []) ∷ []) T at floor u single empty
true-watching V first K T at floor k u single empty l w within is hl level holds pairs lists long units least s = record {
  lists = long ∙ s.lists;
  served = added floor K T at c w (tending k) (tending u) pair (inside w.first first_inside) (inside w.second second_inside) (λ m h. absurd (omega (arith, h, level))) pairs placed least (λ m h. rw units h) (λ m h. inr (rw (← units) h)) (held (first_true (rw is holds))) s.served;
  entries = λ x. rw (pairs, lists) (attached-entries K k c w s.served.tends.listed pair first_inside second_inside s.entries x);
  within = s.within;
  base = base-more first K c single empty within (λ f. absurd (cc)) s.base;
}
  where
    c : Clause
    c = l ∷ []

    pair : IsPair c w
    pair = rw is (record { first_in = has-head l []; second_in = has-head l []; single = λ h. rw same-refl refl })

    first_inside : code w.first < length k.lists
    first_inside = rw is hl

    second_inside : code w.second < length k.lists
    second_inside = rw is hl

    inside : (x : Literal) → code x < length k.lists → code x < length (tending k).lists
    inside x h = omega (arith, h, length-map k.lists places)

    placed : (tending u).lists ≡ listed_both (tending k).lists w (length K)
    placed = ap (map places) lists ∙ attached-places k.lists w (length K) (nat_le (length c) 2)
