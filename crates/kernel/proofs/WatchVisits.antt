-- What is seen of the clause of an entry is a visit of it.
use Rattle.std.proofs.Common.{◌≡◌, ◌≢◌, ℕ, Bool, true, false, List, [], ◌∷◌, get_or, set, Some, None, ap, sym, subst, ◌∙◌}
use Rattle.std.proofs.lemmas.List.{set-get_or}
use Rattle.std.specs.List.Sorted.{IsPermutation}
use Rattle.theory.specs.Literals.{Literal, Clause, has, negated}
use Rattle.trail.specs.Tables.{value_of}
use Rattle.trail.specs.declared.truth.Truth.{Truth}
use Rattle.kernel.specs.declared.watches.watch.Watched.{Watched}
use Rattle.kernel.specs.declared.watches.watch.Watch.{Watch}
use Rattle.kernel.specs.declared.watches.watch_visit.WatchVisit.TheVariants.{Satisfied, Moved, Last}
use Rattle.cnf.specs.Lits.{code}
use Rattle.kernel.specs.Watching.{At, lesser}
use Rattle.kernel.specs.Visiting.{CanVisit, IsVisit, WatchLists, satisfied, moves, Replaces}
use Rattle.kernel.specs.Attaching.{with_entry}
use Rattle.kernel.specs.Seeing.{IsWatchVisit, other_front}
use Rattle.kernel.specs.Placing.{IsLastOf}
use Rattle.kernel.proofs.LiteralFacts.{true_false}
use Rattle.trail.proofs.Tables.{code-one}
use Rattle.kernel.proofs.Places.{At-get}
use Rattle.kernel.proofs.Visits.{Looked, pair-inside, looked, looked-stays, looked-last, clause-is, beside-one, noted}

-- a literal that isn't false has another list than one that is
pub apart-codes : (P : List Literal) (g z : Literal) → has P (negated g) ≡ true → has P (negated z) ≡ false → code g ≢ code z
apart-codes P g z gone free e = true_false (has P (negated g)) gone (subst (λ (x : Literal). has P (negated x) ≡ false) (sym (code-one g z e)) free)

set-read : {X : Type 0} (xs : List X) (n : ℕ) (x : X) → get_or xs n x ≡ x → set xs n x ≡ xs
set-read xs n x h = ap (λ y. set xs n y) (sym h) ∙ set-get_or xs n x

module _ (K : List Clause) (P : List Literal) (g : Literal) (e : Watch) (s : WatchLists) (v : CanVisit K P g e s) (long : e.is_short ≡ false) where
  abbrev pub clause : Clause
  clause = get_or K e.clause []

  abbrev pub pair : Watched
  pair = get_or s.pairs e.clause record { first = g; second = g }

  pub clause-at : At K e.clause clause
  clause-at = At-get K e.clause [] v.within

  pub pair-at : At s.pairs e.clause pair
  pair-at = At-get s.pairs e.clause record { first = g; second = g } (pair-inside K P g e s v)

  seen-beside : (k : Literal) → k ≡ other_front pair g → Looked K P g e s v pair k
  seen-beside k is = looked K P g e s v pair k (sym pair-at.1) is

  same-pairs : (ps : List Watched) (u : Watched) → ps ≡ set s.pairs e.clause u → u ≡ pair → ps ≡ s.pairs
  same-pairs ps u a b = a ∙ (ap (λ x. set s.pairs e.clause x) b ∙ set-read s.pairs e.clause pair pair-at.1)

  pub sees-satisfied : (k : Literal) (t : WatchLists) (u : Watched) → IsWatchVisit P g clause pair u (Satisfied k) → t.pairs ≡ set s.pairs e.clause u → t.lists ≡ s.lists → t.units ≡ s.units → t.least ≡ s.least → IsVisit K P g e s t (Some k)
  sees-satisfied k t u visit pairs lists units least =
      satisfied (looked-stays K P g e s v pair k long (seen-beside k visit.0)) visit.1 (λ i. record { pairs = (same-pairs t.pairs u pairs visit.2) i; lists = lists i; units = units i; least = least i })

  pub sees-last : (k : Literal) (status : Truth) (t : WatchLists) (u : Watched) → IsWatchVisit P g clause pair u (Last k status)
      → (value_of status ≡ None → s.least ≡ None → IsPermutation (e.clause ∷ s.units) t.units × (t.least ≡ s.least)) → ((m : ℕ) → value_of status ≡ None → s.least ≡ Some m → (t.units ≡ s.units) × (t.least ≡ s.least))
      → ((x : Bool) → value_of status ≡ Some x → (t.units ≡ s.units) × (t.least ≡ Some (lesser s.least e.clause)))
      → t.pairs ≡ set s.pairs e.clause u → t.lists ≡ s.lists → IsVisit K P g e s t (Some k)
  sees-last k status t u visit free_one spared_one false_one pairs lists =
      let l = seen-beside k visit.0 in
      noted K P g e s v t k (value_of status) (looked-stays K P g e s v pair k long l) (looked-last K P g e s v pair k clause l clause-at visit.3) visit.1 visit.2 free_one spared_one false_one (same-pairs t.pairs u pairs visit.4) lists

  pub last-seen : (k : Literal) (status : Truth) (u : Watched) → IsWatchVisit P g clause pair u (Last k status) → (d : Clause) → At K e.clause d → IsLastOf P d k
  last-seen k status u visit d a =
      let l = seen-beside k visit.0 in
      (l.member d a, (looked-last K P g e s v pair k clause l clause-at visit.3 d pair a pair-at).1)

  pub sees-moved : (w : Watched) (t : WatchLists) (u : Watched) → IsWatchVisit P g clause pair u (Moved w) → t.pairs ≡ set s.pairs e.clause u
      → t.lists ≡ with_entry s.lists w.second record { clause = e.clause; blocker = w.first; is_short = false } → t.units ≡ s.units → t.least ≡ s.least → IsVisit K P g e s t None
  sees-moved w t u visit pairs lists units least =
      let l = seen-beside w.first visit.0 in
      moves {k = w.first} {z = w.second} long
      (λ d x b at. (beside-one K P g e s v pair x w.first l.at at l.beside, l.member d b, subst (λ (y : Clause). Replaces P y w.first w.second) (clause-is K P g e s v clause d clause-at b) visit.1))
      (pairs ∙ ap (λ x. set s.pairs e.clause x) visit.2) lists units least
