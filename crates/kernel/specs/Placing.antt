-- Unit clauses that wait with the place of their last false literal. A clause is named by its
-- place, from 0.
use Rattle.std.specs.Prelude.{◌≡◌, ℕ, ◌<◌, ◌≤◌, true, List, [], ◌∷◌, ◌++◌, All, map, Option, Some, None, ◌⊎◌}
use Rattle.std.specs.List.{Contains}
use Rattle.theory.specs.Literals.{Literal, Clause, has}
use Rattle.theory.specs.Status.{unit_literal}
use Rattle.theory.specs.Trails.{Trail, literals}
use Rattle.theory.specs.Propagation.{last_false}
use Rattle.kernel.specs.declared.units.unit_queue.Waiting.{Waiting}
use Rattle.kernel.specs.declared.units.numbered.Numbered.{Numbered}
use Rattle.kernel.specs.declared.order.Order.{Order}
use Rattle.kernel.specs.declared.order.Order.TheVariants.{ByNumber, ByPlace}
use Rattle.kernel.specs.declared.propagator.Propagator.{Propagator}
use Rattle.kernel.specs.Watching.{At}
use Rattle.kernel.specs.Visiting.{WatchLists, kept_of, IsLast}

abbrev pub clauses_of : List Waiting → List ℕ
clauses_of ws = map (λ w. w.clause) ws

-- a clause that waits at place 0
abbrev pub at_start : Numbered → Waiting
at_start u = record { place = 0; clause = u.clause; lit = u.lit }

-- a is of a lesser place, or of the same and no greater number
abbrev pub GoesFirst : Waiting → Waiting → Type 0
GoesFirst a b = (a.place < b.place) ⊎ ((a.place ≡ b.place) × (a.clause ≤ b.clause))

-- each goes before those behind it
abbrev pub AreInOrder : List Waiting → Type 0
AreInOrder [] = Unit {0}
AreInOrder (w ∷ ws) = All (λ v. GoesFirst w v) ws × AreInOrder ws

-- each is of no lesser number than those behind it
abbrev pub AreFalling : List Numbered → Type 0
AreFalling [] = Unit {0}
AreFalling (u ∷ us) = All (λ v. v.clause ≤ u.clause) us × AreFalling us

-- the place that a clause has in an order; by number all have the same
abbrev pub place_in : Order → Trail → Clause → ℕ
place_in ByNumber T c = 0
place_in ByPlace T c = last_false T c

-- a clause has the place that is given, or else that of its last false literal
abbrev pub HasPlace : Order → Trail → Clause → Option ℕ → Type 0
HasPlace o T c (Some p) = p ≡ place_in o T c
HasPlace o T c None = last_false T c ≡ place_in o T c

-- each clause with a literal has it
abbrev pub PlacesOf : Order → Trail → Literal → Option ℕ → Type 0
PlacesOf o T g p = (c : Clause) → has c g ≡ true → HasPlace o T c p

-- all literals of a clause but one, at most, are false
abbrev pub IsLastOf : List Literal → Clause → Literal → Type 0
IsLastOf P c l = (has c l ≡ true) × IsLast P c l

-- each waiting clause has one literal that may be free, with which it waits, and waits with its
-- place while it is unit
pub record AreInLine (o : Order) (K : List Clause) (T : Trail) (ws : List Waiting) : Type 0 where
  pub last : (w : Waiting) (c : Clause) → Contains ws w → At K w.clause c → IsLastOf (literals T) c w.lit
  pub placed : (w : Waiting) (c : Clause) (l : Literal) → Contains ws w → At K w.clause c → unit_literal (literals T) c ≡ Some l → place_in o T c ≡ w.place

-- with clauses that wait elsewhere
abbrev pub also : List ℕ → WatchLists → WatchLists
also ns k = record k { units = ns ++ k.units }

-- what is kept beside the clauses, where some wait in line
abbrev pub kept_with : Propagator → List Waiting → WatchLists
kept_with p ws = also (clauses_of ws) (kept_of p)
