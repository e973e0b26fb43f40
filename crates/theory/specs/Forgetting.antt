-- Which learnt clauses the focused search forgets at the end of a round. A forgotten clause keeps
-- its number, and becomes one that is never unit and never false. Source: clauses of great glue are
-- forgotten (Audemard and Simon, IJCAI 2009), but those that were used of late.
use Rattle.std.specs.Prelude.{ℕ, ◌+◌, ◌/◌, nat_eq, nat_le, nat_lt, Bool, true, false, not, ◌&&◌, ◌||◌, List, [], ◌∷◌, map, filter, length, Option, Some, None, count_by, if◌then◌else◌}
use Rattle.std.specs.List.{list_any}
use Rattle.theory.specs.Literals.{Clause, positive, negative, has_both_signs}
use Rattle.theory.specs.Trails.{Trail}
use Rattle.theory.specs.Plans.{Constants}
use Rattle.theory.specs.Learning.{Line}

-- what a forgotten clause becomes
abbrev pub forgotten : Clause
forgotten = positive 1 ∷ negative 1 ∷ []

abbrev pub is_number : ℕ → Option ℕ → Bool
is_number n None = false
is_number n (Some m) = nat_eq n m

-- whether the clause of that number is a reason on the trail
abbrev pub is_reason : Trail → ℕ → Bool
is_reason T n = list_any (λ e. is_number n e.reason) T

-- of a learnt clause its glue, and whether it was used since the last round; that of a unit of
-- level 0 is 0
pub record Mark : Type 0 where
  pub glue : ℕ
  pub used : Bool

abbrev pub fresh_mark : ℕ → Mark
fresh_mark g = record { glue = g; used = true }

-- the marks of learnt clauses, which are numbered from n on, where those of these numbers were used
abbrev pub with_used : List ℕ → ℕ → List Mark → List Mark
with_used numbers n [] = []
with_used numbers n (m ∷ marks) = (if list_any (nat_eq n) numbers then fresh_mark m.glue else m) ∷ with_used numbers (n + 1) marks

abbrev pub not_used : Mark → Mark
not_used m = record m { used = false }

-- none was used
abbrev pub unused : List Mark → List Mark
unused marks = map not_used marks

-- a learnt clause that may be forgotten
pub record Candidate : Type 0 where
  pub number : ℕ
  pub glue : ℕ
  pub size : ℕ

-- it has a greater glue than those that are kept, and wasn't used; it isn't forgotten, and no
-- reason on the trail
abbrev pub may_go : Constants → Trail → ℕ → Clause → Mark → Bool
may_go c T n clause m = nat_lt c.kept_glue m.glue && (not m.used && (not (has_both_signs clause) && not (is_reason T n)))

-- those of the learnt clauses, which are numbered from n on and have these marks
abbrev pub candidates : Constants → Trail → ℕ → List Clause → List Mark → List Candidate
candidates c T n (clause ∷ learnt) (m ∷ marks) =
    let more = candidates c T (n + 1) learnt marks in
    if may_go c T n clause m then record { number = n; glue = m.glue; size = length clause } ∷ more else more
candidates c T n learnt marks = []

-- a goes before b: its glue is less; or of equal glues its size; or of equal sizes its number is
-- greater
abbrev pub goes_before : Candidate → Candidate → Bool
goes_before a b = nat_lt a.glue b.glue || (nat_eq a.glue b.glue && (nat_lt a.size b.size || (nat_eq a.size b.size && nat_lt b.number a.number)))

-- whether it is behind the first quarter
abbrev pub is_late : List Candidate → Candidate → Bool
is_late all a = nat_le (length all / 4) (count_by (λ b. goes_before b a) all)

-- the numbers of those that are
abbrev pub late_ones : List Candidate → List ℕ
late_ones all = map (λ a. a.number) (filter (is_late all) all)

-- the line behind which the clauses of these numbers are forgotten
abbrev pub forgetting : List ℕ → Line → Line
forgetting numbers line = record line { forgets = numbers }

-- the clauses, which are numbered from n on, with those of these numbers forgotten
abbrev pub forget : List ℕ → ℕ → List Clause → List Clause
forget numbers n [] = []
forget numbers n (clause ∷ K) = (if list_any (nat_eq n) numbers then forgotten else clause) ∷ forget numbers (n + 1) K
