-- Which of a leaf's lines are deleted, and which numbers are left at its end.
use Rattle.std.specs.Prelude.{ℕ, ◌-◌, Bool, false, not, ◌&&◌, ◌||◌, nat_le, List, [], ◌∷◌, map, filter, get_or}
use Rattle.theory.specs.Literals.{Literal}
use Rattle.theory.specs.Learning.{Line}
use Rattle.theory.specs.Deletions.{is_among}
use Rattle.theory.specs.Proofs.{renumbered, forgotten_by, numbers_from}

-- whether the line of number k is marked, where the first one has the number first
abbrev pub is_marked : ℕ → List Bool → ℕ → Bool
is_marked first marks k = nat_le first k && get_or marks (k - first) false

-- whether it is marked, or one of these lines forgets it
abbrev pub is_gone : ℕ → ℕ → List Bool → List Line → ℕ → Bool
is_gone N first marks lines k = is_marked first marks k || is_among k (map (renumbered N first) (forgotten_by lines))

-- the numbers before last of the lines that are left behind these ones
abbrev pub left_by : ℕ → ℕ → ℕ → List Bool → List Line → List ℕ
left_by N first last marks lines = filter (λ k. not (is_gone N first marks lines k)) (numbers_from first (last - first))

-- what is deleted behind a cube's last line: of the root's lines none is
abbrev pub in_half : List Literal → List ℕ → List ℕ
in_half [] numbers = []
in_half (l ∷ Q) numbers = numbers

-- the numbers that are due behind a leaf's line of number n, where these are still to come: those of
-- the lines that it forgets, or behind the last one those that are left
abbrev pub due_behind : ℕ → ℕ → ℕ → List Literal → List Bool → Line → List Line → List ℕ
due_behind N first n Q marks line [] = in_half Q (left_by N first n marks [])
due_behind N first n Q marks line (next ∷ lines) = map (renumbered N first) line.forgets
