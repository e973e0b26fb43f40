-- Two rising lists as one.
use Rattle.std.specs.Prelude.{ℕ, nat_lt, List, [], ◌∷◌, if◌then◌else◌}

-- m and ms with ns, where the rest merges what is behind m
abbrev pub merged_behind : ℕ → List ℕ → (List ℕ → List ℕ) → List ℕ → List ℕ
merged_behind m ms rest [] = m ∷ ms
merged_behind m ms rest (n ∷ ns) = if nat_lt m n then m ∷ rest (n ∷ ns) else n ∷ merged_behind m ms rest ns

abbrev pub merged : List ℕ → List ℕ → List ℕ
merged [] ns = ns
merged (m ∷ ms) ns = merged_behind m ms (merged ms) ns
