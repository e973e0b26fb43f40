-- What is kept of a text around a place.
use Rattle.std.specs.Prelude.{ℕ, zero, suc, ◌-◌, List, [], ◌∷◌, ◌++◌, take, drop, nat_eq, if◌then◌else◌}
use Rattle.messages.specs.declared.excerpt.Excerpt.{Excerpt}

-- what stands behind the first so many line feeds
abbrev pub behind_lines : ℕ → List ℕ → List ℕ
behind_lines zero text = text
behind_lines (suc n) [] = []
behind_lines (suc n) (b ∷ bs) = if nat_eq b 10 then behind_lines n bs else behind_lines (suc n) bs

-- 128 bytes at most, from the fortieth column before the place on, or from its line's first
abbrev pub kept_around : ℕ → ℕ → List ℕ → List ℕ
kept_around line column text = take 128 (drop (column - 1 - 40) (behind_lines (line - 1) text))

-- what is kept once this text has come
abbrev pub kept_with : Excerpt → List ℕ → List ℕ
kept_with e text = take 128 (e.bytes.items ++ drop e.columns (behind_lines e.lines text))
