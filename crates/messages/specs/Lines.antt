-- Lines of a text.
use Rattle.std.specs.Prelude.{ℕ, suc, List, [], ◌∷◌, nat_eq, if◌then◌else◌}

-- how many line feeds there are
abbrev pub line_feeds : List ℕ → ℕ
line_feeds [] = 0
line_feeds (b ∷ bs) = if nat_eq b 10 then suc (line_feeds bs) else line_feeds bs
