-- Which form a proof's bytes have, and the text that they are read as.
use Rattle.std.specs.Prelude.{ℕ, Bool, false, ◌&&◌, ◌||◌, not, nat_eq, nat_lt, List, [], ◌∷◌, take, Option, Some, None, if◌then◌else◌}
use Rattle.std.specs.List.{list_any}

-- no text of a proof has this byte
abbrev pub is_foreign : ℕ → Bool
is_foreign b = nat_lt 126 b || (nat_lt b 32 && (not (nat_eq b 9) && (not (nat_eq b 10) && not (nat_eq b 13))))

-- a proof with these first bytes is in binary: an `a` or a `d`, and a byte that no text has
abbrev pub is_binary : List ℕ → Bool
is_binary [] = false
is_binary (b ∷ bs) = (nat_eq b 97 || nat_eq b 100) && list_any is_foreign bs

-- the text that a proof is read as, where its bytes are known and they are a text
abbrev pub text_of : Option (List ℕ) → Option (List ℕ)
text_of None = None
text_of (Some xs) = if is_binary (take 64 xs) then None else Some xs
