-- Comments in the text of a proof, and what it is read as.
use Rattle.std.specs.Prelude.{ℕ, Bool, nat_eq, List, [], ◌∷◌, ◌++◌, codes, Option, if◌then◌else◌}
use Rattle.std.specs.Option.{option_map}
use Rattle.lrat_forms.specs.Forms.{text_of}
use Rattle.lrat_forms.specs.declared.comments.Line.{Line}
use Rattle.lrat_forms.specs.declared.comments.Line.TheVariants.{Start, Inside, Comment}

-- a line that begins with this byte, `c`, is a comment
abbrev pub is_mark : ℕ → Bool
is_mark b = nat_eq b 99

-- what a comment is read as: a deletion of no clauses
abbrev pub nothing : List ℕ
nothing = codes "1 d 0" ++ 10 ∷ []

-- where the byte behind one stands that is in no comment
abbrev pub line_behind : ℕ → Line
line_behind b = if nat_eq b 10 then Start else Inside

-- the text that another one is read as, whose first byte stands there
abbrev pub uncommented : Line → List ℕ → List ℕ
uncommented Start [] = []
uncommented Start (b ∷ bs) = if is_mark b then nothing ++ uncommented Comment bs else b ∷ uncommented (line_behind b) bs
uncommented Inside [] = []
uncommented Inside (b ∷ bs) = b ∷ uncommented (line_behind b) bs
uncommented Comment [] = []
uncommented Comment (b ∷ bs) = if nat_eq b 10 then uncommented Start bs else uncommented Comment bs

-- the text that is left, where what a reader has left is known
abbrev pub uncommented_known : Line → Option (List ℕ) → Option (List ℕ)
uncommented_known line known = option_map (uncommented line) known

-- what a proof is read as, where its bytes are known and they are a text
abbrev pub read_as : Option (List ℕ) → Option (List ℕ)
read_as known = uncommented_known Start (text_of known)
