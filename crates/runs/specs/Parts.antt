-- The parts of a proof whose texts several hands make.
use Rattle.std.specs.Prelude.{◌≡◌, Bool, true, false, ℕ, List, [], ◌∷◌, ◌++◌}
use Rattle.theory.specs.Texts.{proof_text}
use Rattle.join.specs.Walking.{lines_left, IsBetweenLines, IsBetweenNodes}
use Rattle.runs.specs.declared.by_hands.Part.{Part}

-- the text of a part: what stands in its buffer, and that of its lines
abbrev pub text_of : Part → List ℕ
text_of p = p.buffer.items ++ proof_text (lines_left p.lines)

-- texts, one behind the other
abbrev pub whole : List (List ℕ) → List ℕ
whole [] = []
whole (text ∷ texts) = text ++ whole texts

-- nothing is in it, and its lines have no nodes
pub record IsIdle (p : Part) : Type 0 where
  pub buffer : p.buffer.items ≡ []
  pub nodes : p.lines.nodes.items ≡ []

-- it has lines, of which none is made
pub record IsGiven (p : Part) : Type 0 where
  pub buffer : p.buffer.items ≡ []
  pub lines : IsBetweenNodes p.lines

-- this is its text, unless it failed
abbrev pub IsMadeUnless : Bool → List ℕ → Part → Type 0
IsMadeUnless true text p = Unit {0}
IsMadeUnless false text p = (text_of p ≡ text) × IsBetweenLines p.lines

abbrev pub IsMade : List ℕ → Part → Type 0
IsMade text p = IsMadeUnless p.failed text p

-- these are their texts, unless one failed
abbrev pub AreMade : List (List ℕ) → List Part → Type 0
AreMade [] [] = Unit {0}
AreMade (text ∷ texts) (p ∷ ps) = IsMade text p × AreMade texts ps
AreMade [] (p ∷ ps) = ⊥
AreMade (text ∷ texts) [] = ⊥
