-- What is known of bytes that were gone over, beside what they say.
use Rattle.std.specs.Prelude.{◌≡◌, ℕ, ◌≤◌, false, [], length}
use Rattle.lines.specs.Rows.{Part, AreWithin}
use Rattle.lines.specs.declared.scan.Scan.{Scan}
use Rattle.lines.specs.declared.section.Section.TheVariants.{Literals, Hints}

-- the scan has the numbers of what the bytes say
pub record IsScanOf (s : Scan) (p : Part) : Type 0 where
  pub lines : s.lines ≡ length p.lines
  pub literals : s.literals ≡ length p.clause
  pub hints : s.hints ≡ length p.hints
  pub forgets : s.forgets ≡ length p.forgets
  pub section : s.section ≡ p.section
  pub value : s.value ≡ p.value
  pub begun : s.begun ≡ p.begun
  pub within : AreWithin s.most_literals s.most_numbers p.lines
  -- and where a list begins, nothing of it or of those behind it is there
  pub first : p.section ≡ Literals → p.clause ≡ [] → p.last ≡ 0
  pub no_hints : p.section ≡ Literals → p.hints ≡ []
  pub none_forgotten : (p.section ≡ Literals → p.forgets ≡ []) × (p.section ≡ Hints → p.forgets ≡ [])
  pub between : p.begun ≡ false → p.value ≡ 0

-- no count is greater than n
abbrev pub IsSmall : ℕ → Scan → Type 0
IsSmall n s = (s.lines ≤ n) × (s.literals ≤ n) × (s.hints ≤ n) × (s.forgets ≤ n)
