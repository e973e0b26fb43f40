-- What reading a text in pieces keeps.
use Rattle.std.specs.Prelude.{◌≡◌, ℕ, ◌<◌, ◌≤◌, ◌⊎◌, Bool, true, false, List, ◌++◌, length, Option}
use Rattle.std.specs.Io.KnownBytes.{Consumes, IsAtEnd}
use Rattle.cnf.specs.declared.fault.ReadFault.{ReadFault}
use Rattle.cnf.specs.declared.fault.ReadFault.TheVariants.{ReadFailed, NoMemory}

-- what stops the reading of bytes
abbrev pub IsReadFault : ReadFault → Type 0
IsReadFault e = (e ≡ ReadFailed) ⊎ (e ≡ NoMemory)

-- one read of at most `room` bytes: behind the text stand the bytes that the reader gave, some if
-- there was more
pub record ReadsOn (old new : Option (List ℕ)) (text longer : List ℕ) (room : ℕ) (more : Bool) : Type 0 where
  pub bytes : List ℕ
  pub are : longer ≡ text ++ bytes
  pub taken : Consumes old new bytes
  pub fit : length bytes ≤ room
  pub some : more ≡ true → 0 < length bytes
  pub none : more ≡ false → (length bytes ≡ 0) × IsAtEnd new
