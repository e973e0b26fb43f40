-- The sums by which files are told apart. Source: SHA-256 (FIPS 180-4).
use Rattle.std.specs.Prelude.{ℕ, List}
use Rattle.sha2.specs.Sha256.{sha256}
use Rattle.hex.specs.Hex.{encode_lower}

-- the SHA-256 of bytes, in hexadecimal digits
abbrev pub sum_of : List ℕ → List ℕ
sum_of bytes = encode_lower (sha256 bytes)
