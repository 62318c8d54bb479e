-- Numbers of several bytes, most significant byte first.
use Rattle.std.specs.Prelude.{ℕ, zero, suc, ◌+◌, ◌*◌, ◌/◌, ◌%◌, ◌^◌, List, [], ◌∷◌, length}

-- the number that bytes write
abbrev pub value : List ℕ → ℕ
value [] = 0
value (d ∷ ds) = d * 256 ^ length ds + value ds

-- the last n bytes of a number
abbrev pub big_endian : ℕ → ℕ → List ℕ
big_endian zero x = []
big_endian (suc n) x = x / 256 ^ n % 256 ∷ big_endian n x
