-- What stands on a line behind its letter; 32 is a space.
use Rattle.std.specs.Prelude.{◌≡◌, ℕ, ◌%◌, ◌≤◌, List, [], ◌∷◌, length, drop}
use Rattle.lines.specs.Decimal.{Writes, number}
use Rattle.lines.specs.Hexadecimal.{Digits, decoded}

-- A number below 2^32: one space, and then decimal digits.
abbrev pub Numbers : List ℕ → ℕ → Type 0
Numbers [] n = ⊥
Numbers (space ∷ digits) n = (space ≡ 32) × Writes digits × (n ≡ number digits)

-- An indication of these bytes: one space, and then pairs of hexadecimal digits; or nothing, for no bytes.
abbrev pub Indicates : List ℕ → List ℕ → Type 0
Indicates [] bytes = bytes ≡ []
Indicates (space ∷ digits) bytes = (space ≡ 32) × Digits digits × (length digits % 2 ≡ 0) × (bytes ≡ decoded digits)

-- There is no indication that fits into so much room.
abbrev pub NoneFits : List ℕ → ℕ → Type 0
NoneFits rest room = (bytes : List ℕ) → Indicates rest bytes → length bytes ≤ room → ⊥

-- A buffer has n bytes or more, and those behind the first n stay as they were.
abbrev pub FrontOnly : ℕ → List ℕ → List ℕ → Type 0
FrontOnly n before after = (n ≤ length before) × (drop n after ≡ drop n before)
