-- Numbers written in decimal digits.
use Rattle.std.specs.Prelude.{ℕ, ◌+◌, ◌-◌, ◌*◌, ◌^◌, ◌<◌, ◌≤◌, List, [], ◌∷◌, length, slice_index}

-- The byte is a digit, '0' to '9'.
abbrev pub Digit : ℕ → Type 0
Digit byte = (48 ≤ byte) × (byte ≤ 57)

-- Every byte of the text before the offset is a digit.
abbrev pub DigitsBefore : ℕ → List ℕ → Type 0
DigitsBefore offset text = (k : ℕ) → k < offset → Digit (slice_index text k)

-- The number that digits write when those before them write `front`.
abbrev pub number_after : ℕ → List ℕ → ℕ
number_after front [] = front
number_after front (digit ∷ rest) = number_after (front * 10 + (digit - 48)) rest

-- The number that a text of digits writes.
abbrev pub number : List ℕ → ℕ
number text = number_after 0 text

-- The text writes a number below 2^32: some digits and nothing else.
abbrev pub Writes : List ℕ → Type 0
Writes text = (0 < length text) × DigitsBefore (length text) text × (number text < 2 ^ 32)
