-- What a line buffer means.
use Rattle.std.specs.Prelude.{ℕ, cond, List, [], ◌∷◌, ◌++◌, length, Some, None, Option, nat_le, nat_lt}
use Rattle.std.specs.Option.{option_map}
use Rattle.lines.specs.declared.line.LineBuffer.{LineBuffer}

-- A line of at most 400 bytes, and None of a longer one.
abbrev pub in_bounds : Option (List ℕ) → Option (List ℕ)
in_bounds None = None
in_bounds (Some bytes) = cond (nat_le (length bytes) 400) (Some bytes) None

-- The bytes of the line that a buffer has seen, and None of a line that was too long.
abbrev pub seen : LineBuffer → Option (List ℕ)
seen buffer = in_bounds (option_map (λ bytes. bytes.items) buffer.bytes)

-- A line with one byte more: one past the 400th makes it too long, and so it stays.
abbrev pub grown : Option (List ℕ) → ℕ → Option (List ℕ)
grown None byte = None
grown (Some bytes) byte = cond (nat_lt (length bytes) 400) (Some (bytes ++ byte ∷ [])) None
