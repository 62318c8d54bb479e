-- Bytes written as pairs of hexadecimal digits.
use Rattle.std.specs.Prelude.{◌≡◌, ℕ, ◌+◌, ◌-◌, ◌*◌, ◌/◌, ◌%◌, ◌<◌, ◌≤◌, true, cond, ◌&&◌, List, [], ◌∷◌, length, is_some, Some, None, Option, nat_le, slice_index, ◌++◌, codes}
use Rattle.lines.specs.declared.hexadecimal.HexFault.{HexFault}
use Rattle.lines.specs.declared.hexadecimal.HexFault.TheVariants.{NotADigit, OddDigits, NoRoom}
use Rattle.std.specs.Fmt.{decimal}
use Rattle.std.specs.Option.{unwrap_or}

-- What a byte is worth as a digit: '0' to '9', from 48 on, are worth 0 to 9; 'a' to 'f', from 97 on, and
-- 'A' to 'F', from 65 on, are worth 10 to 15; and no other byte is a digit.
abbrev pub worth : ℕ → Option ℕ
worth byte =
    cond (nat_le 48 byte && nat_le byte 57) (Some (byte - 48))
    (cond (nat_le 97 byte && nat_le byte 102) (Some (byte - 97 + 10))
    (cond (nat_le 65 byte && nat_le byte 70) (Some (byte - 65 + 10)) None))

-- The byte is a digit.
abbrev pub Digit : ℕ → Type 0
Digit byte = is_some (worth byte) ≡ true

-- Every byte of the text before the offset is a digit.
abbrev pub DigitsBefore : ℕ → List ℕ → Type 0
DigitsBefore offset text = (k : ℕ) → k < offset → Digit (slice_index text k)

-- The whole text is digits.
abbrev pub Digits : List ℕ → Type 0
Digits text = DigitsBefore (length text) text

-- The byte at the offset is the first that is no digit.
abbrev pub Stray : List ℕ → ℕ → Type 0
Stray text offset = (offset < length text) × (Digit (slice_index text offset) → ⊥) × DigitsBefore offset text

-- The byte that two digits write.
abbrev pub byte_of : ℕ → ℕ → ℕ
byte_of high low = 16 * unwrap_or (worth high) 0 + unwrap_or (worth low) 0

-- The bytes that a text of digits writes: one for each pair, the high digit first.
abbrev pub decoded : List ℕ → List ℕ
decoded [] = []
decoded (alone ∷ []) = []
decoded (high ∷ (low ∷ rest)) = byte_of high low ∷ decoded rest

-- A text is accepted into a buffer with this much room, as n bytes: pairs of digits and nothing else.
abbrev pub Accepted : List ℕ → ℕ → ℕ → Type 0
Accepted text room n = Digits text × (length text ≡ 2 * n) × (n ≤ room)

-- A text is refused with a fault: a stray byte counts before an odd count of digits, and that before a want
-- of room.
abbrev pub Refused : List ℕ → ℕ → HexFault → Type 0
Refused text room (NotADigit offset) = Stray text offset
Refused text room OddDigits = Digits text × (length text % 2 ≡ 1)
Refused text room NoRoom = Digits text × (length text % 2 ≡ 0) × (room < length text / 2)

-- What a fault tells a person, who counts characters from 1.
abbrev pub told : HexFault → List ℕ
told (NotADigit offset) = codes "no hexadecimal digit at character " ++ decimal (offset + 1)
told OddDigits = codes "an odd count of hexadecimal digits"
told NoRoom = codes "more bytes than there is room for"
