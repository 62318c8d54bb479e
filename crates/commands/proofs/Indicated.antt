-- Facts on the bytes that digits write.
use Rattle.std.proofs.Common.{◌≡◌, ℕ, ◌/◌, ◌%◌, ◌<◌, List, [], ◌∷◌, length, refl, arith}
use Rattle.lines.specs.Hexadecimal.{Digits, Refused, decoded}
use Rattle.lines.specs.declared.hexadecimal.HexFault.{HexFault}
use Rattle.lines.specs.declared.hexadecimal.HexFault.TheVariants.{NotADigit, OddDigits, NoRoom}

-- There is one byte for each pair of digits.
pub decoded_length : (digits : List ℕ) → length (decoded digits) ≡ length digits / 2
decoded_length [] = refl
decoded_length (alone ∷ []) = refl
decoded_length (high ∷ (low ∷ rest)) = omega (arith, decoded_length rest)

-- Pairs of digits are refused only for want of room.
pub no_room : (digits : List ℕ) (room : ℕ) (fault : HexFault) → Refused digits room fault → Digits digits
    → length digits % 2 ≡ 0 → room < length (decoded digits)
no_room digits room (NotADigit offset) h all even = absurd (h.1 (all offset h.0))
no_room digits room OddDigits h all even = omega arith
no_room digits room NoRoom h all even = rw (decoded_length digits) h.2
