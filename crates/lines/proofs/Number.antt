-- Facts on the numbers that digits write.
use Rattle.std.proofs.Common.{◌≡◌, ℕ, ◌+◌, ◌-◌, ◌*◌, ◌<◌, ◌≤◌, List, [], ◌∷◌, length, get_or, drop, arith}
use Rattle.lines.specs.Decimal.{number_after}
use Rattle.std.proofs.lemmas.List.{at_drop_more}

-- One digit on.
pub number_more : (front : ℕ) (text : List ℕ) (i : ℕ) → i < length text
    → number_after front (drop i text) ≡ number_after (front * 10 + (get_or text i 0 - 48)) (drop (i + 1) text)
number_more front text i h = at_drop_more (number_after front) text i 0 h

-- More digits never make the number smaller.
number_grows : (front : ℕ) (rest : List ℕ) → front ≤ number_after front rest
number_grows front [] = omega arith
number_grows front (digit ∷ rest) = omega (arith, number_grows (front * 10 + (digit - 48)) rest)

-- So a text writes at least what its front writes.
pub number_ge : (front : ℕ) (text : List ℕ) (i : ℕ) → i < length text
    → front * 10 + (get_or text i 0 - 48) ≤ number_after front (drop i text)
number_ge front text i h = rw (number_more front text i h) (number_grows (front * 10 + (get_or text i 0 - 48)) (drop (i + 1) text))
