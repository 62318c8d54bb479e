use Rattle.std.proofs.Common.{◌≡◌, ◌^◌, ◌<◌, drop}
use Rattle.lines.proofs.decimal.parse.Given as goal
use Rattle.lines.specs.Decimal.{DigitsBefore, number, number_after}

-- So far there are only digits, and with the rest after them they write the text's number.
abbrev pub invariant-loop-byte : goal.invariant-loop-byte
invariant-loop-byte l =
    DigitsBefore l.byte-index l.text
    × (l.value < 2 ^ 32)
    × (number_after l.value (drop l.byte-index l.text) ≡ number l.text)
