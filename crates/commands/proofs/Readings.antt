-- A line has one reading at most, and it is short.
use Rattle.std.proofs.Common.{◌≡◌, ℕ, ◌*◌, ◌≤◌, cond, eqb, List, [], ◌∷◌, length, sym, refl, ap, ◌∙◌, arith}
use Rattle.commands.proofs.Indicated.{decoded_length}
use Rattle.commands.specs.Arguments.{Numbers, Indicates}
use Rattle.commands.specs.Openings.{Opens, letter_of}
use Rattle.commands.specs.Sayings.{Said, Says, bytes_of}
use Rattle.commands.specs.Sayings.Said.{tariff, add_on, advance, start, release}
use Rattle.commands.specs.declared.opening.Opening.{Opening}
use Rattle.commands.specs.declared.opening.UnitName.{UnitName}
use Rattle.commands.specs.declared.opening.UnitName.TheVariants.{Currency, Pulses}
use Rattle.lines.specs.Decimal.{number}
use Rattle.lines.specs.Hexadecimal.{decoded}

-- The number that can stand behind a letter.
abbrev number_of : List ℕ → ℕ
number_of [] = 0
number_of (space ∷ digits) = number digits

-- The bytes that can stand behind a letter.
abbrev indicated : List ℕ → List ℕ
indicated [] = []
indicated (space ∷ digits) = decoded digits

-- All that a line can say.
abbrev reading : List ℕ → Said
reading [] = start
reading (letter ∷ rest) =
    cond (eqb letter 84) (tariff (indicated rest))
    (cond (eqb letter 65) (add_on (indicated rest))
    (cond (eqb letter 87) (advance (number_of rest)) (cond (eqb letter 83) start release)))

only_number : (rest : List ℕ) (n : ℕ) → Numbers rest n → n ≡ number_of rest
only_number [] n h = absurd h
only_number (space ∷ digits) n h = h.2

only_bytes : (rest bytes : List ℕ) → Indicates rest bytes → bytes ≡ indicated rest
only_bytes [] bytes h = h
only_bytes (space ∷ digits) bytes h = h.3

only_reading : (line : List ℕ) (said : Said) → Says line said → said ≡ reading line
only_reading [] said h = absurd h
only_reading (letter ∷ rest) (tariff bytes) h = rw h.0 (ap tariff (only_bytes rest bytes h.1))
only_reading (letter ∷ rest) (add_on bytes) h = rw h.0 (ap add_on (only_bytes rest bytes h.1))
only_reading (letter ∷ rest) (advance seconds) h = rw h.0 (ap advance (only_number rest seconds h.1))
only_reading (letter ∷ rest) start h = rw h.0
only_reading (letter ∷ rest) release h = rw h.0

one_unit : (u v : UnitName) → letter_of u ≡ letter_of v → u ≡ v
one_unit Currency Currency e = refl
one_unit Currency Pulses e = absurd (omega arith)
one_unit Pulses Currency e = absurd (omega arith)
one_unit Pulses Pulses e = refl

-- No line opens a meter in two ways.
pub opens_once : (line : List ℕ) (a b : Opening) → Opens line a → Opens line b → a ≡ b
opens_once [] a b h k = absurd h
opens_once (letter ∷ rest) a b h k =
    let unit = one_unit a.unit b.unit (sym h.0 ∙ k.0) in
    let second = only_number rest a.second h.1 ∙ sym (only_number rest b.second k.1) in
    λ i. record { unit = unit i; second = second i }

-- No line says two things.
pub says_once : (line : List ℕ) (a b : Said) → Says line a → Says line b → a ≡ b
says_once line a b h k = only_reading line a h ∙ sym (only_reading line b k)

short_bytes : (rest bytes : List ℕ) → Indicates rest bytes → 2 * length bytes ≤ length rest
short_bytes [] bytes h = rw h (omega arith)
short_bytes (space ∷ digits) bytes h = rw (h.3, decoded_length digits) (omega arith)

-- What a line says fits into half as many bytes as the line has.
pub said_short : (line : List ℕ) (said : Said) → Says line said → 2 * length (bytes_of said) ≤ length line
said_short [] said h = absurd h
said_short (letter ∷ rest) (tariff bytes) h = omega (arith, short_bytes rest bytes h.1)
said_short (letter ∷ rest) (add_on bytes) h = omega (arith, short_bytes rest bytes h.1)
said_short (letter ∷ rest) (advance seconds) h = omega arith
said_short (letter ∷ rest) start h = omega arith
said_short (letter ∷ rest) release h = omega arith
