-- The lines that open a meter.
use Rattle.std.specs.Prelude.{◌≡◌, ℕ, List, [], ◌∷◌, Result, Ok, Err}
use Rattle.commands.specs.Arguments.{Numbers}
use Rattle.commands.specs.declared.opening.Opening.{Opening}
use Rattle.commands.specs.declared.opening.UnitName.{UnitName}
use Rattle.commands.specs.declared.opening.UnknownUnit.{UnknownUnit}
use Rattle.commands.specs.declared.opening.UnitName.TheVariants.{Currency, Pulses}

-- The letter of a unit: C for currency, P for pulses.
abbrev pub letter_of : UnitName → ℕ
letter_of Currency = 67
letter_of Pulses = 80

-- The letter names this unit, or it is the letter of none.
abbrev pub Names : ℕ → Result UnitName UnknownUnit → Type 0
Names letter (Ok unit) = letter ≡ letter_of unit
Names letter (Err unknown) = (unknown.0 ≡ letter) × ((unit : UnitName) → letter ≡ letter_of unit → ⊥)

-- The line opens a meter so: the letter of its unit, one space, and the second.
abbrev pub Opens : List ℕ → Opening → Type 0
Opens [] opening = ⊥
Opens (letter ∷ rest) opening = (letter ≡ letter_of opening.unit) × Numbers rest opening.second
