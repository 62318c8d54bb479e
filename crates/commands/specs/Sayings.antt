-- What the lines of commands say.
use Rattle.std.specs.Prelude.{◌≡◌, ℕ, ◌≤◌, List, [], ◌∷◌, length, take}
use Rattle.commands.specs.Arguments.{Numbers, Indicates}
use Rattle.commands.specs.declared.command.Command.{Command}
use Rattle.commands.specs.declared.command.Command.TheVariants.{Tariff, AddOn, Advance, Start, Release}

-- What a line can say.
pub data Said : Type 0 where
  tariff : List ℕ → Said
  add_on : List ℕ → Said
  advance : ℕ → Said
  start : Said
  release : Said

-- The line says this. Its letter decides: T (84), A (65), W (87), S (83) or R (82).
abbrev pub Says : List ℕ → Said → Type 0
Says [] said = ⊥
Says (letter ∷ rest) (tariff bytes) = (letter ≡ 84) × Indicates rest bytes
Says (letter ∷ rest) (add_on bytes) = (letter ≡ 65) × Indicates rest bytes
Says (letter ∷ rest) (advance seconds) = (letter ≡ 87) × Numbers rest seconds
Says (letter ∷ rest) start = (letter ≡ 83) × (length rest ≡ 0)
Says (letter ∷ rest) release = (letter ≡ 82) × (length rest ≡ 0)

-- The bytes of the indication in what is said; none where there is no indication.
abbrev pub bytes_of : Said → List ℕ
bytes_of (tariff bytes) = bytes
bytes_of (add_on bytes) = bytes
bytes_of (advance seconds) = []
bytes_of start = []
bytes_of release = []

-- The line says nothing whose indication fits into so much room.
abbrev pub NothingFits : List ℕ → ℕ → Type 0
NothingFits line room = (said : Said) → Says line said → length (bytes_of said) ≤ room → ⊥

-- How many bytes the indication of a command has; 0 where there is no indication.
abbrev pub size_of : Command → ℕ
size_of (Tariff n) = n
size_of (AddOn n) = n
size_of (Advance seconds) = 0
size_of Start = 0
size_of Release = 0

-- What a command says, with its indication at the front of the buffer.
abbrev pub said_of : Command → List ℕ → Said
said_of (Tariff n) buffer = tariff (take n buffer)
said_of (AddOn n) buffer = add_on (take n buffer)
said_of (Advance seconds) buffer = advance seconds
said_of Start buffer = start
said_of Release buffer = release
