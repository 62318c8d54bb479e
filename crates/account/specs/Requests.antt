-- What can be asked of a call.
use Rattle.std.specs.Prelude.{ℕ, List}
use Rattle.indication.specs.declared.header.Kind.TheVariants as kind
use Rattle.units.specs.Meanings.{Meaning}
use Rattle.readings.specs.Readings.{Reading, reading}

-- a request, with its indication as an I
pub data RequestOf (I : Type 0) : Type 0 where
  tariff : I → RequestOf I
  add_on : I → RequestOf I
  -- so many seconds pass
  advance : ℕ → RequestOf I
  start : RequestOf I
  release : RequestOf I
  -- what a network is owed now, and what it would be owed so many seconds later
  amount_owed : ℕ → RequestOf I
  look_ahead : ℕ → ℕ → RequestOf I
  -- the statement: its total, and line k
  total : RequestOf I
  line : ℕ → RequestOf I

-- with the bytes of its indication
abbrev pub Asked : Type 0
Asked = RequestOf (List ℕ)

-- with what its indication comes to
abbrev pub Request : Type 0
Request = RequestOf Reading

-- a request as a meter of a unit understands it: the indication is read
abbrev pub understood : Meaning → Asked → Request
understood m (tariff b) = tariff (reading m kind.Tariff b)
understood m (add_on b) = add_on (reading m kind.AddOn b)
understood m (advance n) = advance n
understood m start = start
understood m release = release
understood m (amount_owed network) = amount_owed network
understood m (look_ahead network n) = look_ahead network n
understood m total = total
understood m (line k) = line k
