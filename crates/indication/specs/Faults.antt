-- The number, the layer and the offset of each refusal.
use Rattle.std.specs.Prelude.{ℕ}
use Rattle.indication.specs.declared.fault.Fault.{Fault}
use Rattle.indication.specs.declared.fault.Fault.TheVariants.{WrongLength, BrokenLayout, EmptyTariff, WrongDuration, ForeignMark, NotAdmitted, NoRoom, TooManyIndications, AddOnBeforeTariff, NoCurrentTariff, TooManyNetworks, PastLimit}
use Rattle.indication.specs.declared.fault.Layer.{Layer}
use Rattle.indication.specs.declared.fault.Layer.TheVariants.{Reader, Unit, Writer, Meter}

abbrev pub number_of : Fault → ℕ
number_of (WrongLength offset) = 1
number_of (BrokenLayout offset) = 2
number_of EmptyTariff = 3
number_of (WrongDuration offset) = 4
number_of ForeignMark = 5
number_of (NotAdmitted offset) = 6
number_of (NoRoom needed) = 7
number_of TooManyIndications = 11
number_of AddOnBeforeTariff = 12
number_of NoCurrentTariff = 13
number_of TooManyNetworks = 14
number_of (PastLimit left) = 15

abbrev pub layer_of : Fault → Layer
layer_of (WrongLength offset) = Reader
layer_of (BrokenLayout offset) = Reader
layer_of EmptyTariff = Reader
layer_of (WrongDuration offset) = Reader
layer_of ForeignMark = Unit
layer_of (NotAdmitted offset) = Unit
layer_of (NoRoom needed) = Writer
layer_of TooManyIndications = Meter
layer_of AddOnBeforeTariff = Meter
layer_of NoCurrentTariff = Meter
layer_of TooManyNetworks = Meter
layer_of (PastLimit left) = Meter

-- Where it shows; for a buffer without room, the length that is needed; past the limit, the seconds left.
abbrev pub offset_of : Fault → ℕ
offset_of (WrongLength offset) = offset
offset_of (BrokenLayout offset) = offset
offset_of EmptyTariff = 0
offset_of (WrongDuration offset) = offset
offset_of ForeignMark = 7
offset_of (NotAdmitted offset) = offset
offset_of (NoRoom needed) = needed
offset_of TooManyIndications = 0
offset_of AddOnBeforeTariff = 12
offset_of NoCurrentTariff = 12
offset_of TooManyNetworks = 12
offset_of (PastLimit left) = left
