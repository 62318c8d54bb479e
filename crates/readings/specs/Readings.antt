-- What a byte string comes to where it is read for a unit: the rule, and a function that computes it.
use Rattle.std.specs.Prelude.{◌≡◌, ℕ, cond, List, Some, None, Ok, Err, Option, Result}
use Rattle.indication.specs.declared.header.Kind.{Kind}
use Rattle.indication.specs.declared.value.Indication.{Indication}
use Rattle.indication.specs.declared.fault.Fault.{Fault}
use Rattle.indication.specs.declared.fault.Fault.TheVariants.{WrongLength, BrokenLayout, EmptyTariff, WrongDuration, ForeignMark, NotAdmitted}
use Rattle.indication.specs.Format.{Content, header_of, content_of, decoded}
use Rattle.indication.specs.Rules.{Foremost, Groundless}
use Rattle.units.specs.Meanings.{Meaning}
use Rattle.units.specs.Admission.{UnitGrounds}
use Rattle.readings.specs.Checks.{wrong_length, broken_header, broken_use, is_empty, disallowed, not_admitted}

-- a refusal of the reader or the unit, or what the indication says
pub data Reading : Type 0 where
  refused : Fault → Reading
  says : Content → Reading

-- the rule: the refusal that goes before all others with a ground; where none has one, what the bytes say
abbrev pub Reads : Meaning → Kind → List ℕ → Reading → Type 0
Reads m taken b (refused f) = Foremost (UnitGrounds m taken b) f
Reads m taken b (says c) = Groundless (UnitGrounds m taken b) × (c ≡ decoded b)

-- a refusal at an offset, if there is one; else what comes later
abbrev pub refused_at : (ℕ → Fault) → Option ℕ → Reading → Reading
refused_at fault (Some at) later = refused (fault at)
refused_at fault None later = later

-- what the unit makes of bytes that the reader takes
abbrev pub unit_reading : Meaning → List ℕ → Reading
unit_reading m b =
    cond (m.owns (header_of b).mark) (refused_at NotAdmitted (not_admitted m b) (says (decoded b))) (refused ForeignMark)

-- the refusals in the order of their numbers, and of each number at the first offset; the header stands before the uses
abbrev pub reading : Meaning → Kind → List ℕ → Reading
reading m taken b =
    refused_at WrongLength (wrong_length b)
    (refused_at BrokenLayout (broken_header taken b)
    (refused_at BrokenLayout (broken_use b)
    (cond (is_empty b) (refused EmptyTariff)
    (refused_at WrongDuration (disallowed b) (unit_reading m b)))))

-- an answer of the program, as a reading
abbrev pub answered : Result Indication Fault → Reading
answered (Ok value) = says (content_of value)
answered (Err f) = refused f
