-- Which indications a unit takes, and which refusal any other byte string gets.
use Rattle.std.specs.Prelude.{◌≡◌, ℕ, ◌<◌, Bool, true, false, cond, List, nat_lt}
use Rattle.indication.specs.declared.header.Kind.{Kind}
use Rattle.indication.specs.declared.fault.Fault.{Fault}
use Rattle.indication.specs.declared.fault.Fault.TheVariants.{WrongLength, BrokenLayout, EmptyTariff, WrongDuration, ForeignMark, NotAdmitted, NoRoom, TooManyIndications, AddOnBeforeTariff, NoCurrentTariff, TooManyNetworks, PastLimit}
use Rattle.indication.specs.Format.{entry_count, charge_offset, charge_at, term_at, header_of}
use Rattle.indication.specs.Rules.{Grounds}
use Rattle.units.specs.Meanings.{Meaning, admitted}

-- whether the charge of entry i is admitted for its use; there is nothing to admit past the entries
abbrev pub admits_at : Meaning → List ℕ → ℕ → Bool
admits_at m b i = cond (nat_lt i (entry_count b)) (admitted m (charge_at b i) (term_at b i).usage) true

-- the charge that begins at an offset is not admitted for its use
abbrev pub NotAdmittedAt : Meaning → List ℕ → ℕ → Type 0
NotAdmittedAt m b at =
    (i : ℕ) × (i < entry_count b) × (at ≡ charge_offset i) × (admitted m (charge_at b i) (term_at b i).usage ≡ false)

-- to the reader's grounds come those of the unit: its mark, and each charge
abbrev pub UnitGrounds : Meaning → Kind → List ℕ → Fault → Type 0
UnitGrounds m taken b (WrongLength at) = Grounds taken b (WrongLength at)
UnitGrounds m taken b (BrokenLayout at) = Grounds taken b (BrokenLayout at)
UnitGrounds m taken b EmptyTariff = Grounds taken b EmptyTariff
UnitGrounds m taken b (WrongDuration at) = Grounds taken b (WrongDuration at)
UnitGrounds m taken b ForeignMark = m.owns (header_of b).mark ≡ false
UnitGrounds m taken b (NotAdmitted at) = NotAdmittedAt m b at
UnitGrounds m taken b (NoRoom needed) = ⊥
UnitGrounds m taken b TooManyIndications = ⊥
UnitGrounds m taken b AddOnBeforeTariff = ⊥
UnitGrounds m taken b NoCurrentTariff = ⊥
UnitGrounds m taken b TooManyNetworks = ⊥
UnitGrounds m taken b (PastLimit left) = ⊥
