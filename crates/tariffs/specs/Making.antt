-- The tariff that the entries of an indication say.
use Rattle.std.specs.Prelude.{ℕ, zero, suc, cond, List, [], ◌∷◌, map, Some, None, Option, ◌==◌}
use Rattle.indication.specs.declared.entry.Usage.{Usage}
use Rattle.indication.specs.declared.entry.Usage.TheVariants as usage
use Rattle.indication.specs.declared.entry.Charge.{Charge}
use Rattle.indication.specs.declared.entry.Entry.{Entry}
use Rattle.indication.specs.declared.header.TariffControl.{TariffControl}
use Rattle.indication.specs.Codes.{usage_code}
use Rattle.tariffs.specs.declared.tariff.Charging.TheVariants.{Periodic, OneTime}
use Rattle.tariffs.specs.declared.tariff.Subtariff.{Subtariff}
use Rattle.tariffs.specs.declared.tariff.Tariff.{Tariff}
use Rattle.tariffs.specs.Sequences.{listed}

-- the charge of the first entry of a use
abbrev pub first_charge : Usage → List Entry → Option Charge
first_charge u [] = None
first_charge u (e ∷ es) = cond (usage_code e.term.usage == usage_code u) (Some e.charge) (first_charge u es)

-- the subtariff that an entry of a use says, if any
abbrev pub subtariff_for : Usage → Entry → Option Subtariff
subtariff_for usage.Periodic e = Some record { charge = e.charge; charging = Periodic; duration = e.term.duration }
subtariff_for usage.OneTime e = Some record { charge = e.charge; charging = OneTime; duration = e.term.duration }
subtariff_for usage.SetUp e = None
subtariff_for usage.Attempt e = None
subtariff_for usage.AddOn e = None

abbrev pub subtariff_of : Entry → Option Subtariff
subtariff_of e = subtariff_for e.term.usage e

-- the first n, in the first of n slots
abbrev pub slotted : ℕ → List Subtariff → List (Option Subtariff)
slotted zero ss = []
slotted (suc n) [] = None ∷ slotted n []
slotted (suc n) (s ∷ ss) = Some s ∷ slotted n ss

-- the attempt charge and the set-up charge are those of the first entries of these uses, and the first four subtariffs
-- are in the slots
abbrev pub tariff_of : TariffControl → List Entry → Tariff
tariff_of control es =
    record {
      attempt = first_charge usage.Attempt es;
      set_up = first_charge usage.SetUp es;
      control = control;
      subtariffs = slotted 4 (listed (map subtariff_of es));
    }
