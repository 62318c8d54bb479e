-- What a tariff charges at each elapsed second of a call.
use Rattle.std.specs.Prelude.{◌≡◌, ℕ, zero, suc, ◌+◌, ◌-◌, ◌*◌, ◌%◌, ◌^◌, ◌<◌, Bool, true, false, cond, not, ◌&&◌, ◌||◌, List, [], ◌∷◌, Some, None, Option, ◌==◌, nat_lt}
use Rattle.std.specs.Option.{SomeIff}
use Rattle.indication.specs.declared.entry.Usage.{Usage}
use Rattle.indication.specs.declared.entry.Usage.TheVariants as usage
use Rattle.indication.specs.declared.header.TariffControl.{TariffControl}
use Rattle.indication.specs.declared.header.TariffControl.TheVariants.{Cyclic, NonCyclic}
use Rattle.units.specs.Meanings.{Meaning, admitted}
use Rattle.tariffs.specs.declared.tariff.Charging.{Charging}
use Rattle.tariffs.specs.declared.tariff.Charging.TheVariants.{Periodic, OneTime}
use Rattle.tariffs.specs.declared.tariff.Subtariff.{Subtariff}
use Rattle.tariffs.specs.declared.tariff.Tariff.{Tariff}

-- what a subtariff takes at offset j, in seconds from its start: its price where its charge ticks, or all that it takes
-- at its first second
abbrev pub taken_by : Charging → Meaning → Subtariff → ℕ → ℕ
taken_by Periodic m s j = cond (m.ticks s.charge j) (m.price s.charge) 0
taken_by OneTime m s j = cond (j == 0) (m.price s.charge * m.lump s.charge s.duration) 0

abbrev pub taken : Meaning → Subtariff → ℕ → ℕ
taken m s j = taken_by s.charging m s j

-- a subtariff without end
abbrev pub endless : Subtariff → Bool
endless s = s.duration == 0

-- the offset is one of the subtariff's own
abbrev pub lasts : Subtariff → ℕ → Bool
lasts s p = endless s || nat_lt p s.duration

-- what a sequence takes at second p from its start: the subtariff whose seconds hold p takes it, and past the last one
-- nothing is taken
abbrev pub within : Meaning → List Subtariff → ℕ → ℕ
within m [] p = 0
within m (s ∷ ss) p = cond (lasts s p) (taken m s p) (within m ss (p - s.duration))

-- the subtariffs in the slots, in order
abbrev pub listed : List (Option Subtariff) → List Subtariff
listed [] = []
listed (None ∷ slots) = listed slots
listed (Some s ∷ slots) = s ∷ listed slots

abbrev pub sequence : Tariff → List Subtariff
sequence t = listed t.subtariffs

-- how long one round of a sequence takes
abbrev pub round_length : List Subtariff → ℕ
round_length [] = 0
round_length (s ∷ ss) = s.duration + round_length ss

-- one of the subtariffs is without end
abbrev pub unending : List Subtariff → Bool
unending [] = false
unending (s ∷ ss) = endless s || unending ss

abbrev pub is_cyclic : TariffControl → Bool
is_cyclic Cyclic = true
is_cyclic NonCyclic = false

-- after its last subtariff the sequence begins again
abbrev pub recurs : Tariff → Bool
recurs t = is_cyclic t.control && (not (unending (sequence t)) && nat_lt 0 (round_length (sequence t)))

-- what a tariff charges at elapsed second p
abbrev pub charged_at : Meaning → Tariff → ℕ → ℕ
charged_at m t p = within m (sequence t) (cond (recurs t) (p % round_length (sequence t)) p)

-- the sum of the first n values of f
abbrev pub sum : (ℕ → ℕ) → ℕ → ℕ
sum f zero = 0
sum f (suc n) = sum f n + f n

-- what a tariff charges over the n seconds from elapsed second p on
abbrev pub charged : Meaning → Tariff → ℕ → ℕ → ℕ
charged m t p n = sum (λ k. charged_at m t (p + k)) n

-- the amount, where it fits 64 bits
abbrev pub Priced : Option ℕ → ℕ → Type 0
Priced r amount = SomeIff r (amount < 2 ^ 64) amount

-- the use that a subtariff's charge was written for
abbrev pub usage_of : Charging → Usage
usage_of Periodic = usage.Periodic
usage_of OneTime = usage.OneTime

-- the charge of a subtariff is admitted for its use
abbrev pub Admitted : Meaning → Subtariff → Type 0
Admitted m s = admitted m s.charge (usage_of s.charging) ≡ true
