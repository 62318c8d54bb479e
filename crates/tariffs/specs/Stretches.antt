-- The parts that the price of a stretch is made of.
use Rattle.std.specs.Prelude.{◌≡◌, ℕ, ◌+◌, ◌-◌, ◌/◌, ◌%◌, ◌≤◌, min, true, cond, List, Some, None, is_some, Option, ◌==◌}
use Rattle.std.specs.List.{AllByRecursion}
use Rattle.units.specs.Meanings.{Meaning, counted}
use Rattle.tariffs.specs.declared.tariff.Charging.{Charging}
use Rattle.tariffs.specs.declared.tariff.Charging.TheVariants.{Periodic, OneTime}
use Rattle.tariffs.specs.declared.tariff.Subtariff.{Subtariff}
use Rattle.tariffs.specs.declared.tariff.Tariff.{Tariff}
use Rattle.tariffs.specs.declared.rounds.InRounds.{InRounds}
use Rattle.tariffs.specs.Sequences.{Admitted, Priced, charged, recurs, round_length, sequence, sum, unending, within}

-- how many times a subtariff takes its charge over the n seconds from its offset p on
abbrev pub times_taken : Charging → Meaning → Subtariff → ℕ → ℕ → ℕ
times_taken Periodic m s p n = counted (m.ticks s.charge) p n
times_taken OneTime m s p n = cond (p == 0) (m.lump s.charge s.duration) 0

-- what a sequence takes over the n seconds from its second p on
abbrev pub taken_over : Meaning → List Subtariff → ℕ → ℕ → ℕ
taken_over m ss p n = sum (λ k. within m ss (p + k)) n

-- how many seconds the subtariffs of a sequence take in all, where it has an end
abbrev pub whole_length : List Subtariff → Option ℕ
whole_length ss = cond (unending ss) None (Some (round_length ss))

-- how many seconds a round takes, and 0 where the sequence does not begin again
abbrev pub round_of : Tariff → ℕ
round_of t = cond (recurs t) (round_length (sequence t)) 0

-- a stretch of n seconds from second p on, in rounds: where it starts in its round, how many of its seconds are of that
-- round, how many whole rounds come after that, and how many seconds are left
pub record Splits (round p n : ℕ) (r : InRounds) : Type 0 where
  pub start : r.at ≡ p % round
  pub front : r.first ≡ min n (round - p % round)
  pub middle : r.whole ≡ (n - r.first) / round
  pub end : r.last ≡ (n - r.first) % round

-- r is the price of the stretch of n seconds from elapsed second p on, and there is one for a day of admitted charges
pub record Prices (m : Meaning) (t : Tariff) (p n : ℕ) (r : Option ℕ) : Type 0 where
  pub sum : Priced r (charged m t p n)
  pub fits : AllByRecursion (Admitted m) (sequence t) → n ≤ 86400 → is_some r ≡ true
