-- What a charge unit means, and what holds of every one.
use Rattle.std.specs.Prelude.{◌≡◌, ℕ, zero, suc, ◌+◌, ◌^◌, ◌≤◌, Bool, true, false, cond, ◌&&◌, nat_le}
use Rattle.indication.specs.declared.entry.Charge.{Charge}
use Rattle.indication.specs.declared.entry.Usage.{Usage}
use Rattle.indication.specs.declared.header.Mark.{Mark}

pub record Meaning : Type 0 where
  -- the marks that are the unit's own
  pub owns : Mark → Bool
  -- the uses that a charge may be written for
  pub fits : Charge → Usage → Bool
  -- what a charge costs each time that it is taken
  pub price : Charge → ℕ
  -- the offsets, in seconds from the start of its subtariff, at which a periodic charge is taken
  pub ticks : Charge → ℕ → Bool
  -- how many times a one-time subtariff of so many seconds takes its charge
  pub lump : Charge → ℕ → ℕ

-- of the n numbers from a on, how many pass
abbrev pub counted : (ℕ → Bool) → ℕ → ℕ → ℕ
counted p a zero = 0
counted p a (suc n) = counted p a n + cond (p (a + n)) 1 0

-- the durations that a one-time subtariff may have
abbrev pub lasting : ℕ → Bool
lasting duration = nat_le 1 duration && nat_le duration 36000

-- What every unit owes. A charge that may be written for no use costs nothing.
pub record Sound (m : Meaning) : Type 0 where
  pub price_bound : (c : Charge) → m.price c ≤ 10 ^ 16
  pub lump_low : (c : Charge) (d : ℕ) → lasting d ≡ true → 1 ≤ m.lump c d
  pub lump_high : (c : Charge) (d : ℕ) → m.lump c d ≤ d
  pub lump_none : (c : Charge) (d : ℕ) → lasting d ≡ false → m.lump c d ≡ 0
  pub misfit_price : (c : Charge) → ((u : Usage) → m.fits c u ≡ false) → m.price c ≡ 0
  pub misfit_ticks : (c : Charge) → ((u : Usage) → m.fits c u ≡ false) → (j : ℕ) → m.ticks c j ≡ false
  pub misfit_lump : (c : Charge) → ((u : Usage) → m.fits c u ≡ false) → (d : ℕ) → lasting d ≡ true → m.lump c d ≡ 1

-- a charge that may be written for a use and costs at most 10^9
abbrev pub admitted : Meaning → Charge → Usage → Bool
admitted m c u = m.fits c u && nat_le (m.price c) 1000000000
