-- Pulses: a charge is a number of pulses (size), and for periodic use the interval in seconds at which they come (step).
use Rattle.std.specs.Prelude.{ℕ, ◌+◌, ◌/◌, ◌%◌, min, Bool, cond, ◌&&◌, ℤ, pos, ◌==◌, int_le, nat_le, slice_index, unsigned_abs}
use Rattle.indication.specs.declared.entry.Charge.{Charge}
use Rattle.indication.specs.declared.entry.Usage.{Usage}
use Rattle.indication.specs.declared.entry.Usage.TheVariants.{Periodic, OneTime, SetUp, Attempt, AddOn}
use Rattle.indication.specs.declared.header.Mark.{Mark}
use Rattle.units.specs.Meanings.{Meaning, lasting}

-- the mark is 1 and three zero bytes
abbrev pub is_pulses : Mark → Bool
is_pulses mark =
    (mark.kind == 1)
    && (slice_index mark.letters 0 == 0 && (slice_index mark.letters 1 == 0 && slice_index mark.letters 2 == 0))

-- 0 to 255 pulses, and a step from `low` to `high`
abbrev pub stepped : ℤ → ℤ → Charge → Bool
stepped low high c = nat_le c.size 255 && (int_le low c.step && int_le c.step high)

-- a periodic charge has an interval of 1 to 7,200 seconds, any other none
abbrev pub pulse_fits : Charge → Usage → Bool
pulse_fits c Periodic = stepped (pos 1) (pos 7200) c
pulse_fits c OneTime = stepped (pos 0) (pos 0) c
pulse_fits c SetUp = stepped (pos 0) (pos 0) c
pulse_fits c Attempt = stepped (pos 0) (pos 0) c
pulse_fits c AddOn = stepped (pos 0) (pos 0) c

-- how many multiples of s lie below an end
abbrev pub multiples : ℕ → ℕ → ℕ
multiples s end = end / s + min 1 (end % s)

abbrev pub pulses : Meaning
pulses =
    record {
      owns = is_pulses;
      fits = pulse_fits;
      price = λ c. cond (stepped (pos 0) (pos 7200) c) c.size 0;
      ticks = λ c j. stepped (pos 1) (pos 7200) c && (j % unsigned_abs c.step == 0);
      lump = λ c d. cond (lasting d) 1 0;
    }
