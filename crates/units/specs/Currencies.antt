-- Currency: euros, in units of 0.0000001 EUR. A charge is a factor (size) and a scale (step), and is taken every second.
use Rattle.std.specs.Prelude.{◌*◌, ◌^◌, Bool, cond, ◌&&◌, pos, negsuc, ◌+ℤ◌, ◌==◌, int_le, nat_le, slice_index, unsigned_abs}
use Rattle.indication.specs.declared.entry.Charge.{Charge}
use Rattle.indication.specs.declared.header.Mark.{Mark}
use Rattle.units.specs.Meanings.{Meaning, lasting}

-- the factor is at most 999,999 and the scale is -7 to 3
abbrev pub well_scaled : Charge → Bool
well_scaled c = nat_le c.size 999999 && (int_le (negsuc 6) c.step && int_le c.step (pos 3))

-- the mark is 0 and "EUR"
abbrev pub is_euro : Mark → Bool
is_euro mark =
    (mark.kind == 0)
    && (slice_index mark.letters 0 == 69 && (slice_index mark.letters 1 == 85 && slice_index mark.letters 2 == 82))

abbrev pub currency : Meaning
currency =
    record {
      owns = is_euro;
      fits = λ c u. well_scaled c;
      price = λ c. cond (well_scaled c) (c.size * 10 ^ unsigned_abs (c.step +ℤ pos 7)) 0;
      ticks = λ c j. well_scaled c;
      lump = λ c d. cond (lasting d) (cond (well_scaled c) d 1) 0;
    }
