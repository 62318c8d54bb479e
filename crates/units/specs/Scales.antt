-- The price of a currency charge is bounded.
use Rattle.std.specs.Prelude.{◌≡◌, ◌^◌, ◌≤◌, true, ℤ, pos, negsuc, ◌+ℤ◌, int_le, nat_le, unsigned_abs}
use Rattle.std.proofs.Math.Nat.{pow-le-pow_right}
use Rattle.std.proofs.Common.{arith}
use Rattle.std.proofs.lemmas.Nat.{mul-le}
use Rattle.std.proofs.lemmas.Int.{ints}
use Rattle.std.proofs.lemmas.Bool.{and_parts, leb-true, cond_both}
use Rattle.indication.specs.declared.entry.Charge.{Charge}
use Rattle.units.specs.Currencies.{currency, well_scaled}

-- the power of ten of a scale
scale_low : (z : ℤ) → int_le (negsuc 6) z ≡ true → int_le z (pos 3) ≡ true → unsigned_abs (z +ℤ pos 7) ≤ 10
scale_low z low high = grind (arith, ints)

pub price_low : (c : Charge) → currency.price c ≤ 10 ^ 16
price_low c = cond_both (well_scaled c) _ _ (λ p. p ≤ 10 ^ 16) (λ e.
    let both = and_parts (nat_le c.size 999999) _ e in
    let scale = and_parts (int_le (negsuc 6) c.step) _ both.1 in
    let power : 10 ^ unsigned_abs (c.step +ℤ pos 7) ≤ 10 ^ 10 =
    pow-le-pow_right {n = 10} (omega arith) (scale_low c.step scale.0 scale.1) in
    omega (arith, mul-le c.size (10 ^ unsigned_abs (c.step +ℤ pos 7)) 999999 (10 ^ 10) (leb-true c.size 999999 both.0) power)) (λ e. omega arith)
