-- The multiples of a number in a range, counted.
use Rattle.std.proofs.Common.{◌≡◌, ℕ, zero, suc, ◌+◌, ◌*◌, ◌/◌, ◌%◌, ◌<◌, min, cond, eqb, ap, ◌∙◌, ⊎_elim, add-zero, mod-lt, add-mul, div-add-mod', zero-add, arith}
use lib.Arith.{digits_div, digits_mod}
use Rattle.std.proofs.lemmas.Bool.{cases_lt}
use Rattle.std.proofs.lemmas.Bool.Decides.{nat_tests}
use Rattle.units.specs.Meanings.{counted}
use Rattle.units.specs.PulseCounts.{multiples}

-- below q rounds of s and r more
multiples_at : (s q r : ℕ) → r < s → multiples s (q * s + r) ≡ q + min 1 r
multiples_at s q r h = rw (digits_div q h, digits_mod q h)

-- one number further
multiples_more : (s x : ℕ) → 0 < s → multiples s (x + 1) ≡ multiples s x + cond (eqb (x % s) 0) 1 0
multiples_more s x h =
    let q = x / s in
    let r = x % s in
    let small : r < s = mod-lt x h in
    let whole : q * s + r ≡ x = div-add-mod' x s in
    ⊎_elim
    (λ l.
    let e : x + 1 ≡ q * s + (r + 1) = omega arith in
    ap (multiples s) e ∙ multiples_at s q (r + 1) l ∙ grind (arith, nat_tests))
    (λ l.
    let e : x + 1 ≡ (q + 1) * s + 0 = omega (arith, add-mul q 1 s) in
    ap (multiples s) e ∙ multiples_at s (q + 1) 0 h ∙ grind (arith, nat_tests))
    (cases_lt (r + 1) s)

pub counted_multiples : (s a n : ℕ) → 0 < s → counted (λ j. eqb (j % s) 0) a n + multiples s a ≡ multiples s (a + n)
counted_multiples s a zero h = rw (zero-add (multiples s a), add-zero a)
counted_multiples s a (suc n) h =
    let e : a + suc n ≡ a + n + 1 = omega arith in
    omega (arith, counted_multiples s a n h, multiples_more s (a + n) h, ap (multiples s) e)
