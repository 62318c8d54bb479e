-- What one subtariff takes over some of its seconds, and what is left to the later ones.
use Rattle.std.proofs.Common.{◌≡◌, ℕ, ◌+◌, ◌-◌, ◌*◌, ◌^◌, ◌<◌, min, true, false, cond, List, ◌∷◌, sym, ap, ◌∙◌, ⊎_elim, mul-zero, arith}
use Rattle.std.proofs.lemmas.Bool.{cond-true, cond-false, eq-eqb, ne_eqb, cases_eq}
use Rattle.std.proofs.lemmas.Bool.Decides.{nat_tests}
use Rattle.units.specs.Meanings.{Meaning}
use Rattle.tariffs.specs.declared.tariff.Charging.{Charging}
use Rattle.tariffs.specs.declared.tariff.Charging.TheVariants.{Periodic, OneTime}
use Rattle.tariffs.specs.declared.tariff.Subtariff.{Subtariff}
use Rattle.tariffs.specs.Sequences.{sum, taken, taken_by, within, lasts, endless}
use Rattle.tariffs.specs.Stretches.{taken_over, times_taken}
use Rattle.tariffs.proofs.Sums.{sum_parts, sum_counted, sum_later, sum_once}

-- n seconds from offset a on
module _ (m : Meaning) (s : Subtariff) (a n : ℕ) where
  part_by : (c : Charging) → 0 < n → sum (λ k. taken_by c m s (a + k)) n ≡ m.price s.charge * times_taken c m s a n
  part_by Periodic some = sum_counted (m.ticks s.charge) (m.price s.charge) a n
  part_by OneTime some =
      ⊎_elim (λ z. sum_once _ a n z some ∙ ap (λ x. m.price s.charge * x) (sym (cond-true _ _ _ (eq-eqb a 0 z))))
      (λ nz. sum_later _ a n (omega arith) ∙ sym (mul-zero _) ∙ ap (λ x. m.price s.charge * x) (sym (cond-false _ _ _ (ne_eqb a 0 nz))))
      (cases_eq a 0)

  pub part : 0 < n → sum (λ k. taken m s (a + k)) n ≡ m.price s.charge * times_taken s.charging m s a n
  part some = part_by s.charging some

  -- the first `count` seconds are the subtariff's own
  module _ (ss : List Subtariff) (count : ℕ) (is : count ≡ cond (endless s) n (min n (s.duration - a))) where
    own : (k : ℕ) → k < count → lasts s (a + k) ≡ true
    own k l = grind (arith, nat_tests)

    past : (k : ℕ) → k < n - count → lasts s (a + (count + k)) ≡ false
    past k l = grind (arith, nat_tests)

    onward : (k : ℕ) → k < n - count → a + (count + k) - s.duration ≡ a - s.duration + k
    onward k l = grind (arith, nat_tests)

    shared :
        taken_over m (s ∷ ss) a n ≡ sum (λ k. taken m s (a + k)) count + taken_over m ss (a - s.duration) (n - count)
    shared =
        sum_parts _ (λ k. taken m s (a + k)) (λ k. within m ss (a - s.duration + k)) count n (grind (arith, nat_tests))
        (λ k l. cond-true _ _ _ (own k l)) (λ k l. cond-false _ _ _ (past k l) ∙ ap (within m ss) (onward k l))

-- a pass that comes to the subtariff with so much taken in all
module _ (m : Meaning) {s : Subtariff} {ss rest : List Subtariff} (is : ss ≡ s ∷ rest) (a n count : ℕ) (own_share : count ≡ cond (endless s) n (min n (s.duration - a))) (total whole : ℕ) (so_far : total + taken_over m ss a n ≡ whole) where
  -- what it takes goes to the total, and what is left to the later ones
  pub pass_more : total + sum (λ k. taken m s (a + k)) count + taken_over m rest (a - s.duration) (n - count) ≡ whole
  pass_more = omega (arith, so_far, ap (λ xs. taken_over m xs a n) is, shared m s a n rest count own_share)

  -- what does not fit with so much is more than fits in all
  pub pass_over : (total + sum (λ k. taken m s (a + k)) count < 2 ^ 64 → ⊥) → whole < 2 ^ 64 → ⊥
  pass_over over low = over (omega (arith, pass_more))
