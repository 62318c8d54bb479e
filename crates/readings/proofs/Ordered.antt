-- The test of the order of uses.
use Rattle.std.proofs.Common.{ℕ, zero, suc, ◌+◌, min, ◌&&◌, Decides, refl, subst, add-one, arith}
use Rattle.std.proofs.lemmas.Bool.Decides.{nat_tests, Decides-like, Decides-and}
use Rattle.indication.specs.Rules.{InOrder}
use Rattle.reader.specs.Order.{GoesOn}
use Rattle.reader.proofs.Orders.{order_none, order_more, order_goes_on}
use Rattle.readings.specs.Checks.{goes_on, in_order}

-- without the last of some uses in order, the others are in order
order_less : (u : ℕ → ℕ) (n : ℕ) → InOrder u (n + 1) → InOrder u n
order_less u n o = record {
  s = min o.s n;
  t = min o.t n;
  one_attempt = omega (arith, o.one_attempt);
  then_one_set_up = (omega (arith, o.then_one_set_up), omega (arith, o.then_one_set_up));
  then_four_subtariffs = (omega arith, omega (arith, o.then_four_subtariffs));
  attempts = λ k h. o.attempts k (omega arith);
  set_ups = λ k h l. o.set_ups k (omega arith) (omega arith);
  subtariffs = λ k h l. o.subtariffs k (omega arith) (omega arith);
}

decides_goes_on : (u : ℕ → ℕ) (k : ℕ) → Decides (goes_on u k) (GoesOn u k)
decides_goes_on u k = (λ h. grind (arith, nat_tests), λ h. grind (arith, nat_tests))

pub decides_in_order : (u : ℕ → ℕ) (n : ℕ) → Decides (in_order u n) (InOrder u n)
decides_in_order u zero = (λ _. order_none u, λ _. refl)
decides_in_order u (suc n) =
    subst (λ m. Decides (in_order u n && goes_on u n) (InOrder u m)) (add-one n)
    (Decides-like (in_order u n && goes_on u n) (λ h. order_more u n h.0 h.1)
    (λ o. (order_less u n o, order_goes_on u n o))
    (Decides-and (in_order u n) (goes_on u n) (decides_in_order u n) (decides_goes_on u n)))
