-- The uses up to the k-th are in order just where those before it are and it goes on with them.
use Rattle.std.proofs.Common.{◌≡◌, ℕ, zero, suc, ◌+◌, ◌-◌, ◌<◌, ◌≤◌, Some, None, Option, MatchOption, inl, inr, ⊎_elim, arith}
use Rattle.std.proofs.lemmas.Bool.{cases_lt}
use Rattle.indication.specs.Rules.{InOrder, Attempt}
use Rattle.reader.specs.Order.{GoesOn}

-- a use before the subtariffs is none
before_subtariffs : (u : ℕ → ℕ) (n : ℕ) (o : InOrder u n) (k : ℕ) → k < o.t → 1 < u k
before_subtariffs u n o k h =
    ⊎_elim (λ l. omega (arith, o.attempts k l)) (λ l. omega (arith, o.set_ups k l h)) (cases_lt k o.s)

-- an attempt in order is the first use
attempt_first : (u : ℕ → ℕ) (n : ℕ) (o : InOrder u n) (k : ℕ) → k < n → Attempt (u k) → k < o.s
attempt_first u n o k h a =
    ⊎_elim (λ l. l)
    (λ l. ⊎_elim (λ m. omega (arith, o.set_ups k l m)) (λ m. omega (arith, o.subtariffs k m h)) (cases_lt k o.t))
    (cases_lt k o.s)

pub order_more : (u : ℕ → ℕ) (k : ℕ) → InOrder u k → GoesOn u k → InOrder u (k + 1)
order_more u k o (inl (a, first)) = record {
  s = 1;
  t = 1;
  one_attempt = omega arith;
  then_one_set_up = (omega arith, omega arith);
  then_four_subtariffs = (omega arith, omega arith);
  attempts = λ j h. let e : j ≡ k = omega arith in rw e a;
  set_ups = λ j h l. absurd (omega arith);
  subtariffs = λ j h l. absurd (omega arith);
}
order_more u k o (inr (inl (a, inl first))) = record {
  s = 0;
  t = 1;
  one_attempt = omega arith;
  then_one_set_up = (omega arith, omega arith);
  then_four_subtariffs = (omega arith, omega arith);
  attempts = λ j h. absurd (omega arith);
  set_ups = λ j h l. let e : j ≡ k = omega arith in rw e a;
  subtariffs = λ j h l. absurd (omega arith);
}
order_more u k o (inr (inl (a, inr attempt))) =
    ⊎_elim
    (λ pos. let p : k - 1 < o.s = attempt_first u k o (k - 1) (omega arith) attempt in record {
      s = 1;
      t = 2;
      one_attempt = omega arith;
      then_one_set_up = (omega arith, omega arith);
      then_four_subtariffs = (omega arith, omega arith);
      attempts = λ j h. o.attempts j (omega arith);
      set_ups = λ j h l. let e : j ≡ k = omega arith in rw e a;
      subtariffs = λ j h l. absurd (omega arith);
    })
    (λ none. let e : k - 1 ≡ k = omega arith in let z : u k ≡ 3 = rw e at attempt in absurd (omega arith))
    (cases_lt 0 k)
order_more u k o (inr (inr (a, h))) = record {
  s = o.s;
  t = o.t;
  one_attempt = o.one_attempt;
  then_one_set_up = o.then_one_set_up;
  then_four_subtariffs = (
    omega arith,
    ⊎_elim (λ few. omega arith)
        (λ four. ⊎_elim (λ l. omega arith)
        (λ l. ⊎_elim (λ m. omega (arith, o.subtariffs (k - 4) l m)) (λ m. omega arith) (cases_lt (k - 4) k))
        (cases_lt (k - 4) o.t))
        h,
  );
  attempts = o.attempts;
  set_ups = o.set_ups;
  subtariffs = λ j l m. ⊎_elim (λ l2. o.subtariffs j l l2) (λ g. let e : j ≡ k = omega arith in rw e a) (cases_lt j k);
}

pub order_goes_on : (u : ℕ → ℕ) (k : ℕ) → InOrder u (k + 1) → GoesOn u k
order_goes_on u k o =
    ⊎_elim (λ l. inl (o.attempts k l, omega arith))
    (λ l. ⊎_elim
    (λ m. inr (inl (
      o.set_ups k l m,
      ⊎_elim (λ z. inl (omega arith)) (λ p. inr (o.attempts (k - 1) (omega arith))) (cases_lt k 1),
    )))
    (λ m. inr (inr (
      o.subtariffs k m (omega arith),
      ⊎_elim inl (λ p. inr (before_subtariffs u (k + 1) o (k - 4) (omega arith))) (cases_lt k 4),
    )))
    (cases_lt k o.t))
    (cases_lt k o.s)

pub order_none : (u : ℕ → ℕ) → InOrder u 0
order_none u = record {
  s = 0;
  t = 0;
  one_attempt = omega arith;
  then_one_set_up = (omega arith, omega arith);
  then_four_subtariffs = (omega arith, omega arith);
  attempts = λ j h. absurd (omega arith);
  set_ups = λ j h l. absurd (omega arith);
  subtariffs = λ j h l. absurd (omega arith);
}

-- uses that each go on with the order are in order
in_order : (u : ℕ → ℕ) (n : ℕ) → ((k : ℕ) → 0 ≤ k → k < n → GoesOn u k) → InOrder u n
in_order u zero h = order_none u
in_order u (suc n) h =
    let e : suc n ≡ n + 1 = omega arith in
    rw e (order_more u n (in_order u n (λ k l m. h k l (omega arith))) (h n (omega arith) (omega arith)))

-- the first use that does not go on with the order is the first up to which they are not in order
pub leaves_order :
    (u : ℕ → ℕ) (n : ℕ) (r : Option ℕ)
    → MatchOption r ((k : ℕ) → 0 ≤ k → k < n → GoesOn u k) (λ i. (0 ≤ i) × (i < n) × (GoesOn u i → ⊥) × ((k : ℕ) → 0 ≤ k → k < i → GoesOn u k))
    → MatchOption r ((k : ℕ) → 0 ≤ k → k < n → InOrder u (k + 1)) (λ i. (0 ≤ i) × (i < n) × (InOrder u (i + 1) → ⊥) × ((k : ℕ) → 0 ≤ k → k < i → InOrder u (k + 1)))
leaves_order u n None h = λ k _ l. in_order u (k + 1) (λ j m g. h j m (omega arith))
leaves_order u n (Some i) (z, l, wrong, h) =
    (z, l, λ o. wrong (order_goes_on u i o), λ k _ m. in_order u (k + 1) (λ j p g. h j p (omega arith)))
