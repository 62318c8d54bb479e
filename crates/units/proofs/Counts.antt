-- How many numbers of a range pass a test.
use Rattle.std.proofs.Common.{◌≡◌, ℕ, zero, suc, ◌+◌, ◌≤◌, Bool, true, false, refl, add-one, arith}
use Rattle.std.proofs.lemmas.Bool.{cond_both}
use Rattle.units.specs.Meanings.{counted}

-- where all pass, and where none does
pub counted_all : (p : ℕ → Bool) (a n : ℕ) → ((j : ℕ) → p j ≡ true) → counted p a n ≡ n
counted_all p a zero h = refl
counted_all p a (suc n) h = rw (h (a + n), counted_all p a n h, add-one n)

pub counted_none : (p : ℕ → Bool) (a n : ℕ) → ((j : ℕ) → p j ≡ false) → counted p a n ≡ 0
counted_none p a zero h = refl
counted_none p a (suc n) h = rw (h (a + n), counted_none p a n h)

-- tests that agree
pub counted_same : (p q : ℕ → Bool) (a n : ℕ) → ((j : ℕ) → p j ≡ q j) → counted p a n ≡ counted q a n
counted_same p q a zero h = refl
counted_same p q a (suc n) h = rw (h (a + n), counted_same p q a n h)

-- no more pass than there are
pub counted_le : (p : ℕ → Bool) (a n : ℕ) → counted p a n ≤ n
counted_le p a zero = omega arith
counted_le p a (suc n) = cond_both (p (a + n)) 1 0 (λ k. counted p a n + k ≤ suc n) (λ e. omega (arith, counted_le p a n)) (λ e. omega (arith, counted_le p a n))
