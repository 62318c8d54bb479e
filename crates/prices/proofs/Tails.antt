-- Primes below 100 are not counted past 100.
use Rattle.std.proofs.Common.{◌≡◌, ℕ, zero, suc, ◌+◌, ◌-◌, ◌≤◌, min, Bool, false, cond, count_by, refl, sym, ap, ◌∙◌, ⊎_elim, add-zero, arith}
use Rattle.std.proofs.lemmas.Bool.{cases_lt}
use Rattle.std.proofs.lemmas.Bool.Decides.{nat_tests}
use Rattle.std.proofs.lemmas.List.{map-id}
use Rattle.std.proofs.lemmas.List.FromFn.{sum_by-map-range_with_len_more}
use Rattle.std.specs.List.{range_with_len}
use Rattle.units.specs.Meanings.{counted}
use Rattle.prices.specs.Primes.{is_prime}

past : (j : ℕ) → 100 ≤ j → is_prime j ≡ false
past j h = grind (arith, nat_tests)

pub counted_tail : (a s k : ℕ) → 100 ≤ a + s → counted is_prime a (s + k) ≡ counted is_prime a s
counted_tail a s zero h = rw (add-zero s)
counted_tail a s (suc k) h =
    let more : s + suc k ≡ suc (s + k) = omega arith in
    let far : 100 ≤ a + (s + k) = omega arith in
    rw more (rw (past (a + (s + k)) far, add-zero (counted is_prime a (s + k))) (counted_tail a s k h))

-- the list of the numbers, counted
pub counted_range : (p : ℕ → Bool) (a n : ℕ) → count_by p (range_with_len a n) ≡ counted p a n
counted_range p a zero = refl
counted_range p a (suc n) =
    let one : suc n ≡ n + 1 = omega arith in
    ap (λ k. count_by p (range_with_len a k)) one
    ∙ simp map-id at (sum_by-map-range_with_len_more (λ x. cond (p x) 1 0) (λ x. x) a n (a + n) refl)
    ∙ ap (λ k. k + cond (p (a + n)) 1 0) (counted_range p a n)

-- so the numbers up to 100 are enough
pub counted_below : (a n s : ℕ) → s ≡ min n (100 - a) → counted is_prime a s ≡ counted is_prime a n
counted_below a n s e =
    ⊎_elim
    (λ l.
    let whole : s + (n - s) ≡ n = omega arith in
    sym (counted_tail a s (n - s) (omega arith)) ∙ ap (counted is_prime a) whole)
    (λ l. let same : s ≡ n = omega arith in ap (counted is_prime a) same)
    (cases_lt (100 - a) n)
