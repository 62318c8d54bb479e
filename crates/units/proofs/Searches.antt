-- A search of numbers from 0 on.
use Rattle.std.proofs.Common.{◌≡◌, ℕ, ◌<◌, Bool, true, false, length, Some, None, Option, arith}
use Rattle.std.proofs.lemmas.List.FromFn.{length-range_with_len, get_or-range_with_len}
use Rattle.std.specs.List.{AllWithin, HoldsAt, range_with_len}
use Rattle.std.specs.Option.{MatchOption}

-- the first of n numbers that fails a test, found in their list
pub found_below :
    (p : ℕ → Bool) (n : ℕ) (found : Option ℕ)
    → MatchOption found (AllWithin (λ i. p i ≡ true) (range_with_len 0 n) 0 (length (range_with_len 0 n)))
    (λ x. (p x ≡ false) × (i : ℕ) × (i < length (range_with_len 0 n)) × HoldsAt (λ y. y ≡ x) (range_with_len 0 n) i
    × AllWithin (λ i. p i ≡ true) (range_with_len 0 n) 0 i)
    → MatchOption found ((i : ℕ) → i < n → p i ≡ true) (λ x. (p x ≡ false) × (x < n) × ((i : ℕ) → i < x → p i ≡ true))
found_below p n None h = λ i l. grind (arith, length-range_with_len, get_or-range_with_len, h i 0)
found_below p n (Some x) (wrong, i, l, is, before) =
    let at : i ≡ x = grind (arith, length-range_with_len, get_or-range_with_len, is 0) in
    (wrong, grind (arith, length-range_with_len), λ k less. grind (arith, length-range_with_len, get_or-range_with_len, before k 0))
