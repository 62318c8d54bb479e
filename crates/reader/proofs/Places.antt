-- A search among numbered things, the offset of each further on than that of the one before.
use Rattle.std.proofs.Common.{◌≡◌, ℕ, ◌<◌, ◌≤◌, Some, None, Option, MatchOption, refl, ⊎_elim, arith}
use Rattle.std.proofs.lemmas.Bool.{cases_lt}
use Rattle.indication.specs.Rules.{First}

-- the first of n things that is not right shows at the first offset at which one does
pub first_place :
    (Right : ℕ → Type 0) (place : ℕ → ℕ) (n m : ℕ) (r at : Option ℕ)
    → n ≡ m → ((i j : ℕ) → i ≤ j → place i ≤ place j)
    → MatchOption r ((k : ℕ) → 0 ≤ k → k < n → Right k) (λ i. (0 ≤ i) × (i < n) × (Right i → ⊥) × ((k : ℕ) → 0 ≤ k → k < i → Right k))
    → MatchOption r (at ≡ None) (λ i. at ≡ Some (place i))
    → First (λ o. (k : ℕ) × (k < m) × (o ≡ place k) × (Right k → ⊥)) at
first_place Right place n m None at e grows right is =
    rw is (λ o w. w.3 (right w.0 (omega arith) (omega arith)))
first_place Right place n m (Some i) at e grows (_, l, wrong, right) is =
    rw is (
      (i, omega arith, refl, wrong),
      λ o w.
          ⊎_elim (λ m. absurd (w.3 (right w.0 (omega arith) m))) (λ m. omega (arith, grows i w.0 m, w.2)) (cases_lt w.0 i),
    )
