-- When the k-th use of a tariff goes on with the order that the earlier ones keep.
use Rattle.std.specs.Prelude.{◌≡◌, ℕ, ◌-◌, ◌<◌, ◌⊎◌}
use Rattle.indication.specs.Rules.{Attempt, SetUp, Subtariff}

abbrev pub GoesOn : (ℕ → ℕ) → ℕ → Type 0
GoesOn u k =
    (Attempt (u k) × (k ≡ 0))
    ⊎ (SetUp (u k) × ((k ≡ 0) ⊎ Attempt (u (k - 1))))
    ⊎ (Subtariff (u k) × ((k < 4) ⊎ (1 < u (k - 4))))
