-- Seconds that pass.
use Rattle.std.specs.Prelude.{◌≡◌, ℕ, ◌+◌, ◌-◌}
use Rattle.record.specs.declared.stretch.Stretch.{Stretch}

-- a stretch is split at a moment
abbrev pub Splits : Stretch → ℕ → Stretch → Stretch → Type 0
Splits whole due before after =
    (before.from ≡ whole.from)
    × (before.seconds ≡ due - whole.from)
    × (after.from ≡ due)
    × (after.seconds ≡ whole.from + whole.seconds - due)
