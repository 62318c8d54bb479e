-- How long a round takes, subtariff by subtariff.
use Rattle.std.proofs.Common.{◌≡◌, ℕ, ◌+◌, cond, List, ◌∷◌, Some, None, Option, refl, add_assoc}
use Rattle.std.proofs.lemmas.Bool.{eq-eqb, ne_eqb}
use Rattle.tariffs.specs.declared.tariff.Subtariff.{Subtariff}
use Rattle.tariffs.specs.Sequences.{round_length, unending}

-- how long a sequence takes after `so_far` seconds, where it has an end
abbrev pub length_after : ℕ → List Subtariff → Option ℕ
length_after so_far ss = cond (unending ss) None (Some (so_far + round_length ss))

module _ (so_far : ℕ) {s : Subtariff} {ss rest : List Subtariff} (is : ss ≡ s ∷ rest) where
  pub length_endless : s.duration ≡ 0 → length_after so_far ss ≡ None
  length_endless z = rw (is, eq-eqb s.duration 0 z) refl

  pub length_more : (s.duration ≡ 0 → ⊥) → length_after so_far ss ≡ length_after (so_far + s.duration) rest
  length_more nz = rw (is, ne_eqb s.duration 0 nz, add_assoc so_far) refl
