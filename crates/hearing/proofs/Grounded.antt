-- The refusal that comes first, with the call's grounds beside those of reader and unit.
use Rattle.std.proofs.Common.{◌≡◌, ℕ, ◌≤◌, List, Some, None, Option, sym, refl, ap}
use Rattle.indication.specs.declared.header.Kind.{Kind}
use Rattle.indication.specs.declared.header.Kind.TheVariants.{Tariff, AddOn}
use Rattle.indication.specs.declared.fault.Fault.{Fault}
use Rattle.indication.specs.declared.fault.Fault.TheVariants.{TooManyIndications, AddOnBeforeTariff, NoCurrentTariff, TooManyNetworks}
use Rattle.indication.specs.Format.{header_of, current_count}
use Rattle.indication.specs.Rules.{Foremost, Groundless}
use Rattle.units.specs.Meanings.{Meaning}
use Rattle.units.specs.Admission.{UnitGrounds}
use Rattle.readings.proofs.Right.{both_precede}
use Rattle.record.specs.declared.call.Call.{Call}
use Rattle.record.specs.Calls.{seat_of}
use Rattle.record.specs.Refusals.{IsStranger, CallGrounds}
use Rattle.record.proofs.Grounds.{grounded_all, two_kinds, unit_ground}

-- the refusal that the grounds ask for, if any
abbrev pub Hears : (Fault → Type 0) → Option Fault → Type 0
Hears grounds (Some f) = Foremost grounds f
Hears grounds None = Groundless grounds

-- they ask for one
pub hears_unique : (grounds : Fault → Type 0) (r s : Option Fault) → Hears grounds r → Hears grounds s → r ≡ s
hears_unique grounds (Some f) (Some g) p q =
    ap Some (both_precede f g (p.first g q.grounded) (q.first f p.grounded))
hears_unique grounds (Some f) None p q = absurd (q f p.grounded)
hears_unique grounds None (Some g) p q = absurd (p g q.grounded)
hears_unique grounds None None p q = refl

module _ (m : Meaning) (call : Call) where
  pub unit_taken : (taken : Kind) (b : List ℕ) → Groundless (CallGrounds m call taken b) → Groundless (UnitGrounds m taken b)
  unit_taken taken b ok f w = ok f (unit_ground m call taken b f w).0

  module _ (b : List ℕ) where
    -- of a tariff indication that the unit takes
    pub tariff_grounded_all :
        (P : Fault → Type 0) → Groundless (UnitGrounds m Tariff b)
        → (512 ≤ call.accepted → P TooManyIndications)
        → (IsStranger call b → current_count b ≡ 0 → P NoCurrentTariff)
        → (seat_of (header_of b).network call.operators ≡ None → P TooManyNetworks)
        → (f : Fault) → CallGrounds m call Tariff b f → P f
    tariff_grounded_all P ok many current fifth =
        grounded_all m call Tariff b P (λ f w. absurd (ok f w)) many
        (λ k w. absurd (two_kinds k))
        (λ k. current)
        (λ k. fifth)

    -- of an add-on that the unit takes
    pub add_on_grounded_all :
        (P : Fault → Type 0) → Groundless (UnitGrounds m AddOn b)
        → (512 ≤ call.accepted → P TooManyIndications)
        → (IsStranger call b → P AddOnBeforeTariff)
        → (f : Fault) → CallGrounds m call AddOn b f → P f
    add_on_grounded_all P ok many add_on =
        grounded_all m call AddOn b P (λ f w. absurd (ok f w)) many
        (λ k. add_on)
        (λ k w none. absurd (two_kinds (sym k)))
        (λ k w. absurd (two_kinds (sym k)))
