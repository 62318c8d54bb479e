-- The requests that each phase does not allow.
use Rattle.std.proofs.Common.{◌≡◌, ℕ, false, refl}
use Rattle.units.specs.Meanings.{Meaning}
use Rattle.record.specs.declared.call.Phase.TheVariants as phase
use Rattle.account.specs.Requests.{understood}
use Rattle.account.specs.Answers.{is_allowed}
use Rattle.meter.specs.declared.request.Request.{Request}
use Rattle.meter.specs.declared.request.Request.TheVariants.{Tariff, AddOn, Advance, Start, Release, AmountOwed, LookAhead, Total, Line}
use Rattle.meter.specs.Meters.{asked}

-- the request is none with a value of that type
abbrev NotOne : {X : Type 0} → (X → Request) → Request → Type 0
NotOne {X = X} of r = (x : X) → r ≡ of x → ⊥

module _ (m : Meaning) where
  pub barred_in_set_up :
      (r : Request) → NotOne Tariff r → NotOne Advance r → (r ≡ Start → ⊥) → (r ≡ Release → ⊥)
      → is_allowed phase.SetUp (understood m (asked r)) ≡ false
  barred_in_set_up (Tariff b) t a s e = absurd (t b refl)
  barred_in_set_up (AddOn b) t a s e = refl
  barred_in_set_up (Advance n) t a s e = absurd (a n refl)
  barred_in_set_up Start t a s e = absurd (s refl)
  barred_in_set_up Release t a s e = absurd (e refl)
  barred_in_set_up (AmountOwed n) t a s e = refl
  barred_in_set_up (LookAhead n k) t a s e = refl
  barred_in_set_up Total t a s e = refl
  barred_in_set_up (Line k) t a s e = refl

  pub barred_charging :
      (r : Request) → NotOne Tariff r → NotOne AddOn r → NotOne Advance r → (r ≡ Release → ⊥) → NotOne AmountOwed r
      → ((n k : ℕ) → r ≡ LookAhead n k → ⊥) → is_allowed phase.Charging (understood m (asked r)) ≡ false
  barred_charging (Tariff b) t o a e w l = absurd (t b refl)
  barred_charging (AddOn b) t o a e w l = absurd (o b refl)
  barred_charging (Advance n) t o a e w l = absurd (a n refl)
  barred_charging Start t o a e w l = refl
  barred_charging Release t o a e w l = absurd (e refl)
  barred_charging (AmountOwed n) t o a e w l = absurd (w n refl)
  barred_charging (LookAhead n k) t o a e w l = absurd (l n k refl)
  barred_charging Total t o a e w l = refl
  barred_charging (Line k) t o a e w l = refl

  pub barred_closed :
      (r : Request) → (r ≡ Total → ⊥) → NotOne Line r → is_allowed phase.Closed (understood m (asked r)) ≡ false
  barred_closed (Tariff b) t l = refl
  barred_closed (AddOn b) t l = refl
  barred_closed (Advance n) t l = refl
  barred_closed Start t l = refl
  barred_closed Release t l = refl
  barred_closed (AmountOwed n) t l = refl
  barred_closed (LookAhead n k) t l = refl
  barred_closed Total t l = absurd (t refl)
  barred_closed (Line k) t l = absurd (l k refl)
