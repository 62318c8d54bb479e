-- An indication that is not refused for too many indications, or as a fifth network, is refused alike in less of a crowd.
use Rattle.std.proofs.Common.{◌≡◌, ℕ, Bool, true, false, cond, leb, length, Some, None, Option, refl, ap, ◌∙◌, arith}
use Rattle.std.proofs.lemmas.Bool.{true≢false}
use Rattle.std.proofs.lemmas.Bool.Decides.{nat_tests}
use Rattle.indication.specs.Format.{Content}
use Rattle.indication.specs.declared.fault.Fault.{Fault}
use Rattle.indication.specs.declared.fault.Fault.TheVariants.{TooManyIndications, NoCurrentTariff, TooManyNetworks}
use Rattle.units.specs.Meanings.{Meaning}
use Rattle.account.specs.Journals.{Past, is_known, networks, is_any}
use Rattle.account.specs.Answers.{is_full, tariff_refusal, add_on_refusal}
use Rattle.account.specs.Laws.{is_crowded_out}
use Rattle.account.proofs.Alike.{Alike}

-- fewer indications are not too many
unless_full :
    (full full' : Bool) (x x' : Option Fault) → (full ≡ false → full' ≡ false) → (is_crowded_out x ≡ false → x' ≡ x)
    → is_crowded_out (cond full (Some TooManyIndications) x) ≡ false
    → cond full' (Some TooManyIndications) x' ≡ cond full (Some TooManyIndications) x
unless_full true full' x x' fewer same room = absurd (true≢false room)
unless_full false full' x x' fewer same room = rw (fewer refl) (same room)

abbrev unless_known : Bool → Bool → Bool → Option Fault
unless_known known current many = cond known None (cond current (cond many (Some TooManyNetworks) None) (Some NoCurrentTariff))

-- a stranger is no fifth network where there are not many
unless_known_same :
    (known current many many' : Bool) → (known ≡ false → many' ≡ false) → is_crowded_out (unless_known known current many) ≡ false
    → unless_known known current many' ≡ unless_known known current many
unless_known_same true current many many' few room = refl
unless_known_same false true true many' few room = absurd (true≢false room)
unless_known_same false true false many' few room = rw (few refl)
unless_known_same false false many many' few room = refl

module _ {m : Meaning} {opening : ℕ} {p q : Past} (c : Content) (alike : Alike m opening c.header.network p q) where
  not_full : is_full q.journal ≡ false → is_full p.journal ≡ false
  not_full e = grind (arith, nat_tests, alike.fewer)

  same_known : is_known c.header.network p.journal ≡ is_known c.header.network q.journal
  same_known = ap is_any alike.receipts

  not_many : is_known c.header.network q.journal ≡ false → leb 4 (length (networks p.journal)) ≡ false
  not_many unknown = rw (alike.alone (same_known ∙ unknown))

  pub same_tariff_refusal : is_crowded_out (tariff_refusal q.journal c) ≡ false → tariff_refusal p.journal c ≡ tariff_refusal q.journal c
  same_tariff_refusal = unless_full _ _ _ _ not_full (λ room. rw same_known (unless_known_same _ _ _ _ not_many room))

  pub same_add_on_refusal : is_crowded_out (add_on_refusal q.journal c) ≡ false → add_on_refusal p.journal c ≡ add_on_refusal q.journal c
  same_add_on_refusal = unless_full _ _ _ _ not_full (λ room. rw same_known)
