-- An operator receives a tariff indication of its own.
use Rattle.std.proofs.Common.{◌≡◌, ℕ, ◌+◌, ◌-◌, ◌≤◌, cond, eqb, ltb, List, ◌∷◌, Some, None, Option, sym, refl, ap, ◌∙◌, ⊎_elim, arith}
use Rattle.std.specs.Option.{option_or}
use Rattle.std.proofs.lemmas.Bool.{cases_lt, cond_both, cond-true, cond-false, eq-eqb, lt-ltb, ltb-false, ne_eqb}
use Rattle.indication.specs.declared.header.Change.{Change}
use Rattle.indication.specs.declared.header.Change.TheVariants.{WithoutRestart, WithRestart}
use Rattle.indication.specs.Format.{Content}
use Rattle.units.specs.Meanings.{Meaning}
use Rattle.tariffs.specs.declared.tariff.Tariff.{Tariff}
use Rattle.tariffs.proofs.Sums.{sum_same}
use Rattle.record.specs.Quarters.{due_at, quarter_at}
use Rattle.record.specs.Operators.{current_tariff, next_tariff, origin_after, switched_at, with_current, with_next}
use Rattle.account.specs.Journals.{Receipt}
use Rattle.account.specs.Accounts.{TariffChange, change_to, last_change, over_seconds, second_after, switch_over_to}
use Rattle.account.specs.Records as records
use Rattle.account.specs.Records.{if_after, pending_at}
use Rattle.standing.proofs.Changes.{after, due_from, last_settled}
use Rattle.standing.proofs.Stretches.{Began}
use Rattle.standing.proofs.Switches.{come, none_pending, operator_by, pending, same_operator, switched, to_come}

-- a restart at the beginning is none
restart : (began clock : ℕ) → began ≤ clock → cond (ltb began clock) clock began ≡ clock
restart began clock l = cond_both (ltb began clock) _ _ (λ x. x ≡ clock) (λ _. refl) (λ e. omega (arith, ltb-false began clock e))

origin_changed :
    (b : Option ℕ) (clock : ℕ) (change : Change) (t : Tariff) → Began clock b
    → origin_after clock change b ≡ records.origin_after b (change_to clock change (Some t))
origin_changed None clock change t h = refl
origin_changed (Some began) clock WithRestart t h = ap Some (sym (restart began clock h))
origin_changed (Some began) clock WithoutRestart t h = refl

module _ (network : ℕ) (b : Option ℕ) (owed : ℕ) where
  -- its current tariff
  current_set :
      (clock : ℕ) (change : Change) (t : Option Tariff) (last pend : Option TariffChange) → Began clock b
      → with_current clock change t (operator_by network b last pend owed)
      ≡ operator_by network b (option_or (change_to clock change t) last) pend owed
  current_set clock change None last pend h = refl
  current_set clock change (Some t) last pend h =
      ap (λ o. record {
        network = network;
        tariff = t;
        next = (operator_by network b last pend owed).next;
        due = (operator_by network b last pend owed).due;
        beginning = b;
        origin = o;
        owed = owed;
      }) (origin_changed b clock change t h)

  -- its next one
  next_set :
      (opening quarter clock : ℕ) (t : Option Tariff) (last pend : Option TariffChange)
      → with_next opening quarter clock t (operator_by network b last pend owed)
      ≡ operator_by network b last (switch_over_to (due_at opening quarter clock) t) owed
  next_set opening quarter clock None last pend = refl
  next_set opening quarter clock (Some t) last pend = refl

  -- and a switch-over that is due at once
  switch_set :
      (due clock : ℕ) (t : Option Tariff) (x : Option TariffChange) → clock ≤ due
      → switched_at clock (operator_by network b x (switch_over_to due t) owed)
      ≡ operator_by network b (after x due t clock) (if_after clock (switch_over_to due t)) owed
  switch_set due clock None x l = refl
  switch_set due clock (Some t) x l =
      ⊎_elim
      (λ h. cond-false (eqb due clock) _ _ (ne_eqb due clock (λ e. omega arith))
      ∙ sym (same_operator network b _ _ _ _ owed (to_come due t x clock h) (pending due t x clock h)))
      (λ h. cond-true (eqb due clock) _ _ (eq-eqb due clock (omega arith))
      ∙ sym (switched due t x network b owed)
      ∙ sym (same_operator network b _ _ _ _ owed (come due t x clock h) (none_pending due t x clock h)))
      (cases_lt clock due)

  pub receipt_set :
      (opening clock : ℕ) (c : Content) (rs : List Receipt) (pend : Option TariffChange) → Began clock b
      → switched_at clock
      (with_next opening c.header.quarter clock (next_tariff c)
      (with_current clock c.header.change (current_tariff c) (operator_by network b (last_change opening rs clock) pend owed)))
      ≡ operator_by network b (last_change opening (record { at = clock; content = c } ∷ rs) clock)
      (pending_at opening (record { at = clock; content = c } ∷ rs) clock) owed
  receipt_set opening clock c rs pend h =
      let last = last_change opening rs clock in
      let x = option_or (change_to clock c.header.change (current_tariff c)) last in
      let due = due_at opening c.header.quarter clock in
      ap (λ op. switched_at clock (with_next opening c.header.quarter clock (next_tariff c) op))
      (current_set clock c.header.change (current_tariff c) last pend h)
      ∙ ap (switched_at clock) (next_set opening c.header.quarter clock (next_tariff c) x pend)
      ∙ switch_set due clock (next_tariff c) x (due_from (quarter_at opening c.header.quarter) clock 86400)
      ∙ same_operator network b _ _ _ _ owed
      (sym (last_settled opening (record { at = clock; content = c } ∷ rs) clock (omega arith))) refl

-- no second that has passed is charged anew
pub seconds_kept :
    (m : Meaning) (opening clock : ℕ) (c : Content) (rs : List Receipt) (b : Option ℕ)
    → over_seconds m opening (record { at = clock; content = c } ∷ rs) clock b ≡ over_seconds m opening rs clock b
seconds_kept m opening clock c rs None = refl
seconds_kept m opening clock c rs (Some began) =
    sum_same _ _ (clock - began)
    (λ k l. ap (second_after m began (began + k)) (cond-true _ _ _ (lt-ltb (began + k) clock (omega arith))))
