-- An operator whose network is not known is a newcomer.
use Rattle.std.proofs.Common.{◌≡◌, ℕ, ◌+◌, true, false, eqb, List, [], ◌∷◌, None, refl, ap, ◌∙◌, subst, arith}
use Rattle.std.proofs.lemmas.Bool.{and_right, both_ways, cond_both, cond-false, eqb-true, true≢false}
use Rattle.units.specs.Meanings.{Meaning}
use Rattle.record.specs.declared.call.Phase.{Phase}
use Rattle.record.specs.declared.call.Phase.TheVariants.{SetUp, Charging, Closed}
use Rattle.record.specs.Operators.{is_charging, newcomer, price_of}
use Rattle.account.specs.Journals.{Event, tariff_came, add_on_came, started, released, Dated, Past, Receipt, beginning, charges, is_known, is_any, phase_of, receipts}
use Rattle.account.specs.Accounts.{added_by, at_once, attempt_charge, begins, in_force, last_change, over_seconds, set_up_charge, tariff_after}
use Rattle.account.specs.Records.{operator_of, pending_at}
use Rattle.standing.proofs.Beginnings.{unbegun_unknown, unknown_before}
use Rattle.standing.proofs.Pasts.{AddOnsKnown, FromKnown}
use Rattle.standing.proofs.Switches.{operator_by}

none_from : (rs : List Receipt) → is_any rs ≡ false → rs ≡ []
none_from [] e = refl
none_from (r ∷ rs) e = absurd (true≢false e)

module _ (m : Meaning) (opening n : ℕ) where
  no_attempt : (phase : Phase) (at : ℕ) (j : List Dated) → is_known n j ≡ false → attempt_charge phase m (in_force opening n j at) ≡ 0
  no_attempt SetUp at j e = ap (λ rs. price_of m (tariff_after (last_change opening rs at)).attempt) (none_from (receipts n j) e)
  no_attempt Charging at j e = refl
  no_attempt Closed at j e = refl

  nothing_added : (e : Event) (at : ℕ) (j : List Dated) → is_known n j ≡ false → FromKnown e j → added_by e m opening n at j ≡ 0
  nothing_added (tariff_came c) at j u h = refl
  nothing_added (add_on_came c) at j u h =
      cond_both (eqb c.header.network n) _ _ (λ x. x ≡ 0)
      (λ e. absurd (both_ways (is_known n j) u (subst (λ x. is_known x j ≡ true) (eqb-true _ n e) h))) (λ _. refl)
  nothing_added started at j u h = refl
  nothing_added released at j u h = no_attempt (phase_of j) at j u

  nothing_once : (j : List Dated) → is_known n j ≡ false → AddOnsKnown j → at_once m opening n j ≡ 0
  nothing_once [] u h = refl
  nothing_once (d ∷ j) u (one, h) =
      let before = unknown_before n d j u in
      let none : set_up_charge m opening n d j ≡ 0 = cond-false (begins n d j) _ _ (and_right _ (charges n (d ∷ j)) (and_right (is_charging (phase_of (d ∷ j))) _ u)) in
      omega (arith, nothing_once j before h, none, nothing_added d.event d.at j before one)

  pub stranger : (p : Past) → is_known n p.journal ≡ false → AddOnsKnown p.journal → operator_of m opening p n ≡ newcomer n
  stranger p u h =
      ap (λ rs. operator_by n (beginning n p.journal) (last_change opening rs p.clock) (pending_at opening rs p.clock)
      (at_once m opening n p.journal + over_seconds m opening rs p.clock (beginning n p.journal))) (none_from (receipts n p.journal) u)
      ∙ ap (λ b. operator_by n b None None (at_once m opening n p.journal + over_seconds m opening [] p.clock b)) (unbegun_unknown n p.journal u)
      ∙ ap (λ once. operator_by n None None None (once + 0)) (nothing_once p.journal u h)
