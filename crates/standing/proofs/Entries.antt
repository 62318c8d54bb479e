-- An operator after one more entry of the journal: who charges and has not begun begins.
use Rattle.std.proofs.Common.{◌≡◌, ℕ, ◌+◌, ◌-◌, ◌^◌, ◌<◌, Bool, true, false, cond, not, ◌&&◌, ltb, List, is_some, Some, None, Option, sym, refl, ap, ◌∙◌, arith}
use Rattle.std.specs.Option.{option_map, option_or}
use Rattle.std.specs.Bool.{then_some}
use Rattle.std.proofs.lemmas.Bool.{and_right, cond-false, le-ltb, true≢false}
use Rattle.units.specs.Meanings.{Meaning}
use Rattle.tariffs.specs.Sequences.{sum}
use Rattle.record.specs.declared.operator.Operator.{Operator}
use Rattle.record.specs.Operators.{begun, owing, price_of}
use Rattle.account.specs.Journals.{Receipt}
use Rattle.account.specs.Accounts.{TariffChange, last_change, over_seconds, second_after, tariff_after}
use Rattle.account.specs.Records.{origin_after, pending_at}
use Rattle.standing.proofs.Changes.{By, last_by}
use Rattle.standing.proofs.Switches.{operator_by}

-- whose seconds are counted from now has its tariff's seconds counted from now
origin_now : (clock : ℕ) (last : Option TariffChange) → By clock last → origin_after (Some clock) last ≡ Some clock
origin_now clock None h = refl
origin_now clock (Some change) h =
    ap Some (cond-false _ _ _ (and_right change.restarts (ltb clock change.at) (le-ltb clock change.at h)))

-- after an entry at a clock, with the indications that came; `t` where the operator charges, and `b` when it had begun
module _ (m : Meaning) (opening network clock : ℕ) (rs : List Receipt) where
  abbrev set_up_then : Option ℕ → Bool → ℕ
  set_up_then b t = cond (not (is_some b) && t) (price_of m (tariff_after (last_change opening rs clock)).set_up) 0

  abbrev owed_then : Option ℕ → Bool → ℕ → ℕ → ℕ
  owed_then b t once added = once + (set_up_then b t + added) + over_seconds m opening rs clock (option_or b (then_some t clock))

  abbrev pub operator_then : Option ℕ → Bool → ℕ → ℕ → Operator
  operator_then b t once added =
      operator_by network (option_or b (then_some t clock)) (last_change opening rs clock) (pending_at opening rs clock) (owed_then b t once added)

  abbrev pub operator_now : Option ℕ → ℕ → Operator
  operator_now b owed = operator_by network b (last_change opening rs clock) (pending_at opening rs clock) owed

  owed_kept :
      (b : Option ℕ) (t : Bool) (once added : ℕ) → (t ≡ true → is_some b ≡ true)
      → operator_then b t once added ≡ operator_now b (once + over_seconds m opening rs clock b + added)
  owed_kept (Some began) t once added h = ap (operator_now (Some began)) (omega arith)
  owed_kept None false once added h = ap (operator_now None) (omega arith)
  owed_kept None true once added h = absurd (true≢false (sym (h refl)))

  -- nobody begins
  pub then_owing :
      (b : Option ℕ) (t : Bool) (once added : ℕ) → (t ≡ true → is_some b ≡ true) → owed_then b t once added < 2 ^ 64
      → operator_then b t once added ≡ owing added (operator_now b (once + over_seconds m opening rs clock b))
  then_owing b t once added h fit =
      let same = ap (λ op. op.owed) (owed_kept b t once added h) in
      owed_kept b t once added h ∙ ap (operator_now b) (omega arith)

  pub then_same :
      (b : Option ℕ) (t : Bool) (once : ℕ) → (t ≡ true → is_some b ≡ true)
      → operator_then b t once 0 ≡ operator_now b (once + over_seconds m opening rs clock b)
  then_same b t once h = owed_kept b t once 0 h ∙ ap (operator_now b) (omega arith)

  -- or the operator does
  no_seconds : over_seconds m opening rs clock (Some clock) ≡ 0
  no_seconds =
      let none : clock - clock ≡ 0 = omega arith in
      ap (sum (λ k. second_after m clock (clock + k) (last_change opening rs (clock + k)))) none

  abbrev begun_with : Option ℕ → ℕ → Operator
  begun_with origin owed =
      record {
        network = network;
        tariff = tariff_after (last_change opening rs clock);
        next = option_map (λ change. change.tariff) (pending_at opening rs clock);
        due = option_map (λ change. change.at) (pending_at opening rs clock);
        beginning = Some clock;
        origin = origin;
        owed = owed;
      }

  then_begun :
      (once : ℕ) → owed_then None true once 0 < 2 ^ 64
      → operator_then None true once 0 ≡ begun m clock (operator_now None (once + 0))
  then_begun once fit =
      let last = last_change opening rs clock in
      let none = no_seconds in
      ap (λ o. begun_with o (owed_then None true once 0)) (origin_now clock last (last_by opening rs clock))
      ∙ ap (begun_with (Some clock)) (omega arith)

  pub then_begins :
      (b : Option ℕ) (t : Bool) (once : ℕ) → owed_then b t once 0 < 2 ^ 64
      → operator_then b t once 0
      ≡ cond (t && not (is_some b)) (begun m clock (operator_now b (once + over_seconds m opening rs clock b)))
      (operator_now b (once + over_seconds m opening rs clock b))
  then_begins (Some began) true once fit = then_same (Some began) true once (λ _. refl)
  then_begins (Some began) false once fit = then_same (Some began) false once (λ _. refl)
  then_begins None false once fit = then_same None false once (λ e. e)
  then_begins None true once fit = then_begun once fit
