-- An operator by its last change and by the change that is pending, and the switch-over from the one to the other.
use Rattle.std.proofs.Common.{◌≡◌, ℕ, ◌+◌, ◌-◌, ◌^◌, ◌<◌, ◌≤◌, min, Some, None, Option, refl, ap, ◌∙◌, arith}
use Rattle.std.specs.Option.{option_map, option_or}
use Rattle.std.proofs.lemmas.Bool.{cond-true, cond-false, le-leb, lt-leb}
use Rattle.tariffs.specs.declared.tariff.Tariff.{Tariff}
use Rattle.record.specs.declared.operator.Operator.{Operator}
use Rattle.record.specs.Operators.{switched_over}
use Rattle.account.specs.Accounts.{TariffChange, switch_over_to, tariff_after}
use Rattle.account.specs.Records.{if_after, origin_after}
use Rattle.standing.proofs.Changes.{after}

abbrev pub operator_by : ℕ → Option ℕ → Option TariffChange → Option TariffChange → ℕ → Operator
operator_by network b last pending owed =
    record {
      network = network;
      tariff = tariff_after last;
      next = option_map (λ change. change.tariff) pending;
      due = option_map (λ change. change.at) pending;
      beginning = b;
      origin = origin_after b last;
      owed = owed;
    }

pub same_operator :
    (network : ℕ) (b : Option ℕ) (x y p q : Option TariffChange) (owed : ℕ) → x ≡ y → p ≡ q
    → operator_by network b x p owed ≡ operator_by network b y q owed
same_operator network b x y p q owed e f =
    ap (λ l. operator_by network b l p owed) e ∙ ap (λ w. operator_by network b y w owed) f

-- a sum that fits does not stop
pub unstopped : (owed a b : ℕ) → a ≡ b → owed + a < 2 ^ 64 → owed + a ≡ min (owed + b) (2 ^ 64 - 1)
unstopped owed a b e fit = omega arith

-- the switch-over to a tariff at a moment
module _ (due : ℕ) (t : Tariff) (x : Option TariffChange) where
  pub come : (c : ℕ) → due ≤ c → after x due (Some t) c ≡ switch_over_to due (Some t)
  come c l = ap (λ o. option_or o x) (cond-true _ _ _ (le-leb due c l))

  pub to_come : (c : ℕ) → c < due → after x due (Some t) c ≡ x
  to_come c l = ap (λ o. option_or o x) (cond-false _ _ _ (lt-leb due c l))

  pub none_pending : (c : ℕ) → due ≤ c → if_after c (switch_over_to due (Some t)) ≡ None
  none_pending c l = cond-true _ _ _ (le-leb due c l)

  pub pending : (c : ℕ) → c < due → if_after c (switch_over_to due (Some t)) ≡ switch_over_to due (Some t)
  pending c l = cond-false _ _ _ (lt-leb due c l)

  pub switched :
      (network : ℕ) (b : Option ℕ) (owed : ℕ)
      → operator_by network b (switch_over_to due (Some t)) None owed
      ≡ switched_over (operator_by network b x (switch_over_to due (Some t)) owed)
  switched network None owed = refl
  switched network (Some began) owed = refl
