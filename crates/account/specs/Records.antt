-- The record that a list of requests ends in, each field by its meaning.
use Rattle.std.specs.Prelude.{ℕ, zero, suc, cond, List, [], ◌∷◌, map, Some, None, Option, nat_le}
use Rattle.std.specs.Option.{option_map}
use Rattle.units.specs.Meanings.{Meaning}
use Rattle.record.specs.declared.call.Call.{Call}
use Rattle.record.specs.declared.operator.Operator.{Operator}
use Rattle.account.specs.Requests.{Request}
use Rattle.account.specs.Journals.{Past, Receipt, phase_of, accepted_in, receipts, networks, beginning}
use Rattle.account.specs.Accounts.{TariffChange, switch_over_by, last_change, in_force, origin_of, account}
use Rattle.account.specs.Answers.{past}

-- a change that is still to come
abbrev pub if_after : ℕ → Option TariffChange → Option TariffChange
if_after clock None = None
if_after clock (Some change) = cond (nat_le change.at clock) None (Some change)

-- the switch-over that is pending: that of the newest indication, if it has not fallen due
abbrev pub pending_at : ℕ → List Receipt → ℕ → Option TariffChange
pending_at opening [] clock = None
pending_at opening (r ∷ rs) clock = if_after clock (switch_over_by opening r)

abbrev pub origin_after : Option ℕ → Option TariffChange → Option ℕ
origin_after None change = None
origin_after (Some began) None = Some began
origin_after (Some began) (Some change) = Some (origin_of began change)

abbrev pub operator_of : Meaning → ℕ → Past → ℕ → Operator
operator_of m opening p network =
    record {
      network = network;
      tariff = in_force opening network p.journal p.clock;
      next = option_map (λ change. change.tariff) (pending_at opening (receipts network p.journal) p.clock);
      due = option_map (λ change. change.at) (pending_at opening (receipts network p.journal) p.clock);
      beginning = beginning network p.journal;
      origin = origin_after (beginning network p.journal) (last_change opening (receipts network p.journal) p.clock);
      owed = account m opening p network;
    }

-- the first n, in the first of n seats
abbrev pub seated : ℕ → List Operator → List (Option Operator)
seated zero ops = []
seated (suc n) [] = None ∷ seated n []
seated (suc n) (op ∷ ops) = Some op ∷ seated n ops

abbrev pub record_of : Meaning → ℕ → Past → Call
record_of m opening p =
    record {
      opening = opening;
      clock = p.clock;
      phase = phase_of p.journal;
      accepted = accepted_in p.journal;
      operators = seated 4 (map (operator_of m opening p) (networks p.journal));
    }

abbrev pub record_after : Meaning → ℕ → List Request → Call
record_after m opening h = record_of m opening (past h)
