-- How the record of a call changes.
use Rattle.std.specs.Prelude.{ℕ, suc, ◌+◌, ◌-◌, ◌%◌, Bool, false, cond, ◌||◌, List, [], ◌∷◌, map, Some, None, Option, ◌==◌}
use Rattle.std.specs.Option.{option_map}
use Rattle.indication.specs.Format.{Content}
use Rattle.units.specs.Meanings.{Meaning}
use Rattle.record.specs.declared.call.Phase.{Phase}
use Rattle.record.specs.declared.call.Phase.TheVariants.{SetUp, Charging, Closed}
use Rattle.record.specs.declared.call.Call.{Call}
use Rattle.record.specs.declared.operator.Operator.{Operator}
use Rattle.record.specs.Operators.{newcomer, received_by, owing, add_on_price, passed, begun_in, price_of}

-- a call that was opened at a second of the day
abbrev pub opened : ℕ → Call
opened second =
    record {
      opening = second % 86400;
      clock = 0;
      phase = SetUp;
      accepted = 0;
      operators = None ∷ (None ∷ (None ∷ (None ∷ [])));
    }

-- the seat of a network is the one that it has, or the first free one
abbrev pub seat_of : ℕ → List (Option Operator) → Option ℕ
seat_of network [] = None
seat_of network (None ∷ seats) = Some 0
seat_of network (Some op ∷ seats) = cond (op.network == network) (Some 0) (option_map suc (seat_of network seats))

-- the network has a seat
abbrev pub is_seated : ℕ → List (Option Operator) → Bool
is_seated network [] = false
is_seated network (None ∷ seats) = false
is_seated network (Some op ∷ seats) = op.network == network || is_seated network seats

-- the operator in the network's seat changes, a newcomer in a free one; no other does
abbrev pub seat_changed : (Operator → Operator) → ℕ → List (Option Operator) → List (Option Operator)
seat_changed change network [] = []
seat_changed change network (None ∷ seats) = Some (change (newcomer network)) ∷ seats
seat_changed change network (Some op ∷ seats) =
    cond (op.network == network) (Some (change op) ∷ seats) (Some op ∷ seat_changed change network seats)

-- an indication is accepted, and changes the operator of its network
abbrev pub accepting : (Operator → Operator) → ℕ → Call → Call
accepting change network call =
    record {
      opening = call.opening;
      clock = call.clock;
      phase = call.phase;
      accepted = call.accepted + 1;
      operators = seat_changed change network call.operators;
    }

abbrev pub received_tariff : Meaning → Content → Call → Call
received_tariff m c call =
    accepting (received_by m call.opening call.phase call.clock c) c.header.network call

abbrev pub received_add_on : Meaning → Content → Call → Call
received_add_on m c call = accepting (owing (add_on_price m c)) c.header.network call

-- every operator changes
abbrev pub everyone : (Operator → Operator) → List (Option Operator) → List (Option Operator)
everyone change seats = map (option_map change) seats

-- the clock stops at 86,400
abbrev pub seconds_left : ℕ → ℕ
seconds_left clock = 86400 - clock

abbrev pub advanced : Meaning → ℕ → Call → Call
advanced m n call =
    record {
      opening = call.opening;
      clock = call.clock + n;
      phase = call.phase;
      accepted = call.accepted;
      operators = everyone (passed m call.clock n) call.operators;
    }

abbrev pub entering : Phase → (Operator → Operator) → Call → Call
entering phase change call =
    record {
      opening = call.opening;
      clock = call.clock;
      phase = phase;
      accepted = call.accepted;
      operators = everyone change call.operators;
    }

-- a start comes to a call in set-up, and changes no other: every operator begins
abbrev pub started_from : Phase → Meaning → Call → Call
started_from SetUp m call = entering Charging (begun_in Charging m call.clock) call
started_from Charging m call = call
started_from Closed m call = call

abbrev pub started : Meaning → Call → Call
started m call = started_from call.phase m call

-- a release closes the call; in set-up the attempt charge of each tariff in force is added
abbrev pub released_from : Phase → Meaning → Call → Call
released_from SetUp m call = entering Closed (λ op. owing (price_of m op.tariff.attempt) op) call
released_from Charging m call = entering Closed (λ op. op) call
released_from Closed m call = call

abbrev pub released : Meaning → Call → Call
released m call = released_from call.phase m call
