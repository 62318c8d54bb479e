-- The seats of a call, and the one that an indication finds.
use Rattle.std.specs.Prelude.{◌≡◌, ℕ, ◌+◌, ◌<◌, Bool, true, cond, not, ◌&&◌, List, Some, None, Err, Option, Result, MatchResult, ◌==◌, nat_le, slice_set}
use Rattle.std.specs.Option.{ok_or}
use Rattle.std.specs.Result.{result_map_both}
use Rattle.indication.specs.declared.header.Kind.{Kind}
use Rattle.indication.specs.declared.header.Kind.TheVariants.{Tariff, AddOn}
use Rattle.indication.specs.declared.fault.Fault.{Fault}
use Rattle.indication.specs.declared.fault.Fault.TheVariants.{TooManyIndications, AddOnBeforeTariff, NoCurrentTariff, TooManyNetworks}
use Rattle.indication.specs.Format.{Content, decoded}
use Rattle.indication.specs.Rules.{Foremost, Groundless}
use Rattle.units.specs.Meanings.{Meaning}
use Rattle.record.specs.declared.call.Call.{Call}
use Rattle.record.specs.declared.operator.Operator.{Operator}
use Rattle.record.specs.declared.seat.Seat.{Seat}
use Rattle.record.specs.Calls.{seat_of, is_seated}
use Rattle.record.specs.Operators.{add_on_price, owing, received_by}
use Rattle.record.specs.Refusals.{CallGrounds, received_as}

-- a seat is free, or the network's
abbrev pub suits : ℕ → Option Operator → Bool
suits network None = true
suits network (Some op) = op.network == network

abbrev pub index_of : Seat → ℕ
index_of seat = seat.index

-- a seat that was found, by its index
abbrev pub index_found : Result Seat Fault → Result ℕ Fault
index_found r = result_map_both index_of (λ f. f) r

abbrev pub is_full : Call → Bool
is_full call = nat_le 512 call.accepted

-- the seat that an indication of a kind with so many current entries finds where one more is accepted, or why it finds none
abbrev pub seat_with_room : Call → Kind → ℕ → ℕ → Result ℕ Fault
seat_with_room call Tariff network count =
    cond (count == 0 && not (is_seated network call.operators)) (Err NoCurrentTariff)
    (ok_or (seat_of network call.operators) TooManyNetworks)
seat_with_room call AddOn network count =
    cond (is_seated network call.operators) (ok_or (seat_of network call.operators) TooManyNetworks) (Err AddOnBeforeTariff)

-- the seat that it finds
abbrev pub seat_for : Call → Kind → ℕ → ℕ → Result ℕ Fault
seat_for call kind network count =
    cond (is_full call) (Err TooManyIndications) (seat_with_room call kind network count)

-- what an accepted indication of a kind makes of its network's operator
abbrev pub indicated : Kind → Meaning → Call → Content → Operator → Operator
indicated Tariff m call c op = received_by m call.opening call.phase call.clock c op
indicated AddOn m call c op = owing (add_on_price m c) op

-- one more indication is accepted, and an operator is in a seat
abbrev pub seated : ℕ → Operator → Call → Call
seated seat op call =
    record {
      opening = call.opening;
      clock = call.clock;
      phase = call.phase;
      accepted = call.accepted + 1;
      operators = slice_set call.operators seat (Some op);
    }

-- what an indication comes to before it changes the call: a seat and the operator that is to be in it, or the refusal
abbrev pub Placed : Meaning → Call → Kind → List ℕ → Result (Seat × Operator) Fault → Type 0
Placed m call taken b r =
    MatchResult r (λ p.
    Groundless (CallGrounds m call taken b)
    × (call.accepted < 512)
    × (seated p.0.index p.1 call ≡ received_as taken m (decoded b) call))
    (λ f. Foremost (CallGrounds m call taken b) f)
