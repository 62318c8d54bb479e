-- What becomes of an indication: h is its header and x the bytes that were read, which are b.
use Rattle.std.proofs.Common.{◌≡◌, ℕ, List, get_or, Some, None, Result, unwrap_or, refl}
use Rattle.indication.specs.declared.fault.Fault.{Fault}
use Rattle.indication.specs.declared.header.Header.{Header}
use Rattle.indication.specs.declared.header.Kind.{Kind}
use Rattle.indication.specs.declared.header.Kind.TheVariants.{Tariff, AddOn}
use Rattle.indication.specs.Format.{Content, current_count, decoded, header_of}
use Rattle.indication.specs.Rules.{Groundless}
use Rattle.units.specs.Meanings.{Meaning}
use Rattle.units.specs.Admission.{UnitGrounds}
use Rattle.record.specs.declared.call.Call.{Call}
use Rattle.record.specs.declared.operator.Operator.{Operator}
use Rattle.record.specs.Operators.{newcomer}
use Rattle.record.specs.Calls.{accepting, seat_of}
use Rattle.record.specs.Refusals.{received_as}
use Rattle.record.specs.Seats.{indicated, seat_for, seated}
use Rattle.record.proofs.Seated.{seat_at}
use Rattle.record.proofs.Grounds.{Finds, finds_seat}

-- an indication is accepted by what it makes of its network's operator
accepting_as : (taken : Kind) (m : Meaning) (c : Content) (call : Call) → accepting (indicated taken m call c) c.header.network call ≡ received_as taken m c call
accepting_as Tariff m c call = refl
accepting_as AddOn m c call = refl

module _ (m : Meaning) (call : Call) (taken : Kind) (b x : List ℕ) (is : x ≡ b) (h : Header) (header_is : h ≡ header_of x) where
  pub finds :
      (count : ℕ) → count ≡ current_count x → Groundless (UnitGrounds m taken b) → (r : Result ℕ Fault) → r ≡ seat_for call taken h.network count
      → Finds m call taken b r
  finds count count_is ok r r_is = rw (r_is, header_is, count_is, is) (finds_seat m call taken b ok)

  -- the operator in its seat, changed and put back, is the change of the call
  pub received :
      (i : ℕ) → Some i ≡ seat_of (header_of b).network call.operators
      → (op : Operator) → op ≡ unwrap_or (get_or call.operators i None) (newcomer h.network)
      → (c : Content) → c ≡ decoded x → (new : Operator) → new ≡ indicated taken m call c op
      → seated i new call ≡ received_as taken m (decoded b) call
  received i found op op_is c says new new_is =
      rw (← accepting_as taken m (decoded b) call)
      (rw ((seat_at (header_of b).network call.operators i found).changed (indicated taken m call (decoded b)), new_is, op_is, says, header_is, is))
