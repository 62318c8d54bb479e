use Rattle.std.proofs.Common.{◌≡◌, ℕ, Bool, false, List, Some, None, Option, is_some, get_or, rules, sym, ◌∙◌}
use Rattle.std.specs.Option.{MatchOption, option_map}
use Rattle.record.specs.declared.operator.Operator.{Operator}
use Rattle.record.specs.declared.seat.Seat.{Seat}
use Rattle.record.specs.Calls.{is_seated, seat_of}
use Rattle.record.specs.Seats.{index_of}
use Rattle.record.proofs.Seated.{seat_at, no_seat}
use Rattle.record.proofs.call.Call.is_seated.Goals as goal

module _ (network : ℕ) (seats : List (Option Operator)) (r : Bool) (P : Seat → Type 0) where
  by_seat :
      (o : Option Seat) → option_map index_of o ≡ seat_of network seats → MatchOption o (r ≡ false) P
      → ((seat : Seat) → P seat → r ≡ is_some (get_or seats seat.index None)) → r ≡ is_seated network seats
  by_seat None e w says = w ∙ sym (no_seat network seats e)
  by_seat (Some seat) e w says = says seat w ∙ sym (seat_at network seats seat.index e).taken

pub returns : goal.returns
returns c = by_seat c.args.network c.args.self.now.operators _ _ c.seat_of.result c.seat_of.ensures c.is_some_and.ensures (λ seat k. search rules)
