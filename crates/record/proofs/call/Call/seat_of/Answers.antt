use Rattle.std.proofs.Common.{rules}
use Rattle.record.proofs.Seated.{seat_position}
use Rattle.record.proofs.call.Call.seat_of.Goals as goal

pub returns-in_err-index : goal.returns-in_err-index
returns-in_err-index c = search (rules, seat_position)

pub returns : goal.returns
returns c = search (rules, seat_position)
