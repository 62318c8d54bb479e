use Rattle.std.proofs.Common.{◌≡◌, ◌%◌, map, reverse, take, vec_items}
use Rattle.meter.specs.Meters.{CameBy, asked, unit_of}
use Rattle.meter.proofs.run.run.Given as goal

abbrev pub invariant-loop-request : goal.invariant-loop-request
invariant-loop-request g l =
    (unit_of l.meter ≡ unit_of l.initial.meter)
    × CameBy (g.U.Unit.meaning (unit_of l.initial.meter)) (l.second % 86400)
    (reverse (map asked (take l.request-index l.requests))) (reverse (vec_items l.answers)) l.meter
