use Rattle.std.proofs.Common.{◌≡◌, ◌+◌, ◌^◌, ◌<◌, drop, length}
use Rattle.tariffs.specs.Sequences.{sequence}
use Rattle.tariffs.specs.Stretches.{taken_over}
use Rattle.tariffs.proofs.tariff.Tariff.price_of_pass.Given as goal

abbrev pub invariant-loop-subtariff : goal.invariant-loop-subtariff
invariant-loop-subtariff g l =
    let m = g.U.Unit.meaning l.unit in
    (l.total + taken_over m (drop (length l.yielded) (sequence l.self)) l.from l.left ≡ taken_over m (sequence l.self) l.initial.from l.seconds)
    × (l.total < 2 ^ 64)
