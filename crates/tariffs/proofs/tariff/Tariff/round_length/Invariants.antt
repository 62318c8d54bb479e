use Rattle.std.proofs.Common.{◌≡◌, ◌*◌, ◌≤◌, drop, length}
use Rattle.tariffs.specs.Sequences.{sequence}
use Rattle.tariffs.specs.Stretches.{whole_length}
use Rattle.tariffs.proofs.Lengths.{length_after}
use Rattle.tariffs.proofs.tariff.Tariff.round_length.Given as goal

abbrev pub invariant-loop-subtariff : goal.invariant-loop-subtariff
invariant-loop-subtariff l =
    (length_after l.length (drop (length l.yielded) (sequence l.self)) ≡ whole_length (sequence l.self))
    × (l.length ≤ 65535 * length l.yielded)
