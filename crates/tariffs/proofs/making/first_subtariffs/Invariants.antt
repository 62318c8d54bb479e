use Rattle.std.proofs.Common.{◌≡◌, length, take}
use Rattle.std.specs.List.{filter_map}
use Rattle.tariffs.specs.Making.{slotted, subtariff_of}
use Rattle.tariffs.proofs.making.first_subtariffs.Given as goal

abbrev pub invariant-loop-i : goal.invariant-loop-i
invariant-loop-i l = l.slots ≡ slotted 4 (take (length l.yielded) (filter_map subtariff_of l.entries))
