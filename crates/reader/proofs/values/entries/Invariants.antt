use Rattle.std.proofs.Common.{◌≡◌, map, take}
use Rattle.std.specs.List.{range_with_len}
use Rattle.indication.specs.Format.{entry_at, listed}
use Rattle.reader.proofs.values.entries.Given as goal

abbrev pub invariant-loop-k : goal.invariant-loop-k
invariant-loop-k l = listed l.entries ≡ take 6 (map (entry_at l.bytes) (range_with_len l.first l.k))
