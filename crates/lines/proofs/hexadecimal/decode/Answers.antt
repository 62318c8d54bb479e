use Rattle.lines.proofs.Decoded.{pair_at, decoded_more, drop_after}
use Rattle.lines.proofs.hexadecimal.decode.Goals as goal
use Rattle.std.proofs.lemmas.List.{take_more_set, append_assoc, drop-set-lt}
use Rattle.std.proofs.Common.{rules}

pub byte-requires : goal.byte-requires
byte-requires c = search (rules, pair_at)

pub loop-place-preserved : goal.loop-place-preserved
loop-place-preserved c = search (rules, pair_at, decoded_more, take_more_set, append_assoc, drop-set-lt, drop_after)
