use Rattle.std.proofs.Common.{arith}
use Rattle.std.specs.Option.{option_map}
use Rattle.record.proofs.Everyone.{all_four}
use Rattle.record.proofs.phases.everyone.Goals as goal

pub returns : goal.returns
returns g c = λ changed says.
    all_four (option_map changed) c.args.seats _ _ _ _ (omega arith) (c.seat_after.ensures changed says)
    (c.seat_after-2.ensures changed says) (c.seat_after-3.ensures changed says) (c.seat_after-4.ensures changed says)
