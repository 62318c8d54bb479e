use Rattle.std.proofs.Common.{◌+◌, ◌*◌, ◌<◌, arith}
use Rattle.std.specs.Int.NonZero.{non_zero_u32_get}
use Rattle.tariffs.specs.Sequences.{sequence}
use Rattle.tariffs.specs.Stretches.{taken_over}
use Rattle.tariffs.proofs.Charges.{charged_in_rounds, prices}
use Rattle.tariffs.proofs.tariff.Tariff.price_of_rounds.Goals as goal

pub returns : goal.returns
returns g c =
    let m = g.U.Unit.meaning c.args.unit.now in
    let over = taken_over m (sequence c.args.self.now) in
    let r = c.new-stretch.result in
    let round = non_zero_u32_get c.args.round in
    let some : 0 < round = omega arith in
    let later = r.whole * over 0 round + over 0 r.last in
    prices m (g.met.U.Unit.sound c.args.unit.now) c.args.self.now _ _ _ (over r.at r.first + later)
    (charged_in_rounds m c.args.self.now _ _ round some c.requires r c.new-stretch.ensures)
    (c.plus-2.ensures (over r.at r.first) later c.price_of_pass-first.ensures
    (c.plus.ensures (r.whole * over 0 round) (over 0 r.last) (rw c.get.ensures.value at c.price_of_whole_rounds-whole.ensures) c.price_of_pass-last.ensures))
