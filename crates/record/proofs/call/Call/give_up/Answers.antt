use Rattle.std.proofs.Common.{rules}
use Rattle.record.specs.Operators.{owing, price_of}
use Rattle.record.proofs.call.Call.give_up.Goals as goal

pub returns : goal.returns
returns g c =
    c.enter.ensures (λ op. owing (price_of (g.U.Unit.meaning c.args.unit.now) op.tariff.attempt) op) (λ op new f k. search rules)
