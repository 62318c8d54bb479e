use Rattle.std.proofs.Common.{rules}
use Rattle.record.specs.Operators.{passed}
use Rattle.record.proofs.call.Call.operators_after.Goals as goal

pub returns : goal.returns
returns g c =
    c.everyone.ensures (passed (g.U.Unit.meaning c.args.unit.now) c.args.stretch.from c.args.stretch.seconds) (λ op new f k. search rules)
