use Rattle.record.proofs.Everyone.{everyone_same}
use Rattle.record.proofs.call.Call.close.Goals as goal

pub returns : goal.returns
returns c = rw (everyone_same c.args.self.now.operators)
