use Rattle.record.proofs.Dues.{due_at_found}
use Rattle.record.proofs.call.Call.due_at.Goals as goal

pub returns : goal.returns
returns c = due_at_found c.args.self.now.opening c.args.quarter c.args.self.now.clock
