use Rattle.std.proofs.Common.{refl}
use Rattle.account.proofs.laws.worked_calls_come_out.Goals as goal

pub returns : goal.returns
returns c = refl
