use Rattle.account.proofs.Alone.{independent}
use Rattle.account.proofs.laws.operators_are_independent.Goals as goal

pub returns : goal.returns
returns c = independent
