use Rattle.told.proofs.Told.{total_told}
use Rattle.told.proofs.total_told.Goals as goal

pub returns : goal.returns
returns c = total_told
