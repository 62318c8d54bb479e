use Rattle.told.proofs.Told.{owed_told}
use Rattle.told.proofs.owed_told.Goals as goal

pub returns : goal.returns
returns c = owed_told
