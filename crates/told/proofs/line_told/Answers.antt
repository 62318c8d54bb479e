use Rattle.told.proofs.Told.{line_told}
use Rattle.told.proofs.line_told.Goals as goal

pub returns : goal.returns
returns c = line_told
