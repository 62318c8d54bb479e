use Rattle.standing.proofs.Standing.{sums_fit}
use Rattle.standing.proofs.laws.sums_fit.Goals as goal

pub returns : goal.returns
returns c = sums_fit
