use Rattle.standing.proofs.Standing.{record_shows_the_known}
use Rattle.standing.proofs.laws.record_shows_the_known.Goals as goal

pub returns : goal.returns
returns c = record_shows_the_known
