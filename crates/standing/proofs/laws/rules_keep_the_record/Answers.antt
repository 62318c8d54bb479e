use Rattle.standing.proofs.Standing.{rules_keep_the_record}
use Rattle.standing.proofs.laws.rules_keep_the_record.Goals as goal

pub returns : goal.returns
returns c = rules_keep_the_record
