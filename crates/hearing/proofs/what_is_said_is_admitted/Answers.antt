use Rattle.hearing.proofs.Heard.{said_admitted}
use Rattle.hearing.proofs.what_is_said_is_admitted.Goals as goal

pub returns : goal.returns
returns c = said_admitted
