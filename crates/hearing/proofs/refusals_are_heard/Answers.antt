use Rattle.hearing.proofs.Heard.{refusals_heard}
use Rattle.hearing.proofs.refusals_are_heard.Goals as goal

pub returns : goal.returns
returns c = refusals_heard
