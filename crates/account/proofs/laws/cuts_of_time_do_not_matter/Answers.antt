use Rattle.account.proofs.Cuts.{cuts}
use Rattle.account.proofs.laws.cuts_of_time_do_not_matter.Goals as goal

pub returns : goal.returns
returns c = cuts
