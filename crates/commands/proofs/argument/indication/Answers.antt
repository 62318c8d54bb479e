use Rattle.commands.proofs.Indicated.{decoded_length, no_room}
use Rattle.commands.proofs.argument.indication.Goals as goal
use Rattle.std.proofs.lemmas.List.{take_at, drop_at}
use Rattle.std.proofs.Common.{rules}

pub returns-in-Some-eq32-default : goal.returns-in-Some-eq32-default
returns-in-Some-eq32-default c = search (rules, decoded_length, no_room, take_at, drop_at)
