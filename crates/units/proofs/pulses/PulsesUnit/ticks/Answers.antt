use Rattle.std.proofs.Common.{rules}
use Rattle.units.proofs.Counts.{counted_none}
use Rattle.units.proofs.pulses.PulsesUnit.ticks.Goals as goal

pub returns-then-not-in_steps : goal.returns-then-not-in_steps
returns-then-not-in_steps c = search (rules, counted_none)
