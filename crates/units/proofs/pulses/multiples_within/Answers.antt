use Rattle.std.proofs.Common.{arith}
use Rattle.units.proofs.Multiples.{counted_multiples}
use Rattle.units.proofs.pulses.multiples_within.Goals as goal

pub returns : goal.returns
returns c = grind (arith, counted_multiples c.args.interval c.args.from c.args.count c.requires)
