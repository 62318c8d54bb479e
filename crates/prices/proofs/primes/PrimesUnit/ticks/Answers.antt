use Rattle.std.proofs.Common.{rules}
use Rattle.units.proofs.Counts.{counted_none}
use Rattle.prices.proofs.primes.PrimesUnit.ticks.Goals as goal

pub returns-else-charge-le1000 : goal.returns-else-charge-le1000
returns-else-charge-le1000 c = search (rules, counted_none)
