use Rattle.std.proofs.Common.{rules}
use Rattle.units.proofs.Counts.{counted_all, counted_none}
use Rattle.units.proofs.currency.CurrencyUnit.ticks.Goals as goal

pub returns-then-well_scaled : goal.returns-then-well_scaled
returns-then-well_scaled c = search (rules, counted_all)

pub returns-else-well_scaled : goal.returns-else-well_scaled
returns-else-well_scaled c = search (rules, counted_none)
