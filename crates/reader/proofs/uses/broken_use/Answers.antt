use Rattle.std.proofs.Common.{rules}
use Rattle.reader.proofs.Misuses.{first_of_both}
use Rattle.reader.proofs.uses.broken_use.Goals as goal

pub returns-in-Some-Tariff : goal.returns-in-Some-Tariff
returns-in-Some-Tariff c =
    first_of_both c.args.bytes.now c.byte-current.result c.byte-next.result c.misused.result c.or_else.result c.byte-current.ensures c.byte-next.ensures (search rules) c.misused.ensures (search rules)
