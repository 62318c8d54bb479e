use Rattle.lines.proofs.Number.{number_more, number_ge}
use Rattle.lines.proofs.decimal.parse.Goals as goal
use Rattle.std.proofs.Common.{rules}

pub returns-in_err-value : goal.returns-in_err-value
returns-in_err-value c = search (rules, number_ge)

pub loop-byte-preserved : goal.loop-byte-preserved
loop-byte-preserved c = search (rules, number_more)
