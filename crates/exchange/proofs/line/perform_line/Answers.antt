use Rattle.meter.specs.Meters.{asked}
use Rattle.exchange.proofs.Lines.{line_performed}
use Rattle.exchange.proofs.line.perform_line.Goals as goal

pub returns : goal.returns
returns g c =
    let said = c.in-Some.ensures in
    line_performed g.U.Unit.meaning c.args.meter c.perform-meter.result.0 c.args.line.now _ c.in-Some.command
    (asked c.request_of.result) c.perform-meter.result.1 c.echo.result
    said.0 said.1.0 c.request_of.ensures c.perform-meter.ensures c.echo.ensures
