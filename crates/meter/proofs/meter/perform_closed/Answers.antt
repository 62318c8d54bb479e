use Rattle.std.proofs.Common.{refl}
use Rattle.meter.specs.declared.meter.Meter.TheVariants.{Closed}
use Rattle.meter.proofs.Barred.{barred_closed}
use Rattle.meter.proofs.Steps.{total_performs, line_performs, barred_performs}
use Rattle.meter.proofs.meter.perform_closed.Goals as goal
use Rattle.meter.proofs.meter.perform_closed.Goals.{in-Total, in-Line, in_default}

pub returns : goal.returns
returns g c =
    elim c.match-request.branch [
      | in-Total w ↦
          rw (w.in-Total.is, w.answer-is, w.total.ensures)
          (total_performs g.U.Unit.meaning g.met.U.Unit.sound (Closed c.args.call) refl)
      | in-Line w ↦
          rw (w.in-Line.is, w.answer-is, w.line.ensures)
          (line_performs g.U.Unit.meaning g.met.U.Unit.sound (Closed c.args.call) w.in-Line.k refl)
      | in_default w ↦
          rw w.answer-is
          (barred_performs g.U.Unit.meaning g.met.U.Unit.sound (Closed c.args.call) _ (barred_closed (g.U.Unit.meaning c.args.call.unit) c.args.request w.in_default.not-Total w.in_default.not-Line))
    ]
