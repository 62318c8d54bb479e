use Rattle.std.proofs.Common.{refl}
use Rattle.indication.specs.declared.header.Kind.TheVariants as kind
use Rattle.meter.specs.declared.meter.Meter.TheVariants.{SetUp, Charging, Closed}
use Rattle.meter.proofs.Barred.{barred_in_set_up}
use Rattle.meter.proofs.Steps.{indication_performs, advance_performs, start_performs, release_performs, barred_performs}
use Rattle.meter.proofs.meter.perform_in_set_up.Goals as goal

pub returns-in-Tariff : goal.returns-in-Tariff
returns-in-Tariff g c =
    let step = c.receive_tariff in
    rw (c.in-Tariff.is, c.from-answer.ensures)
    (indication_performs g.U.Unit.meaning g.met.U.Unit.sound (SetUp c.args.call) (SetUp step.new.self) step.ensures.same
    kind.Tariff c.in-Tariff.bytes.now step.result refl refl step.ensures.received)

pub returns-in-Advance : goal.returns-in-Advance
returns-in-Advance g c =
    let step = c.advance in
    rw (c.in-Advance.is, c.from-answer-in-Advance.ensures)
    (advance_performs g.U.Unit.meaning g.met.U.Unit.sound (SetUp c.args.call) (SetUp step.new.self) step.ensures.same
    c.in-Advance.seconds step.result refl refl step.ensures.passed)

pub returns-in-Start : goal.returns-in-Start
returns-in-Start g c =
    let step = c.start in
    rw c.in-Start.is
    (start_performs g.U.Unit.meaning g.met.U.Unit.sound (SetUp c.args.call) (Charging step.result) step.ensures.0 refl refl step.ensures.1)

pub returns-in-Release : goal.returns-in-Release
returns-in-Release g c =
    let step = c.release in
    rw c.in-Release.is
    (release_performs g.U.Unit.meaning g.met.U.Unit.sound (SetUp c.args.call) (Closed step.result) step.ensures.0 refl refl step.ensures.1)

pub returns-in_default : goal.returns-in_default
returns-in_default g c =
    let other = c.in_default in
    barred_performs g.U.Unit.meaning g.met.U.Unit.sound (SetUp c.args.call) _
    (barred_in_set_up (g.U.Unit.meaning c.args.call.unit) c.args.request other.not-Tariff other.not-Advance other.not-Start other.not-Release)
