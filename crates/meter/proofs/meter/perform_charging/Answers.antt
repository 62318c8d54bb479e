use Rattle.std.proofs.Common.{refl}
use Rattle.indication.specs.declared.header.Kind.TheVariants as kind
use Rattle.meter.specs.declared.meter.Meter.TheVariants.{Charging, Closed}
use Rattle.meter.proofs.Barred.{barred_charging}
use Rattle.meter.proofs.Steps.{indication_performs, advance_performs, release_performs, owed_performs, look_performs, barred_performs}
use Rattle.meter.proofs.meter.perform_charging.Goals as goal

pub returns-in-Tariff : goal.returns-in-Tariff
returns-in-Tariff g c =
    let step = c.receive_tariff in
    rw (c.in-Tariff.is, c.from-answer.ensures)
    (indication_performs g.U.Unit.meaning g.met.U.Unit.sound (Charging c.args.call) (Charging step.new.self) step.ensures.same
    kind.Tariff c.in-Tariff.bytes.now step.result refl refl step.ensures.received)

pub returns-in-AddOn : goal.returns-in-AddOn
returns-in-AddOn g c =
    let step = c.receive_add_on in
    rw (c.in-AddOn.is, c.from-answer-in-AddOn.ensures)
    (indication_performs g.U.Unit.meaning g.met.U.Unit.sound (Charging c.args.call) (Charging step.new.self) step.ensures.same
    kind.AddOn c.in-AddOn.bytes.now step.result refl refl step.ensures.received)

pub returns-in-Advance : goal.returns-in-Advance
returns-in-Advance g c =
    let step = c.advance in
    rw (c.in-Advance.is, c.from-answer-in-Advance.ensures)
    (advance_performs g.U.Unit.meaning g.met.U.Unit.sound (Charging c.args.call) (Charging step.new.self) step.ensures.same
    c.in-Advance.seconds step.result refl refl step.ensures.passed)

pub returns-in-AmountOwed : goal.returns-in-AmountOwed
returns-in-AmountOwed g c =
    rw (c.in-AmountOwed.is, c.amount_owed.ensures)
    (owed_performs g.U.Unit.meaning g.met.U.Unit.sound (Charging c.args.call) c.in-AmountOwed.network refl)

pub returns-in-LookAhead : goal.returns-in-LookAhead
returns-in-LookAhead g c =
    rw (c.in-LookAhead.is, c.from-answer-in-LookAhead.ensures, c.look_ahead.ensures.same)
    (look_performs g.U.Unit.meaning g.met.U.Unit.sound (Charging c.args.call) c.in-LookAhead.network c.in-LookAhead.seconds
    c.look_ahead.result refl c.look_ahead.ensures.told)

pub returns-in-Release : goal.returns-in-Release
returns-in-Release g c =
    let step = c.release in
    rw c.in-Release.is
    (release_performs g.U.Unit.meaning g.met.U.Unit.sound (Charging c.args.call) (Closed step.result) step.ensures.0 refl refl step.ensures.1)

pub returns-in_default : goal.returns-in_default
returns-in_default g c =
    let other = c.in_default in
    barred_performs g.U.Unit.meaning g.met.U.Unit.sound (Charging c.args.call) _
    (barred_charging (g.U.Unit.meaning c.args.call.unit) c.args.request other.not-Tariff other.not-AddOn other.not-Advance other.not-Release other.not-AmountOwed other.not-LookAhead)
