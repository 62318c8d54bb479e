use Rattle.std.proofs.Common.{sym, refl}
use Rattle.units.proofs.Grounded.{mark_refused, charge_refused, unit_accepted}
use Rattle.units.proofs.admission.admit.Goals as goal

pub returns-then-not-owns : goal.returns-then-not-owns
returns-then-not-owns g c taken ok =
    mark_refused (g.U.Unit.meaning c.args.unit.now) _ _ ok (rw c.header.ensures at (sym c.if-not-owns.ensures))

pub returns-in-Some : goal.returns-in-Some
returns-in-Some g c taken ok =
    let own = rw c.header.ensures at (sym c.if-not-owns.ensures) in
    charge_refused (g.U.Unit.meaning c.args.unit.now) _ _ ok own _ c.in-Some.ensures

pub returns : goal.returns
returns g c taken ok =
    let own = rw c.header.ensures at (sym c.if-not-owns.ensures) in
    (unit_accepted (g.U.Unit.meaning c.args.unit.now) _ _ ok own c.in_default.ensures, refl)
