use Rattle.std.proofs.Common.{[], sym, refl, ap}
use Rattle.record.specs.declared.call.Call.{Call}
use Rattle.meter.proofs.Accounts.{accounted}
use Rattle.meter.proofs.meter.unasked.Goals as goal

pub returns : goal.returns
returns g c = (
  refl,
  λ second is.
      record {
        accounted = accounted (g.U.Unit.meaning c.args.call.unit) _ [] [] c.args.call.call refl is;
        phased = sym (ap (λ (call : Call). call.phase) is);
      },
)
