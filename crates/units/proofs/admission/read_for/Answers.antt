use Rattle.std.proofs.Common.{sym}
use Rattle.units.proofs.admission.read_for.Goals as goal

pub returns : goal.returns
returns g c =
    let is = c.in_ok-reader.ensures.1 in
    rw is at (c.admit.ensures c.args.taken (rw (sym is) at c.in_ok-reader.ensures.0))
