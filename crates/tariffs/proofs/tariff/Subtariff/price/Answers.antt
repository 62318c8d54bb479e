use Rattle.std.proofs.Common.{◌≡◌, ◌+◌, ◌*◌, subst, arith}
use Rattle.tariffs.specs.Sequences.{Priced, sum, taken}
use Rattle.tariffs.proofs.Parts.{part}
use Rattle.tariffs.proofs.tariff.Subtariff.price.Goals as goal

pub returns : goal.returns
returns g c =
    let m = g.U.Unit.meaning c.args.unit.now in
    let all = part m c.args.self c.args.from c.args.seconds (omega arith) in
    let is : c.price.result * c.times_taken-times.result ≡ sum (λ k. taken m c.args.self (c.args.from + k)) c.args.seconds = cc in
    subst (Priced c.checked_mul.result) is c.checked_mul.ensures
