use Rattle.std.proofs.Common.{◌≡◌, rules, sym}
use denote.Enum.Bare.{same_true}
use Rattle.record.specs.contracts.call.Phase.{the_type}
use Rattle.record.specs.declared.call.Phase.TheVariants.{SetUp, Charging}
use Rattle.record.specs.Operators.{begun_in}
use Rattle.record.proofs.call.Call.start.Goals as goal

pub returns-then-eq : goal.returns-then-eq
returns-then-eq g c =
    let call = c.args.self.now in
    let set_up : call.phase ≡ SetUp = same_true the_type (search rules) _ _ (sym c.if-eq.ensures) in
    rw set_up (c.enter.ensures (begun_in Charging (g.U.Unit.meaning c.args.unit.now) call.clock) (λ op new f k. search rules))
