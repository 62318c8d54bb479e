use Rattle.std.proofs.Common.{vec_items}
use Rattle.meter.proofs.Runs.{one_more}
use Rattle.meter.proofs.run.run.Goals as goal

pub loop-request-preserved : goal.loop-request-preserved
loop-request-preserved g c =
    one_more g.U.Unit.meaning _ _ c.loop-request.meter c.perform-next.result.0 c.args.requests.now c.loop-request.request-index _
    (vec_items c.loop-request.answers) (vec_items c.push.new.self) c.perform-next.result.1
    c.loop-request-test.true c.loop-request.invariant.0 c.perform-next.ensures c.in_ok-push.ensures.items c.loop-request.invariant.1
