use Rattle.indication.specs.Format.{entry_at}
use Rattle.reader.proofs.Collected.{collected_more}
use Rattle.reader.proofs.values.entries.Goals as goal

pub loop-k-preserved : goal.loop-k-preserved
loop-k-preserved c = collected_more 6 (entry_at c.args.bytes.now) c.args.first c.loop-k.k c.push.result _ _ _ c.loop-k.invariant (cc) c.push.ensures
