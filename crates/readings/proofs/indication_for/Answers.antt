use Rattle.std.proofs.Common.{ap, ◌∙◌}
use Rattle.std.proofs.lemmas.Result.{err_from_is_err_and}
use Rattle.indication.specs.Format.{decoded}
use Rattle.readings.specs.Readings.{refused}
use Rattle.readings.proofs.Right.{reading_right, reads_computed}
use Rattle.readings.proofs.indication_for.Goals as goal

pub returns-in_err-reader : goal.returns-in_err-reader
returns-in_err-reader g c =
    let m = g.U.Unit.meaning c.args.unit.now in
    let p = err_from_is_err_and c.from_residual.result c.from_residual.ensures.1 in
    record {
      computed = rw (p.1, p.2) (reads_computed m c.args.taken c.args.bytes.now (refused _) c.in_err-reader.ensures);
      right = reading_right;
    }

pub returns : goal.returns
returns g c =
    let m = g.U.Unit.meaning c.args.unit.now in
    let read = c.in_ok-reader.ensures in
    record {
      computed = reads_computed m c.args.taken c.args.bytes.now _ (read.0, c.indication.ensures.says ∙ ap decoded read.1);
      right = reading_right;
    }
