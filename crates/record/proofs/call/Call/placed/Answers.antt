use Rattle.std.proofs.lemmas.Result.{err_from_is_err_and}
use Rattle.std.proofs.Common.{Ok, Err}
use Rattle.record.proofs.Grounds.{unit_refused}
use Rattle.record.proofs.Receipts.{finds, received}
use Rattle.record.proofs.call.Call.placed.Goals as goal

pub returns-in_err-reader : goal.returns-in_err-reader
returns-in_err-reader g c =
    let p = err_from_is_err_and c.from_residual.result c.from_residual.ensures.1 in
    rw (p.1, p.2)
    (unit_refused (g.U.Unit.meaning c.args.unit.now) c.args.self.now c.args.kind c.args.bytes.now _ c.in_err-reader.ensures)

pub returns-in_err-seat : goal.returns-in_err-seat
returns-in_err-seat g c =
    let p = err_from_is_err_and c.from_residual-in_err-seat.result c.from_residual-in_err-seat.ensures.1 in
    let read = c.in_ok-reader.ensures in
    rw (p.1, p.2)
    (finds (g.U.Unit.meaning c.args.unit.now) c.args.self.now c.args.kind c.args.bytes.now _ read.1 _ c.header-network.ensures _
    c.current_count.ensures read.0 (Err c.in_err-seat.field-0.0) c.in_err-seat.ensures)

pub returns : goal.returns
returns g c =
    let m = g.U.Unit.meaning c.args.unit.now in
    let call = c.args.self.now in
    let read = c.in_ok-reader.ensures in
    let found = finds m call c.args.kind c.args.bytes.now _ read.1 _ c.header-network.ensures _ c.current_count.ensures read.0
    (Ok c.in_ok-seat.seat.index) c.in_ok-seat.ensures in (
      found.0,
      found.1,
      received m call c.args.kind c.args.bytes.now _ read.1 _ c.header-network.ensures _ found.2 _ c.occupant-operator.ensures _
          c.indication.ensures.says _ c.indicated.ensures,
    )
