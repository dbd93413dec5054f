-- `trip_call::sends::send`: by the answer of the row, over a copy that holds the bytes. Assumes nothing.
use Rattle.entenc.specs.Write.{wr}
use Rattle.trip_theorem.specs.Rows.{write_all}
use Rattle.trip_call.specs.Given.{symbols_of}
use Rattle.trip_call.specs.ReadBack.{agrees}
use Rattle.trip_call.proofs.Joining.{rows_refused, rows_wrote}
use Rattle.trip_call.proofs.Outcomes.{row_done, row_no}
use Rattle.trip_call.proofs.sends.send.Goals as goal

pub returns-in-Ok : goal.returns-in-Ok
returns-in-Ok c =
    let a = c.args in
    let r = rows_wrote a.asked.symbols.now a.asked.tables.now a.bytes.now a.w c.write_row.result c.write_row.new.buf
    c.copy_from_slice.ensures.after c.write_row.ensures c.in-Ok.v c.in-Ok.is in
    row_done a.asked.q a.h a.asked.offsets.now a.asked.caps.now
    (agrees a.asked.q a.asked.offsets.now a.asked.caps.now (symbols_of a.asked.symbols.now a.asked.tables.now)) a.w
    (write_all (symbols_of a.asked.symbols.now a.asked.tables.now) (wr a.w a.bytes.now))
    (wr c.in-Ok.v c.write_row.new.buf) r.zs r.is c.allot.ensures

pub returns-in-Err : goal.returns-in-Err
returns-in-Err c =
    let a = c.args in
    row_no a.asked.q a.h a.asked.offsets.now a.asked.caps.now
    (agrees a.asked.q a.asked.offsets.now a.asked.caps.now (symbols_of a.asked.symbols.now a.asked.tables.now)) a.w
    (write_all (symbols_of a.asked.symbols.now a.asked.tables.now) (wr a.w a.bytes.now)) _ _
    (rows_refused a.asked.symbols.now a.asked.tables.now a.bytes.now a.w c.write_row.result c.write_row.new.buf
    c.copy_from_slice.ensures.after c.write_row.ensures _ c.in-Err.is)
