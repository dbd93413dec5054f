-- `trip_call::sends::allot`: by the answer of the call that writes the allocation. Assumes nothing.
use Rattle.entenc.specs.Write.{wr}
use Rattle.rate.specs.Question.{lists, no_entries}
use Rattle.trip_theorem.specs.Rows.{write_all}
use Rattle.trip_call.specs.Given.{symbols_of}
use Rattle.trip_call.specs.ReadBack.{agrees}
use Rattle.trip_call.proofs.Outcomes.{allot-done, allot-refused}
use Rattle.trip_call.proofs.sends.allot.Goals as goal

pub returns-in-Ok : goal.returns-in-Ok
unfolding no_entries
returns-in-Ok c =
    let a = c.args in
    allot-done a.asked.q a.h a.asked.offsets.now a.asked.caps.now (wr a.v a.buf.now)
    (lists c.clt_compute_allocation_write-answer.new.pulses c.clt_compute_allocation_write-answer.new.fine
    c.clt_compute_allocation_write-answer.new.priorities) c.clt_compute_allocation_write-answer.ensures
    (agrees a.asked.q a.asked.offsets.now a.asked.caps.now (symbols_of a.asked.symbols.now a.asked.tables.now) a.w
    (write_all (symbols_of a.asked.symbols.now a.asked.tables.now) (wr a.w a.bytes.now))) c.in-Ok.figures c.in-Ok.is
    c.shut.ensures

pub returns-in-Err : goal.returns-in-Err
unfolding no_entries
returns-in-Err c =
    let a = c.args in
    allot-refused a.asked.q a.h a.asked.offsets.now a.asked.caps.now (wr a.v a.buf.now)
    (lists c.clt_compute_allocation_write-answer.new.pulses c.clt_compute_allocation_write-answer.new.fine
    c.clt_compute_allocation_write-answer.new.priorities) c.clt_compute_allocation_write-answer.ensures
    (agrees a.asked.q a.asked.offsets.now a.asked.caps.now (symbols_of a.asked.symbols.now a.asked.tables.now) a.w
    (write_all (symbols_of a.asked.symbols.now a.asked.tables.now) (wr a.w a.bytes.now))) c.in-Err.is
