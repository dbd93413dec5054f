-- `trip_call::back::read_on`: by whether the symbols agree. Assumes nothing.
use Rattle.rate.specs.Question.{lists}
use Rattle.trip_call.proofs.Backing.{back_differs, back_same}
use Rattle.trip_call.proofs.back.read_on.Goals as goal

pub returns-in-Some : goal.returns-in-Some
returns-in-Some c =
    let a = c.args in
    back_same a.asked.symbols.now a.asked.tables.now a.asked.q a.asked.offsets.now a.asked.caps.now a.y.now.figures
    (lists a.y.now.pulses a.y.now.fine a.y.now.priorities) a.s.now a.w a.buf.now a.d c.pair_row.result c.pair_row.new.buf
    c.pair_row.ensures c.in-Some.p c.in-Some.is c.same_tells-first.ensures
    c.same_shares.ensures

pub returns-in-None : goal.returns-in-None
returns-in-None c =
    let a = c.args in
    back_differs a.asked.symbols.now a.asked.tables.now a.asked.q a.asked.offsets.now a.asked.caps.now a.y.now.figures
    (lists a.y.now.pulses a.y.now.fine a.y.now.priorities) a.s.now a.w a.buf.now a.d c.pair_row.result c.pair_row.new.buf
    c.pair_row.ensures c.in-None.is
