-- `entenc::Writer::shift`: what settles, what is held and the run come from three calls, and make one step. Assumes nothing.
use Rattle.entenc_sink.specs.Out.{out}
use Rattle.entenc.specs.Write.{wr}
use Rattle.entenc.proofs.Shifts.{shift_is}
use Rattle.entenc.proofs.Writer.shift.Goals as goal

pub returns : goal.returns
returns c =
    let a = c.args in
    let k = c.carry-t in
    shift_is (wr a.self a.buf.now) (out k.result k.new.buf) _ _ k.ensures c.held_by.ensures
    c.run_by.ensures
