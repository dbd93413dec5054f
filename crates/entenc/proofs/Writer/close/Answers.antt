-- `entenc::Writer::close`: number 0 of the gate gives the worker its needs; any other is the refusal. Assumes nothing.
use Rattle.entcode.specs.Said.{verdict}
use Rattle.entcode.proofs.Said.{stopped-says, stopped-some}
use mathlib.Core.Path.{ap}
use Rattle.entenc.specs.Close.{close_w}
use Rattle.entenc.specs.Rule.{refusal_close}
use Rattle.entenc.specs.Write.{wr}
use Rattle.entenc.proofs.Taken.{close_needs, say-next, say_no}
use Rattle.entenc.proofs.Writer.close.Goals as goal

pub done-requires : goal.done-requires
unfolding refusal_close
done-requires c =
    let a = c.args in
    close_needs _ (wr a.self a.buf.now) c.refusal_close.ensures (ap verdict c.in_ok-refusal_close.was)

pub returns : goal.returns
unfolding refusal_close
returns c =
    let a = c.args in
    let k = c.done in
    say-next _ (refusal_close (wr a.self a.buf.now)) (wr a.self a.buf.now) (close_w (wr a.self a.buf.now))
    c.refusal_close.ensures (wr k.result k.new.buf) (ap verdict c.in_ok-refusal_close.was)
    k.ensures

pub returns-in_err-refusal_close : goal.returns-in_err-refusal_close
unfolding refusal_close
returns-in_err-refusal_close c =
    let h = c.in_err-refusal_close in
    rw (stopped-says _ _ _ h.was c.from_residual.ensures.1) (let a = c.args in
    say_no _ (refusal_close (wr a.self a.buf.now)) (wr a.self a.buf.now) (close_w (wr a.self a.buf.now))
    c.refusal_close.ensures (stopped-some _ _ h.was))
