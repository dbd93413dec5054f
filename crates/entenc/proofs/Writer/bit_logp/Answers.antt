-- `entenc::Writer::bit_logp`: number 0 of the gate gives the worker its needs; any other is the refusal. Assumes nothing.
use Rattle.entcode.specs.Said.{verdict}
use Rattle.entcode.proofs.Said.{stopped-says, stopped-some}
use mathlib.Core.Path.{ap}
use Rattle.entcode.specs.Sym.Shape.{bit}
use Rattle.entcode.specs.Sym.{length_ok, shape_ok, value_ok, list_ok}
use Rattle.entenc.specs.Rule.{refusal_w}
use Rattle.entenc.specs.Symbols.{write_sym}
use Rattle.entenc.specs.Write.{wr}
use Rattle.entenc.proofs.Taken.{bit_needs, say-next, say_no}
use Rattle.entenc.proofs.Writer.bit_logp.Goals as goal

pub put_bit-requires : goal.put_bit-requires
unfolding refusal_w length_ok shape_ok value_ok list_ok
put_bit-requires c =
    let a = c.args in
    bit_needs _ a.value (wr a.self a.buf.now) a.logp c.refusal.ensures (ap verdict c.in_ok-refusal.was)

pub returns : goal.returns
unfolding refusal_w length_ok shape_ok value_ok list_ok
returns c =
    let a = c.args in
    let k = c.put_bit in
    say-next _ (refusal_w (bit a.logp) a.value (wr a.self a.buf.now)) (wr a.self a.buf.now)
    (write_sym (bit a.logp) a.value (wr a.self a.buf.now)) c.refusal.ensures
    (wr k.result k.new.buf) (ap verdict c.in_ok-refusal.was) k.ensures

pub returns-in_err-refusal : goal.returns-in_err-refusal
unfolding refusal_w length_ok shape_ok value_ok list_ok
returns-in_err-refusal c =
    let h = c.in_err-refusal in
    rw (stopped-says _ _ _ h.was c.from_residual.ensures.1) (let a = c.args in
    say_no _ (refusal_w (bit a.logp) a.value (wr a.self a.buf.now)) (wr a.self a.buf.now)
    (write_sym (bit a.logp) a.value (wr a.self a.buf.now)) c.refusal.ensures (stopped-some _ _ h.was))
