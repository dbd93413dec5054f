-- `entenc::Writer::bits`: number 0 of the gate gives the worker its needs; any other is the refusal. Assumes nothing.
use Rattle.entcode.specs.Said.{verdict}
use Rattle.entcode.proofs.Said.{stopped-says, stopped-some}
use mathlib.Core.Path.{◌∙◌, ap}
use Rattle.entcode.specs.Sym.Shape.{raw}
use Rattle.entenc.specs.Rule.{refusal_w}
use Rattle.entenc.specs.Symbols.{write_sym}
use Rattle.entenc.specs.Write.{wr}
use Rattle.entenc.proofs.Forms.{raw_one}
use Rattle.entenc.proofs.Taken.{raw_gate, raw_needs, say-next, say_no}
use Rattle.entenc.proofs.Writer.bits.Goals as goal

pub put_bits-requires : goal.put_bits-requires
put_bits-requires c =
    let a = c.args in
    raw_needs _ a.v (wr a.self a.buf.now) a.n
    (raw_gate _ a.v a.n (wr a.self a.buf.now) _ c.refusal.ensures c.below_pow2.ensures)
    (ap verdict c.in_ok-refusal.was)

pub returns : goal.returns
returns c =
    let a = c.args in
    let k = c.put_bits in
    say-next _ (refusal_w (raw a.n) a.v (wr a.self a.buf.now)) (wr a.self a.buf.now)
    (write_sym (raw a.n) a.v (wr a.self a.buf.now))
    (raw_gate _ a.v a.n (wr a.self a.buf.now) _ c.refusal.ensures c.below_pow2.ensures)
    (wr k.result k.new.buf) (ap verdict c.in_ok-refusal.was) (k.ensures ∙ raw_one a.n a.v (wr a.self a.buf.now))

pub returns-in_err-refusal : goal.returns-in_err-refusal
returns-in_err-refusal c =
    let h = c.in_err-refusal in
    rw (stopped-says _ _ _ h.was c.from_residual.ensures.1) (let a = c.args in
    say_no _ (refusal_w (raw a.n) a.v (wr a.self a.buf.now)) (wr a.self a.buf.now)
    (write_sym (raw a.n) a.v (wr a.self a.buf.now))
    (raw_gate _ a.v a.n (wr a.self a.buf.now) _ c.refusal.ensures c.below_pow2.ensures) (stopped-some _ _ h.was))
