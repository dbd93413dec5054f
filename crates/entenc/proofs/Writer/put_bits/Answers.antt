-- `entenc::Writer::put_bits`: by whether the bits fit beside those that wait. Assumes nothing.
use Rattle.entenc_sink.specs.Out.{out}
use Rattle.entenc.specs.Write.{wr}
use Rattle.entenc.proofs.RawBits.{bits_fit, bits-flush}
use Rattle.entenc.proofs.Writer.put_bits.Goals as goal

pub returns-then-self-n-le32 : goal.returns-then-self-n-le32
returns-then-self-n-le32 c =
    let a = c.args in
    rw c.topped.ensures (bits_fit a.n a.v (wr a.self a.buf.now) c.if-self-n-le32.true)

pub returns : goal.returns
returns c =
    let a = c.args in
    let f = c.flush-f in
    rw c.topped-2.ensures
    (bits-flush a.n a.v (wr a.self a.buf.now) (out f.result.sink f.new.buf) _ _ c.if-self-n-le32.false f.ensures.0 f.ensures.1
    f.ensures.2)
