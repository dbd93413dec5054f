-- `entenc_sink::front::carry`: by whether anything settles. Assumes nothing.
use Rattle.entenc_sink.specs.Out.{out}
use Rattle.entenc_sink.proofs.Outs.{emit-fit, settled-not, settled_led}
use Rattle.entenc_sink.proofs.front.carry.Goals as goal

pub returns-then-c-eq255 : goal.returns-then-c-eq255
returns-then-c-eq255 c =
    let a = c.args in
    settled-not a.rem a.ext a.c (out a.s a.buf.now) c.if-c-eq255.true

pub put_run-requires : goal.put_run-requires
put_run-requires c =
    rw c.put_lead-t.ensures (emit-fit _ _ c.requires.0)

pub returns : goal.returns
returns c =
    let a = c.args in
    settled_led a.rem a.ext a.c (out a.s a.buf.now) _ _ c.if-c-eq255.false
    c.put_lead-t.ensures c.put_run.ensures
