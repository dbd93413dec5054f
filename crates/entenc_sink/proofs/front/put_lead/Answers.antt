-- `entenc_sink::front::put_lead`: by whether a byte is held. Assumes nothing.
use mathlib.Core.Path.{◌∙◌}
use Rattle.entenc_sink.specs.Out.{out}
use Rattle.entenc_sink.proofs.Outs.{lead-held, lead-none}
use Rattle.entenc_sink.proofs.front.put_lead.Goals as goal

pub returns-then-rem-lt256 : goal.returns-then-rem-lt256
returns-then-rem-lt256 c =
    let a = c.args in
    c.put_front.ensures ∙ lead-held a.rem a.k (out a.s a.buf.now) c.if-rem-lt256.true

pub returns-else-rem-lt256 : goal.returns-else-rem-lt256
returns-else-rem-lt256 c =
    let a = c.args in lead-none a.rem a.k (out a.s a.buf.now) c.if-rem-lt256.false
