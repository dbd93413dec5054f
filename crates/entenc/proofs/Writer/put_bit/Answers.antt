-- `entenc::Writer::put_bit`: the two cases of the model. Assumes nothing.
use mathlib.Core.Path.{◌∙◌}
use native.Mathlib.Omega.{arith}
use Rattle.laws.proofs.Powers.{shr_part}
use Rattle.entenc.specs.Write.{wr}
use Rattle.entenc.proofs.Forms.{put-zero, put_one}
use Rattle.entenc.proofs.Writer.put_bit.Goals as goal

pub narrow-requires : goal.narrow-requires
narrow-requires c =
    let a = c.args in
    let p = c.requires in
    let h = shr_part a.self.rng a.logp (omega (arith, p.0.sound.range_gt)) p.1 in
    (p.0, omega arith, omega arith)

pub returns-then-value-eq0 : goal.returns-then-value-eq0
returns-then-value-eq0 c =
    let a = c.args in
    c.narrow.ensures ∙ put-zero a.logp c.requires.1 a.value (wr a.self a.buf.now) c.if-value-eq0.true

pub returns-else-value-eq0 : goal.returns-else-value-eq0
returns-else-value-eq0 c =
    let a = c.args in
    c.narrow-else-value-eq0.ensures ∙ put_one a.logp c.requires.1 a.value (wr a.self a.buf.now) c.if-value-eq0.false
