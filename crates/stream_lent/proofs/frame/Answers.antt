-- `stream_lent::frame`: the answer and the record are those of the call by value. Assumes nothing.
use mathlib.Core.Path.{ap, ◌∙◌}
use mir.Facts.{to_z-of_z}
use Rattle.stream.specs.Frame.{call}
use Rattle.stream_lent.specs.Lent.{step_of}
use Rattle.stream_lent.proofs.Kept.{lent}
use Rattle.stream_lent.proofs.Steps.{step-told}
use Rattle.stream_lent.proofs.frame.Goals as goal

pub returns : goal.returns
returns c =
    let a = c.args in
    let f = c.ranges in
    let y = c.frame-y.result in
    lent a.rec.now (call a.d a.s.now a.number a.c a.lm a.start a.end a.intra) (record { answer = c.told.result; rec = y.rec })
    (step-told y c.told.result c.told.ensures
    ∙ ap step_of (rw (to_z-of_z f.c, to_z-of_z f.lm, to_z-of_z f.start, to_z-of_z f.end, to_z-of_z f.intra) at c.frame-y.ensures))
