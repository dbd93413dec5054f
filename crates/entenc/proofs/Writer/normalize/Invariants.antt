-- `entenc::Writer::normalize`: the remaining steps give from here what all gave at the start. Assumes nothing.
use mathlib.Core.Path.{◌≡◌}
use lib.ListN.{length}
use Rattle.entcode.specs.Range.{renorm_steps}
use Rattle.entenc.specs.Ready.{Renormalizing}
use Rattle.entenc.specs.Write.{wr}
use Rattle.entenc.proofs.Shifts.{normal_w}
use Rattle.entenc.proofs.Writer.normalize.Given as goal

abbrev pub invariant-loop-w : goal.invariant-loop-w
invariant-loop-w l =
    Renormalizing (renorm_steps l.w.rng) (wr l.w l.buf) × (length l.buf ≡ length l.initial.buf)
    × (normal_w (wr l.initial.w l.initial.buf) ≡ normal_w (wr l.w l.buf))

abbrev pub decreases-loop-w : goal.decreases-loop-w
decreases-loop-w l = renorm_steps l.w.rng
