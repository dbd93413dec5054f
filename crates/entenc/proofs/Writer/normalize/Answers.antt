-- `entenc::Writer::normalize`: the remaining steps give from here what all gave at the start. Assumes nothing.
use mathlib.Core.Path.{refl, sym, ◌∙◌}
use Rattle.entcode.proofs.RenormSteps.{steps_le}
use Rattle.entenc.specs.Write.{wr}
use Rattle.entenc.proofs.Shifts.{renorm_fewer, renorm_one, shifted, normal_done}
use Rattle.entenc.proofs.Writer.normalize.Goals as goal

pub loop-w-init : goal.loop-w-init
loop-w-init c = (renorm_fewer _ 3 _ (steps_le _) c.requires, refl, refl)

pub shift-w-requires : goal.shift-w-requires
shift-w-requires c =
    let l = c.loop-w in
    (renorm_one (wr l.w l.buf) l.invariant.0 c.loop-w-test.true, c.loop-w-test.true)

pub loop-w-smaller : goal.loop-w-smaller
loop-w-smaller c =
    let l = c.loop-w in
    let k = c.shift-w in
    (shifted (wr l.w l.buf) (wr k.result k.new.buf) k.ensures l.invariant.0 c.loop-w-test.true).fewer

pub loop-w-preserved : goal.loop-w-preserved
loop-w-preserved c =
    let l = c.loop-w in
    let k = c.shift-w in
    let t = shifted (wr l.w l.buf) (wr k.result k.new.buf) k.ensures l.invariant.0 c.loop-w-test.true in
    (t.ready, k.auto.buf ∙ l.invariant.1, l.invariant.2 ∙ t.same)

pub returns : goal.returns
returns c =
    let l = c.loop-w in
    normal_done (wr l.w l.buf) c.loop-w-test.false ∙ sym l.invariant.2
