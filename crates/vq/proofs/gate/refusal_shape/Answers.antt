-- `vq::gate::refusal_shape`: the tests, in the order of the refusals. Assumes nothing.
use mathlib.Core.Path.{◌∙◌}
use mir.Facts.{to_z-of_z}
use Rattle.vq.proofs.Refusing.{counted, late_special}
use Rattle.vq.proofs.gate.refusal_shape.Goals as goal

pub returns : goal.returns
returns c =
    let a = c.args in
    let f = c.ranges in
    let l = rw (to_z-of_z f.n) at c.length_ok-lengths.ensures in
    let k = rw (to_z-of_z f.n, to_z-of_z f.k, to_z-of_z f.spread, to_z-of_z f.b) at c.numbers_ok-known.ensures in
    let o = rw (to_z-of_z f.n, to_z-of_z f.k, to_z-of_z f.spread) at c.special_shape-special.ensures in
    (rw (l, k, c.gain_ok-unit.ensures) at c.refusal.ensures)
    ∙ late_special _ _ _ _ _ (λ e. rw (counted a.n a.k a.spread a.b e) at o)
