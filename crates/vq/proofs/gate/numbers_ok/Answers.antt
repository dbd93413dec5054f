-- `vq::gate::numbers_ok`: each test in the definition's order. Assumes nothing.
use mir.Facts.{to_z-of_z}
use Rattle.vq.specs.Answer.{numbers_ok}
use Rattle.vq.proofs.gate.numbers_ok.Goals as goal

pub returns : goal.returns
unfolding numbers_ok
returns c =
    let f = c.ranges in
    let x = rw (to_z-of_z f.n) at c.in_range.ensures in
    let y = rw (to_z-of_z f.k) at c.in_range-2.ensures in
    let z = rw (to_z-of_z f.spread) at c.in_range-3.ensures in
    let w = rw (to_z-of_z f.n, to_z-of_z f.b) at c.parts_ok.ensures in
    rw (x, y, z, w)
