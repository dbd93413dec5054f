-- `quant_bands::gate::coarse_ok`: each test in the definition's order. Assumes nothing.
use mir.Facts.{to_z-of_z}
use Rattle.quant_bands.specs.Question.{coarse_ok}
use Rattle.quant_bands.proofs.gate.coarse_ok.Goals as goal

pub returns : goal.returns
unfolding coarse_ok
returns c =
    let f = c.ranges in
    let x = rw (to_z-of_z f.c, to_z-of_z f.start, to_z-of_z f.end) at c.bands_ok.ensures in
    let y = rw (to_z-of_z f.lm) at c.in_range.ensures in
    let z = rw (to_z-of_z f.intra) at c.in_range-2.ensures in
    rw (x, y, z)
