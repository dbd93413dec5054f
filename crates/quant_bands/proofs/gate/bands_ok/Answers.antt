-- `quant_bands::gate::bands_ok`: each test in the definition's order. Assumes nothing.
use mir.Facts.{to_z-of_z}
use Rattle.quant_bands.specs.Question.{bands_ok}
use Rattle.quant_bands.proofs.gate.bands_ok.Goals as goal

pub returns : goal.returns
unfolding bands_ok
returns c =
    let f = c.ranges in
    let x = rw (to_z-of_z f.c) at c.in_range.ensures in
    rw (x, to_z-of_z f.start, to_z-of_z f.end)
