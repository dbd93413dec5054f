-- `stream::gate::numbers_ok`: each test in the definition's order. Assumes nothing.
use mir.Facts.{to_z-of_z}
use Rattle.stream.specs.Frame.{numbers_ok}
use Rattle.stream.proofs.gate.numbers_ok.Goals as goal

pub returns : goal.returns
unfolding numbers_ok
returns c =
    let f = c.ranges in
    let e = rw (to_z-of_z f.c, to_z-of_z f.lm, to_z-of_z f.start, to_z-of_z f.end, to_z-of_z f.intra) at c.coarse_ok.ensures in
    rw (e, c.both_in_domain.ensures)
