-- `quant_bands::bands::Frame::of`: the bands are in the domain, and so is the size. The check finds `returns` alone, but the edit one_for_intra_is_inter would
-- then fall only by a limit of the search. Assumes nothing.
use mathlib.Core.Path.{refl}
use mir.Facts.{to_z-of_z}
use Rattle.quant_bands.proofs.Accepts.{coarse_parts}
use Rattle.quant_bands.proofs.bands.Frame.of.Goals as goal

pub of-requires : goal.of-requires
of-requires c =
    let f = c.ranges in
    let a = c.args in
    rw (to_z-of_z f.c, to_z-of_z f.start, to_z-of_z f.end) (coarse_parts a.c a.lm a.start a.end a.intra c.requires).0

pub invariant_of-result : goal.invariant_of-result
invariant_of-result c =
    let a = c.args in
    record { size_lt = rw (rw (to_z-of_z c.ranges.lm) at c.place_of.ensures) (coarse_parts a.c a.lm a.start a.end a.intra c.requires).1 }

pub returns : goal.returns
returns c =
    let f = c.ranges in
    let o = rw (to_z-of_z f.c, to_z-of_z f.start, to_z-of_z f.end) at c.of.ensures in
    let l = rw (to_z-of_z f.lm) at c.place_of.ensures in
    rw (to_z-of_z f.intra) (o.0, o.1, o.2, l, refl)
