-- `quant_bands::bands::Bands::of`: the numbers as counts are in the domain. Assumes nothing.
use mathlib.Core.Path.{ap, ◌∙◌}
use mir.Facts.{to_z-of_z}
use Rattle.laws.specs.Signs.{clip}
use Rattle.quant_bands.proofs.Accepts.{bands_in}
use Rattle.quant_bands.proofs.bands.Bands.of.Goals as goal

pub invariant_of-result : goal.invariant_of-result
invariant_of-result c =
    let f = c.ranges in
    let a = c.args in
    record {
      within = rw (
        c.clipped.ensures.0 ∙ ap clip (to_z-of_z f.c),
        c.place_of.ensures ∙ ap clip (to_z-of_z f.start),
        c.place_of-2.ensures ∙ ap clip (to_z-of_z f.end),
      ) (bands_in a.c a.start a.end c.requires);
    }
