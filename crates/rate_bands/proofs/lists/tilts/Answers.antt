-- `rate_bands::lists::tilts`: each list is filled up to band j. Assumes nothing.
use Rattle.laws.proofs.Lists.{fill_none, fill-up}
use Rattle.rate_spec.specs.Vectors.{threshold, trim_down, trim_up}
use Rattle.rate_bands.specs.Inputs.{bare}
use Rattle.rate_bands.specs.Tilts.{scale}
use Rattle.rate_bands.proofs.lists.tilts.Goals as goal

pub loop-j-init : goal.loop-j-init
loop-j-init c =
    let a = c.args in
    let b = bare a.f in (
      fill_none (threshold b) a.f.start a.thresholds.now,
      fill_none (scale b) a.f.start a.scales.now,
      fill_none (trim_up b) a.f.start a.ups.now,
      fill_none (trim_down b) a.f.start a.downs.now,
    )

pub loop-j-preserved : goal.loop-j-preserved
loop-j-preserved c =
    let a = c.args in
    let b = bare a.f in
    let v = c.loop-j.invariant in (
      fill-up (threshold b) a.f.start c.loop-j.j a.thresholds.now c.loop-j.auto.j v.0 c.threshold_of.ensures,
      fill-up (scale b) a.f.start c.loop-j.j a.scales.now c.loop-j.auto.j v.1 c.scale_of.ensures,
      fill-up (trim_up b) a.f.start c.loop-j.j a.ups.now c.loop-j.auto.j v.2 c.up_of.ensures,
      fill-up (trim_down b) a.f.start c.loop-j.j a.downs.now c.loop-j.auto.j v.3 c.down_of.ensures,
    )
