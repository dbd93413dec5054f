-- `rate_bands::lists::tilts`: each list is filled up to band j. Assumes nothing.
use Prim.Native.Nat.{◌-◌}
use mathlib.Core.Path.{◌≡◌}
use Rattle.laws.specs.Lists.{fill}
use Rattle.rate_spec.specs.Vectors.{threshold, trim_down, trim_up}
use Rattle.rate_bands.specs.Inputs.{bare}
use Rattle.rate_bands.specs.Tilts.{scale}
use Rattle.rate_bands.proofs.lists.tilts.Given as goal

abbrev pub invariant-loop-j : goal.invariant-loop-j
invariant-loop-j l =
    (l.thresholds ≡ fill (threshold (bare l.f)) l.f.start (l.j - l.f.start) l.initial.thresholds)
    × (l.scales ≡ fill (scale (bare l.f)) l.f.start (l.j - l.f.start) l.initial.scales)
    × (l.ups ≡ fill (trim_up (bare l.f)) l.f.start (l.j - l.f.start) l.initial.ups)
    × (l.downs ≡ fill (trim_down (bare l.f)) l.f.start (l.j - l.f.start) l.initial.downs)
