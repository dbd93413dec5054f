-- `rate_cache::band_ok`: both tests. Assumes nothing.
use mir.Facts.{to_z-of_z}
use Rattle.rate_cache.specs.Lookups.{band_ok}
use Rattle.rate_cache.proofs.band_ok.Goals as goal

pub returns : goal.returns
unfolding band_ok
returns c =
    rw (c.in_range-2.ensures, c.in_range.ensures, to_z-of_z c.ranges.band, to_z-of_z c.ranges.lm)
