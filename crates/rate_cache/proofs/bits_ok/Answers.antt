-- `rate_cache::bits_ok`: the test. Assumes nothing.
use mir.Facts.{to_z-of_z}
use Rattle.rate_cache.specs.Lookups.{bits_ok}
use Rattle.rate_cache.proofs.bits_ok.Goals as goal

pub returns : goal.returns
unfolding bits_ok
returns c = rw (c.in_range.ensures, to_z-of_z c.ranges.bits)
