-- `rate_cache::pulses_refusal`: the numbers first, and only then the row. Assumes nothing.
use mathlib.Core.Path.{◌≡◌}
use native.Mathlib.Omega.{arith}
use mir.Facts.{to_z-of_z}
use Rattle.rate_cache.specs.Lookups.{band_ok}
use Rattle.rate_cache.proofs.Gates.{in_index, gate_off}
use Rattle.rate_cache.proofs.pulses_refusal.Goals as goal
use Rattle.rate_cache.proofs.pulses_refusal.Goals.{After-band_ok}

-- the test
tests : (c : After-band_ok) → c.band_ok.result ≡ band_ok c.args.band c.args.lm
tests c = let f = c.ranges in rw (to_z-of_z f.band, to_z-of_z f.lm) at c.band_ok.ensures

pub no_entry-requires : goal.no_entry-requires
no_entry-requires c =
    let p = in_index c.args.band c.args.lm (rw (tests (goal.at.no_entry-requires c).After-band_ok) at c.if-band_ok.true) in
    let l = rw (to_z-of_z c.ranges.lm) at c.level.ensures in
    let b = rw (to_z-of_z c.ranges.band) at c.clipped.ensures.0 in
    (omega arith, omega arith)

pub returns : goal.returns
returns c = gate_off _ _ c.refusal_of-2.ensures (rw (tests (goal.at.returns c).After-band_ok) at c.if-band_ok.false)
