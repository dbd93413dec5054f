-- `rate_cache::bits_refusal`: the numbers first, and only then the row. Assumes nothing.
use mathlib.Core.Path.{◌≡◌}
use mathlib.Core.Bool.{◌&&◌, and-eq-true_iff}
use native.Mathlib.Omega.{arith}
use mir.Facts.{to_z-of_z}
use Rattle.rate_cache.specs.Lookups.{band_ok, bits_ok}
use Rattle.rate_cache.proofs.Gates.{in_index, gate_off}
use Rattle.rate_cache.proofs.bits_refusal.Goals as goal
use Rattle.rate_cache.proofs.bits_refusal.Goals.{After-bits_ok}

-- the tests
tests : (c : After-bits_ok)
    → (c.band_ok.result && c.bits_ok.result)
    ≡ (band_ok c.args.band c.args.lm && bits_ok c.args.bits)
tests c =
    let f = c.ranges in
    rw (c.band_ok.ensures, c.bits_ok.ensures, to_z-of_z f.band, to_z-of_z f.lm, to_z-of_z f.bits)

pub no_row-requires : goal.no_row-requires
no_row-requires c =
    let t = ((and-eq-true_iff (band_ok c.args.band c.args.lm) (bits_ok c.args.bits)).0
    (rw (tests (goal.at.no_row-requires c).After-bits_ok) at c.if-band_ok-bits_ok.true)).0 in
    let p = in_index c.args.band c.args.lm t in
    let l = rw (to_z-of_z c.ranges.lm) at c.level.ensures in
    let b = rw (to_z-of_z c.ranges.band) at c.clipped.ensures.0 in
    (omega arith, omega arith)

pub returns : goal.returns
returns c = gate_off _ _ c.refusal_of-2.ensures (rw (tests (goal.at.returns c).After-bits_ok) at c.if-band_ok-bits_ok.false)
