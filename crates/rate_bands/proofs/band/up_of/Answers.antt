-- `rate_bands::band::up_of`: slope times steps fits 32 bits. Assumes nothing.
use native.Mathlib.Omega.{arith}
use Rattle.rate_spec.specs.Vectors.{trim_up}
use Rattle.rate_bands.proofs.Gauges.{tilt_le}
use Rattle.rate_bands.proofs.band.up_of.Goals as goal

pub overflow_mul-result : goal.overflow_mul-result
overflow_mul-result c =
    omega (arith, tilt_le c.requires.0 {d = c.saturating_sub-d.result} c.args.j c.requires.1 (omega arith))

pub returns : goal.returns
unfolding trim_up
returns c = rw (c.saturating_sub-d.ensures, c.requires.1)
