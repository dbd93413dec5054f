-- `rate_bands::band::threshold_of`: the product fits 32 bits, and the larger of it and a floor is the definition's. Assumes nothing.
use Prim.Native.Nat.{◌*◌, ◌≤◌}
use native.Mathlib.Omega.{arith}
use native.Mathlib.Nat.{mul-le-mul}
use Rattle.rate_spec.specs.Vectors.{threshold}
use Rattle.rate_bands.proofs.Gauges.{power_le, width-le}
use Rattle.rate_bands.proofs.band.threshold_of.Goals as goal
use Rattle.rate_bands.proofs.band.threshold_of.Goals.{After-pow2-p}

product : (c : After-pow2-p) → 3 * c.args.w * c.pow2-p.result ≤ 528
product c =
    mul-le-mul {n₂ = 66} {m₂ = 8} (omega (arith, width-le c.args.j c.requires.1)) (power_le 3 c.pow2-p.ensures c.requires.0.lm-le)

pub overflow_mul-w : goal.overflow_mul-w
overflow_mul-w c = omega (arith, width-le c.args.j c.requires.1)

pub overflow_mul-w-2 : goal.overflow_mul-w-2
overflow_mul-w-2 c = omega (arith, product (goal.at.overflow_mul-w-2 c).After-pow2-p)

pub overflow_mul-w-3 : goal.overflow_mul-w-3
overflow_mul-w-3 c = omega (arith, product (goal.at.overflow_mul-w-3 c).After-pow2-p)

pub returns : goal.returns
unfolding threshold
returns c = rw (c.max.ensures, c.floor_of-floor.ensures.0, c.pow2-p.ensures, c.requires.1)
