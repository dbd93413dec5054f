-- `rate_bands::band::scale_of`: the product fits 32 bits, factor by factor. Assumes nothing.
use Prim.Native.Nat.{◌*◌, ◌≤◌}
use native.Mathlib.Omega.{arith}
use native.Mathlib.Nat.{mul-le-mul}
use Rattle.rate_bands.specs.Tilts.{scale}
use Rattle.rate_bands.proofs.Gauges.{power_le, width-le}
use Rattle.rate_bands.proofs.band.scale_of.Goals as goal
use Rattle.rate_bands.proofs.band.scale_of.Goals.{After-struct_known-1}

wide : (c : After-struct_known-1) → c.args.f.c * c.args.w ≤ 44
wide c = mul-le-mul {n₂ = 2} {m₂ = 22} c.requires.0.c_le (width-le c.args.j c.requires.1)

all : (c : After-struct_known-1) → c.args.f.c * c.args.w * c.pow2-p.result ≤ 352
all c = mul-le-mul {n₂ = 44} {m₂ = 8} (wide c) (power_le 3 c.pow2-p.ensures c.requires.0.lm-le)

pub overflow_mul-result : goal.overflow_mul-result
overflow_mul-result c = omega (arith, wide (goal.at.overflow_mul-result c).After-struct_known-1)

pub overflow_mul-result-2 : goal.overflow_mul-result-2
overflow_mul-result-2 c = omega (arith, all (goal.at.overflow_mul-result-2 c).After-struct_known-1)

pub returns : goal.returns
unfolding scale
returns c = rw (c.pow2-p.ensures, c.requires.1)
