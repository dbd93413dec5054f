-- `rate_bands::band::slope_of`: the product fits 32 bits, factor by factor. Assumes nothing.
use Prim.Native.Nat.{suc, ◌-◌, ◌*◌, ◌≤◌}
use native.Mathlib.Omega.{arith}
use mathlib.Core.Path.{◌≡◌}
use native.Mathlib.Nat.{mul-le-mul}
use Rattle.rate_spec.specs.Vectors.{slope}
use Rattle.rate_bands.proofs.Gauges.{power_le, width-le}
use Rattle.rate_bands.proofs.band.slope_of.Goals as goal
use Rattle.rate_bands.proofs.band.slope_of.Goals.{After-struct_known-3-1}

wide : (c : After-struct_known-3-1) → c.args.f.c * c.args.w ≤ 44
wide c =
    mul-le-mul {n₂ = 2} {m₂ = 22} c.requires.0.c_le (width-le c.args.j c.requires.2)

above : (c : After-struct_known-3-1)
    → c.args.f.c * c.args.w
    * (c.args.f.end - 1 - c.args.j) ≤ 880
above c = mul-le-mul {n₂ = 44} {m₂ = 20} (wide c) (omega arith)

all : (c : After-struct_known-3-1)
    → c.args.f.c * c.args.w
    * (c.args.f.end - 1 - c.args.j) * c.pow2-p.result ≤ 56320
all c = mul-le-mul {n₂ = 880} {m₂ = 64} (above c) (power_le 6 c.pow2-p.ensures (omega arith))

pub overflow_mul-result : goal.overflow_mul-result
overflow_mul-result c = omega (arith, wide (goal.at.overflow_mul-result c).After-struct_known-3-1)

pub overflow_mul-result-2 : goal.overflow_mul-result-2
overflow_mul-result-2 c = omega (arith, above (goal.at.overflow_mul-result-2 c).After-struct_known-3-1)

pub overflow_mul-result-3 : goal.overflow_mul-result-3
overflow_mul-result-3 c = omega (arith, all (goal.at.overflow_mul-result-3 c).After-struct_known-3-1)

pub returns : goal.returns
unfolding slope
returns c =
    let a = c.args in
    let e : a.f.end - 1 - a.j ≡ a.f.end - suc a.j = omega arith in
    rw (c.pow2-p.ensures, c.requires.2, e)
