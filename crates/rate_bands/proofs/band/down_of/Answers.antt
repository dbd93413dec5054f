-- `rate_bands::band::down_of`: slope times steps fits 32 bits, and a single coefficient takes a floor. Assumes nothing.
use Prim.Native.Nat.{◌*◌, ◌≤◌}
use native.Mathlib.Omega.{arith}
use native.Mathlib.Nat.{mul-le-mul}
use borrow.Author.Tests.{eq-eqb, ne_eqb}
use Rattle.rate_spec.specs.Vectors.{trim_down}
use Rattle.rate_bands.proofs.Gauges.{power_le, tilt_le, width-le}
use Rattle.rate_bands.proofs.band.down_of.Goals as goal
use Rattle.rate_bands.proofs.band.down_of.Goals.{After-saturating_sub-d}

product : (c : After-saturating_sub-d) → c.args.s * c.saturating_sub-d.result ≤ 563200
product c =
    tilt_le c.requires.0 c.args.j c.requires.2 (omega arith)

pub overflow_mul-m : goal.overflow_mul-m
overflow_mul-m c = omega (arith, product (goal.at.overflow_mul-m c).After-saturating_sub-d)

pub overflow_add-m : goal.overflow_add-m
overflow_add-m c = omega (arith, product (goal.at.overflow_add-m c).After-saturating_sub-d)

pub overflow_mul-w : goal.overflow_mul-w
overflow_mul-w c =
    omega (arith, mul-le-mul {n₂ = 22} {m₂ = 8} (width-le c.args.j c.requires.1) (power_le 3 c.pow2-p.ensures c.requires.0.lm-le))

pub returns-then-w-p-eq1 : goal.returns-then-w-p-eq1
unfolding trim_down
returns-then-w-p-eq1 c =
    rw (
      c.floor_of.ensures.0,
      c.saturating_sub-d.ensures,
      c.requires.2,
      ← c.pow2-p.ensures,
      ← c.requires.1,
      eq-eqb _ _
          c.if-w-p-eq1.true,
    )

pub returns-else-w-p-eq1 : goal.returns-else-w-p-eq1
unfolding trim_down
returns-else-w-p-eq1 c =
    rw (c.saturating_sub-d.ensures, c.requires.2, ← c.pow2-p.ensures, ← c.requires.1, ne_eqb _ _ c.if-w-p-eq1.false) (omega arith)
