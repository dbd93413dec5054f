-- `rate_split::split::extra_of`: the excess pays for what it buys, since a quotient times its divisor is no more than what is divided. Assumes nothing.
use Prim.Native.Nat.{◌-◌, ◌*◌, ◌/◌}
use native.Mathlib.Nat.{min-le_left, min-le_right, mul-le-mul_left, mul-div-le, le_trans}
use native.Mathlib.Omega.{arith}
use Rattle.rate_spec.specs.Split.{extra}
use Rattle.rate_split.proofs.split.extra_of.Goals as goal

pub returns : goal.returns
unfolding extra
returns c =
    let a = c.args in
    let e = c.min32.ensures in (
      e,
      omega (arith, e, min-le_right (a.excess / (8 * a.c)) (8 - a.fine)),
      rw e (le_trans (mul-le-mul_left (8 * a.c) (min-le_left (a.excess / (8 * a.c)) (8 - a.fine))) (mul-div-le a.excess (8 * a.c))),
    )
