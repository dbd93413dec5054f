-- `rate_skip::figures::left_of`: what comes back was part of the total. Assumes nothing.
use mathlib.Core.Bool.{cond}
use mathlib.Core.Path.{◌≡◌}
use native.Mathlib.Omega.{arith}
use Rattle.rate_spec.specs.Alloc.{dual_asked, left_of}
use Rattle.rate_spec.proofs.Within.{reserved}
use Rattle.rate_bands.specs.Inputs.{bare}
use Rattle.rate_skip.proofs.figures.left_of.Goals as goal

pub overflow_add-result : goal.overflow_add-result
overflow_add-result c =
    omega (arith, reserved (bare c.args.f), c.requires.0.total-le, c.requires.1.skip_is, c.back_of.ensures.1)

pub overflow_add-result-2 : goal.overflow_add-result-2
overflow_add-result-2 c =
    omega (
      arith,
      reserved (bare c.args.f),
      c.requires.0.total-le,
      c.requires.1.skip_is,
      c.requires.1.dual-is,
      c.back_of.ensures.1,
      c.back_of-2.ensures.1,
    )

pub returns : goal.returns
unfolding left_of dual_asked
returns c =
    let skip : c.back_of.result ≡ cond c.args.stopped 0 c.args.k.skip = c.back_of.ensures.0 in
    rw (skip, c.back_of-2.ensures.0, c.requires.1.skip_is, c.requires.1.dual-is)
