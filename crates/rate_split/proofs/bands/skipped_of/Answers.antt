-- `rate_split::bands::skipped_of`: by whether there is a fine bit. Assumes nothing.
use Prim.Native.Nat.{◌/◌, ◌<◌}
use native.Mathlib.Omega.{arith}
use native.Mathlib.Nat.{div-lt_iff_lt-mul}
use mathlib.Core.Path.{refl}
use lib.Dec.{ltb}
use Rattle.laws.proofs.Tests.{split_on}
use Rattle.rate_spec.specs.Alloc.{skipped}
use Rattle.rate_split.proofs.bands.skipped_of.Goals as goal
use Rattle.rate_split.proofs.bands.skipped_of.Goals.{After-floor_of-floor}

-- an eighth of a number of 32 bits
small : (c : After-floor_of-floor) → c.args.kept / c.floor_of-floor.result < 2147483648
small c =
    let p : 0 < c.floor_of-floor.result = omega (arith, c.floor_of-floor.ensures.0, c.requires.c_low) in
    (div-lt_iff_lt-mul p).1 (omega (arith, c.floor_of-floor.ensures.0, c.requires.c_low))

pub returns : goal.returns
unfolding skipped
returns c =
    let e = c.args.kept / c.floor_of-floor.result in
    let s = small (goal.at.returns c).After-floor_of-floor in
    rw c.from.ensures (
      split_on (ltb e 1) (λ t. rw (← c.floor_of-floor.ensures.0, t)) (λ t. rw (← c.floor_of-floor.ensures.0, t)),
      refl,
      omega (arith, s),
      split_on (ltb e 1) (λ t. rw t (omega arith)) (λ t. rw t (omega arith)),
    )
