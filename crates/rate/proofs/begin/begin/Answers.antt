-- `rate::begin::begin`: what is reserved and where skipping ends do not depend on the lists of the other. Assumes nothing.
use mathlib.Core.Path.{refl}
use Rattle.rate.proofs.Begins.{budget_any, reserved_any}
use Rattle.rate.proofs.begin.begin.Goals as goal

pub settle-t-requires : goal.settle-t-requires
settle-t-requires c =
    let a = c.args in
    (c.requires.0, c.requires.1, budget_any a.f a.offsets.now a.caps.now c.reserves_of-reserves.ensures, refl)

pub returns : goal.returns
returns c =
    let a = c.args in
    let t = c.settle-t.ensures in (
      record {
        reserved = reserved_any a.f a.offsets.now a.caps.now c.reserves_of-reserves.ensures;
        left_is = t.0;
        low-is = c.skip_start-low.ensures;
      },
      t.3,
    )
