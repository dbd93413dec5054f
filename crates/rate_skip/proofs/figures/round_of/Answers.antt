-- `rate_skip::figures::round_of`: the steps put together; the flag and what the band keeps are paid from the top band's bits. Assumes nothing.
use Prim.Native.Nat.{◌-◌}
use native.Mathlib.Omega.{arith}
use Rattle.modes.proofs.EdgeRule.{edge-le, edge-lt}
use Rattle.rate_skip.proofs.Figured.{figures-are, width_is}
use Rattle.rate_skip.proofs.figures.round_of.Goals as goal

pub top_of-top-requires : goal.top_of-top-requires
top_of-top-requires c =
    let a = c.args in
    let p = c.requires in (
      rw (p.1, p.2) (edge-le a.f.start (a.coded - 1) (omega (arith, p.0.start-lt)) (omega (arith, p.0.coded-le))),
      rw (p.2, p.3) (edge-lt (a.coded - 1) a.coded (omega (arith, p.0.start-lt)) p.0.coded-le),
      omega (arith, p.0.within),
    )

pub overflow_sub-hi : goal.overflow_sub-hi
overflow_sub-hi c =
    let a = c.args in
    let p = c.requires in
    rw (p.2, p.3) (edge-le (a.coded - 1) a.coded (omega arith) p.0.coded-le)

pub paid_of-paid-requires : goal.paid_of-paid-requires
paid_of-paid-requires c =
    let a = c.args in
    let p = c.requires in
    (p.0.frame, width_is a.f a.bits.now a.coded a.left a.reserve p.0 p.1 p.2 p.3)

pub returns : goal.returns
returns c =
    let a = c.args in
    let p = c.requires in
    rw c.saturating_sub.ensures
    (figures-are a.f a.bits.now a.coded a.left a.reserve p.0 p.1 p.2 p.3 c.top_of-top.ensures.0
    c.paid_of-paid.ensures.0 c.floored_of-keep.ensures.0 c.reserve_of-next.ensures)
