-- `rate_split::split::wide_of`: the steps put together; the fine bits are paid for. Assumes nothing.
use Rattle.rate_split.proofs.Fines.{fine-is, prio-is}
use Rattle.rate_split.proofs.split.wide_of.Goals as goal

pub returns : goal.returns
returns c =
    let a = c.args in
    let x = c.with_offset-x.ensures in
    let w = c.wanted_of.ensures.0 in
    let e = c.fine_of-e.ensures.0 in (
      rw (← fine-is a.c a.n a.den a.lg a.b x w e, ← prio-is a.c a.n a.den a.lg a.b x w e c.prio_of-p.ensures.0)
          c.spill_of.ensures.0,
      c.spill_of.ensures.1,
    )
