-- `rate_cache::row::nearest_in`: six halvings leave two neighbours, and the nearer of them is the nearest index. Assumes nothing.
use Prim.Native.Nat.{◌+◌, ◌-◌, ◌/◌, ◌≤◌}
use mathlib.Core.Path.{◌≡◌}
use native.Mathlib.Omega.{arith}
use Rattle.laws.proofs.Powers.{pow_half}
use Rattle.rate_cache.proofs.Costs.{cost_some}
use Rattle.rate_cache.proofs.Halvings.{low_up, high_down, takes_low, takes-high}
use Rattle.rate_cache.proofs.row.nearest_in.Goals as goal
use Rattle.rate_cache.proofs.row.nearest_in.Goals.{then-m-bits, else-m-bits}

pub loop-preserved : goal.loop-preserved
loop-preserved c =
    let l = c.loop in
    let w = l.invariant.0 in
    let mid = (l.lo + l.hi + 1) / 2 in
    let m = cost_some c.args.start mid (omega arith) in
    let k : 6 - l.counter - 1 ≡ 6 - (l.counter + 1) = omega arith in
    let h = rw k at (pow_half (6 - l.counter) (omega arith)) in
    elim c.if-m-bits.branch [
      | then-m-bits t ↦ rw (t.lo-is, t.hi-is) (
        low_up _ _ l.lo l.hi mid w (omega arith) (omega arith) (omega arith) (omega (arith, c.entry_in-m.ensures.0, t.if-m-bits.true, m)),
        omega (arith, l.invariant.1),
      )
      | else-m-bits t ↦ rw (t.lo-is, t.hi-is) (
        high_down _ _ l.lo l.hi mid w (omega arith) (omega arith) (omega arith) (omega (arith, c.entry_in-m.ensures.0, t.if-m-bits.false, m)),
        omega (arith, l.invariant.1),
      )
    ]

pub returns-then-bits-a : goal.returns-then-bits-a
returns-then-bits-a c =
    let p = c.requires in
    let v = c.loop.invariant in
    let z : 6 - c.loop.counter ≡ 0 = omega arith in
    let near : c.loop.hi ≤ c.loop.lo + 1 = rw z at v.1 in (
      takes_low _ _ c.loop.lo c.loop.hi p.1 v.0 near (omega (arith, c.cost_in-b.ensures.0, c.cost_in-a.ensures.0)),
      omega (arith, v.0.order, v.0.inside, p.1.length_most),
    )

pub returns-else-bits-a : goal.returns-else-bits-a
returns-else-bits-a c =
    let p = c.requires in
    let v = c.loop.invariant in
    let z : 6 - c.loop.counter ≡ 0 = omega arith in
    let near : c.loop.hi ≤ c.loop.lo + 1 = rw z at v.1 in (
      takes-high _ _ c.loop.lo c.loop.hi p.1 v.0 near (omega (arith, c.cost_in-b.ensures.0, c.cost_in-a.ensures.0)),
      omega (arith, v.0.inside, p.1.length_most),
    )
