-- `rate_cache::row::nearest_in`: six halvings leave two neighbours, and the nearer of them is the nearest index. Assumes nothing.
use Prim.Native.Nat.{◌+◌, ◌-◌, ◌≤◌, ◌^◌}
use Rattle.rate_cache.proofs.Halvings.{Between}
use Rattle.rate_cache.proofs.row.nearest_in.Given as goal

-- what the search keeps, and the halvings that are left bring the two together
abbrev pub invariant-loop : goal.invariant-loop
invariant-loop l = Between l.start l.bits l.lo l.hi × (l.hi ≤ l.lo + 2 ^ (6 - l.counter))
