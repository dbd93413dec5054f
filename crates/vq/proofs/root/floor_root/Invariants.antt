-- `vq::root::floor_root`: s is never below the root's whole part, and falls. Assumes nothing.
use Prim.Native.Nat.{◌+◌, ◌*◌, ◌<◌, ◌≤◌}
use Rattle.vq.proofs.root.floor_root.Given as goal

abbrev pub invariant-loop-s : goal.invariant-loop-s
invariant-loop-s l = (8388608 ≤ l.s) × (l.s ≤ 16777216) × (l.v < (l.s + 1) * (l.s + 1))

abbrev pub decreases-loop-s : goal.decreases-loop-s
decreases-loop-s l = l.s
