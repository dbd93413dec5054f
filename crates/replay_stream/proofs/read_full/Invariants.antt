-- `replay_stream::read_full`: no more than fits was read, and each turn reads a byte or is the last. Assumes nothing.
use Prim.Native.Nat.{◌-◌, ◌^◌, ◌<◌, ◌≤◌}
use mathlib.Core.Path.{◌≡◌}
use lib.ListN.{length}
use Rattle.replay_stream.proofs.read_full.Given as goal

abbrev pub invariant-loop-done : goal.invariant-loop-done
invariant-loop-done l = (length l.s ≡ length l.initial.s) × (l.done ≤ length l.s) × (length l.s < 2 ^ 64)

abbrev pub decreases-loop-done : goal.decreases-loop-done
decreases-loop-done l = length l.s - l.done
