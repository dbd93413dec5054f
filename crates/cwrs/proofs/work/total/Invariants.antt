-- `cwrs::work::total`: from the last place backwards, k is the pulses of the places from j on. Assumes nothing.
use mathlib.Core.Path.{◌≡◌}
use Prim.Native.Nat.{◌-◌, ◌*◌, ◌≤◌}
use lib.Seq.{slice}
use Rattle.cwrs.specs.Word.{pulses}
use Rattle.cwrs.proofs.work.total.Given as goal

abbrev pub invariant-loop-j : goal.invariant-loop-j
invariant-loop-j l = (l.k ≡ pulses (slice l.j l.n l.y)) × (l.k ≤ 0x8000_0000 * (l.n - l.j))
