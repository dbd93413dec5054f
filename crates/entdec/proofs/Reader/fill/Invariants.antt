-- `entdec::Reader::fill`: the remaining bytes give from here what all gave at the start. Assumes nothing.
use Prim.Native.Nat.{◌≤◌, ◌-◌, ◌+◌}
use mathlib.Core.Path.{◌≡◌}
use Rattle.entdec.proofs.RawBits.{filled}
use Rattle.entdec.proofs.Reader.fill.Given as goal

abbrev pub invariant-loop-self : goal.invariant-loop-self
invariant-loop-self l = (filled l.s l.self ≡ filled l.s l.initial.self) × (l.self.ends ≤ l.initial.self.ends + l.self.waiting)

abbrev pub decreases-loop-self : goal.decreases-loop-self
decreases-loop-self l = 25 - l.self.waiting
