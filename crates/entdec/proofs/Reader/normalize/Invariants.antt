-- `entdec::Reader::normalize`: the remaining steps give from here what all gave at the start. Assumes nothing.
use Prim.Native.Nat.{◌≤◌, ◌<◌, ◌+◌, ◌-◌}
use mathlib.Core.Path.{◌≡◌}
use Rattle.entdec.proofs.Forms.{normal}
use Rattle.entdec.proofs.Reader.normalize.Given as goal

abbrev pub invariant-loop-self : goal.invariant-loop-self
invariant-loop-self l =
    (normal l.s l.self ≡ normal l.s l.initial.self) × (0 < l.self.rng) × (l.self.rng ≤ 2147483648) × (l.self.val < l.self.rng)
    × (l.self.total ≤ l.initial.self.total + l.self.rng) × (l.self.offs ≤ l.initial.self.offs + l.self.rng)

abbrev pub decreases-loop-self : goal.decreases-loop-self
decreases-loop-self l = 2147483648 - l.self.rng
