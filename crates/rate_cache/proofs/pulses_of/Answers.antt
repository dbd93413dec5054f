-- `rate_cache::pulses_of`: the shift loses no bit. Assumes nothing.
use Prim.Native.Nat.{ℕ, ◌+◌, ◌-◌, ◌*◌, ◌/◌, ◌%◌, ◌^◌, ◌≤◌}
use mathlib.Core.Path.{◌≡◌}
use native.Mathlib.Omega.{arith}
use lib.Pow.{shl_exact}
use borrow.Author.Tests.{lt-ltb, le-ltb}
use Rattle.rate_cache.specs.Pulses.{get_pulses}
use Rattle.rate_cache.proofs.pulses_of.Goals as goal

from_eight : (i : ℕ) → i ≤ 40 → 8 ≤ i → (8 + i % 8) * 2 ^ (i / 8 - 1) % 2 ^ 32 ≡ get_pulses i
unfolding get_pulses
from_eight i h g = rw (le-ltb i 8) (shl_exact 4 (i / 8 - 1) 32 (omega arith) (omega arith))

pub returns-then-i-lt8 : goal.returns-then-i-lt8
unfolding get_pulses
returns-then-i-lt8 c = simp (lt-ltb _ _ c.if-i-lt8.true)

pub returns-else-i-lt8 : goal.returns-else-i-lt8
returns-else-i-lt8 c = from_eight c.args.i c.requires c.if-i-lt8.false
