-- The entries of the caps lie between 37 and 240. Assumes nothing.
use Prim.Native.Nat.{ℕ, ◌+◌, ◌-◌, ◌*◌, ◌≤◌, ◌<◌}
use mathlib.Core.Path.{◌≡◌, refl}
use mathlib.Core.Bool.{true}
use native.Mathlib.Omega.{arith}
use lib.Dec.{leb}
use lib.ListN.{length}
use borrow.Author.Tests.{leb-true}
use Rattle.laws.specs.Lists.{every}
use Rattle.laws.proofs.Lists.{every-at, entry-le}
use Rattle.modes.specs.Caps.{caps, cap_entry}

-- 8 rows of 21
pub caps-length : length caps ≡ 168
unfolding caps
caps-length = refl

-- no entry is above 240
pub cap-most : (c lm band : ℕ) → cap_entry c lm band ≤ 240
unfolding cap_entry caps every
cap-most c lm band = entry-le 240 caps refl (21 * (2 * lm + c - 1) + band)

-- the computed test of the lower bound
entries-least : every (leb 37) caps ≡ true
unfolding caps every
entries-least = refl

-- and none is below 37
pub cap-least : (c lm band : ℕ) → 1 ≤ c → c ≤ 2 → lm < 4 → band < 21 → 37 ≤ cap_entry c lm band
unfolding cap_entry
cap-least c lm band p q r s =
    leb-true 37 (cap_entry c lm band) (every-at (leb 37) caps 0 entries-least (21 * (2 * lm + c - 1) + band) (omega (arith, caps-length)))
