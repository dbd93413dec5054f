-- One number of a list: as a count, and back. Assumes nothing.
use Prim.Native.Nat.{ℕ, ◌<◌}
use mathlib.Core.Path.{◌≡◌, refl}
use mathlib.Core.Bool.{true}
use native.Mathlib.Omega.{arith}
use lib.Dec.{T}
use lib.IntN.{ℤ, pos, nat_abs}
use lib.Signed.{mag, non_neg}
use mir.Syntax.{w32, w64}
use mir.Val.{Fits, to_z, of_z}
use mir.Facts.{to_z_pos, to_z-of_z}
use Rattle.laws.specs.Signs.{clip, in_range}
use Rattle.laws.proofs.Signs.{range_count}

-- what a cast to 32 bits asks of a number 0..most
pub record Counted (z : ℤ) : Type 0 where
  pub positive : T (non_neg z)
  pub fits : Fits w32 (nat_abs z)
  pub is : nat_abs z ≡ clip z

-- from the test of its range
pub counted : (most : ℕ) (z : ℤ) → most < 4294967296 → in_range (pos 0) (pos most) z ≡ true → Counted z
counted most z h e =
    let i = range_count 0 most z e in
    rw i.is (record { positive = tt; fits = record { fits = omega (arith, i.high) }; is = refl })

-- a count as a number of 64 bits
pub as_number : {n : ℕ} → Fits w32 n → to_z w64 n ≡ pos n
as_number {n} f = to_z_pos w64 (omega (arith, f.fits))

-- a number of 64 bits that a call gave back is itself
pub same_number : (z : ℤ) → mag z < 9223372036854775808 → to_z w64 (of_z w64 z) ≡ z
same_number z h = to_z-of_z {w = w64} (record { sfits = h })
