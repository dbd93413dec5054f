-- What a last bit adds is the exact power of two. Assumes nothing.
use Prim.Native.Nat.{ℕ, ◌+◌, ◌-◌, ◌*◌, ◌%◌, ◌^◌, ◌<◌}
use mathlib.Core.Path.{◌≡◌, refl}
use lib.Dec.{eqb, lit≤}
use lib.Ieee.{of_int, sub, mul, div}
use Rattle.laws.proofs.Tables.{few-at, ◌&◌, end}
use Rattle.laws.proofs.Within.{Within}
use Rattle.quant_bands.specs.Finalise.{offset_of}
use Rattle.quant_bands.specs.Promises.{power, LastBitExact}

-- ---- the code's shift and casts

-- the shift loses no bit
pub shifted : (fine : ℕ) → fine < 8 → 1 * 2 ^ (13 - fine) % 4294967296 ≡ 2 ^ (13 - fine)
shifted = few-at (λ n. 1 * 2 ^ (13 - n) % 4294967296 ≡ 2 ^ (13 - n)) 8 (refl & refl & refl & refl & refl & refl & refl & refl & end)

-- ---- the power of two

-- computed for the two bits and the eight fine bits
pub offset-exact : LastBitExact
unfolding offset_of sub mul div of_int
offset-exact bit fine h g =
    few-at (λ b. offset_of b fine ≡ power (eqb b 0) (fine + 2)) 2 (
    few-at (λ n. offset_of 0 n ≡ power (eqb 0 0) (n + 2)) 8 (refl & refl & refl & refl & refl & refl & refl & refl & end) fine g
    & few-at (λ n. offset_of 1 n ≡ power (eqb 1 0) (n + 2)) 8 (refl & refl & refl & refl & refl & refl & refl & refl & end) fine g & end
    ) bit h

-- so it is at most 1/4
pub offset-within : (bit fine : ℕ) → bit < 2 → fine < 8 → Within (offset_of bit fine) 1 4
offset-within bit fine h g =
    rw (offset-exact bit fine h g)
    (few-at (λ n. Within (power (eqb bit 0) (n + 2)) 1 4) 8 (lit≤ tt & lit≤ tt & lit≤ tt & lit≤ tt & lit≤ tt & lit≤ tt & lit≤ tt & lit≤ tt & end) fine g)
