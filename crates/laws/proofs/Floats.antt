-- Floats: finite values by the library's test and by their bit patterns, and whole numbers as f32. Assumes nothing.
use Prim.Native.Nat.{ℕ, ◌≤◌, ◌<◌, ◌%◌}
use mathlib.Core.Path.{◌≡◌, refl, sym, ◌∙◌}
use mathlib.Core.Bool.{true, false, not}
use native.Mathlib.Omega.{arith}
use lib.Dec.{T, le→leb, lt→ltb}
use lib.IntN.{ℤ, pos, negsuc, nat_abs}
use lib.Ieee.{Float, nan, inf, fin, binary32, in_float, is_nan, nan_bits, of_bits}
use lib.Ieee.Bits.{nan_bits_is, nan_bits_above}
use lib.Ieee.Scale.{finite}
use borrow.Author.Tests.{lt-ltb, le-ltb}
use Rattle.std.specs.Float.{float_is_finite}

-- ---- tested

-- `x.is_finite()` is the test
pub finite-is : (x : Float) → float_is_finite x ≡ finite x
unfolding float_is_finite
finite-is nan = refl
finite-is (inf s) = refl
finite-is (fin s m e) = refl

-- ---- bit patterns

-- what `to_bits` asks
pub finite_no_nan : (x : Float) → T (finite x) → T (not (is_nan x))
unfolding is_nan
finite_no_nan nan h = h
finite_no_nan (inf s) h = tt
finite_no_nan (fin s m e) h = tt

-- what `from_bits` asks
pub bits_no_nan : (b : ℕ) → b % 2147483648 ≤ 2139095040 → T (not (nan_bits binary32 b))
bits_no_nan b h = rw (nan_bits_above binary32 b, le-ltb 2139095040 (b % 2147483648) h) tt

-- a NaN is not finite
nan-not-finite : (x : Float) → is_nan x ≡ true → finite x ≡ false
unfolding is_nan
nan-not-finite nan h = refl
nan-not-finite (inf s) h = refl
nan-not-finite (fin s m e) h = sym h

-- a bit pattern above that of the infinity is no finite value
pub bits-nan : (b : ℕ) → 2139095040 < b % 2147483648 → finite (of_bits binary32 b) ≡ false
bits-nan b h =
    nan-not-finite (of_bits binary32 b) (sym (nan_bits_is binary32 b) ∙ nan_bits_above binary32 b ∙ lt-ltb 2139095040 (b % 2147483648) h)

-- ---- whole numbers

-- what `z as f32` asks
pub whole_float : (z : ℤ) → nat_abs z ≤ 16777216 → T (in_float binary32 z)
unfolding in_float
whole_float (pos n) h = le→leb n 16777216 h
whole_float (negsuc n) h = lt→ltb n 16777216 (omega arith)
