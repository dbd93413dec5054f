-- A signed number as a count, by its sign and size, and in a range. Assumes nothing.
use Prim.Native.Nat.{ℕ, zero, suc, ◌-◌, ◌≤◌, ◌<◌, ◌^◌, max}
use mathlib.Core.Path.{◌≡◌, refl, ap}
use mathlib.Core.Bool.{Bool, true, false, false≢true, and-eq-true_iff}
use mathlib.Core.List.{List}
use native.Mathlib.Nat.{lt_of_le_of_lt}
use native.Mathlib.Omega.{arith}
use lib.Dec.{leb}
use lib.IntN.{ℤ, pos, negsuc, neg_ℤ, nat_abs}
use lib.Signed.{mag, le_z}
use lib.ListN.{get_or}
use borrow.Author.Tests.{leb-true, le-leb, le-ltb}
use mir.Syntax.{Width}
use mir.Val.{SFits, hbits}
use Rattle.laws.specs.Lists.{every}
use Rattle.laws.specs.Signs.{clip, in_range, is_neg, with_sign}
use Rattle.laws.proofs.Lists.{every-all}

-- ---- by its sign

-- ---- sign and size, and back

-- a minus keeps the size
pub nat_abs-neg : (z : ℤ) → nat_abs (neg_ℤ z) ≡ nat_abs z
nat_abs-neg (pos zero) = refl
nat_abs-neg (pos (suc n)) = refl
nat_abs-neg (negsuc n) = refl

-- the size of a number of this sign and size
pub size-value : (neg : Bool) (n : ℕ) → nat_abs (with_sign neg n) ≡ n
size-value true n = nat_abs-neg (pos n)
size-value false n = refl

-- its sign, where the size is not 0
pub sign_value : (neg : Bool) (n : ℕ) → 0 < n → is_neg (with_sign neg n) ≡ neg
sign_value true zero h = absurd (omega arith)
sign_value true (suc n) h = refl
sign_value false n h = le-ltb n 0 (omega arith)

-- -n, by the constructor of negative numbers
pub neg_value : (n : ℕ) → 0 < n → negsuc (n - 1) ≡ with_sign true n
neg_value zero h = absurd (omega arith)
neg_value (suc n) h = let e : suc n - 1 ≡ n = omega arith in ap negsuc e

-- the size that a width asks of is at most the number's
mag-le : (z : ℤ) → mag z ≤ nat_abs z
mag-le (pos n) = omega arith
mag-le (negsuc n) = omega arith

-- a size below that of the width fits
pub size_fits : {w : Width} (z : ℤ) → nat_abs z < 2 ^ hbits w → SFits w z
size_fits z h = record { sfits = lt_of_le_of_lt (mag-le z) h }

-- ---- in a range

-- z is a count from least to most
pub record CountIn (least most : ℕ) (z : ℤ) : Type 0 where
  pub is : z ≡ pos (clip z)
  pub low : least ≤ clip z
  pub high : clip z ≤ most

-- a number that was tested is a count
pub range_count : (least most : ℕ) (z : ℤ) → in_range (pos least) (pos most) z ≡ true → CountIn least most z
range_count least most (pos n) t =
    let p = (and-eq-true_iff (leb least n) (leb n most)).0 t in
    record { is = refl; low = leb-true least n p.0; high = leb-true n most p.1 }
range_count least most (negsuc n) t = absurd (false≢true t)

-- a number that was tested counts at most this
pub range_clip : (lo : ℤ) (most : ℕ) (z : ℤ) → in_range lo (pos most) z ≡ true → clip z ≤ most
range_clip lo most (pos n) t = leb-true n most ((and-eq-true_iff (le_z lo (pos n)) (leb n most)).0 t).1
range_clip lo most (negsuc n) t = omega arith

-- a list whose entries were tested: the default, past the end, is in the range too
pub entries-count : (most : ℕ) (l : List ℤ) → every (in_range (pos 0) (pos most)) l ≡ true → (i : ℕ) → CountIn 0 most (get_or l i (pos 0))
entries-count most l t i =
    range_count 0 most (get_or l i (pos 0))
    (every-all (in_range (pos 0) (pos most)) l (pos 0) ((and-eq-true_iff (leb 0 0) (leb 0 most)).1 (le-leb 0 0 (omega arith), le-leb 0 most (omega arith))) t i)

-- a size up to most, with either sign
pub value_range : (neg : Bool) (n most : ℕ) → n ≤ most → in_range (negsuc most) (pos most) (with_sign neg n) ≡ true
value_range true zero most h = le-leb 0 most (omega arith)
value_range true (suc n) most h = rw (le-leb n most (omega arith))
value_range false n most h = le-leb n most h

-- from -(down + 1) to up
pub range_size : (down up : ℕ) (z : ℤ) → in_range (negsuc down) (pos up) z ≡ true → nat_abs z ≤ max (suc down) up
range_size down up (pos n) t = omega (arith, leb-true n up t)
range_size down up (negsuc n) t = omega (arith, leb-true n down ((and-eq-true_iff (leb n down) true).0 t).0)
